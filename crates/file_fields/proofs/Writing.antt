-- What writers leave in the bytes that they are lent: part after part.
use Prim.Native.Nat.{ℕ, suc, zero, ◌+◌, ◌-◌, ◌^◌, ◌<◌, ◌≤◌}
use mathlib.Core.Logic.{⊎_elim}
use mathlib.Core.Path.{◌≡◌, refl, ap, sym, subst, ◌∙◌}
use mathlib.Core.List.{List, [], ◌∷◌, ◌++◌, append_assoc, append-nil}
use native.Mathlib.Omega.{arith}
use native.Mathlib.Nat.{div-one, div-eq_of_lt, pow-le-pow_right, lt_of_lt_of_le}
use lib.Dec.{lit≤}
use lib.ListN.{length, take, drop, get_or, replicate, length-append, length-drop, drop_of_length-le}
use lib.Seq.{take_all, take_at, drop_at, drop-drop, length-take-le}
use borrow.Rule.Slice.PartMut.{put_mid, mid_of, post_of}
use Rattle.std.proofs.lemmas.List.{take_more, length-replicate}
use Rattle.exact.proofs.Order.{le-or-lt}
use Rattle.std.specs.Int.{w64, to_be_bytes}
use Rattle.model.specs.Lists.{joined}
use Rattle.model.specs.Bytes.{bytes}
use Rattle.model.proofs.FileLength.{length-bytes, joined-more}
use Rattle.file_fields.specs.Written.{Puts}
use Rattle.file_fields.proofs.Answered.{rest-is}

-- std's bytes of a number are document 01's, of which a narrower field has the last ones and a wider one has zeros before them
high_bytes : (v : ℕ) → to_be_bytes w64 v ≡ bytes 8 v
unfolding bytes
high_bytes v = rw div-one refl

low_bytes : (v k n w : ℕ) → n ≡ k + w → drop k (bytes n v) ≡ bytes w v
unfolding bytes
low_bytes v zero n w e = ap (λ (m : ℕ). bytes m v) (omega arith)
low_bytes v (suc k) zero w e = absurd (omega arith)
low_bytes v (suc k) (suc n) w e = low_bytes v k n w (omega arith)

zero_bytes : (v k n : ℕ) → v < 256 ^ n → bytes (k + n) v ≡ replicate k 0 ++ bytes n v
unfolding bytes
zero_bytes v zero n h = ap (λ (m : ℕ). bytes m v) (omega arith)
zero_bytes v (suc k) n h =
    let below : v < 256 ^ (k + n) = lt_of_lt_of_le h (pow-le-pow_right {n = 256} (lit≤ tt) {i = n} {j = k + n} (omega arith)) in
    let longer : suc k + n ≡ suc (k + n) = omega arith in
    rw (longer, div-eq_of_lt below) (ap (λ (m : List ℕ). 0 ∷ m) (zero_bytes v k n h))

field_bytes : (w v z : ℕ) → v < 2 ^ 64 → z ≡ w - 8
    → replicate z 0 ++ take (8 - (8 - (w - z))) (drop (8 - (w - z)) (to_be_bytes w64 v)) ≡ bytes w v
field_bytes w v z h e = rw high_bytes (⊎_elim narrow wide (le-or-lt w 8))
  where
    narrow : w ≤ 8 → replicate z 0 ++ take (8 - (8 - (w - z))) (drop (8 - (w - z)) (bytes 8 v)) ≡ bytes w v
    narrow l =
        let none : z ≡ 0 = omega arith in
        rw (none, low_bytes v (8 - (w - 0)) 8 w (omega arith)) (take_all _ (bytes w v) (omega (arith, length-bytes w v)))

    wide : 8 < w → replicate z 0 ++ take (8 - (8 - (w - z))) (drop (8 - (w - z)) (bytes 8 v)) ≡ bytes w v
    wide l =
        let eight : w - z ≡ 8 = omega arith in
        let whole : z + 8 ≡ w = omega arith in
        rw (eight, take_all 8 (bytes 8 v) (omega (arith, length-bytes 8 v)), ← whole) (sym (zero_bytes v z 8 h))

-- a field: zeros in front, then the low bytes of its number
pub puts-field : (w v z : ℕ) (d f g b : List ℕ) → w ≤ length d → v < 2 ^ 64 → z ≡ w - 8 → f ≡ replicate (length (take z d)) 0 → b ≡ to_be_bytes w64 v
    → g ≡ take (8 - (8 - (w - z))) (drop (8 - (w - z)) b) → Puts (bytes w v) d (put_mid z (w - z) (f ++ drop z d) g) w
puts-field w v z d f g b l h e zeros high low =
    let n : length (take z d) ≡ z = length-take-le z d (omega arith) in
    let m : length f ≡ z = ap length zeros ∙ length-replicate _ 0 ∙ n in
    let t : take z (f ++ drop z d) ≡ f = take_at f (drop z d) z m in
    let behind : drop (w - z) (drop z (f ++ drop z d)) ≡ drop w d =
    ap (drop (w - z)) (drop_at f (drop z d) z m) ∙ drop-drop (w - z) z d ∙ ap (λ (k : ℕ). drop k d) (omega arith) in
    let all : f ++ g ≡ bytes w v = rw (zeros, n, low, high) (field_bytes w v z h e) in
    record { count = sym (length-bytes w v); bytes = rw (t, behind, length-bytes, ← append_assoc, all) refl }

-- the part from n on
rest-long : (x : List ℕ) (n : ℕ) → length (mid_of n (length x - n) x) ≡ length x - n
rest-long x n = ap length (rest-is x n) ∙ length-drop n x

-- after l has been put at the front of d, m is put behind it, through the part from n on
pub puts-more : {l m d x new : List ℕ} {n k : ℕ} → Puts l d x n → Puts m (mid_of n (length x - n) x) new k
    → Puts (l ++ m) d (put_mid n (length x - n) x new) (n + k)
puts-more {l} {m} {d} {x} {new} {n} {k} p q =
    let t : take n x ≡ l = ap (take n) p.bytes ∙ take_at l (drop (length l) d) n (sym p.count) in
    let r : drop n x ≡ drop (length l) d = ap (drop n) p.bytes ∙ drop_at l (drop (length l) d) n (sym p.count) in
    let z : post_of n (length x - n) x ≡ [] = drop_of_length-le (drop n x) {i = length x - n} (omega (arith, length-drop n x)) in
    let g : new ≡ m ++ drop (length l + length m) d =
    q.bytes ∙ ap (λ (b : List ℕ). m ++ drop (length m) b) (rest-is x n ∙ r) ∙ ap (λ (b : List ℕ). m ++ b) (drop-drop (length m) (length l) d) in
    record {
      count = rw (length-append, p.count, q.count) refl;
      bytes = rw (t, z, append-nil, length-append, append_assoc) (ap (λ (b : List ℕ). l ++ b) g);
    }

-- the same bytes, said another way
pub puts-as : {l m d x : List ℕ} {n : ℕ} → l ≡ m → Puts l d x n → Puts m d x n
puts-as {d = d} {x = x} {n = n} e p = subst (λ b. Puts b d x n) e p

pub puts-long : {l d x : List ℕ} {n : ℕ} → Puts l d x n → length l ≤ length d → length x ≡ length d
puts-long {l} {d} {x} p h = ap length p.bytes ∙ omega (arith, length-append l (drop (length l) d), length-drop (length l) d)

-- the part from n on has room for w bytes
pub record Room (w : ℕ) (d x : List ℕ) (n : ℕ) : Type 0 where
  pub fits : n + w ≤ length x
  pub same : length x ≡ length d
  pub rest : w ≤ length (mid_of n (length x - n) x)

-- parts of one kind, in a loop
module _ {A : Type 0} (f : A → List ℕ) where
  pub puts_none : (d : List ℕ) → Puts (joined f []) d d 0
  unfolding joined
  puts_none d = record { count = refl; bytes = refl }

  -- x is the part at i
  pub puts-next : (l : List A) (i : ℕ) (x : A) {d o new : List ℕ} {n k : ℕ} → i < length l → x ≡ get_or l i x → Puts (joined f (take i l)) d o n
      → Puts (f x) (mid_of n (length o - n) o) new k → Puts (joined f (take (i + 1) l)) d (put_mid n (length o - n) o new) (n + k)
  puts-next l i x h e p q = rw (take_more l i x h, ← e, joined-more) (puts-more p q)

  pub length-next : (l : List A) (i : ℕ) (z : A) → i < length l → length (joined f (take (i + 1) l)) ≡ length (joined f (take i l)) + length (f (get_or l i z))
  length-next l i z h = rw (take_more l i z h, joined-more) (length-append (joined f (take i l)) (f (get_or l i z)))

  joined-room : (l : List A) (i : ℕ) (z : A) → i < length l → length (joined f (take i l)) + length (f (get_or l i z)) ≤ length (joined f l)
  unfolding joined
  joined-room [] i z h = absurd (omega arith)
  joined-room (x ∷ l) zero z h = omega (arith, length-append (f x) (joined f l))
  joined-room (x ∷ l) (suc i) z h =
      omega (arith, length-append (f x) (joined f l), length-append (f x) (joined f (take i l)), joined-room l i z (omega arith))

  -- what is left has room for the next part
  pub puts-room : (l : List A) (i : ℕ) (x : A) {d o : List ℕ} {at : ℕ} → i < length l → x ≡ get_or l i x → length (joined f l) ≤ length d
      → Puts (joined f (take i l)) d o at → Room (length (f x)) d o at
  puts-room l i x {o = o} {at = at} h e r p =
      let j : length (joined f (take i l)) + length (f x) ≤ length (joined f l) = rw (← e) at (joined-room l i x h) in
      let same = puts-long p (omega arith) in
      record { fits = omega arith; same = same; rest = omega (arith, rest-long o at) }

-- a count that is beyond the list
pub all-taken : {A : Type 0} (l : List A) (n : ℕ) {m : ℕ} → length l ≡ m → m < n → m ≡ length (take n l)
all-taken l n e h = sym e ∙ ap length (sym (take_all n l (omega arith)))
