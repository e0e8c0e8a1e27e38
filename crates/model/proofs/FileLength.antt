-- The length of a tower's file, and the largest.
use Prim.Native.Nat.{ℕ, zero, suc, ◌+◌, ◌*◌, ◌≤◌}
use mathlib.Core.Path.{◌≡◌, refl, sym}
use mathlib.Core.List.{List, [], ◌∷◌, ◌++◌, append_assoc, append-nil}
use native.Mathlib.Omega.{arith}
use lib.ListN.{length, length-append}
use mathlib.Core.Bool.{true}
use Rattle.model.specs.declared.Group.{Group}
use Rattle.model.specs.declared.Item.{Item}
use Rattle.model.specs.Lists.{joined, sum_by}
use Rattle.model.specs.Ranges.{section_count, item_count}
use Rattle.model.specs.Tower.{Section, Tower}
use Rattle.model.specs.Bytes.{bytes, group_bytes, section_bytes, item_bytes, file_of}
use Rattle.model.specs.Valid.{section_fits, ValidTower}
use Rattle.model.proofs.Lists.{sum_by-bound}
use Rattle.model.proofs.Sections.{in-range, section-facts}

pub length-bytes : (w v : ℕ) → length (bytes w v) ≡ w
unfolding bytes
length-bytes zero v = refl
length-bytes (suc w) v = omega (arith, length-bytes w v)

-- a part more at the end
pub joined-more : {A : Type 0} (f : A → List ℕ) (l : List A) (a : A) → joined f (l ++ (a ∷ [])) ≡ joined f l ++ f a
unfolding joined
joined-more f [] a = append-nil (f a)
joined-more f (x ∷ l) a = rw (joined-more f l a) (sym (append_assoc (f x) (joined f l) (f a)))

pub length-joined : {A : Type 0} (f : A → List ℕ) (l : List A) → length (joined f l) ≡ sum_by (λ x. length (f x)) l
unfolding joined sum_by
length-joined f [] = refl
length-joined f (x ∷ xs) = omega (arith, length-append (f x) (joined f xs), length-joined f xs)

-- parts of one length
pub length-even : {A : Type 0} (f : A → List ℕ) (n : ℕ) → ((x : A) → length (f x) ≡ n) → (l : List A) → length (joined f l) ≡ n * length l
unfolding joined
length-even f n h [] = omega arith
length-even f n h (x ∷ xs) = omega (arith, length-append (f x) (joined f xs), h x, length-even f n h xs)

pub length-group : (g : Group) → length (group_bytes g) ≡ 7
unfolding group_bytes
length-group g = simp (length-append, length-bytes)

pub length-section : (s : Section) → length (section_bytes s) ≡ 9 + 7 * length s.groups
unfolding section_bytes
length-section s = simp (length-append, length-bytes, length-even group_bytes 7 length-group) (omega arith)

pub length-item : (it : Item) → length (item_bytes it) ≡ 13
unfolding item_bytes
length-item it = simp (length-append, length-bytes)

pub length-file : (t : Tower) → length (file_of t) ≡ 3 + length (joined section_bytes t.sections) + 13 * length t.items
unfolding file_of
length-file t = simp (length-append, length-bytes, length-even item_bytes 13 length-item) (omega arith)

-- the largest file has 2 915 bytes
pub largest-file : (t : Tower) → ValidTower t → length (file_of t) ≤ 2915
largest-file t v =
    let n : _ = in-range section_count (length t.sections) v.count in
    let m : _ = in-range item_count (length t.items) v.held in
    let one : (s : Section) → section_fits s ≡ true → length (section_bytes s) ≤ 65 =
    λ s h. let k : _ = (section-facts s h).count in omega (arith, length-section s) in
    omega (
      arith,
      length-file t,
      length-joined section_bytes t.sections,
      sum_by-bound (λ s. length (section_bytes s)) section_fits 65 one t.sections v.sections,
    )
