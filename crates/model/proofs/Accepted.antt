-- A file that is accepted: its tower is within document 01's ranges, and its bytes are those of the tower.
use Prim.Native.Nat.{ℕ, zero, suc, ◌%◌, ◌^◌, ◌≤◌, ◌<◌}
use mathlib.Core.Path.{◌≡◌, refl, sym}
use mathlib.Core.Bool.{Bool, true, false, cond, not, ◌&&◌}
use mathlib.Core.List.{List, [], ◌∷◌, ◌++◌, append_assoc, append-nil}
use native.Mathlib.Omega.{arith}
use lib.Dec.{leb, ltb, eqb}
use lib.ListN.{length, take, drop, take-append-drop}
use lib.Seq.{length-take-le}
use borrow.Author.Tests.{leb-true, lt-ltb, eqb-true, eqb-false}
use Rattle.units.specs.declared.Length.{Length}
use Rattle.model.specs.declared.Legs.TheVariants.{Three, Four}
use Rattle.model.specs.declared.Item.{Item}
use Rattle.model.specs.Lists.{all_of, joined}
use Rattle.model.specs.declared.Range.{Range}
use Rattle.model.specs.Ranges.{within, leg_count, section_count, section_width, section_height, group_count, member_kind, member_size, member_length, item_count, item_width, item_length, coefficients, position_factor}
use Rattle.model.specs.Tower.{Section, Tower}
use Rattle.model.specs.Areas.{bare_solid}
use Rattle.model.specs.Reading.{Parsed, got, bytes_number, field, ranged, many}
use Rattle.model.specs.File.{member_of, numbered, legs_of, read_group, read_groups, read_section, read_sections, read_item_fields, read_item, read_items, read_file}
use Rattle.model.specs.Bytes.{bytes, kind_of, group_bytes, section_bytes, item_bytes, legs_number, file_of}
use Rattle.model.specs.Valid.{group_fits, section_fits, item_fits, distinct, ValidTower}
use Rattle.model.specs.Calls.{bits}
use Rattle.exact.proofs.Bools.{and_split, and-join}
use Rattle.model.proofs.Lists.{all-grow, all-parts}
use Rattle.model.proofs.Sections.{in-range}
use Rattle.model.proofs.FileLength.{joined-more, largest-file}
use Rattle.model.proofs.Readings.{Gives, given, when-got, weaker, anything, then-gives, require-gives, many-gives, size-member}
use Rattle.model.proofs.Fields.{number_bound, number-bytes}
use Rattle.model.proofs.Distinct.{distinct_more}

-- a value was read from s: it passes a test, and its bytes with those that remain are s
record ReadFrom {A : Type 0} (bytes_of : A → List ℕ) (test : A → Bool) (s : List ℕ) (a : A) (rest : List ℕ) : Type 0 where
  fits : test a ≡ true
  same : bytes_of a ++ rest ≡ s
  bytes : all_of (bits 8) rest ≡ true

-- a list of n parts was read from s
abbrev RunFrom : {A : Type 0} → (A → List ℕ) → (List A → Bool) → ℕ → List ℕ → List A → List ℕ → Type 0
RunFrom bytes_of test n s l rest = ReadFrom (joined bytes_of) test s l rest × (length l ≡ n)

field-read : (w : ℕ) (s : List ℕ) → all_of (bits 8) s ≡ true → Gives (ReadFrom (bytes w) (λ v. ltb v (256 ^ w)) s) (field w s)
unfolding field
field-read w s h =
    require-gives (leb w (length s)) 2 λ enough.
    let n : length (take w s) ≡ w = length-take-le w s (leb-true w (length s) enough) in
    let parts : _ = all-parts (bits 8) (take w s) (drop w s) (rw take-append-drop h) in
    let e : bytes w (bytes_number 0 (take w s)) ≡ take w s = rw n at (number-bytes 0 (take w s) parts.0) in
    let b : bytes_number 0 (take w s) < 256 ^ w = rw n at (number_bound (take w s) parts.0) in
    given (record { fits = lt-ltb _ _ b; same = rw e (take-append-drop w s); bytes = parts.1 })

ranged-read : (w : ℕ) (r : Range) (n : ℕ) (s : List ℕ) → all_of (bits 8) s ≡ true → Gives (ReadFrom (bytes w) (within r) s) (ranged w r n s)
unfolding ranged
ranged-read w r n s h =
    then-gives (field-read w s h) λ v s₁ k.
    require-gives (within r v) n λ t.
    given (record { fits = t; same = k.same; bytes = k.bytes })

-- a run of parts: each passes a test against those before it, and the list that grows passes a test as a whole
module _ {A : Type 0} (bytes_of : A → List ℕ) (p : List A → List ℕ → Parsed A) (test : List A → A → Bool) (whole : List A → Bool) where
  many_read : ((l : List A) (a : A) → whole l ≡ true → test l a ≡ true → whole (l ++ (a ∷ [])) ≡ true)
      → ((l : List A) (s : List ℕ) → all_of (bits 8) s ≡ true → Gives (ReadFrom bytes_of (test l) s) (p l s))
      → (n : ℕ) (s : List ℕ) → whole [] ≡ true → all_of (bits 8) s ≡ true
      → Gives (RunFrom bytes_of whole n s) (many p n [] s)
  unfolding joined
  many_read grow part n s e h =
      weaker (many-gives p (ReadFrom (joined bytes_of) whole s) more n [] s (record { fits = e; same = refl; bytes = h })) λ l rest k.
      (k.0, omega (arith, k.1))
    where
      more : (l : List A) (s₁ : List ℕ) → ReadFrom (joined bytes_of) whole s l s₁
          → Gives (λ a rest. ReadFrom (joined bytes_of) whole s (l ++ (a ∷ [])) rest) (p l s₁)
      more l s₁ i =
          weaker (part l s₁ i.bytes) λ a rest k.
          record {
            fits = grow l a i.fits k.fits;
            same = rw (joined-more bytes_of l a, append_assoc, k.same) i.same;
            bytes = k.bytes;
          }

-- groups
kind-member : (kind : ℕ) (d : Length) → within member_kind kind ≡ true → kind_of (member_of kind d) ≡ kind
kind-member zero d h = refl
kind-member (suc kind) d h = let k : _ = in-range member_kind (suc kind) h in omega arith

group-read : (s : List ℕ) → all_of (bits 8) s ≡ true → Gives (ReadFrom group_bytes group_fits s) (read_group s)
unfolding read_group group_bytes
group-read s h =
    then-gives (ranged-read 1 member_kind 7 s h) λ kind s₁ a.
    then-gives (ranged-read 2 member_size 7 s₁ a.bytes) λ size s₂ b.
    then-gives (ranged-read 4 member_length 7 s₂ b.bytes) λ long s₃ c.
    given
    (record {
      fits = rw size-member (and-join b.fits c.fits);
      same = rw (kind-member kind (record { 0 = size }) a.fits, size-member) (simp append_assoc (cc));
      bytes = c.bytes;
    })

groups-read : (n : ℕ) (s : List ℕ) → all_of (bits 8) s ≡ true → Gives (RunFrom group_bytes (all_of group_fits) n s) (read_groups n s)
unfolding read_groups
groups-read n s h = many_read group_bytes (λ l. read_group) (λ l. group_fits) (all_of group_fits) (all-grow group_fits) (λ l. group-read) n s refl h

-- sections
section-read : (s : List ℕ) → all_of (bits 8) s ≡ true → Gives (ReadFrom section_bytes section_fits s) (read_section s)
unfolding read_section section_bytes
section-read s h =
    then-gives (ranged-read 2 section_width 5 s h) λ width s₁ a.
    then-gives (ranged-read 2 section_height 5 s₁ a.bytes) λ height s₂ b.
    require-gives (eqb (height % 2) 0) 5 λ even.
    then-gives (field-read 4 s₂ b.bytes) λ allowance s₃ c.
    then-gives (ranged-read 1 group_count 6 s₃ c.bytes) λ count s₄ d.
    then-gives (groups-read count s₄ d.bytes) λ groups s₅ g.
    require-gives (leb (bare_solid groups).0 _) 8 λ bare.
    let section : Section =
    record { width = record { 0 = width }; height = record { 0 = height }; allowance = record { 0 = allowance }; groups = groups } in
    let e : ReadFrom (joined group_bytes) (all_of group_fits) s₄ groups s₅ = g.0 in
    let counted : within group_count (length groups) ≡ true = rw g.1 d.fits in
    given {a = section} {s = s₅}
    (record {
      fits = and-join a.fits (and-join b.fits (and-join even (and-join c.fits (and-join counted (and-join e.fits bare)))));
      same = rw g.1 (simp append_assoc (cc));
      bytes = e.bytes;
    })

sections-read : (n : ℕ) (s : List ℕ) → all_of (bits 8) s ≡ true → Gives (RunFrom section_bytes (all_of section_fits) n s) (read_sections n s)
unfolding read_sections
sections-read n s h =
    many_read section_bytes (λ l. read_section) (λ l. section_fits) (all_of section_fits) (all-grow section_fits) (λ l. section-read) n s refl h

-- items
module _ (sections : ℕ) where
  -- an item against those before it; a list of items
  new_fits : List Item → Item → Bool
  new_fits earlier it = item_fits sections it && not (numbered it.number earlier)

  items_fit : List Item → Bool
  items_fit l = all_of (item_fits sections) l && distinct l

  items-grow : (l : List Item) (it : Item) → items_fit l ≡ true → new_fits l it ≡ true → items_fit (l ++ (it ∷ [])) ≡ true
  unfolding new_fits items_fit
  items-grow l it h t =
      let a : _ = and_split (all_of (item_fits sections) l) (distinct l) h in
      let b : _ = and_split (item_fits sections it) _ t in
      and-join (all-grow (item_fits sections) l it a.0 b.0) (rw distinct_more (and-join a.1 b.1))

  item-read : (earlier : List Item) (s : List ℕ) → all_of (bits 8) s ≡ true → Gives (ReadFrom item_bytes (new_fits earlier) s) (read_item sections earlier s)
  unfolding read_item read_item_fields item_bytes new_fits
  item-read earlier s h =
      then-gives (field-read 2 s h) λ number s₁ a.
      require-gives (not (numbered number earlier)) 10 λ new.
      then-gives (field-read 1 s₁ a.bytes) λ section s₂ b.
      require-gives (ltb section sections) 11 λ there.
      then-gives (ranged-read 2 item_width 12 s₂ b.bytes) λ width s₃ c.
      then-gives (ranged-read 2 item_length 12 s₃ c.bytes) λ long s₄ d.
      then-gives (ranged-read 2 coefficients 12 s₄ d.bytes) λ bare s₅ e.
      then-gives (ranged-read 2 coefficients 12 s₅ e.bytes) λ iced s₆ f.
      then-gives (ranged-read 2 position_factor 12 s₆ f.bytes) λ position s₇ g.
      given
      (record {
        fits =
            and-join
            (and-join a.fits
            (and-join there (and-join (and-join (and-join (and-join c.fits d.fits) e.fits) f.fits) g.fits)))
            new;
        same = simp append_assoc (cc);
        bytes = g.bytes;
      })

  items-read : (n : ℕ) (s : List ℕ) → all_of (bits 8) s ≡ true → Gives (RunFrom item_bytes items_fit n s) (read_items sections n s)
  unfolding read_items items_fit
  items-read n s h = many_read item_bytes (read_item sections) new_fits items_fit items-grow item-read n s refl h

-- the file
legs-number : (n : ℕ) → within leg_count n ≡ true → legs_number (legs_of n) ≡ n
legs-number n h = by-case (eqb n 3) refl
  where
    by-case : (t : Bool) → eqb n 3 ≡ t → legs_number (cond t Three Four) ≡ n
    by-case true e = sym (eqb-true n 3 e)
    by-case false e =
        let k : _ = in-range leg_count n h in
        let z : n ≡ 3 → ⊥ = eqb-false n 3 e in
        omega arith

no_bytes : (s : List ℕ) → eqb (length s) 0 ≡ true → s ≡ []
no_bytes [] h = refl
no_bytes (b ∷ s) h = absurd (omega (arith, eqb-true (length (b ∷ s)) 0 h))

file-read : (s : List ℕ) → all_of (bits 8) s ≡ true → Gives (λ t rest. ValidTower t × (file_of t ≡ s)) (read_file s)
unfolding read_file file_of items_fit
file-read s h =
    then-gives (ranged-read 1 leg_count 3 s h) λ legs s₁ a.
    then-gives (ranged-read 1 section_count 4 s₁ a.bytes) λ count s₂ b.
    then-gives (sections-read count s₂ b.bytes) λ sections s₃ c.
    then-gives (ranged-read 1 item_count 9 s₃ c.0.bytes) λ held s₄ d.
    then-gives (items-read count held s₄ d.bytes) λ items s₅ e.
    require-gives (eqb (length s₅) 0) 13 λ end.
    let f : _ = and_split (all_of (item_fits count) items) (distinct items) e.0.fits in
    given {a = record { legs = legs_of legs; sections = sections; items = items }} {s = []} (
      record { count = rw c.1 b.fits; sections = c.0.fits; held = rw e.1 d.fits; items = rw c.1 f.0; numbers = f.1 },
      rw (legs-number legs a.fits, c.1, e.1) (cc (append-nil (joined item_bytes items), no_bytes s₅ end, c.0.same, e.0.same)),
    )

pub accepted-valid : (s : List ℕ) {t : Tower} {rest : List ℕ} → all_of (bits 8) s ≡ true → read_file s ≡ got t rest → ValidTower t
accepted-valid s h e = (when-got (file-read s h) e).0

-- read and written again, a file has the same bytes
pub same_bytes : (s : List ℕ) {t : Tower} {rest : List ℕ} → all_of (bits 8) s ≡ true → read_file s ≡ got t rest → file_of t ≡ s
same_bytes s h e = (when-got (file-read s h) e).1

-- nothing is left
pub accepted-all : (s : List ℕ) {t : Tower} {rest : List ℕ} → read_file s ≡ got t rest → rest ≡ []
unfolding read_file
accepted-all s e =
    when-got {Q = λ t rest. rest ≡ []}
    (then-gives (anything (ranged 1 leg_count 3 s)) λ legs s₁ _.
    then-gives (anything (ranged 1 section_count 4 s₁)) λ count s₂ _.
    then-gives (anything (read_sections count s₂)) λ sections s₃ _.
    then-gives (anything (ranged 1 item_count 9 s₃)) λ held s₄ _.
    then-gives (anything (read_items count held s₄)) λ items s₅ _.
    require-gives (eqb (length s₅) 0) 13 λ _.
    given refl)
    e

pub accepted-length : (s : List ℕ) {t : Tower} {rest : List ℕ} → all_of (bits 8) s ≡ true → read_file s ≡ got t rest → length s ≤ 2915
accepted-length s {t} h e = rw (sym (same_bytes s h e)) (largest-file t (accepted-valid s h e))
