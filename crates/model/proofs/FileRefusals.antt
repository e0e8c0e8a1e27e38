-- The file is turned down with one of 2 to 13.
use Prim.Native.Nat.{ℕ, zero, suc, ◌%◌, ◌≤◌}
use mathlib.Core.Bool.{Bool, true, false, not}
use mathlib.Core.List.{List, [], ◌∷◌, ◌++◌}
use native.Mathlib.Omega.{arith}
use lib.Dec.{leb, ltb, eqb}
use lib.ListN.{length}
use Rattle.model.specs.declared.Item.{Item}
use Rattle.model.specs.declared.Range.{Range}
use Rattle.model.specs.Ranges.{within, leg_count, section_count, section_width, section_height, group_count, member_kind, member_size, member_length, item_count, item_width, item_length, coefficients, position_factor}
use Rattle.model.specs.Areas.{bare_solid}
use Rattle.model.specs.Reading.{Parsed, got, refused, then, require, field, ranged, many}
use Rattle.model.specs.File.{numbered, read_group, read_groups, read_section, read_sections, read_item_fields, read_item, read_items, read_file}

-- if it is a refusal, then one of 2 to 13
pub data Numbered {A : Type 0} : Parsed A → Type 0 where
  taken : {a : A} {s : List ℕ} → Numbered (got a s)
  number : {n : ℕ} → 2 ≤ n → n ≤ 13 → Numbered (refused n)

then-numbered : {A B : Type 0} {p : Parsed A} {f : A → List ℕ → Parsed B} → Numbered p → ((a : A) (s : List ℕ) → Numbered (f a s)) → Numbered (then p f)
then-numbered (taken {a = a} {s = s}) h = h a s
then-numbered (number l u) h = number l u

require-numbered : {A : Type 0} (b : Bool) (n : ℕ) {p : Parsed A} → 2 ≤ n → n ≤ 13 → Numbered p → Numbered (require b n p)
require-numbered true n l u h = h
require-numbered false n l u h = number l u

field-numbered : (w : ℕ) (s : List ℕ) → Numbered (field w s)
unfolding field
field-numbered w s = require-numbered (leb w (length s)) 2 (omega arith) (omega arith) taken

ranged-numbered : (w : ℕ) (r : Range) (n : ℕ) (s : List ℕ) → 2 ≤ n → n ≤ 13 → Numbered (ranged w r n s)
unfolding ranged
ranged-numbered w r n s l u = then-numbered (field-numbered w s) (λ v s₁. require-numbered (within r v) n l u taken)

many-numbered : {A : Type 0} (p : List A → List ℕ → Parsed A) → ((l : List A) (s : List ℕ) → Numbered (p l s))
    → (n : ℕ) (l : List A) (s : List ℕ) → Numbered (many p n l s)
unfolding many
many-numbered p h zero l s = taken
many-numbered p h (suc n) l s = then-numbered (h l s) (λ a s₁. many-numbered p h n (l ++ (a ∷ [])) s₁)

group-numbered : (s : List ℕ) → Numbered (read_group s)
unfolding read_group
group-numbered s =
    then-numbered (ranged-numbered 1 member_kind 7 s (omega arith) (omega arith)) λ kind s₁.
    then-numbered (ranged-numbered 2 member_size 7 s₁ (omega arith) (omega arith)) λ size s₂.
    then-numbered (ranged-numbered 4 member_length 7 s₂ (omega arith) (omega arith)) λ long s₃.
    taken

section-numbered : (s : List ℕ) → Numbered (read_section s)
unfolding read_section read_groups
section-numbered s =
    then-numbered (ranged-numbered 2 section_width 5 s (omega arith) (omega arith)) λ width s₁.
    then-numbered (ranged-numbered 2 section_height 5 s₁ (omega arith) (omega arith)) λ height s₂.
    require-numbered (eqb (height % 2) 0) 5 (omega arith) (omega arith)
    (then-numbered (field-numbered 4 s₂) λ allowance s₃.
    then-numbered (ranged-numbered 1 group_count 6 s₃ (omega arith) (omega arith)) λ count s₄.
    then-numbered (many-numbered _ (λ l. group-numbered) count [] s₄) λ groups s₅.
    require-numbered (leb (bare_solid groups).0 _) 8 (omega arith) (omega arith) taken)

item-numbered : (sections : ℕ) (earlier : List Item) (s : List ℕ) → Numbered (read_item sections earlier s)
unfolding read_item read_item_fields
item-numbered sections earlier s =
    then-numbered (field-numbered 2 s) λ n s₁.
    require-numbered (not (numbered n earlier)) 10 (omega arith) (omega arith)
    (then-numbered (field-numbered 1 s₁) λ section s₂.
    require-numbered (ltb section sections) 11 (omega arith) (omega arith)
    (then-numbered (ranged-numbered 2 item_width 12 s₂ (omega arith) (omega arith)) λ width s₃.
    then-numbered (ranged-numbered 2 item_length 12 s₃ (omega arith) (omega arith)) λ long s₄.
    then-numbered (ranged-numbered 2 coefficients 12 s₄ (omega arith) (omega arith)) λ bare s₅.
    then-numbered (ranged-numbered 2 coefficients 12 s₅ (omega arith) (omega arith)) λ iced s₆.
    then-numbered (ranged-numbered 2 position_factor 12 s₆ (omega arith) (omega arith)) λ position s₇.
    taken))

pub file-numbered : (s : List ℕ) → Numbered (read_file s)
unfolding read_file read_sections read_items
file-numbered s =
    then-numbered (ranged-numbered 1 leg_count 3 s (omega arith) (omega arith)) λ legs s₁.
    then-numbered (ranged-numbered 1 section_count 4 s₁ (omega arith) (omega arith)) λ count s₂.
    then-numbered (many-numbered _ (λ l. section-numbered) count [] s₂) λ sections s₃.
    then-numbered (ranged-numbered 1 item_count 9 s₃ (omega arith) (omega arith)) λ held s₄.
    then-numbered (many-numbered _ (item-numbered count) held [] s₄) λ items s₅.
    require-numbered (eqb (length s₅) 0) 13 (omega arith) (omega arith) taken
