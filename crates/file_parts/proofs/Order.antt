-- The file's parts in their order: a section is its head, then its groups; the file ends in the items with their count.
use Prim.Native.Nat.{ℕ, ◌+◌, ◌%◌, ◌≤◌, ◌<◌}
use mathlib.Core.Path.{◌≡◌, refl, ap, sym, ◌∙◌}
use mathlib.Core.Bool.{Bool, true, false, not}
use mathlib.Core.List.{List, [], map}
use lib.Dec.{leb, eqb}
use lib.ListN.{length, drop}
use borrow.Author.Tests.{le-leb, lt-leb}
use Rattle.std.specs.Prelude.{Ok, Err}
use Rattle.std.proofs.lemmas.List.{map-id}
use Rattle.units.specs.declared.Area.{Area}
use Rattle.model.specs.declared.Range.{Range}
use Rattle.model.specs.declared.Group.{Group}
use Rattle.model.specs.declared.Item.{Item}
use Rattle.model.specs.declared.Refusal.{Refusal}
use Rattle.model.specs.Answers.{refusal_number}
use Rattle.model.specs.Ranges.{leg_count, section_count, section_width, section_height, group_count, item_count}
use Rattle.model.specs.Tower.{Section}
use Rattle.model.specs.Areas.{bare_solid, gross}
use Rattle.model.specs.Reading.{Parsed, got, refused, then, require, field, ranged, many}
use Rattle.model.specs.File.{legs_of, read_group, read_groups, read_section, read_sections, numbered, read_item, read_items, read_file}
use Rattle.model.proofs.Readings.{Gives, given, when-got, gives, then-gives, require-gives, anything}
use Rattle.file_fields.specs.Outcomes.{ReadsAs}
use Rattle.file_parts.specs.declared.sections.Head.{Head}
use Rattle.file_parts.specs.Parts.{read_head, read_item_rest, read_item_part}
use Rattle.file_fields.proofs.Answered.{rest, ranged-high}
use Rattle.file_parts.proofs.Each.{each-behind, each-barred}

-- a reading within a reading, and one behind a rule
then-then : {A B C : Type 0} (p : Parsed A) (f : A → List ℕ → Parsed B) (g : B → List ℕ → Parsed C)
    → then (then p f) g ≡ then p (λ a s. then (f a s) g)
then-then (got a s) f g = refl
then-then (refused n) f g = refl

then-require : {A B : Type 0} (b : Bool) (n : ℕ) (p : Parsed A) (g : A → List ℕ → Parsed B) → then (require b n p) g ≡ require b n (then p g)
then-require true n p g = refl
then-require false n p g = refl

-- readings that go on alike are alike
then_same : {A B : Type 0} (p : Parsed A) {f g : A → List ℕ → Parsed B} → ((a : A) (s : List ℕ) → f a s ≡ g a s) → then p f ≡ then p g
then_same (got a s) h = h a s
then_same (refused n) h = refl

require-same : {A : Type 0} (b : Bool) (n : ℕ) {p q : Parsed A} → p ≡ q → require b n p ≡ require b n q
require-same b n e = ap (require b n) e

-- the section that a head and its groups make
abbrev pub headed : Head → List Group → Section
headed h groups = record { width = h.width; height = h.height; allowance = h.allowance; groups = groups }

abbrev pub section_from : Head → List ℕ → Parsed Section
section_from h s =
    then (read_groups h.count s) λ groups s₁.
    require (leb (bare_solid groups).0 (gross (headed h groups)).0) 8 (got (headed h groups) s₁)

pub head_first : (s : List ℕ) → read_section s ≡ then (read_head s) section_from
unfolding read_section read_head
head_first s =
    then_same (ranged 2 section_width 5 s)
    (λ width s₁.
    then_same (ranged 2 section_height 5 s₁)
    (λ height s₂.
    require-same (eqb (height % 2) 0) 5
    (then_same (field 4 s₂) (λ allowance s₃. sym (then-then (ranged 1 group_count 6 s₃) _ section_from)) ∙ sym (then-then (field 4 s₂) _ section_from))
    ∙ sym (then-require (eqb (height % 2) 0) 5 _ section_from))
    ∙ sym (then-then (ranged 2 section_height 5 s₁) _ section_from))
    ∙ sym (then-then (ranged 2 section_width 5 s) _ section_from)

pub number-first : (sections : ℕ) (earlier : List Item) (s : List ℕ)
    → read_item sections earlier s ≡ then (field 2 s) λ number s₁. require (not (numbered number earlier)) 10 (read_item_rest sections number s₁)
unfolding read_item read_item_rest
number-first sections earlier s = refl

pub items-last : (s : List ℕ)
    → read_file s
    ≡ then (ranged 1 leg_count 3 s) λ legs s₁.
    then (ranged 1 section_count 4 s₁) λ count s₂.
    then (read_sections count s₂) λ sections s₃.
    then (read_item_part count s₃) λ items s₄.
    require (eqb (length s₄) 0) 13 (got (record { legs = legs_of legs; sections = sections; items = items }) [])
unfolding read_file read_item_part
items-last s =
    then_same (ranged 1 leg_count 3 s) λ legs s₁.
    then_same (ranged 1 section_count 4 s₁) λ count s₂.
    then_same (read_sections count s₂) λ sections s₃.
    sym (then-then (ranged 1 item_count 9 s₃) (λ held s₄. read_items count held s₄) _)

-- a section's groups, read behind its head
module _ (n : ℕ) (s : List ℕ) (at : ℕ) {none : List Group} (e : none ≡ []) where
  pub groups-behind : at ≤ length s → {groups : List Group} {used : ℕ}
      → ReadsAs (λ (next : ℕ). map (λ (g : Group). g) groups) (λ (next : ℕ). next) (rest s at)
      (many (λ (l : List Group). read_group) n (map (λ (g : Group). g) none) (rest s at)) (Ok used)
      → (read_groups n (drop at s) ≡ got groups (drop (at + used) s)) × (at + used ≤ length s)
  unfolding read_groups
  groups-behind l {groups} h =
      let all = each-behind (λ (g : Group). g) read_group n s at e l groups h in
      (rw (map-id groups) at all.0, all.1)

  pub groups-barred : {R : Type 0} {value : R → List Group} {next : R → ℕ} {r : Refusal}
      → ReadsAs value next (rest s at) (many (λ (l : List Group). read_group) n (map (λ (g : Group). g) none) (rest s at)) (Err r)
      → read_groups n (drop at s) ≡ refused (refusal_number r)
  unfolding read_groups
  groups-barred h = each-barred (λ (g : Group). g) read_group n s at e h

-- what is known of a head that was read
pub record HeadFacts (h : Head) : Type 0 where
  pub width : h.width.0 ≤ 15_000
  pub height : h.height.0 ≤ 10_000
  pub count : h.count ≤ 8

below : (w : ℕ) (r : Range) (n : ℕ) (s : List ℕ) → Gives (λ v rest. v ≤ r.high) (ranged w r n s)
below w r n s = gives (ranged w r n s) (λ v rest e. ranged-high w r n s e)

pub head-facts : (s : List ℕ) {h : Head} {rest : List ℕ} → read_head s ≡ got h rest → HeadFacts h
unfolding read_head
head-facts s e =
    when-got {Q = λ h rest. HeadFacts h}
    (then-gives (below 2 section_width 5 s) λ width s₁ w.
    then-gives (below 2 section_height 5 s₁) λ height s₂ h.
    require-gives (eqb (height % 2) 0) 5 λ even.
    then-gives (anything (field 4 s₂)) λ allowance s₃ a.
    then-gives (below 1 group_count 6 s₃) λ count s₄ c.
    given (record { width = w; height = h; count = c }))
    e

-- the test of the bare A_S, as it is made on areas that were worked out
pub too-solid : {gross solid x y : Area} → gross ≡ x → solid ≡ y → gross.0 < solid.0 → leb y.0 x.0 ≡ false
too-solid e f h = rw (← e, ← f) (lt-leb _ _ h)

pub not-solid : {gross solid x y : Area} → gross ≡ x → solid ≡ y → solid.0 ≤ gross.0 → leb y.0 x.0 ≡ true
not-solid e f h = rw (← e, ← f) (le-leb _ _ h)
