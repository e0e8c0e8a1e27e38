-- Document 01, "The tower file": its reader, field by field.
use Rattle.std.specs.Prelude.{ℕ, zero, suc, ◌%◌, Bool, cond, not, ◌&&◌, List, [], length, leb, ltb, eqb}
use Rattle.units.specs.declared.Length.{Length}
use Rattle.model.specs.declared.Legs.{Legs}
use Rattle.model.specs.declared.Legs.TheVariants.{Three, Four}
use Rattle.model.specs.declared.Member.{Member}
use Rattle.model.specs.declared.Member.TheVariants.{Flat, Round}
use Rattle.model.specs.declared.Group.{Group}
use Rattle.model.specs.declared.Item.{Item}
use Rattle.model.specs.Ranges.{
  within,
  leg_count,
  section_count,
  section_width,
  section_height,
  group_count,
  member_kind,
  member_size,
  member_length,
  item_count,
  item_width,
  item_length,
  coefficients,
  position_factor,
}
use Rattle.model.specs.Lists.{any_of}
use Rattle.model.specs.Tower.{Section, Tower}
use Rattle.model.specs.Areas.{bare_solid, gross}
use Rattle.model.specs.Reading.{Parsed, got, then, require, field, ranged, many}

-- kind 0 is flat with a width, 1 round with a diameter
abbrev pub member_of : ℕ → Length → Member
member_of zero w = Flat w
member_of (suc kind) d = Round d

-- kind, 1 byte; width or diameter, 2 bytes; total length in one face, 4 bytes
unfoldable pub read_group : List ℕ → Parsed Group
read_group s =
    then (ranged 1 member_kind 7 s) λ kind s₁.
    then (ranged 2 member_size 7 s₁) λ size s₂.
    then (ranged 4 member_length 7 s₂) λ length s₃.
    got (record { member = member_of kind (record { 0 = size }); length = record { 0 = length } }) s₃

unfoldable pub read_groups : ℕ → List ℕ → Parsed (List Group)
read_groups n s = many (λ (l : List Group). read_group) n [] s

-- mean width b, 2 bytes; height h, 2 bytes, even; shear allowance, 4 bytes; group count, 1 byte; the groups.
-- 8 after the last group: the bare A_S is above A_u
unfoldable pub read_section : List ℕ → Parsed Section
read_section s =
    then (ranged 2 section_width 5 s) λ width s₁.
    then (ranged 2 section_height 5 s₁) λ height s₂.
    require (eqb (height % 2) 0) 5
    (then (field 4 s₂) λ allowance s₃.
    then (ranged 1 group_count 6 s₃) λ count s₄.
    then (read_groups count s₄) λ groups s₅.
    let section : Section =
    record { width = record { 0 = width }; height = record { 0 = height }; allowance = record { 0 = allowance }; groups = groups } in
    require (leb (bare_solid groups).0 (gross section).0) 8 (got section s₅))

unfoldable pub read_sections : ℕ → List ℕ → Parsed (List Section)
read_sections n s = many (λ (l : List Section). read_section) n [] s

-- an item number is among those of l
abbrev pub numbered : ℕ → List Item → Bool
numbered n l = any_of (λ (it : Item). eqb it.number n) l

-- the fields of an item behind its number and section, 2 bytes each: width, length, bare and iced coefficient, position
-- factor K
unfoldable pub read_item_fields : ℕ → ℕ → List ℕ → Parsed Item
read_item_fields number section s =
    then (ranged 2 item_width 12 s) λ width s₁.
    then (ranged 2 item_length 12 s₁) λ length s₂.
    then (ranged 2 coefficients 12 s₂) λ bare s₃.
    then (ranged 2 coefficients 12 s₃) λ iced s₄.
    then (ranged 2 position_factor 12 s₄) λ position s₅.
    got
    (record {
      number = number;
      section = section;
      width = record { 0 = width };
      length = record { 0 = length };
      bare = bare;
      iced = iced;
      position = position;
    })
    s₅

-- the ranges of those fields
abbrev pub fields_in_range : Item → Bool
fields_in_range it =
    within item_width it.width.0
    && within item_length it.length.0
    && within coefficients it.bare
    && within coefficients it.iced
    && within position_factor it.position

-- number, 2 bytes, 10 where it came earlier; section, 1 byte, 11 where there is none such; the other fields
unfoldable pub read_item : ℕ → List Item → List ℕ → Parsed Item
read_item sections earlier s =
    then (field 2 s) λ number s₁.
    require (not (numbered number earlier)) 10
    (then (field 1 s₁) λ section s₂.
    require (ltb section sections) 11 (read_item_fields number section s₂))

unfoldable pub read_items : ℕ → ℕ → List ℕ → Parsed (List Item)
read_items sections n s = many (read_item sections) n [] s

abbrev pub legs_of : ℕ → Legs
legs_of n = cond (eqb n 3) Three Four

-- legs, 1 byte; section count, 1 byte, and the sections; item count, 1 byte, and the items; 13 where bytes follow
unfoldable pub read_file : List ℕ → Parsed Tower
read_file s =
    then (ranged 1 leg_count 3 s) λ legs s₁.
    then (ranged 1 section_count 4 s₁) λ count s₂.
    then (read_sections count s₂) λ sections s₃.
    then (ranged 1 item_count 9 s₃) λ held s₄.
    then (read_items count held s₄) λ items s₅.
    require (eqb (length s₅) 0) 13
    (got (record { legs = legs_of legs; sections = sections; items = items }) [])
