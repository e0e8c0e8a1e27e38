-- Three parts of the file that are read by themselves: a section's fields before its groups, an item behind its number,
-- and the items with their count. Laws `head_first`, `number-first` and `items-last` in proofs/Order: the file is read
-- just so.
use Rattle.std.specs.Prelude.{ℕ, ◌%◌, List, eqb, ltb}
use Rattle.model.specs.declared.Item.{Item}
use Rattle.model.specs.Ranges.{section_width, section_height, group_count, item_count}
use Rattle.model.specs.Reading.{Parsed, got, then, require, field, ranged}
use Rattle.model.specs.File.{read_item_fields, read_items}
use Rattle.file_parts.specs.declared.sections.Head.{Head}

unfoldable pub read_head : List ℕ → Parsed Head
read_head s =
    then (ranged 2 section_width 5 s) λ width s₁.
    then (ranged 2 section_height 5 s₁) λ height s₂.
    require (eqb (height % 2) 0) 5
    (then (field 4 s₂) λ allowance s₃.
    then (ranged 1 group_count 6 s₃) λ count s₄.
    got (record { width = record { 0 = width }; height = record { 0 = height }; allowance = record { 0 = allowance }; count = count }) s₄)

unfoldable pub read_item_rest : ℕ → ℕ → List ℕ → Parsed Item
read_item_rest sections number s = then (field 1 s) λ section s₁. require (ltb section sections) 11 (read_item_fields number section s₁)

unfoldable pub read_item_part : ℕ → List ℕ → Parsed (List Item)
read_item_part sections s = then (ranged 1 item_count 9 s) λ held s₁. read_items sections held s₁
