-- The ranges that document 01 gives. The tower file and the calls use the same ones.
use Rattle.std.specs.Prelude.{ℕ, Bool, ◌&&◌, leb}
use Rattle.model.specs.declared.Range.{Range}

infix 20 ◌to◌
abbrev pub ◌to◌ : ℕ → ℕ → Range
low to high = record { low = low; high = high }

abbrev pub within : Range → ℕ → Bool
within r x = leb r.low x && leb x r.high

-- the tower file: the number of legs, of sections and of groups; lengths in mm; kinds 0 and 1
abbrev pub leg_count : Range
leg_count = 3 to 4

abbrev pub section_count : Range
section_count = 1 to 32

abbrev pub section_width : Range
section_width = 100 to 15_000

abbrev pub section_height : Range
section_height = 100 to 10_000

abbrev pub group_count : Range
group_count = 1 to 8

abbrev pub member_kind : Range
member_kind = 0 to 1

abbrev pub member_size : Range
member_size = 1 to 1000

abbrev pub member_length : Range
member_length = 1 to 200_000

abbrev pub item_count : Range
item_count = 0 to 64

-- an item: lengths in mm; coefficients and the position factor K in thousandths
abbrev pub item_width : Range
item_width = 1 to 3000

abbrev pub item_length : Range
item_length = 1 to 10_000

abbrev pub coefficients : Range
coefficients = 0 to 3000

abbrev pub position_factor : Range
position_factor = 0 to 1000

-- the wind: k, where the direction is 15 degrees times k; ice classes; the factor in thousandths; pressures in N/m²
abbrev pub directions : Range
directions = 0 to 23

abbrev pub ice_classes : Range
ice_classes = 0 to 5

abbrev pub structure_factor : Range
structure_factor = 500 to 2000

abbrev pub pressures : Range
pressures = 0 to 5000
