-- Document 01, "The tower file": the bytes of a tower, as write gives them.
use Rattle.std.specs.Prelude.{ℕ, zero, suc, ◌/◌, ◌%◌, ◌^◌, List, [], ◌∷◌, ◌++◌, length}
use Rattle.model.specs.declared.Legs.{Legs}
use Rattle.model.specs.declared.Legs.TheVariants.{Three, Four}
use Rattle.model.specs.declared.Member.{Member}
use Rattle.model.specs.declared.Member.TheVariants.{Flat, Round}
use Rattle.model.specs.declared.Group.{Group}
use Rattle.model.specs.declared.Item.{Item}
use Rattle.model.specs.Lists.{joined}
use Rattle.model.specs.Tower.{Section, Tower}
use Rattle.model.specs.Areas.{size_of}

-- v in w bytes, high byte first
unfoldable pub bytes : ℕ → ℕ → List ℕ
bytes zero v = []
bytes (suc w) v = v / 256 ^ w % 256 ∷ bytes w v

abbrev pub kind_of : Member → ℕ
kind_of (Flat w) = 0
kind_of (Round d) = 1

unfoldable pub group_bytes : Group → List ℕ
group_bytes g = bytes 1 (kind_of g.member) ++ (bytes 2 (size_of g.member).0 ++ bytes 4 g.length.0)

unfoldable pub section_bytes : Section → List ℕ
section_bytes s =
    bytes 2 s.width.0 ++ (bytes 2 s.height.0 ++ (bytes 4 s.allowance.0
    ++ (bytes 1 (length s.groups) ++ joined group_bytes s.groups)))

-- the fields behind an item's number and section
abbrev pub item_field_bytes : Item → List ℕ
item_field_bytes it =
    bytes 2 it.width.0 ++ (bytes 2 it.length.0 ++ (bytes 2 it.bare ++ (bytes 2 it.iced ++ bytes 2 it.position)))

unfoldable pub item_bytes : Item → List ℕ
item_bytes it = bytes 2 it.number ++ (bytes 1 it.section ++ item_field_bytes it)

abbrev pub legs_number : Legs → ℕ
legs_number Three = 3
legs_number Four = 4

unfoldable pub file_of : Tower → List ℕ
file_of t =
    bytes 1 (legs_number t.legs) ++ (bytes 1 (length t.sections) ++ (joined section_bytes t.sections
    ++ (bytes 1 (length t.items) ++ joined item_bytes t.items)))
