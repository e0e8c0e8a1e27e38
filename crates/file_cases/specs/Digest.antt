-- The values of a tower that its digest is of.
use Rattle.std.specs.Prelude.{ℕ, List, [], ◌∷◌, ◌++◌, length}
use Rattle.model.specs.declared.Group.{Group}
use Rattle.model.specs.declared.Item.{Item}
use Rattle.model.specs.Lists.{joined}
use Rattle.model.specs.Tower.{Section, Tower}
use Rattle.model.specs.Areas.{size_of}
use Rattle.model.specs.Bytes.{kind_of, legs_number}

-- a tower's values
abbrev pub group_values : Group → List ℕ
group_values g = kind_of g.member ∷ (size_of g.member).0 ∷ g.length.0 ∷ []

abbrev pub section_values : Section → List ℕ
section_values s =
    s.width.0 ∷ s.height.0 ∷ s.allowance.0 ∷ length s.groups ∷ joined group_values s.groups

abbrev pub item_values : Item → List ℕ
item_values it =
    it.number ∷ it.section ∷ it.width.0 ∷ it.length.0 ∷ it.bare ∷ it.iced ∷ it.position ∷ []

abbrev pub tower_values : Tower → List ℕ
tower_values t =
    legs_number t.legs ∷ length t.sections ∷ (joined section_values t.sections
    ++ (length t.items ∷ joined item_values t.items))
