-- A case's items in slots.
use Rattle.std.specs.Prelude.{◌≡◌, ℕ, ◌+◌, true, List, map}
use Rattle.model.specs.declared.Item.{Item}
use Rattle.model.specs.Lists.{all_of, list_to}
use Rattle.model.specs.File.{fields_in_range}
use Rattle.slots.specs.Held.{item_of}
use Rattle.case_words.specs.Words.{at, item_from}

-- the items behind their number at `place`
abbrev pub items_at : List ℕ → ℕ → List Item
items_at ws place = list_to (item_from ws (place + 1)) (at ws place)

-- all are in range, and the slots hold them
pub record HoldsItems (ws : List ℕ) (place : ℕ) (slots : List (List ℕ)) : Type 0 where
  pub fit : all_of fields_in_range (items_at ws place) ≡ true
  pub held : map item_of slots ≡ items_at ws place
