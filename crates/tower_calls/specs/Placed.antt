-- A tower, and the numbers of a wind, put into the slots.
use Rattle.std.specs.Prelude.{ℕ, ◌<◌, ◌≡◌, Bool, List, ◌∷◌, map, length, take, drop, get_or, replicate}
use Rattle.std.specs.List.{list_all, range_with_len}
use Rattle.units.specs.declared.Length.{Length}
use Rattle.model.specs.declared.Item.{Item}
use Rattle.model.specs.Tower.{Section, Tower}
use Rattle.model.specs.Bytes.{legs_number}
use Rattle.slots.specs.Held.{Slots, slot, item_of, least_section, stands_under, section_at, count_in, ground_of, ice_on}

-- section k of a list
abbrev pub section_in : List Section → ℕ → Section
section_in sections k = get_or sections k least_section

-- slot 0 of a tower under no wind
abbrev pub head_of : Tower → List ℕ
head_of t = 1 ∷ legs_number t.legs ∷ length t.sections ∷ length t.items ∷ replicate 8 0

-- the first slots of the items stand for these, and the slots before the items are as they were
pub record PutItems (items : List Item) (before after : Slots) : Type 0 where
  pub long : length after ≡ length before
  pub each : map item_of (take (length items) (drop 65 after)) ≡ items
  pub beside : (j : ℕ) → j < 65 → slot after j ≡ slot before j

-- every section, as it stands under the present ice, stands under ice of thickness t
unfoldable pub all_stand : Length → Slots → Bool
all_stand t l = list_all (λ (i : ℕ). stands_under t (section_at l (ice_on (ground_of l)) i)) (range_with_len 0 (count_in l))

-- slot 0 under a wind
pub record WindHead (before : List ℕ) (k ice factor : ℕ) (after : List ℕ) : Type 0 where
  pub windy : get_or after 4 0 ≡ 1
  pub direction : get_or after 5 0 ≡ k
  pub class : get_or after 6 0 ≡ ice
  pub times : get_or after 7 0 ≡ factor
  pub counts : (j : ℕ) → j < 4 → get_or after j 0 ≡ get_or before j 0
