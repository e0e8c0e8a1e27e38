-- Document 01, "The plain machine", and "When a call is turned down" for each of its calls.
use Rattle.std.specs.Prelude.{ℕ, ◌*◌, ◌%◌, Bool, cond, not, ◌&&◌, List, [], ◌∷◌, ◌++◌, leb, ltb, eqb, length, drop}
use Rattle.std.proofs.Math.Option.{Option, none, some}
use Rattle.model.specs.declared.Legs.{Legs}
use Rattle.model.specs.declared.Legs.TheVariants.{Three, Four}
use Rattle.model.specs.declared.Item.{Item}
use Rattle.model.specs.Lists.{any_of, all_of, kept}
use Rattle.model.specs.Ranges.{within, item_count, directions, ice_classes, structure_factor, pressures}
use Rattle.model.specs.Tower.{Section, Tower, Wind}
use Rattle.model.specs.Areas.{thickness, gross, solid_of}
use Rattle.model.specs.Reading.{Parsed, got, refused}
use Rattle.model.specs.File.{read_file, numbered, fields_in_range}
use Rattle.model.specs.Bytes.{file_of}
use Rattle.model.specs.Report.{rows_of, topmost_over}

-- no tower; or a tower, and a wind or none. A fresh service has no tower.
pub data State : Type 0 where
  no_tower : State
  standing : Tower → Option Wind → State

-- n where the condition is met, else what the rules after it say; 0 says that no rule turns the call down
abbrev pub refuse_if : Bool → ℕ → ℕ → ℕ
refuse_if met n rest = cond met n rest

-- a call that is turned down changes nothing
abbrev pub unless_refused : ℕ → State → State → State
unless_refused refusal old new = cond (eqb refusal 0) new old

-- an accepted call puts what it gives at the front of the lent slice, and the rest stays; a refused one leaves all
unfoldable pub filled : ℕ → List ℕ → List ℕ → List ℕ
filled refusal given lent = cond (eqb refusal 0) (given ++ drop (length given) lent) lent

-- erect: replaces everything; no wind
abbrev pub file_refusal : Parsed Tower → ℕ
file_refusal (got t rest) = 0
file_refusal (refused n) = n

abbrev pub erected : State → Parsed Tower → State
erected m (got t rest) = standing t none
erected m (refused n) = m

unfoldable pub erect_refusal : List ℕ → ℕ
erect_refusal file = file_refusal (read_file file)

-- hang: the item joins at the list's end
abbrev pub hang_refusal : State → Item → ℕ
hang_refusal no_tower it = 1
hang_refusal (standing t w) it =
    refuse_if (leb item_count.high (length t.items)) 9
    (refuse_if (numbered it.number t.items) 10
    (refuse_if (leb (length t.sections) it.section) 11
    (refuse_if (not (fields_in_range it)) 12 0)))

-- the same tower with other items
abbrev pub with_items : Tower → List Item → Tower
with_items t items = record { legs = t.legs; sections = t.sections; items = items }

abbrev pub hung : State → Item → State
hung no_tower it = no_tower
hung (standing t w) it = standing (with_items t (t.items ++ (it ∷ []))) w

-- take down: removes the item; the others keep their order
abbrev pub take_down_refusal : State → ℕ → ℕ
take_down_refusal no_tower n = 1
take_down_refusal (standing t w) n = refuse_if (not (numbered n t.items)) 14 0

abbrev pub without : ℕ → List Item → List Item
without n items = kept (λ (it : Item). not (eqb it.number n)) items

abbrev pub taken_down : State → ℕ → State
taken_down no_tower n = no_tower
taken_down (standing t w) n = standing (with_items t (without n t.items)) w

-- wind: replaces the wind. k means 15 degrees times k from the normal of face 1; with three legs only even k
abbrev pub direction_fits : Legs → ℕ → Bool
direction_fits Three k = within directions k && eqb (k % 2) 0
direction_fits Four k = within directions k

abbrev pub is_too_solid : ℕ → Section → Bool
is_too_solid ice s = ltb (gross s).0 (solid_of (thickness ice) s.groups).0

-- 15 to 20, and then what follows; `counted` says that there is one pressure per section
abbrev pub wind_rules : Tower → Wind → Bool → ℕ → ℕ
wind_rules t w counted next =
    refuse_if (not (direction_fits t.legs w.direction)) 15
    (refuse_if (not (within ice_classes w.ice)) 16
    (refuse_if (not (within structure_factor w.factor)) 17
    (refuse_if (not counted) 18
    (refuse_if (not (all_of (within pressures) w.pressures)) 19
    (refuse_if (any_of (is_too_solid w.ice) t.sections) 20 next)))))

abbrev pub wind_refusal : State → Wind → ℕ
wind_refusal no_tower w = 1
wind_refusal (standing t old) w = wind_rules t w (eqb (length w.pressures) (length t.sections)) 0

abbrev pub under_wind : State → Wind → State
under_wind no_tower w = no_tower
under_wind (standing t old) w = standing t (some w)

-- report: six numbers per section into a lent slice of `room` elements
abbrev pub report_refusal : State → ℕ → ℕ
report_refusal no_tower room = 1
report_refusal (standing t none) room = 21
report_refusal (standing t (some w)) room = refuse_if (ltb room (6 * length t.sections)) 22 0

abbrev pub rows_in : State → List ℕ
rows_in no_tower = []
rows_in (standing t none) = []
rows_in (standing t (some w)) = rows_of t w

-- check: the topmost section over its allowance, or that none is
abbrev pub check_refusal : State → ℕ
check_refusal no_tower = 1
check_refusal (standing t none) = 21
check_refusal (standing t (some w)) = 0

abbrev pub over_in : State → List ℕ
over_in no_tower = []
over_in (standing t none) = []
over_in (standing t (some w)) = topmost_over t w

-- write: the file into a lent slice of `room` bytes, and its length
abbrev pub write_refusal : State → ℕ → ℕ
write_refusal no_tower room = 1
write_refusal (standing t w) room = refuse_if (ltb room (length (file_of t))) 22 0

abbrev pub file_in : State → List ℕ
file_in no_tower = []
file_in (standing t w) = file_of t
