-- The towers that erect and hang let in, and the winds that such a tower takes.
use Rattle.std.specs.Prelude.{ℕ, ◌%◌, ◌^◌, ◌≡◌, Bool, true, not, ◌&&◌, List, [], ◌∷◌, leb, ltb, eqb, length}
use Rattle.std.proofs.Math.Option.{none, some}
use Rattle.model.specs.declared.Group.{Group}
use Rattle.model.specs.declared.Item.{Item}
use Rattle.model.specs.Lists.{all_of}
use Rattle.model.specs.Ranges.{within, section_count, section_width, section_height, group_count, member_size, member_length, item_count}
use Rattle.model.specs.Tower.{Section, Tower, Wind}
use Rattle.model.specs.Areas.{size_of, gross, bare_solid}
use Rattle.model.specs.File.{numbered, fields_in_range}
use Rattle.model.specs.Machine.{State, no_tower, standing, wind_refusal}

abbrev pub group_fits : Group → Bool
group_fits g = within member_size (size_of g.member).0 && within member_length g.length.0

-- the allowance has 4 bytes
abbrev pub section_fits : Section → Bool
section_fits s =
    within section_width s.width.0
    && (within section_height s.height.0
    && (eqb (s.height.0 % 2) 0
    && (ltb s.allowance.0 (2 ^ 32)
    && (within group_count (length s.groups)
    && (all_of group_fits s.groups
    && leb (bare_solid s.groups).0 (gross s).0)))))

-- on a tower of n sections; the number has 2 bytes
abbrev pub item_fits : ℕ → Item → Bool
item_fits n it = ltb it.number (2 ^ 16) && (ltb it.section n && fields_in_range it)

-- no number comes twice
abbrev pub distinct : List Item → Bool
distinct [] = true
distinct (it ∷ items) = not (numbered it.number items) && distinct items

pub record ValidTower (t : Tower) : Type 0 where
  pub count : within section_count (length t.sections) ≡ true
  pub sections : all_of section_fits t.sections ≡ true
  pub held : within item_count (length t.items) ≡ true
  pub items : all_of (item_fits (length t.sections)) t.items ≡ true
  pub numbers : distinct t.items ≡ true

-- a tower under a wind that it takes
pub record ValidWind (t : Tower) (w : Wind) : Type 0 where
  pub tower : ValidTower t
  pub accepted : wind_refusal (standing t none) w ≡ 0

-- a state that a list of calls can come to: no tower; a valid tower under no wind; or one under a wind that it takes
pub data ValidState : State → Type 0 where
  none_standing : ValidState no_tower
  calm : {t : Tower} → ValidTower t → ValidState (standing t none)
  windy : {t : Tower} {w : Wind} → ValidWind t w → ValidState (standing t (some w))
