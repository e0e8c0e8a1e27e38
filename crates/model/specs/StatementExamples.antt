-- Examples of the definitions that stand in the statements of the customer's demands and in no function's promise:
-- arguments of their types, what is lent before a call, the outcome of each call, accepted, the tower newly erected,
-- the sum of the arms, two reports under different pressures. No code fails where one of these is wrong, so an example
-- does.
use Rattle.std.specs.Prelude.{ℕ, ◌+◌, ◌≤◌, ◌<◌, ◌≡◌, true, not, List, [], ◌∷◌, ◌++◌, map, get_or, replicate, Some, None, Ok, Err}
use Rattle.std.proofs.Math.Option.{Option, none, some}
use Rattle.model.specs.declared.Legs.TheVariants.{Four}
use Rattle.model.specs.declared.Refusal.TheVariants as refusal
use Rattle.model.specs.declared.Item.{Item}
use Rattle.model.specs.Lists.{all_of}
use Rattle.model.specs.Answers.{Reply, answer_reply, check_reply, write_reply}
use Rattle.model.specs.Tower.{Section, Tower, Wind}
use Rattle.model.specs.Machine.{State, no_tower, standing, with_items}
use Rattle.model.specs.Report.{arms_to, rows_of}
use Rattle.model.specs.MorePressure.{NoLower, AboveLess, NoLess}
use Rattle.model.specs.Calls.{Call, erect, hang, take_down, wind, report, check, write, typed, lent_before, run, newly_erected, first_refusal, lent_last}
use Rattle.model.specs.Outcomes.{Outcome, outcome_of, is_accepted, last_lent}
use Rattle.model.specs.Examples.{file_with, group, item_with, plain, item, item_of, wind_with, plain_tower, three_allowing, three_pressed, erect_four, steady, second_wind}

-- every call, each argument with the greatest value of its parameter's type, and with 0
unfoldable pub widest : List Call
widest =
    erect (255 ∷ 0 ∷ [])
    ∷ hang (item 65_535 255 4_294_967_295 4_294_967_295 65_535 65_535 65_535)
    ∷ take_down 65_535
    ∷ wind_with 4_294_967_295 4_294_967_295 4_294_967_295 (65_535 ∷ 0 ∷ [])
    ∷ report (18_446_744_073_709_551_615 ∷ 0 ∷ [])
    ∷ check
    ∷ write (255 ∷ 0 ∷ [])
    ∷ []

-- one argument above that
unfoldable pub wider : List Call
wider =
    erect (0 ∷ 256 ∷ [])
    ∷ hang (item 65_536 0 0 0 0 0 0)
    ∷ hang (item 0 256 0 0 0 0 0)
    ∷ hang (item 0 0 4_294_967_296 0 0 0 0)
    ∷ hang (item 0 0 0 4_294_967_296 0 0 0)
    ∷ hang (item 0 0 0 0 65_536 0 0)
    ∷ hang (item 0 0 0 0 0 65_536 0)
    ∷ hang (item 0 0 0 0 0 0 65_536)
    ∷ take_down 65_536
    ∷ wind_with 4_294_967_296 0 0 []
    ∷ wind_with 0 4_294_967_296 0 []
    ∷ wind_with 0 0 4_294_967_296 []
    ∷ wind_with 0 0 0 (0 ∷ 65_536 ∷ [])
    ∷ report (0 ∷ 18_446_744_073_709_551_616 ∷ [])
    ∷ write (0 ∷ 256 ∷ [])
    ∷ []

-- an outcome: the number, the values beside it, what is lent
abbrev pub told : ℕ → List ℕ → List ℕ → Outcome
told number values lent = record { reply = record { number = number; values = values }; lent = lent }

-- one of every kind of answer that accepts, and of every kind that refuses
unfoldable pub accepting : List Reply
accepting =
    answer_reply (Ok tt)
    ∷ check_reply (Ok (Some 1))
    ∷ check_reply (Ok None)
    ∷ write_reply (Ok 19)
    ∷ []

unfoldable pub refusing : List Reply
refusing =
    answer_reply (Err refusal.NoTower)
    ∷ check_reply (Err refusal.NoWind)
    ∷ write_reply (Err refusal.OutputShort)
    ∷ []

abbrev pub with_reply : Reply → Outcome
with_reply r = record { reply = r; lent = [] }

-- the tower of `plain 4` with item 7, under a wind or none
abbrev pub stands_in : Option Wind → State
stands_in w = standing (plain_tower (item_of 7 0 300 ∷ [])) w

unfoldable pub file_with_item : List ℕ
file_with_item = file_with 4 2000 6000 1 (group 0 100 24_000) 1 (item_with 7 0 300)

-- every call, accepted there under a wind, and turned down there under none
unfoldable pub accepted : List Call
accepted =
    erect (plain 3)
    ∷ hang (item_of 8 0 300)
    ∷ take_down 7
    ∷ wind second_wind
    ∷ report (replicate 7 9)
    ∷ check
    ∷ write (replicate 34 9)
    ∷ []

unfoldable pub turned_down : List Call
turned_down =
    erect (5 ∷ [])
    ∷ hang (item_of 7 0 300)
    ∷ take_down 8
    ∷ wind_with 24 0 1000 (1000 ∷ [])
    ∷ report (replicate 7 9)
    ∷ check
    ∷ write (replicate 31 9)
    ∷ []

-- a section of this height, and a tower of two
abbrev pub section_high : ℕ → Section
section_high height = record { width = record { 0 = 2000 }; height = record { 0 = height }; allowance = record { 0 = 0 }; groups = [] }

unfoldable pub two_high : ℕ → ℕ → Tower
two_high upper lower = record { legs = Four; sections = section_high upper ∷ section_high lower ∷ []; items = [] }

abbrev pub two_with : List Item → Tower
two_with items = with_items (two_high 4000 6000) items

abbrev pub wind_over : ℕ → Wind
wind_over lower = record { direction = 3; ice = 0; factor = 1000; pressures = 500 ∷ lower ∷ [] }

-- the numbers of two reports of two sections, 4 000 and 6 000 mm high: force, shear and moment of the upper one and of
-- the lower one, each below the other report's and so much more, or at most the other report's
pub record TwoAbove (first second : List ℕ) : Type 0 where
  pub upper_force : get_or first 3 0 < get_or second 3 0 + 2
  pub upper_shear : get_or first 4 0 < get_or second 4 0 + 2
  pub upper_moment : get_or first 5 0 < get_or second 5 0 + 4000
  pub lower_force : get_or first 9 0 < get_or second 9 0 + 2
  pub lower_shear : get_or first 10 0 < get_or second 10 0 + 4
  pub lower_moment : get_or first 11 0 < get_or second 11 0 + 22_000

pub record TwoNoLess (first second : List ℕ) : Type 0 where
  pub upper_force : get_or first 3 0 ≤ get_or second 3 0
  pub upper_shear : get_or first 4 0 ≤ get_or second 4 0
  pub upper_moment : get_or first 5 0 ≤ get_or second 5 0
  pub lower_force : get_or first 9 0 ≤ get_or second 9 0
  pub lower_shear : get_or first 10 0 ≤ get_or second 10 0
  pub lower_moment : get_or first 11 0 ≤ get_or second 11 0

pub record StatementExamples : Type 0 where
  -- arguments of their types: every value of each type, and no other
  pub typed_widest : all_of typed widest ≡ true
  pub untyped_wider : all_of (λ c. not (typed c)) wider ≡ true
  -- what is lent before
  pub lent : map lent_before widest
      ≡ (255 ∷ 0 ∷ []) ∷ [] ∷ [] ∷ (65_535 ∷ 0 ∷ []) ∷ (18_446_744_073_709_551_615 ∷ 0 ∷ []) ∷ [] ∷ (255 ∷ 0 ∷ []) ∷ []
  -- the number and the values of each answer; accepted
  pub replies : map with_reply (accepting ++ refusing)
      ≡ told 0 [] [] ∷ told 0 (1 ∷ []) [] ∷ told 0 [] [] ∷ told 0 (19 ∷ []) [] ∷ told 1 [] [] ∷ told 21 [] [] ∷ told 22 [] [] ∷ []
  pub is-accepted : all_of is_accepted (map with_reply accepting) ≡ true
  pub is_refused : all_of (λ o. not (is_accepted o)) (map with_reply refusing) ≡ true
  -- the outcome of each call: accepted, its values and what is lent; turned down, its number and what is lent as it was
  pub outcomes_accepted : map (outcome_of (stands_in (some second_wind))) accepted
      ≡ told 0 [] (plain 3)
      ∷ told 0 [] []
      ∷ told 0 [] []
      ∷ told 0 [] (1000 ∷ [])
      ∷ told 0 [] (rows_of (plain_tower (item_of 7 0 300 ∷ [])) second_wind ++ (9 ∷ []))
      ∷ told 0 [] []
      ∷ told 0 (32 ∷ []) (file_with_item ++ (9 ∷ 9 ∷ []))
      ∷ []
  pub outcomes_refused : map (outcome_of (stands_in none)) turned_down
      ≡ told 3 [] (5 ∷ [])
      ∷ told 10 [] []
      ∷ told 14 [] []
      ∷ told 15 [] (1000 ∷ [])
      ∷ told 21 [] (replicate 7 9)
      ∷ told 21 [] []
      ∷ told 22 [] (replicate 31 9)
      ∷ []
  -- check answers the topmost section over its allowance
  pub section-over : outcome_of (standing (three_allowing 0 14_065 21_098) (some three_pressed)) check ≡ told 0 (1 ∷ []) []
  -- the slice of the last call, of several
  pub last-lent : last_lent (told 0 [] (1 ∷ []) ∷ told 0 [] (2 ∷ []) ∷ []) ≡ 2 ∷ []
  pub lent-last : lent_last no_tower (erect_four ++ (write (replicate 21 9) ∷ [])) ≡ plain 4 ++ (9 ∷ 9 ∷ [])
  -- the first refusal of a list, whatever comes behind it
  pub first-refusal : first_refusal no_tower (erect_four ++ (steady ∷ report [] ∷ take_down 7 ∷ [])) ≡ 22
  -- the newly erected tower: the file without its items, its items in this order, its wind, a report; and the state
  -- that they lead to
  pub newly : newly_erected (plain_tower (item_of 7 0 300 ∷ item_of 8 0 300 ∷ [])) (item_of 8 0 300 ∷ item_of 7 0 300 ∷ []) second_wind (5 ∷ 6 ∷ [])
      ≡ erect (plain 4) ∷ hang (item_of 8 0 300) ∷ hang (item_of 7 0 300) ∷ wind second_wind ∷ report (5 ∷ 6 ∷ []) ∷ []
  pub newly_stands : run no_tower (newly_erected (plain_tower (item_of 7 0 300 ∷ item_of 8 0 300 ∷ [])) (item_of 8 0 300 ∷ item_of 7 0 300 ∷ []) second_wind (replicate 6 0))
      ≡ standing (plain_tower (item_of 8 0 300 ∷ item_of 7 0 300 ∷ [])) (some second_wind)
  -- the sum of the arms about either foot of two sections, 4 000 and 6 000 mm high: 2 000, and 8 000 + 3 000
  pub arms_upper : arms_to (two_high 4000 6000) 1 ≡ record { 0 = 2000 }
  pub arms_lower : arms_to (two_high 4000 6000) 2 ≡ record { 0 = 11_000 }
  -- no lower pressure: the same on one section and more on the other, with the items in another order
  pub no_lower : NoLower (two_with (item_of 7 0 300 ∷ item_of 8 1 300 ∷ [])) (wind_over 400) (two_with (item_of 8 1 300 ∷ item_of 7 0 300 ∷ [])) (wind_over 401)
  -- what is said of the numbers of two reports
  pub two_above : (first second : List ℕ) → AboveLess 2 (two_high 4000 6000) first second → TwoAbove first second
  pub two_no_less : (first second : List ℕ) → NoLess (two_high 4000 6000) first second → TwoNoLess first second
