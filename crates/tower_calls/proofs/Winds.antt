-- The rules of wind over the slots.
use Rattle.std.proofs.Common.{◌≡◌, ℕ, zero, suc, Bool, true, false, not, ◌&&◌, ◌||◌, leb, ltb, List, map, length, eqb, refl, ap, sym, ◌∙◌, add-one, arith}
use Rattle.std.specs.List.{range_with_len}
use Rattle.std.proofs.lemmas.Bool.Decides.{nat_tests}
use Rattle.std.proofs.lemmas.List.Folds.{list_all-map}
use Rattle.std.proofs.lemmas.List.FromFn.{map-range_with_len_more}
use borrow.Author.Tests.{leb-true, leb-false, lt-ltb, le-ltb}
use Rattle.units.specs.declared.Length.{Length}
use Rattle.model.specs.Lists.{all_of, any_of, list_to}
use Rattle.model.specs.Areas.{thickness, gross, solid_of}
use Rattle.model.specs.Tower.{Section, Wind}
use Rattle.model.specs.Ranges.{within, ice_classes, structure_factor, pressures}
use Rattle.model.specs.File.{legs_of}
use Rattle.model.specs.Valid.{section_fits}
use Rattle.model.specs.Machine.{direction_fits, is_too_solid, refuse_if, wind_refusal}
use Rattle.model.proofs.Lists.{all-of-append, any_append}
use Rattle.slots.specs.Held.{Slots, NextCell, cell, is_standing, count_in, stands_under, section_at, ground_of, ice_on, tower_in, state_of}
use Rattle.slots.proofs.Grounds.{fallen, standing-as, section-count, sections-are, ice-thin, section-fits}
use Rattle.tower_calls.specs.Placed.{all_stand, WindHead}

-- "A_S is at most A_u" is the opposite of "too solid"
pub leb-ltb : (a b : ℕ) → leb a b ≡ not (ltb b a)
leb-ltb a b = by-case (leb a b) refl
  where
    by-case : (x : Bool) → leb a b ≡ x → x ≡ not (ltb b a)
    by-case true e = rw (le-ltb b a (leb-true a b e))
    by-case false e = rw (lt-ltb b a (leb-false a b e))

-- slot 0 with the four numbers of a wind, one after another
pub wind-head : {h a b c d : List ℕ} {k ice factor : ℕ} → NextCell h 4 1 a → NextCell a 5 k b → NextCell b 6 ice c → NextCell c 7 factor d
    → WindHead h k ice factor d
wind-head p q r s =
    record {
      windy = s.others 4 (λ z. omega arith) ∙ r.others 4 (λ z. omega arith) ∙ q.others 4 (λ z. omega arith) ∙ p.it;
      direction = s.others 5 (λ z. omega arith) ∙ r.others 5 (λ z. omega arith) ∙ q.it;
      class = s.others 6 (λ z. omega arith) ∙ r.it;
      times = s.it;
      counts = λ j h. s.others j (λ z. omega arith) ∙ r.others j (λ z. omega arith) ∙ q.others j (λ z. omega arith) ∙ p.others j (λ z. omega arith);
    }

-- a test of all sections, by their places
list_to-range : {A : Type 0} (f : ℕ → A) (n : ℕ) → list_to f n ≡ map f (range_with_len 0 n)
unfolding list_to
list_to-range f zero = refl
list_to-range f (suc n) = rw (list_to-range f n) (sym (rw add-one at (map-range_with_len_more f 0 n n (omega arith))))

all-stand : (l : Slots) (t : Length) → all_stand t l ≡ all_of (stands_under t) (tower_in l).sections
unfolding all_stand
all-stand l t =
    let f : ℕ → Section = section_at l (ice_on (ground_of l)) in
    sym (list_all-map (stands_under t) f (range_with_len 0 (count_in l)))
    ∙ ap (all_of (stands_under t)) (sym (sections-are l ∙ list_to-range f (count_in l)))

-- all that are in their ranges stand exactly if none is too solid
module _ (class : ℕ) (f : ℕ → Section) (fits : (i : ℕ) → section_fits (f i) ≡ true) where
  stands : (i : ℕ) → stands_under (thickness class) (f i) ≡ not (is_too_solid class (f i))
  stands i = rw (fits i) (leb-ltb (solid_of (thickness class) (f i).groups).0 (gross (f i)).0)

  none-solid : (n : ℕ) → any_of (is_too_solid class) (list_to f n) ≡ not (all_of (stands_under (thickness class)) (list_to f n))
  unfolding list_to
  none-solid zero = refl
  none-solid (suc n) =
      rw (all-of-append, any_append, none-solid n, stands n) (either (all_of (stands_under (thickness class)) (list_to f n)) (is_too_solid class (f n)))
    where
      either : (a b : Bool) → (not a || (b || false)) ≡ not (a && (not b && true))
      either true true = refl
      either true false = refl
      either false b = refl

-- the rules over what the slots tell
pub refusal_fallen : (l : Slots) (w : Wind) → is_standing l ≡ false → wind_refusal (state_of l) w ≡ 1
refusal_fallen l w s = rw (fallen l s) refl

pub refusal_told : (l : Slots) (w : Wind) → is_standing l ≡ true
    → wind_refusal (state_of l) w
    ≡ refuse_if (not (direction_fits (legs_of (cell l 0 1)) w.direction)) 15
    (refuse_if (not (within ice_classes w.ice)) 16
    (refuse_if (not (within structure_factor w.factor)) 17
    (refuse_if (not (eqb (length w.pressures) (count_in l))) 18
    (refuse_if (not (all_of (within pressures) w.pressures)) 19
    (refuse_if (not (all_stand (thickness w.ice) l)) 20 0)))))
unfolding ground_of
refusal_told l w s =
    let ice = ice_on (ground_of l) in
    let solid : any_of (is_too_solid w.ice) (tower_in l).sections ≡ not (all_stand (thickness w.ice) l) =
    rw (all-stand l (thickness w.ice), sections-are l) (none-solid w.ice (section_at l ice) (section-fits l ice (ice-thin l)) (count_in l)) in
    rw (standing-as l s, section-count l, solid) refl

pub ruleset wind_rules = (refusal_fallen, refusal_told, nat_tests)
