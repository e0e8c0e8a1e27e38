-- Each rule of wind over the slots: the number that comes where those before it are not met.
use Rattle.std.proofs.Common.{◌≡◌, ℕ, Bool, true, false, not, length, eqb, eq-eqb, ne_eqb, sym, ap, ◌∙◌}
use Rattle.model.specs.declared.Legs.{Legs}
use Rattle.model.specs.Lists.{all_of, any_of, list_to}
use Rattle.model.specs.Tower.{Wind}
use Rattle.model.specs.Ranges.{within, ice_classes, structure_factor, pressures}
use Rattle.model.specs.File.{legs_of}
use Rattle.model.specs.Machine.{direction_fits, is_too_solid}
use Rattle.model.specs.Calls.{wind, refusal_of}
use Rattle.slots.specs.Held.{Slots, cell, is_standing, count_in, section_at, ground_of, ice_on, tower_in, state_of}
use Rattle.slots.proofs.WaysOut.{refusal-of, met, unmet}
use Rattle.slots.proofs.Grounds.{standing-as, section-count, sections-are}

-- slots that hold a tower
module _ (l : Slots) (s : is_standing l ≡ true) (w : Wind) where
  abbrev winds : ℕ → Type 0
  winds n = refusal_of (state_of l) (wind w) ≡ n

  abbrev legs : Legs
  legs = legs_of (cell l 0 1)

  pub wind-direction : direction_fits legs w.direction ≡ false → winds 15
  unfolding ground_of
  wind-direction e = refusal-of (wind w) (standing-as l s) (met 15 _ (ap not e))

  module _ (d : direction_fits legs w.direction ≡ true) where
    pub wind-ice : within ice_classes w.ice ≡ false → winds 16
    unfolding ground_of
    wind-ice e = refusal-of (wind w) (standing-as l s) (unmet 15 (ap not d) (met 16 _ (ap not e)))

    module _ (i : within ice_classes w.ice ≡ true) where
      pub wind-factor : within structure_factor w.factor ≡ false → winds 17
      unfolding ground_of
      wind-factor e = refusal-of (wind w) (standing-as l s) (unmet 15 (ap not d) (unmet 16 (ap not i) (met 17 _ (ap not e))))

      module _ (f : within structure_factor w.factor ≡ true) where
        pub wind-count : (length w.pressures ≡ count_in l → ⊥) → winds 18
        unfolding ground_of
        wind-count e =
            let c : eqb (length w.pressures) (length (tower_in l).sections) ≡ false =
            ne_eqb (length w.pressures) (length (tower_in l).sections) (λ x. e (x ∙ section-count l)) in
            refusal-of (wind w) (standing-as l s) (unmet 15 (ap not d) (unmet 16 (ap not i) (unmet 17 (ap not f) (met 18 _ (ap not c)))))

        module _ (n : length w.pressures ≡ count_in l) where
          counted : eqb (length w.pressures) (length (tower_in l).sections) ≡ true
          counted = eq-eqb (length w.pressures) (length (tower_in l).sections) (n ∙ sym (section-count l))

          pub wind-pressure : all_of (within pressures) w.pressures ≡ false → winds 19
          unfolding ground_of
          wind-pressure e =
              refusal-of (wind w) (standing-as l s)
              (unmet 15 (ap not d) (unmet 16 (ap not i) (unmet 17 (ap not f) (unmet 18 (ap not counted) (met 19 _ (ap not e))))))

          module _ (p : all_of (within pressures) w.pressures ≡ true) where
            abbrev pub too_solid : Bool
            too_solid = any_of (is_too_solid w.ice) (list_to (section_at l (ice_on (ground_of l))) (count_in l))

            pub wind-solid : too_solid ≡ true → winds 20
            unfolding ground_of
            wind-solid e =
                let solid : any_of (is_too_solid w.ice) (tower_in l).sections ≡ true = ap (any_of (is_too_solid w.ice)) (sections-are l) ∙ e in
                refusal-of (wind w) (standing-as l s)
                (unmet 15 (ap not d) (unmet 16 (ap not i) (unmet 17 (ap not f) (unmet 18 (ap not counted) (unmet 19 (ap not p) (met 20 _ solid))))))
