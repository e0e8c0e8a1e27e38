-- The call in its order: erect's refusals, then wind's, then 22.
use Prim.Native.Nat.{ℕ, ◌*◌, ◌<◌}
use mathlib.Core.Path.{◌≡◌, refl, ap, ap₂, sym, ◌∙◌}
use mathlib.Core.Bool.{Bool, true, false, cond, not}
use mathlib.Core.List.{List, []}
use mathlib.Core.Option.{none, some}
use native.Mathlib.Omega.{arith}
use lib.Dec.{ltb, eqb}
use lib.ListN.{length}
use borrow.Author.Tests.{eqb-true, eq-eqb, ne_eqb}
use Rattle.model.specs.declared.Refusal.{Refusal}
use Rattle.model.specs.Answers.{Reply, refusal_number, accepts, refuses}
use Rattle.model.specs.Lists.{all_of}
use Rattle.model.specs.Ranges.{within, section_count, ice_classes, structure_factor}
use Rattle.model.specs.Tower.{Tower, Wind}
use Rattle.model.specs.Reading.{Parsed, got, refused}
use Rattle.model.specs.File.{read_file}
use Rattle.model.specs.Machine.{State, standing, refuse_if, file_refusal, erected, erect_refusal, direction_fits, wind_rules, wind_refusal, filled}
use Rattle.model.specs.Calls.{Call, bits, erect, wind, refusal_of, step}
use Rattle.model.specs.Host.{pressures_of, host_wind, after_file, host_refusal, host_rows, host_out}
use Rattle.model.proofs.Accepted.{accepted-valid, accepted-all}
use Rattle.model.proofs.FileRefusals.{Numbered, taken, number, file-numbered}
use Rattle.model.proofs.HostCall.{pressures-count, wind-then, host-out-refused}
use Rattle.model.proofs.Refused.{erect-state}
use Rattle.model.proofs.Says.{refusal-positive}
use Rattle.model.proofs.Sections.{in-range}
use Rattle.slots.specs.Held.{Slots, count_in, state_of}
use Rattle.slots.specs.Promises.{Meets, wind_asked}
use Rattle.host.specs.Promises.{Hosts, pressures_asked, RowsLent}
use Rattle.host.proofs.RowsOut.{sections-counted}

-- the number that a call answers
answered : {c : Call} {before after : Slots} {r : Reply} {lent : List ℕ} → Meets c before after r lent → r.number ≡ refusal_of (state_of before) c
answered h = ap (λ (r : Reply). r.number) h.reply

-- the tower that erect leaves where it is accepted
pub record Erected (file : List ℕ) (l : Slots) : Type 0 where
  pub tower : Tower
  pub read : read_file file ≡ got tower []
  pub state : state_of l ≡ standing tower none

erected-by : (file : List ℕ) (l : Slots) (m : State) (p : Parsed Tower) → read_file file ≡ p → Numbered p → file_refusal p ≡ 0
    → state_of l ≡ erected m p → Erected file l
erected-by file l m (refused n) r (number h u) e f = absurd (omega arith)
erected-by file l m (got t rest) r taken e f = record { tower = t; read = r ∙ ap (got t) (accepted-all file r); state = f }

pub erect-accepted : (file : List ℕ) {before after : Slots} → Meets (erect file) before after (accepts []) file → Erected file after
unfolding erect_refusal
erect-accepted file {before} {after} h =
    erected-by file after (state_of before) (read_file file) refl (file-numbered file) (sym (answered h)) (h.state ∙ erect-state (state_of before) file)

-- 15 to 18 where the count is wrong
miscounted : (a b c : Bool) → refuse_if a 15 (refuse_if b 16 (refuse_if c 17 18)) ≡ 0 → ⊥
miscounted true b c e = omega arith
miscounted false true c e = omega arith
miscounted false false true e = omega arith
miscounted false false false e = omega arith

-- wind's rules, with the pressures that it is given, are the host call's
module _ (t : Tower) (k ice factor : ℕ) (ps : List ℕ) (some-section : 0 < length t.sections) where
  abbrev given : Bool → Wind
  given counted = wind_asked k ice factor (cond counted (pressures_of ps) [])

  same_count : (b : Bool) → eqb (length ps) (2 * length t.sections) ≡ b → eqb (length (given b).pressures) (length t.sections) ≡ b
  same_count true e =
      eq-eqb (length (pressures_of ps)) (length t.sections) (pressures-count (length t.sections) ps (eqb-true (length ps) (2 * length t.sections) e))
  same_count false e = ne_eqb 0 (length t.sections) (λ (z : 0 ≡ length t.sections). omega arith)

  abbrev asked : Wind
  asked = given (eqb (length ps) (2 * length t.sections))

  same-rules : (b : Bool) (next : ℕ) → wind_rules t (host_wind k ice factor ps) b next ≡ wind_rules t (given b) b next
  same-rules true next = refl
  same-rules false next = refl

  in_order : (next : ℕ)
      → wind_rules t (host_wind k ice factor ps) (eqb (length ps) (2 * length t.sections)) next
      ≡ cond (eqb (wind_refusal (standing t none) asked) 0) next (wind_refusal (standing t none) asked)
  in_order next =
      let b : Bool = eqb (length ps) (2 * length t.sections) in
      same-rules b next ∙ wind-then t asked b next
      ∙ ap (λ (c : Bool). cond (eqb (wind_rules t asked c 0) 0) next (wind_rules t asked c 0)) (sym (same_count b refl))

  counted : wind_refusal (standing t none) asked ≡ 0 → asked ≡ host_wind k ice factor ps
  counted h = by-case (eqb (length ps) (2 * length t.sections)) refl h
    where
      by-case : (b : Bool) → eqb (length ps) (2 * length t.sections) ≡ b → wind_refusal (standing t none) (given b) ≡ 0
          → given b ≡ host_wind k ice factor ps
      by-case true e g = refl
      by-case false e g =
          absurd
          (miscounted (not (direction_fits t.legs k)) (not (within ice_classes ice)) (not (within structure_factor factor)) (rw (same_count false e) at g))

-- the call's outcomes
module _ (file : List ℕ) (k ice factor : ℕ) (ps : List ℕ) where
  turned_down : {lent : List ℕ} {n : ℕ} → n ≡ host_refusal file k ice factor ps (length lent) → 0 < n → Hosts file k ice factor ps lent lent n
  turned_down {lent} {n} e h =
      record { answer = e; rows = sym (host-out-refused file k ice factor ps lent (λ z. omega arith)) }

  by-file : (p : Parsed Tower) (room : ℕ) → 0 < file_refusal p → file_refusal p ≡ after_file p (host_wind k ice factor ps) (length ps) room
  by-file (got t rest) room h = absurd (omega arith)
  by-file (refused n) room h = refl

  pub erect-refused : {before after : Slots} {lent : List ℕ} (e : Refusal) → Meets (erect file) before after (refuses e) file
      → Hosts file k ice factor ps lent lent (refusal_number e)
  unfolding host_refusal erect_refusal
  erect-refused {lent = lent} e h =
      let p : 0 < refusal_number e = refusal-positive e in
      let f : refusal_number e ≡ file_refusal (read_file file) = answered h in
      turned_down (f ∙ by-file (read_file file) (length lent) (omega arith)) p

  -- after an accepted erect
  module _ {l : Slots} (h : Erected file l) (typed : all_of (bits 8) file ≡ true) where
    abbrev tower : Tower
    tower = h.tower

    some-section : 0 < length tower.sections
    some-section = (in-range section_count (length tower.sections) (accepted-valid file typed h.read).count).low

    abbrev asked_wind : Wind
    asked_wind = wind_asked k ice factor (pressures_asked (length tower.sections) ps)

    refusal : ℕ
    refusal = wind_refusal (standing tower none) asked_wind

    host-number : (room : ℕ)
        → host_refusal file k ice factor ps room ≡ cond (eqb refusal 0) (refuse_if (ltb room (48 * length tower.sections)) 22 0) refusal
    unfolding host_refusal refusal
    host-number room =
        ap (λ (p : Parsed Tower). after_file p (host_wind k ice factor ps) (length ps) room) h.read
        ∙ in_order tower k ice factor ps some-section _

    -- wind is given the pressures for so many sections as the tower has
    module _ (after : Slots) {qs : List ℕ} (asked : qs ≡ pressures_asked (count_in l) ps) where
      abbrev Winds : Reply → Type 0
      Winds r = Meets (wind (wind_asked k ice factor qs)) l after r qs

      asked-so : {r : Reply} → Winds r → Meets (wind asked_wind) l after r asked_wind.pressures
      asked-so g = rw (sections-counted l h.state, ← asked) g

      number_is : {r : Reply} → Winds r → r.number ≡ refusal
      unfolding refusal
      number_is g = answered (asked-so g) ∙ ap (λ (m : State). wind_refusal m asked_wind) h.state

      pub wind-refused : {lent : List ℕ} (e : Refusal) → Winds (refuses e) → Hosts file k ice factor ps lent lent (refusal_number e)
      wind-refused {lent} e g =
          let p : 0 < refusal_number e = refusal-positive e in
          let z : eqb refusal 0 ≡ false = ne_eqb refusal 0 (λ (y : refusal ≡ 0). omega (arith, number_is g)) in
          turned_down (number_is g ∙ sym (host-number (length lent) ∙ rw z)) p

      module _ (g : Winds (accepts [])) where
        none-met : refusal ≡ 0
        none-met = sym (number_is g)

        blows : state_of after ≡ standing tower (some (host_wind k ice factor ps))
        unfolding refusal
        blows =
            (asked-so g).state
            ∙ ap (λ (m : State). step m (wind asked_wind)) h.state
            ∙ ap (λ (n : ℕ). cond (eqb n 0) (standing tower (some asked_wind)) (standing tower none)) none-met
            ∙ ap (λ (w : Wind). standing tower (some w)) (counted tower k ice factor ps some-section none-met)

        pub rows-lent : {before out : List ℕ} {n : ℕ}
            → ((t : Tower) (w : Wind) → state_of after ≡ standing t (some w) → RowsLent t w before out n)
            → Hosts file k ice factor ps before out n
        unfolding host_out
        rows-lent {before} {out} {n} lent =
            let o : RowsLent tower (host_wind k ice factor ps) before out n = lent tower (host_wind k ice factor ps) blows in
            let same : n ≡ host_refusal file k ice factor ps (length before) = o.answer ∙ sym (host-number (length before) ∙ rw none-met) in
            record {
              answer = same;
              rows =
                  o.rows
                  ∙ ap₂ (λ (m : ℕ) (l : List ℕ). filled m l before) same
                  (sym (ap (λ (p : Parsed Tower). host_rows p (host_wind k ice factor ps)) h.read));
            }
