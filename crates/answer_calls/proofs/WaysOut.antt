-- The ways out of report, check and write, over plain values.
use Prim.Native.Nat.{ℕ, ◌*◌, ◌≤◌, ◌<◌}
use mathlib.Core.Path.{◌≡◌, refl, ap, sym, subst, ◌∙◌}
use mathlib.Core.Bool.{true, false}
use mathlib.Core.List.{List, [], ◌++◌}
use mathlib.Core.Option.{none, some}
use native.Mathlib.Omega.{arith}
use lib.ListN.{length, drop}
use borrow.Author.Tests.{lt-ltb, le-ltb}
use Rattle.std.specs.Prelude.{Option, Some, None, Result, Ok, is_some, IfSome, IfOk, IfErr, ok_or, option_to_list}
use Rattle.model.specs.declared.Refusal.{Refusal}
use Rattle.model.specs.declared.Refusal.TheVariants as refusal
use Rattle.model.specs.Answers.{accepts, refuses, refusal_number, check_reply, write_reply}
use Rattle.model.specs.Tower.{Tower}
use Rattle.model.specs.Report.{rows_of, topmost_over}
use Rattle.model.specs.Machine.{State, no_tower, standing, check_refusal, report_refusal}
use Rattle.model.specs.Calls.{report, check, write}
use Rattle.model.proofs.Says.{refusal-positive, accepted-reply}
use Rattle.model.proofs.Refused.{same-lent}
use Rattle.model.proofs.Rows.{report-rows}
use Rattle.tower_file.specs.Written.{WritesFile}
use Rattle.slots.specs.Held.{Slots, is_standing, count_in, ground_of, is_windy, tower_in, wind_in, state_of}
use Rattle.slots.specs.Promises.{Meets}
use Rattle.slots.proofs.Grounds.{standing-as, fallen, section-count}
use Rattle.rows.specs.declared.loads.LoadedTower.{LoadedTower}
use Rattle.slots.proofs.WaysOut.{turned_down, answered, refusal-of, met, unmet}

-- the tower under its wind
abbrev windy_state : Slots → State
windy_state l = standing (tower_in l) (some (wind_in l))

-- where report and check have no tower under a wind
pub fallen-refused : (l : Slots) → is_standing l ≡ false → 1 ≡ check_refusal (state_of l)
fallen-refused l e = sym (refusal-of check (fallen l e) refl)

module _ (l : Slots) (s : is_standing l ≡ true) (o : Option LoadedTower) (stands : is_some o ≡ is_windy (ground_of l)) where
  calm : is_windy (ground_of l) ≡ false → state_of l ≡ standing (tower_in l) none
  calm e = standing-as l s ∙ rw e

  windy : is_windy (ground_of l) ≡ true → state_of l ≡ windy_state l
  windy e = standing-as l s ∙ rw e

  pub calm-refused : IfErr (ok_or o refusal.NoWind) (λ e. refusal_number e ≡ check_refusal (state_of l))
  calm-refused = by-case o stands
    where
      by-case : (p : Option LoadedTower) → is_some p ≡ is_windy (ground_of l)
          → IfErr (ok_or p refusal.NoWind) (λ e. refusal_number e ≡ check_refusal (state_of l))
      by-case None e = sym (refusal-of check (calm (sym e)) refl)
      by-case (Some t) e = tt

  pub loaded : IfSome o (λ t. t.state.now ≡ l) → IfOk (ok_or o refusal.NoWind) (λ t. (t.state.now ≡ l) × (state_of l ≡ windy_state l))
  loaded = by-case o stands
    where
      by-case : (p : Option LoadedTower) → is_some p ≡ is_windy (ground_of l) → IfSome p (λ t. t.state.now ≡ l)
          → IfOk (ok_or p refusal.NoWind) (λ t. (t.state.now ≡ l) × (state_of l ≡ windy_state l))
      by-case None e f = tt
      by-case (Some t) e f = (f, windy (sym e))

-- report has check's refusals
same-refusal : (m : State) (room n : ℕ) → n ≡ check_refusal m → (n ≡ 0 → ⊥) → report_refusal m room ≡ n
same-refusal no_tower room n e k = sym e
same-refusal (standing t none) room n e k = sym e
same-refusal (standing t (some w)) room n e k = absurd (k e)

module _ (l : Slots) (e : Refusal) (refused : refusal_number e ≡ check_refusal (state_of l)) where
  pub check-refused : Meets check l l (refuses e) []
  check-refused = turned_down check l e (sym refused)

  pub report-refused : (lent : List ℕ) → Meets (report lent) l l (refuses e) lent
  report-refused lent =
      let p : 0 < refusal_number e = refusal-positive e in
      turned_down (report lent) l e (same-refusal (state_of l) (length lent) (refusal_number e) refused (λ z. omega arith))

-- under a wind
module _ (l : Slots) (windy : state_of l ≡ windy_state l) where
  pub report-short : (lent : List ℕ) → length lent < 6 * count_in l → Meets (report lent) l l (refuses refusal.OutputShort) lent
  report-short lent h =
      turned_down (report lent) l refusal.OutputShort
      (refusal-of (report lent) windy (met 22 _ (lt-ltb (length lent) (6 * length (tower_in l).sections) (omega (arith, section-count l)))))

  pub report-done : (lent : List ℕ) {after : List ℕ} → 6 * count_in l ≤ length lent
      → after ≡ rows_of (tower_in l) (wind_in l) ++ drop (6 * count_in l) lent → Meets (report lent) l l (accepts []) after
  report-done lent h f =
      let k : 6 * length (tower_in l).sections ≤ length lent = omega (arith, section-count l) in
      answered (report lent) l refl windy (sym (accepted-reply (windy_state l) (report lent) (unmet 22 (le-ltb (length lent) _ k) refl)))
      (f ∙ ap (λ (n : ℕ). rows_of (tower_in l) (wind_in l) ++ drop (6 * n) lent) (sym (section-count l))
      ∙ sym (report-rows (tower_in l) (wind_in l) lent k))

  pub check_done : (o : Option ℕ) → option_to_list o ≡ topmost_over (tower_in l) (wind_in l) → Meets check l l (check_reply (Ok o)) []
  check_done o h = answered check l refl windy (values o ∙ ap accepts h) (sym (same-lent (windy_state l) check refl))
    where
      values : (p : Option ℕ) → check_reply (Ok p) ≡ accepts (option_to_list p)
      values (Some i) = refl
      values None = refl

-- where no tower stands, write is turned down
pub write-fallen : (l : Slots) → is_standing l ≡ false → (lent : List ℕ) → Meets (write lent) l l (refuses refusal.NoTower) lent
write-fallen l e lent = turned_down (write lent) l refusal.NoTower (refusal-of (write lent) (fallen l e) refl)

-- its reply and bytes are those under no wind, whichever stands
pub write_done : (l : Slots) → is_standing l ≡ true → (lent : List ℕ) {t : Tower} {after : List ℕ} {r : Result ℕ Refusal} → t ≡ tower_in l
    → WritesFile t lent after r → Meets (write lent) l l (write_reply r) after
write_done l s lent {t} {after} {r} e h =
    let g : WritesFile (tower_in l) lent after r = subst (λ (x : Tower). WritesFile x lent after r) e h in
    answered (write lent) l refl (standing-as l s) g.answer g.bytes
