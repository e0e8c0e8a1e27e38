-- Calls behind calls, rounds behind rounds, and a report behind a report.
use Rattle.std.proofs.Common.{◌≡◌, ℕ, zero, suc, ◌+◌, ◌*◌, ◌%◌, ◌^◌, ◌≤◌, ◌<◌, Bool, true, false, cond, eqb, ltb, List, [], ◌∷◌, ◌++◌, length, drop, sym, refl, ap, ◌∙◌, subst, add-one, arith, length-append, length-drop, ltb-false, ne_eqb}
use mathlib.Core.Option.{none, some}
use native.Mathlib.Nat.{mod-add-mod, add-mod-mod}
use lib.Seq.{drop-append_seam}
use Rattle.std.proofs.lemmas.Bool.Decides.{nat_tests}
use Rattle.std.specs.Prelude.{Result, Err, ⊤}
use Rattle.model.specs.declared.Refusal.{Refusal}
use Rattle.model.specs.Answers.{Reply, refusal_number, answer_reply, answer_number}
use Rattle.model.specs.Tower.{Tower, Wind}
use Rattle.model.specs.Report.{rows_of}
use Rattle.model.specs.Machine.{State, no_tower, standing, filled, refuse_if, report_refusal, rows_in}
use Rattle.model.specs.Calls.{Call, erect, wind, report, refusal_of, step, lent_after, run}
use Rattle.model.proofs.Refused.{same-state}
use Rattle.model.proofs.Says.{refusal-positive}
use Rattle.model.proofs.Rows.{length-rows}
use Rattle.slots.specs.Held.{Slots, is_standing, state_of, empty_slots}
use Rattle.slots.specs.Promises.{Meets}
use Rattle.call_bench.specs.Repeated.{windy, once, accepted_in, report_round, After, rounds_to, Counted, Reported}

-- erect and wind, from fresh
fresh-none : state_of empty_slots ≡ no_tower
unfolding state_of is_standing
fresh-none = refl

pub windy-known : (file : List ℕ) (w : Wind) {s t : Slots} {a b : Reply} {k l : List ℕ} → Meets (erect file) empty_slots s a k
    → Meets (wind w) s t b l → state_of t ≡ windy file w
unfolding windy
windy-known file w q r = r.state ∙ ap (λ (m : State). step m (wind w)) (q.state ∙ ap (λ (m : State). step m (erect file)) fresh-none)

-- a call that is turned down is not counted
pub not-counted : {e : Refusal} (n : ℕ) (a : Result ⊤ Refusal) → n < 2 ^ 64 → a ≡ Err e → n ≡ (n + once (answer_number a)) % 2 ^ 64
not-counted {e} n a h k =
    let p : _ = refusal-positive e in
    rw (k, ne_eqb (refusal_number e) 0 (λ (z : refusal_number e ≡ 0). omega arith)) (omega arith)

-- one list behind another
run-append : (m : State) (cs ds : List Call) → run m (cs ++ ds) ≡ run (run m cs) ds
run-append m [] ds = refl
run-append m (c ∷ cs) ds = run-append (step m c) cs ds

accepted-append : (m : State) (cs ds : List Call) → accepted_in m (cs ++ ds) ≡ accepted_in m cs + accepted_in (run m cs) ds
unfolding accepted_in
accepted-append m [] ds = omega arith
accepted-append m (c ∷ cs) ds = omega (arith, accepted-append (step m c) cs ds)

once-small : (n : ℕ) → once n ≤ 1
once-small n = grind (arith, nat_tests)

counted-one : (m : State) (c : Call) {n : ℕ} → n ≡ once (refusal_of m c) → Counted m (c ∷ []) n
unfolding accepted_in
counted-one m c e = omega (arith, e, once-small (refusal_of m c))

-- a call and its answer
pub after_one : (c : Call) {s t : Slots} {r : Reply} {lent : List ℕ} {n : ℕ} → Meets c s t r lent → n ≡ once r.number → After (state_of s) (c ∷ []) t n
after_one c {s} h e = record { state = h.state; count = counted-one (state_of s) c (e ∙ ap (λ (x : Reply). once x.number) h.reply) }

-- a call behind a call
pub after_two : (c d : Call) {s t u : Slots} {a b : Reply} {k l : List ℕ} {n p : ℕ} → Meets c s t a k → n ≡ once a.number
    → Meets d t u b l → p ≡ once b.number → After (state_of s) (c ∷ d ∷ []) u (n + p)
unfolding accepted_in
after_two c d {s} {t} {n = n} {p = p} g e h f =
    let first : n ≡ once (refusal_of (state_of s) c) = e ∙ ap (λ (x : Reply). once x.number) g.reply in
    let second : p ≡ once (refusal_of (step (state_of s) c) d) =
    f ∙ ap (λ (x : Reply). once x.number) h.reply ∙ ap (λ (m : State). once (refusal_of m d)) g.state in
    record {
      state = h.state ∙ ap (λ (m : State). step m d) g.state;
      count = omega (arith, first, second, once-small (refusal_of (state_of s) c), once-small (refusal_of (step (state_of s) c) d));
    }

module _ (m : State) where
  counted-more : (cs ds : List Call) {n k r : ℕ} → Counted m cs n → Counted (run m cs) ds k → r ≡ (n + k) % 2 ^ 64 → Counted m (cs ++ ds) r
  counted-more cs ds p q e = rw (e, p, q, accepted-append, mod-add-mod, add-mod-mod)

  pub after_more : (cs ds : List Call) {s t : Slots} {n k r : ℕ} → After m cs s n → After (state_of s) ds t k → r ≡ (n + k) % 2 ^ 64 → After m (cs ++ ds) t r
  after_more cs ds {k = k} p q e =
      record {
        state = q.state ∙ ap (λ (x : State). run x ds) p.state ∙ sym (run-append m cs ds);
        count = counted-more cs ds p.count (subst (λ (x : State). Counted x ds k) p.state q.count) e;
      }

  -- rounds
  module _ (round : State → ℕ → List Call) where
    pub no-round : {s : Slots} → state_of s ≡ m → After m (rounds_to round m 0) s 0
    unfolding accepted_in rounds_to
    no-round e = record { state = e; count = refl }

    pub round-more : (i : ℕ) {s t : Slots} {n k r : ℕ} → After m (rounds_to round m i) s n → After (state_of s) (round (state_of s) i) t k
        → r ≡ (n + k) % 2 ^ 64 → After m (rounds_to round m (i + 1)) t r
    unfolding rounds_to
    round-more i {t = t} {r = r} p q e =
        rw add-one (subst (λ (x : State). After m (rounds_to round m i ++ round x i) t r) p.state (after_more (rounds_to round m i) _ p q e))

-- a report into what a report left
filled-again : (n : ℕ) (given lent : List ℕ) → filled n given (filled n given lent) ≡ filled n given lent
unfolding filled
filled-again n given lent = by-case (eqb n 0)
  where
    out : Bool → List ℕ → List ℕ
    out b l = cond b (given ++ drop (length given) l) l

    by-case : (b : Bool) → out b (out b lent) ≡ out b lent
    by-case true = ap (λ l. given ++ l) (drop-append_seam given _)
    by-case false = refl

length-filled : (t : Tower) (w : Wind) (lent : List ℕ) (b : Bool) → ltb (length lent) (6 * length t.sections) ≡ b
    → length (filled (refuse_if b 22 0) (rows_of t w) lent) ≡ length lent
unfolding filled
length-filled t w lent true e = refl
length-filled t w lent false e =
    let h : 6 * length t.sections ≤ length lent = ltb-false _ _ e in
    simp (length-append, length-drop) (omega (arith, length-rows t w (length t.sections)))

length-reported : (m : State) (lent : List ℕ) → length (lent_after m (report lent)) ≡ length lent
unfolding filled
length-reported no_tower lent = refl
length-reported (standing t none) lent = refl
length-reported (standing t (some w)) lent = length-filled t w lent (ltb (length lent) (6 * length t.sections)) refl

reported-again : (m : State) (lent : List ℕ) → lent_after m (report (lent_after m (report lent))) ≡ lent_after m (report lent)
reported-again m lent =
    ap (λ (k : ℕ). filled (report_refusal m k) (rows_in m) (lent_after m (report lent))) (length-reported m lent)
    ∙ filled-again (report_refusal m (length lent)) (rows_in m) lent

module _ (m : State) (before : List ℕ) where
  abbrev reports : ℕ → List Call
  reports = rounds_to (λ _ _. report_round before) m

  pub reported-none : Reported m 0 before before 0
  unfolding accepted_in rounds_to
  reported-none = record { answer = refl; rows = refl }

  -- what is lent to round i, and what it leaves
  lent-in : (i : ℕ) (lent : List ℕ) → lent ≡ cond (eqb i 0) before (lent_after m (report before))
      → (length lent ≡ length before) × (lent_after m (report lent) ≡ lent_after m (report before))
  lent-in i lent e = by-case (eqb i 0) e
    where
      by-case : (b : Bool) → lent ≡ cond b before (lent_after m (report before))
          → (length lent ≡ length before) × (lent_after m (report lent) ≡ lent_after m (report before))
      by-case true f = (ap length f, ap (λ (l : List ℕ). lent_after m (report l)) f)
      by-case false f = (ap length f ∙ length-reported m before, ap (λ (l : List ℕ). lent_after m (report l)) f ∙ reported-again m before)

  run-reports : (n : ℕ) → run m (reports n) ≡ m
  unfolding rounds_to
  run-reports zero = refl
  run-reports (suc n) =
      run-append m (reports n) (report before ∷ [])
      ∙ ap (λ (x : State). step x (report before)) (run-reports n)
      ∙ same-state m (report before) refl

  pub reported-more : (i : ℕ) {lent after : List ℕ} (s : Slots) (a : Result ⊤ Refusal) {n r : ℕ} → state_of s ≡ m → Reported m i before lent n
      → Meets (report lent) s s (answer_reply a) after → r ≡ (n + once (answer_number a)) % 2 ^ 64 → Reported m (i + 1) before after r
  unfolding rounds_to
  reported-more i {lent} s a {n} {r} known p h e =
      let so : _ = lent-in i lent p.rows in
      let refusal : answer_number a ≡ refusal_of (run m (reports i)) (report before) =
      ap (λ (x : Reply). x.number) h.reply ∙ ap (λ (x : State). report_refusal x (length lent)) known ∙ ap (report_refusal m) so.0
      ∙ sym (ap (λ (x : State). report_refusal x (length before)) (run-reports i)) in
      record {
        answer = rw add-one (counted-more m (reports i) (report before ∷ []) p.answer (counted-one (run m (reports i)) (report before) (ap once refusal)) e);
        rows =
            rw (ne_eqb (i + 1) 0 (λ (z : i + 1 ≡ 0). omega arith)) (h.lent ∙ ap (λ (x : State). lent_after x (report lent)) known ∙ so.1);
      }

  pub reported-length : (i : ℕ) {after : List ℕ} {r : ℕ} → Reported m i before after r → length after ≡ length before
  reported-length i {after} p = (lent-in i after p.rows).0
