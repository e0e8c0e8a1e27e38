-- What follows from the promise of the C call: it is erect, wind and report from fresh. `Called` is the function's own
-- contract, of what is handed over and handed back.
use Prim.Native.Nat.{ℕ, ◌*◌, ◌/◌}
use mathlib.Core.Path.{◌≡◌, refl, sym, subst, ◌∙◌}
use mathlib.Core.Bool.{cond}
use mathlib.Core.List.{List, [], ◌∷◌, ◌++◌}
use lib.Dec.{eqb}
use lib.ListN.{length, drop}
use contract.Lifetimes.{Lfts}
use denote.Ref.{Bor}
use denote.MutBor.{MutBor}
use Rattle.model.specs.Lists.{joined}
use Rattle.model.specs.Bytes.{bytes}
use Rattle.model.specs.Machine.{State, no_tower, rows_in}
use Rattle.model.specs.Calls.{Call, erect, wind, report, refusal_of, step, run, first_refusal}
use Rattle.model.specs.Host.{host_wind}
use Rattle.model.proofs.HostCall.{host-refusal, host-rows, host-out, host-out-refused}
use Rattle.service.proofs.Links.{first-none}
use Rattle.host.proofs.dembyhai_report.Reads as host-reads

-- where a call is accepted and all after it are
none_first : (m : State) (c : Call) (cs : List Call) → refusal_of m c ≡ 0 → first_refusal (step m c) cs ≡ 0 → first_refusal m (c ∷ cs) ≡ 0
none_first m c cs z h = subst (λ (n : ℕ). cond (eqb n 0) (first_refusal (step m c) cs) n ≡ 0) (sym z) h

abbrev pub Called : Lfts 3 → Bor (List ℕ) → ℕ → ℕ → ℕ → Bor (List ℕ) → MutBor (List ℕ) → ℕ → MutBor (List ℕ) → Type 0
Called κ file k ice factor ps rows r after =
    host-reads.Post κ (file, (k, (ice, (factor, (ps, (rows, tt)))))) r (file, (k, (ice, (factor, (ps, (after, tt))))))

module _ (κ : Lfts 3) (file : Bor (List ℕ)) (k ice factor : ℕ) (ps : Bor (List ℕ)) (rows after : MutBor (List ℕ)) {r : ℕ} (h : Called κ file k ice factor ps rows r after) where
  -- on a refusal no byte changes
  pub host-untouched : (r ≡ 0 → ⊥) → after.now ≡ rows.now
  host-untouched n = h.rows ∙ host-out-refused file.now k ice factor ps.now rows.now (λ z. n (h.answer ∙ z))

  -- for an even number of pressure bytes it is the three calls, the report into as many numbers as the lent bytes hold
  module _ (m : ℕ) (even : length ps.now ≡ 2 * m) (out : List ℕ) (as_long : length out ≡ length rows.now / 8) where
    pub host-first : r ≡ first_refusal no_tower (erect file.now ∷ wind (host_wind k ice factor ps.now) ∷ report out ∷ [])
    host-first = h.answer ∙ host-refusal file.now k ice factor ps.now m even (length rows.now) out as_long

    abbrev calls : List Call
    calls = erect file.now ∷ wind (host_wind k ice factor ps.now) ∷ []

    both-accepted : r ≡ 0 → first_refusal no_tower calls ≡ 0
    both-accepted z =
        let e : Call = erect file.now in
        let w : Call = wind (host_wind k ice factor ps.now) in
        let a : _ = first-none no_tower e (w ∷ report out ∷ []) (sym host-first ∙ z) in
        let b : _ = first-none (step no_tower e) w (report out ∷ []) a.1 in
        none_first no_tower e (w ∷ []) a.0 (none_first (step no_tower e) w [] b.0 refl)

    -- the rows of the state that erect and wind leave, 8 bytes a number, and then the rest as it was
    pub host-given : r ≡ 0
        → after.now ≡ joined (bytes 8) (rows_in (run no_tower calls)) ++ drop (length (joined (bytes 8) (rows_in (run no_tower calls)))) rows.now
    host-given z =
        subst (λ (x : List ℕ). after.now ≡ x ++ drop (length x) rows.now) (host-rows file.now (host_wind k ice factor ps.now) (both-accepted z))
        (h.rows ∙ host-out file.now k ice factor ps.now rows.now (sym h.answer ∙ z))
