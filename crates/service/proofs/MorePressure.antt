-- Document 02, M-112, of the service: two accepted reports, wherever they stand in two lists of calls.
use Prim.Native.Nat.{ℕ, ◌+◌, ◌*◌, ◌≤◌, ◌<◌}
use mathlib.Core.Path.{◌≡◌, refl, ap, sym, subst, subst₂, ◌∙◌}
use mathlib.Core.List.{List, [], ◌∷◌, ◌++◌}
use mathlib.Core.Option.{some}
use native.Mathlib.Omega.{arith}
use lib.ListN.{length, get_or}
use borrow.Author.Tests.{le-ltb}
use Rattle.exact.specs.Number.{Equal, Within}
use Rattle.model.specs.Tower.{Tower, Wind}
use Rattle.model.specs.Report.{exact_at, force_at, shear_at, moment_at}
use Rattle.model.specs.MorePressure.{greatest_at, NoLower, AboveLess, NoLess}
use Rattle.model.specs.Machine.{State, no_tower, standing}
use Rattle.model.specs.Calls.{Call, report, refusal_of, step, run}
use Rattle.model.specs.Outcomes.{Outcome}
use Rattle.model.specs.Valid.{ValidWind}
use Rattle.model.proofs.Forces.{force-within}
use Rattle.model.proofs.Growing.{greatest-at, band-force, band-shear, band-moment, force-grows, shear-grows, moment-grows}
use Rattle.slots.specs.Held.{Slots}
use Rattle.service.proofs.Links.{IsFresh, Chain}
use Rattle.service.proofs.Demand3.{AcceptedReport, Each, none_left, entry-then, force-in, shear-in, moment-in, demand-3}

-- somewhere in a list of calls with these outcomes, the machine being given the same list from this state on, a report
-- is accepted: of which tower under which wind, and the slice that it leaves
pub data AcceptedIn : State → List Call → List Outcome → Tower → Wind → List ℕ → Type 0 where
  this-call : {t : Tower} {w : Wind} {before : List ℕ} {o : Outcome} {cs : List Call} {os : List Outcome} → o.reply.number ≡ 0
      → AcceptedIn (standing t (some w)) (report before ∷ cs) (o ∷ os) t w o.lent
  later-call : {m : State} {t : Tower} {w : Wind} {rows : List ℕ} {c : Call} {o : Outcome} {cs : List Call} {os : List Outcome}
      → AcceptedIn (step m c) cs os t w rows → AcceptedIn m (c ∷ cs) (o ∷ os) t w rows

-- every report that document 01 does not turn down is one of these
pub record Found (m : State) (cs : List Call) (os : List Outcome) (t : Tower) (w : Wind) : Type 0 where
  pub rows : List ℕ
  pub reported : AcceptedIn m cs os t w rows

found_in : {t : Tower} {w : Wind} (m : State) (ds es : List Call) (before : List ℕ) {os : List Outcome} → Each m (ds ++ (report before ∷ es)) os
    → run m ds ≡ standing t (some w) → 6 * length t.sections ≤ length before → Found m (ds ++ (report before ∷ es)) os t w
found_in {t} {w} m [] es before (entry-then {o = o} {os = os} e rest) q room =
    let accepted : o.reply.number ≡ 0 =
    e.number ∙ ap (λ (x : State). refusal_of x (report before)) q ∙ rw (le-ltb (length before) (6 * length t.sections) room) in
    record { rows = o.lent; reported = subst (λ (x : State). AcceptedIn x (report before ∷ es) (o ∷ os) t w o.lent) (sym q) (this-call accepted) }
found_in m (d ∷ ds) es before (entry-then e rest) q room =
    let r : _ = found_in (step m d) ds es before rest q room in
    record { rows = r.rows; reported = later-call r.reported }

pub every-report : {f s : Slots} {t : Tower} {w : Wind} (ds es : List Call) (before : List ℕ) {os : List Outcome}
    → IsFresh f → Chain f (ds ++ (report before ∷ es)) os s → run no_tower ds ≡ standing t (some w) → 6 * length t.sections ≤ length before
    → Found no_tower (ds ++ (report before ∷ es)) os t w
every-report ds es before a ch q room = found_in no_tower ds es before (demand-3 a ch).0 q room

-- what is known of such a report
record Known (t : Tower) (w : Wind) (rows : List ℕ) : Type 0 where
  valid : ValidWind t w
  force : (i : ℕ) → i < length t.sections → get_or rows (6 * i + 3) 0 ≡ (force_at t w i).0
  shear : (i : ℕ) → i < length t.sections → get_or rows (6 * i + 4) 0 ≡ (shear_at t w (i + 1)).0
  moment : (i : ℕ) → i < length t.sections → get_or rows (6 * i + 5) 0 ≡ (moment_at t w (i + 1)).0

known_of : {t : Tower} {w : Wind} {before after : List ℕ} → AcceptedReport (standing t (some w)) before after → Known t w after
known_of {t} {w} {before} {after} r =
    let et : r.tower ≡ t = cc in
    let ew : r.wind ≡ w = cc in
    subst₂ (λ (x : Tower) (y : Wind). Known x y after) et ew
    (record {
      valid = r.valid;
      force = force-in r.tower r.wind before after r.rows;
      shear = shear-in r.tower r.wind before after r.rows;
      moment = moment-in r.tower r.wind before after r.rows;
    })

known : {m : State} {cs : List Call} {os : List Outcome} {t : Tower} {w : Wind} {rows : List ℕ} → Each m cs os → AcceptedIn m cs os t w rows
    → Known t w rows
known none_left r = elim r [ ]
known (entry-then e es) (this-call {before = before} h) = known_of (e.accepted-report before refl h)
known (entry-then e es) (later-call r) = known es r

-- the numbers of two of them
module _ {t t' : Tower} {w w' : Wind} {rows rows' : List ℕ} (k : Known t w rows) (k' : Known t' w' rows') (g : NoLower t w t' w') where
  there : {i : ℕ} → i < length t.sections → i < length t'.sections
  there h = rw (← g.sections) h

  no_less : NoLess t rows rows'
  no_less =
      record {
        force = λ i h. rw (k.force i h, k'.force i (there h)) (force-grows t w t' w' k.valid k'.valid g i h);
        shear = λ i h. rw (k.shear i h, k'.shear i (there h)) (shear-grows t w t' w' k.valid k'.valid g (i + 1) (omega arith));
        moment = λ i h. rw (k.moment i h, k'.moment i (there h)) (moment-grows t w t' w' k.valid k'.valid g (i + 1) (omega arith));
      }

  module _ (newtons : ℕ) (p : 0 < newtons) where
    near : (i : ℕ) → i < length t.sections → Within newtons (exact_at t w i) (force_at t w i).0
    near i h = force-within t w k.valid i h newtons p

    near' : (i : ℕ) → i < length t.sections → Within newtons (exact_at t' w' i) (force_at t' w' i).0
    near' i h = force-within t' w' k'.valid i (there h) newtons p

    above-less : AboveLess newtons t rows rows'
    above-less =
        record {
          force = λ i h.
              rw (k.force i h, k'.force i (there h)) (band-force t w t' w' k.valid k'.valid g newtons _ _ near near' i h);
          shear = λ i h.
              rw (k.shear i h, k'.shear i (there h))
              (band-shear t w t' w' k.valid k'.valid g newtons _ _ near near' (i + 1) (omega arith) (omega arith));
          moment = λ i h.
              rw (k.moment i h, k'.moment i (there h))
              (band-moment t w t' w' k.valid k'.valid g newtons _ _ near near' (i + 1) (omega arith) (omega arith));
        }

-- For every two lists of calls, each from a fresh service, and every two reports accepted in them: where no section's
-- pressure is lower at the second one and all else is the same, its numbers are above the first one's less document
-- 02's bounds, and none is less.
pub more-pressure : {f s f' s' : Slots} {cs cs' : List Call} {os os' : List Outcome} {t t' : Tower} {w w' : Wind} {rows rows' : List ℕ}
    → IsFresh f → Chain f cs os s → IsFresh f' → Chain f' cs' os' s'
    → AcceptedIn no_tower cs os t w rows → AcceptedIn no_tower cs' os' t' w' rows' → NoLower t w t' w'
    → AboveLess 2 t rows rows' × NoLess t rows rows'
more-pressure a ch b ch' r r' g =
    let k : _ = known (demand-3 a ch).0 r in
    let k' : _ = known (demand-3 b ch').0 r' in
    (above-less k k' g 2 (omega arith), no_less k k' g)

-- And of every accepted report each exact force is the greatest value of document 01's formula at any whole pressure
-- from 0 to the section's.
pub report-greatest : {f s : Slots} {cs : List Call} {os : List Outcome} {t : Tower} {w : Wind} {rows : List ℕ}
    → IsFresh f → Chain f cs os s → AcceptedIn no_tower cs os t w rows
    → (i : ℕ) → i < length t.sections → Equal (exact_at t w i) (greatest_at t w i)
report-greatest {t = t} {w = w} a ch r i h = greatest-at t w (known (demand-3 a ch).0 r).valid i h
