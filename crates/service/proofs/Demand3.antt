-- The customer's third demand: one theorem about every list of calls.
use Prim.Native.Nat.{ℕ, ◌+◌, ◌*◌, ◌≤◌, ◌<◌}
use mathlib.Core.Path.{◌≡◌, refl, ap, sym, subst, ◌∙◌}
use mathlib.Core.Bool.{true}
use mathlib.Core.List.{List, [], ◌∷◌, ◌++◌, Permᴰ}
use mathlib.Core.Option.{none, some}
use native.Mathlib.Omega.{arith}
use lib.Dec.{ltb}
use lib.ListN.{length, take, drop, get_or, get_or-append}
use lib.Seq.{take_at}
use borrow.Author.Tests.{ltb-false}
use Rattle.exact.specs.Number.{Within}
use Rattle.exact.specs.Sum.{ExcessBelow}
use Rattle.model.specs.declared.Item.{Item}
use Rattle.model.specs.Lists.{all_of}
use Rattle.model.specs.Tower.{Tower, Wind}
use Rattle.model.specs.Report.{exact_at, force_at, shear_at, moment_at, row_at, rows_of, shear_terms, moment_terms, arms_to}
use Rattle.model.specs.Machine.{State, no_tower, standing, report_refusal}
use Rattle.model.specs.Calls.{Call, report, refusal_of, step, reply_of, lent_before, lent_after, run, newly_erected}
use Rattle.model.specs.Valid.{ValidWind, ValidState, none_standing, windy}
use Rattle.model.proofs.Forces.{refuse-none, force-within}
use Rattle.model.proofs.Moments.{shear-excess, moment-excess}
use Rattle.model.proofs.Rows.{columns, length-rows, row-at, report-rows}
use Rattle.model.proofs.Reached.{step-valid}
use Rattle.model.proofs.NewlyErected.{newly-accepted, newly-rows}
use Rattle.model.proofs.Refused.{refused-state, refused-lent}
use Rattle.model.specs.Outcomes.{Outcome, is_accepted, last_lent}
use Rattle.slots.specs.Held.{Slots, state_of}
use Rattle.service.proofs.Links.{
  IsFresh,
  fresh-state,
  Link,
  Chain,
  none,
  more,
  link-typed,
  next-is,
  reply-is,
  number_is,
  lent_is,
  chain-state,
  chain-accepted,
  chain-lent,
}

-- the excess of every reported force is never negative and below so many newtons; that of every reported shear below
-- them times the sections down to the foot, and that of every reported moment below them times the sum of the arms
pub record Excess (newtons : ℕ) (t : Tower) (w : Wind) (rows : List ℕ) : Type 0 where
  pub force : (i : ℕ) → i < length t.sections → Within newtons (exact_at t w i) (get_or rows (6 * i + 3) 0)
  pub shear : (i : ℕ) → i < length t.sections → ExcessBelow (shear_terms t w (i + 1)) (get_or rows (6 * i + 4) 0) (newtons * (i + 1))
  pub moment : (i : ℕ) → i < length t.sections → ExcessBelow (moment_terms t w (i + 1)) (get_or rows (6 * i + 5) 0) (newtons * (arms_to t (i + 1)).0)

-- a tower newly erected on another fresh service, with the same items in whatever order, and given the same wind: none
-- of the calls is turned down, and the report into a slice of the same length has the same numbers
pub record SameNewly (t : Tower) (w : Wind) (room : ℕ) (rows : List ℕ) : Type 0 where
  pub each-order : (items : List Item) → Permᴰ t.items items → (lent : List ℕ) → length lent ≡ room
      → {f s : Slots} {os : List Outcome} → IsFresh f → Chain f (newly_erected t items w lent) os s
      → (all_of is_accepted os ≡ true) × (take (6 * length t.sections) (last_lent os) ≡ take (6 * length t.sections) rows)

-- an accepted report: it is that of a valid tower under a wind that it takes, its six numbers a section are document
-- 01's, and the rest of the slice stays
pub record AcceptedReport (m : State) (before after : List ℕ) : Type 0 where
  pub tower : Tower
  pub wind : Wind
  pub state : m ≡ standing tower (some wind)
  pub valid : ValidWind tower wind
  pub rows : after ≡ rows_of tower wind ++ drop (6 * length tower.sections) before
  pub excess-2 : Excess 2 tower wind after
  pub excess-1 : Excess 1 tower wind after
  pub newly : SameNewly tower wind (length before) after

-- an entry, beside the machine's state m
pub record Entry (m : State) (c : Call) (o : Outcome) : Type 0 where
  -- the answer has the number of the first refusal whose condition is met, or 0; so it is accepted exactly if none is
  pub number : o.reply.number ≡ refusal_of m c
  -- and the values that check and write answer beside it are the machine's
  pub reply : o.reply ≡ reply_of m c
  -- every element of the lent slice
  pub lent : o.lent ≡ lent_after m c
  -- a refused call changes nothing
  pub refused : (refusal_of m c ≡ 0 → ⊥) → (step m c ≡ m) × (o.lent ≡ lent_before c)
  -- a report that is accepted
  pub accepted-report : (before : List ℕ) → c ≡ report before → o.reply.number ≡ 0 → AcceptedReport m before o.lent

-- every entry of a list, the machine being given the same list
pub data Each : State → List Call → List Outcome → Type 0 where
  none_left : {m : State} → Each m [] []
  entry-then : {m : State} {c : Call} {o : Outcome} {cs : List Call} {os : List Outcome} → Entry m c o → Each (step m c) cs os → Each m (c ∷ cs) (o ∷ os)

-- the numbers of a row in the lent slice
module _ (t : Tower) (w : Wind) (before after : List ℕ) (e : after ≡ rows_of t w ++ drop (6 * length t.sections) before) where
  pub number-at : (i k : ℕ) → i < length t.sections → k < 6 → get_or after (6 * i + k) 0 ≡ get_or (row_at t w i) k 0
  number-at i k h g =
      ap (λ (l : List ℕ). get_or l (6 * i + k) 0) e
      ∙ get_or-append (rows_of t w) (drop (6 * length t.sections) before) 0 (6 * i + k) (omega (arith, length-rows t w (length t.sections)))
      ∙ row-at t w (length t.sections) i k h g

  pub force-in : (i : ℕ) → i < length t.sections → get_or after (6 * i + 3) 0 ≡ (force_at t w i).0
  force-in i h = number-at i 3 h (omega arith) ∙ (columns t w i).force

  pub shear-in : (i : ℕ) → i < length t.sections → get_or after (6 * i + 4) 0 ≡ (shear_at t w (i + 1)).0
  shear-in i h = number-at i 4 h (omega arith) ∙ (columns t w i).shear-at-foot

  pub moment-in : (i : ℕ) → i < length t.sections → get_or after (6 * i + 5) 0 ≡ (moment_at t w (i + 1)).0
  moment-in i h = number-at i 5 h (omega arith) ∙ (columns t w i).moment-at-foot

  pub rows_in : take (6 * length t.sections) after ≡ rows_of t w
  rows_in =
      ap (take (6 * length t.sections)) e
      ∙ take_at (rows_of t w) (drop (6 * length t.sections) before) (6 * length t.sections) (length-rows t w (length t.sections))

  excess-of : (newtons : ℕ) → 0 < newtons → ValidWind t w → Excess newtons t w after
  excess-of newtons p v =
      record {
        force = λ i h.
            subst (λ (n : ℕ). Within newtons (exact_at t w i) n) (sym (force-in i h))
            (force-within t w v i h newtons p);
        shear = λ i h.
            subst (λ (n : ℕ). ExcessBelow (shear_terms t w (i + 1)) n (newtons * (i + 1))) (sym (shear-in i h))
            (shear-excess t w v (i + 1) (omega arith) newtons p (omega arith));
        moment = λ i h.
            subst (λ (n : ℕ). ExcessBelow (moment_terms t w (i + 1)) n (newtons * (arms_to t (i + 1)).0))
            (sym (moment-in i h))
            (moment-excess t w v (i + 1) (omega arith) newtons p (omega arith));
      }

  same-newly : ValidWind t w → 6 * length t.sections ≤ length before → SameNewly t w (length before) after
  same-newly v room =
      record {
        each-order = λ items p lent long {f} {s} {os} fresh ch.
            let r : 6 * length t.sections ≤ length lent = omega arith in (
              chain-accepted no_tower (fresh-state fresh) ch (newly-accepted t w v items p lent r),
              ap (take (6 * length t.sections))
                  (chain-lent no_tower (fresh-state fresh) ch ∙ newly-rows t w v items p lent r)
                  ∙ take_at (rows_of t w) (drop (6 * length t.sections) lent) (6 * length t.sections) (length-rows t w (length t.sections))
                  ∙ sym rows_in,
            );
      }

report-in : (m : State) (before after : List ℕ) → ValidState m → report_refusal m (length before) ≡ 0 → after ≡ lent_after m (report before) → AcceptedReport m before after
report-in no_tower before after v h e = absurd (omega arith)
report-in (standing t none) before after v h e = absurd (omega arith)
report-in (standing t (some w)) before after (windy v) h e =
    let short : _ = refuse-none (ltb (length before) (6 * length t.sections)) 22 0 (omega arith) h in
    let room : 6 * length t.sections ≤ length before = ltb-false _ _ short.0 in
    let r : after ≡ rows_of t w ++ drop (6 * length t.sections) before = e ∙ report-rows t w before room in
    record {
      tower = t;
      wind = w;
      state = refl;
      valid = v;
      rows = r;
      excess-2 = excess-of t w before after r 2 (omega arith) v;
      excess-1 = excess-of t w before after r 1 (omega arith) v;
      newly = same-newly t w before after r v room;
    }

entry : {s s' : Slots} {c : Call} {o : Outcome} (m : State) → state_of s ≡ m → ValidState m → Link s c o s' → Entry m c o
entry {c = c} {o = o} m e v l =
    let number : o.reply.number ≡ refusal_of m c = number_is l m e in
    let lent : o.lent ≡ lent_after m c = lent_is l m e in
    record {
      number = number;
      reply = reply-is l m e;
      lent = lent;
      refused = λ h. (refused-state m c h, lent ∙ refused-lent m c h);
      accepted-report = λ before q a.
          report-in m before o.lent v (subst (λ (x : Call). refusal_of m x ≡ 0) q (sym number ∙ a)) (lent ∙ ap (lent_after m) q);
    }

each : {s s' : Slots} {cs : List Call} {os : List Outcome} (m : State) → state_of s ≡ m → ValidState m → Chain s cs os s' → Each m cs os
each m e v none = none_left
each m e v (more {c = c} l ch) =
    entry-then (entry m e v l) (each (step m c) (next-is l m e) (step-valid m c (link-typed l) v) ch)

-- For every list of erect, hang, take-down, wind, report, check and write calls, with any arguments of their types,
-- refused ones included: the list starts from a fresh service, each call gets the state that the last one left, and
-- document 01's machine is given the same list.
pub demand-3 : {f s : Slots} {cs : List Call} {os : List Outcome} → IsFresh f → Chain f cs os s → Each no_tower cs os × (state_of s ≡ run no_tower cs)
demand-3 fresh ch = (each no_tower (fresh-state fresh) none_standing ch, chain-state no_tower (fresh-state fresh) ch)
