-- The customer's first demand, for each call on any state.
use Prim.Native.Nat.{ℕ}
use mathlib.Core.Path.{◌≡◌, refl, ◌∙◌}
use mathlib.Core.Bool.{true}
use Rattle.model.specs.Calls.{Call, refusal_of, step, reply_of, lent_before, lent_after}
use Rattle.model.specs.Outcomes.{Outcome}
use Rattle.model.proofs.Refused.{refused-lent}
use Rattle.slots.specs.Held.{Slots, cell, state_of}
use Rattle.slots.specs.Promises.{leaves}
use Rattle.service.proofs.Links.{Link, link-meets, number_is}

-- the full answer, or the refusal whose condition is met first; where it is refused, every cell and the lent slice are
-- as they were. And the cells that the call has nothing to do with stay in any case
pub record OneCall (s : Slots) (c : Call) (o : Outcome) (s' : Slots) : Type 0 where
  pub number : o.reply.number ≡ refusal_of (state_of s) c
  pub reply : o.reply ≡ reply_of (state_of s) c
  pub state : state_of s' ≡ step (state_of s) c
  pub lent : o.lent ≡ lent_after (state_of s) c
  pub untouched : (o.reply.number ≡ 0 → ⊥) → (s' ≡ s) × (o.lent ≡ lent_before c)
  pub left : (i j : ℕ) → leaves c i j ≡ true → cell s' i j ≡ cell s i j

pub demand-1 : {s s' : Slots} {c : Call} {o : Outcome} → Link s c o s' → OneCall s c o s'
demand-1 {s = s} {c = c} l =
    let m : _ = link-meets l in
    let n : _ = number_is l (state_of s) refl in
    record {
      number = n;
      reply = m.reply;
      state = m.state;
      lent = m.lent;
      untouched = λ h.
          let k : refusal_of (state_of s) c ≡ 0 → ⊥ = λ (z : refusal_of (state_of s) c ≡ 0). h (n ∙ z) in
          (m.untouched k, m.lent ∙ refused-lent (state_of s) c k);
      left = m.left;
    }
