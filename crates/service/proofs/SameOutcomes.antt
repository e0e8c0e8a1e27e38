-- Each outcome is a function of the machine's state: where two values stand for the same state, the same calls have the
-- same outcomes.
use Prim.Native.Nat.{ℕ}
use mathlib.Core.Path.{◌≡◌, refl, ap, sym, ◌∙◌}
use mathlib.Core.List.{List, ◌∷◌}
use Rattle.model.specs.Answers.{Reply}
use Rattle.model.specs.Machine.{State}
use Rattle.model.specs.Calls.{Call}
use Rattle.model.specs.Outcomes.{Outcome, outcome_of}
use Rattle.slots.specs.Held.{Slots, state_of}
use Rattle.service.proofs.Links.{IsFresh, fresh-state, Link, Chain, none, more, link-state, next-is, reply-is, lent_is}

pub link-outcome : {s s' : Slots} {c : Call} {o : Outcome} (m : State) → state_of s ≡ m → Link s c o s' → o ≡ outcome_of m c
link-outcome {c = c} {o = o} m e l =
    ap (λ (r : Reply). record { reply = r; lent = o.lent }) (reply-is l m e)
    ∙ ap (λ (x : List ℕ). record { reply = (outcome_of m c).reply; lent = x }) (lent_is l m e)

pub chain_same : {s s' z z' : Slots} {cs : List Call} {os ps : List Outcome} → state_of s ≡ state_of z → Chain s cs os s' → Chain z cs ps z' → os ≡ ps
chain_same e none none = refl
chain_same {z = z} e (more {c = c} {os = os} l ch) (more {o = p} k dh) =
    ap (λ (x : Outcome). x ∷ os) (link-outcome (state_of z) e l ∙ sym (link-outcome (state_of z) refl k))
    ∙ ap (◌∷◌ p) (chain_same (next-is l (state_of z) e ∙ sym (link-state k)) ch dh)

-- two fresh services, given the same list of calls, have the same outcomes
pub fresh-same : {f g s z : Slots} {cs : List Call} {os ps : List Outcome} → IsFresh f → IsFresh g → Chain f cs os s → Chain g cs ps z → os ≡ ps
fresh-same a b ch dh = chain_same (fresh-state a ∙ sym (fresh-state b)) ch dh
