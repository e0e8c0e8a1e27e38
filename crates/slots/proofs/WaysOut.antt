-- The ways out of every call, over plain values.
use Prim.Native.Nat.{ℕ}
use mathlib.Core.Path.{◌≡◌, refl, ap, sym, ◌∙◌}
use mathlib.Core.Bool.{Bool, true, false}
use mathlib.Core.List.{List}
use native.Mathlib.Omega.{arith}
use Rattle.model.specs.declared.Refusal.{Refusal}
use Rattle.std.specs.Prelude.{Result, Err}
use Rattle.std.specs.Result.{IsErrAnd}
use Rattle.std.proofs.lemmas.Result.{err_from_is_err_and}
use Rattle.model.specs.Answers.{Reply, refusal_number, accepts, refuses}
use Rattle.model.specs.Machine.{State, refuse_if}
use Rattle.model.specs.Calls.{Call, meaning, refusal_of, step, reply_of, lent_before, lent_after}
use Rattle.model.proofs.Says.{refusal-positive, refused-reply, accepted-reply}
use Rattle.model.proofs.Refused.{refused-state, refused-lent, same-state}
use Rattle.slots.specs.Held.{Slots, cell, state_of}
use Rattle.slots.specs.Promises.{leaves, Meets}

-- a call that is turned down
pub turned_down : (c : Call) (l : Slots) (e : Refusal) → refusal_of (state_of l) c ≡ refusal_number e → Meets c l l (refuses e) (lent_before c)
turned_down c l e h =
    let p : _ = refusal-positive e in
    let k : refusal_of (state_of l) c ≡ 0 → ⊥ = λ (z : refusal_of (state_of l) c ≡ 0). omega arith in
    record {
      state = sym (refused-state (state_of l) c k);
      reply = sym (refused-reply (state_of l) c e (sym h));
      lent = sym (refused-lent (state_of l) c k);
      untouched = λ z. refl;
      left = λ i j z. refl;
    }

-- a refusal that is handed on by `?`
pub handed_on : {A : Type 0} (r : Result A Refusal) (e : Refusal) → IsErrAnd r (λ y. y ≡ e) → r ≡ Err e
handed_on r e h =
    let y = err_from_is_err_and r h in
    rw (y.1, y.2) refl

-- a call that is accepted: with the machine's next state, in its reply the machine's values
pub accepted : (c : Call) (l after : Slots) {lent : List ℕ} → refusal_of (state_of l) c ≡ 0 → state_of after ≡ step (state_of l) c
    → lent ≡ lent_after (state_of l) c → ((i j : ℕ) → leaves c i j ≡ true → cell after i j ≡ cell l i j)
    → Meets c l after (accepts (meaning (state_of l) c).values) lent
accepted c l after z s e left =
    record {
      state = s;
      reply = sym (accepted-reply (state_of l) c z);
      lent = e;
      untouched = λ k. absurd (k z);
      left = left;
    }

-- a call that asks, and leaves the slots; the state is known by another name
pub answered : (c : Call) (l : Slots) {m : State} {r : Reply} {lent : List ℕ} → (meaning (state_of l) c).next ≡ state_of l → state_of l ≡ m
    → r ≡ reply_of m c → lent ≡ lent_after m c → Meets c l l r lent
answered c l n e p q =
    record {
      state = sym (same-state (state_of l) c n);
      reply = p ∙ ap (λ (x : State). reply_of x c) (sym e);
      lent = q ∙ ap (λ (x : State). lent_after x c) (sym e);
      untouched = λ z. refl;
      left = λ i j h. refl;
    }

-- the refusal in a state that is known by another name, and the rules one by one
pub refusal-of : (c : Call) {m m' : State} {n : ℕ} → m ≡ m' → refusal_of m' c ≡ n → refusal_of m c ≡ n
refusal-of c e h = ap (λ (x : State). refusal_of x c) e ∙ h

pub met : {b : Bool} (n rest : ℕ) → b ≡ true → refuse_if b n rest ≡ n
met n rest e = rw e

pub unmet : {b : Bool} (n : ℕ) {rest k : ℕ} → b ≡ false → rest ≡ k → refuse_if b n rest ≡ k
unmet n e h = rw e h
