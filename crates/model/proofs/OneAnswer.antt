-- A reply's number and values say which answer it is: two answers with one reply are equal. So what a call answers is
-- a function of the machine's state and the call.
use Prim.Native.Nat.{ℕ, ◌-◌}
use mathlib.Core.Path.{◌≡◌, refl, ap, sym, ◌∙◌}
use mathlib.Core.List.{[], ◌∷◌}
use mathlib.Core.Option.{some}
use native.Mathlib.Omega.{arith}
use lib.ListN.{get_or}
use Rattle.std.specs.Prelude.{Option, Some, None, Result, Ok, Err, ⊤}
use Rattle.model.specs.declared.Refusal.{Refusal}
use Rattle.model.specs.declared.Refusal.TheVariants as refusal
use Rattle.model.specs.Answers.{Reply, refusal_number, answer_number, check_reply, write_reply}
use Rattle.model.specs.Tower.{Tower, Wind}
use Rattle.model.specs.Machine.{standing}
use Rattle.model.specs.Calls as call
use Rattle.model.specs.Calls.{reply_of}
use Rattle.model.proofs.Says.{Over, over-only, none-reply, refusals, refusal-positive, refusal-place}

-- no two refusals have one number, and so no two answers
pub refusal-same : {r s : Refusal} → refusal_number r ≡ refusal_number s → r ≡ s
refusal-same {r} {s} e = sym (refusal-place r) ∙ ap (λ (n : ℕ). get_or refusals (n - 1) refusal.NoTower) e ∙ refusal-place s

pub answer-same : (a b : Result ⊤ Refusal) → answer_number a ≡ answer_number b → a ≡ b
answer-same (Ok _) (Ok _) e = refl
answer-same (Ok _) (Err s) e = absurd (omega (arith, refusal-positive s, e))
answer-same (Err r) (Ok _) e = absurd (omega (arith, refusal-positive r, e))
answer-same (Err r) (Err s) e = ap Err (refusal-same e)

number_same : {x y : Reply} → x ≡ y → x.number ≡ y.number
number_same e = ap (λ (r : Reply). r.number) e

values_same : {x y : Reply} → x ≡ y → x.values ≡ y.values
values_same e = ap (λ (r : Reply). r.values) e

pub check-reply-same : (a b : Result (Option ℕ) Refusal) → check_reply a ≡ check_reply b → a ≡ b
check-reply-same (Ok (Some i)) (Ok (Some j)) e = let v : i ∷ [] ≡ j ∷ [] = values_same e in cc
check-reply-same (Ok (Some i)) (Ok None) e = let v : i ∷ [] ≡ [] = values_same e in cc
check-reply-same (Ok (Some i)) (Err s) e = absurd (omega (arith, refusal-positive s, number_same e))
check-reply-same (Ok None) (Ok (Some j)) e = let v : [] ≡ j ∷ [] = values_same e in cc
check-reply-same (Ok None) (Ok None) e = refl
check-reply-same (Ok None) (Err s) e = absurd (omega (arith, refusal-positive s, number_same e))
check-reply-same (Err r) (Ok (Some j)) e = absurd (omega (arith, refusal-positive r, number_same e))
check-reply-same (Err r) (Ok None) e = absurd (omega (arith, refusal-positive r, number_same e))
check-reply-same (Err r) (Err s) e = ap Err (refusal-same (number_same e))

pub write-reply-same : (a b : Result ℕ Refusal) → write_reply a ≡ write_reply b → a ≡ b
write-reply-same (Ok n) (Ok k) e = let v : n ∷ [] ≡ k ∷ [] = values_same e in cc
write-reply-same (Ok n) (Err s) e = absurd (omega (arith, refusal-positive s, number_same e))
write-reply-same (Err r) (Ok k) e = absurd (omega (arith, refusal-positive r, number_same e))
write-reply-same (Err r) (Err s) e = ap Err (refusal-same (number_same e))

-- check says that none is over where none is
pub none-check : {t : Tower} {w : Wind} (a : Result (Option ℕ) Refusal) → reply_of (standing t (some w)) call.check ≡ check_reply a → ((i : ℕ) → Over t w i → ⊥)
    → a ≡ Ok None
none-check a e h = check-reply-same a (Ok None) (sym e ∙ none-reply (λ i o. h i (over-only o)))
