-- What a caller has after a call of a list.
use Rattle.std.specs.Prelude.{ℕ, Bool, List, [], ◌∷◌, eqb}
use Rattle.model.specs.Answers.{Reply}
use Rattle.model.specs.Machine.{State}
use Rattle.model.specs.Calls.{Call, reply_of, lent_after}

-- the answer, and what the slice that was lent to the call then holds; [] where none is lent
pub record Outcome : Type 0 where
  pub reply : Reply
  pub lent : List ℕ

-- document 01's outcome of a call in a state
abbrev pub outcome_of : State → Call → Outcome
outcome_of m c = record { reply = reply_of m c; lent = lent_after m c }

abbrev pub is_accepted : Outcome → Bool
is_accepted o = eqb o.reply.number 0

-- what the slice lent to the last call holds
abbrev pub last_lent : List Outcome → List ℕ
last_lent [] = []
last_lent (o ∷ []) = o.lent
last_lent (o ∷ (p ∷ os)) = last_lent (p ∷ os)
