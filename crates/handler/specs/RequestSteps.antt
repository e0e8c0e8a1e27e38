-- What a request does: the state after it, and what is printed.
use Rattle.std.specs.Prelude.{◌≡◌, Result}
use Rattle.model.specs.Machine.{State}
use Rattle.model.specs.Calls.{refusal_of, step}
use Rattle.slots.specs.Held.{Slots, state_of}
use Rattle.replies.specs.declared.Reply.{Reply}
use Rattle.replies.specs.declared.Rejection.{Rejection}
use Rattle.replies.specs.MessageText.{message_text}
use Rattle.requests.specs.Asked.{Asked, called, reported, written, helped, wrong}
use Rattle.handler.specs.AnswerText.{answer_text}

-- the machine's state after a request
abbrev pub after : State → Asked → State
after m (called c) = step m c
after m (reported room) = m
after m (written room) = m
after m helped = m
after m (wrong f) = m

-- what leaves every cell: all but a call that is accepted
abbrev pub Leaves : State → Asked → Type 0
Leaves m (called c) = refusal_of m c ≡ 0 → ⊥
Leaves m (reported room) = Unit {0}
Leaves m (written room) = Unit {0}
Leaves m helped = Unit {0}
Leaves m (wrong f) = Unit {0}

-- the state and the text are the machine's
pub record RequestSteps (a : Asked) (old new : Slots) (r : Result Reply Rejection) : Type 0 where
  pub state : state_of new ≡ after (state_of old) a
  pub text : message_text r ≡ answer_text (state_of old) a
  pub untouched : Leaves (state_of old) a → new ≡ old
