-- What a list of lines is answered, by document 01's machine.
use Rattle.std.specs.Prelude.{ℕ, ◌≤◌, ◌≡◌, List, [], ◌∷◌, length}
use Rattle.model.specs.Machine.{State}
use Rattle.requests.specs.Asked.{Room, asked_in}
use Rattle.handler.specs.AnswerText.{answer_text}
use Rattle.handler.specs.RequestSteps.{after}

-- a line, and the text of the answer
pub record Exchange : Type 0 where
  pub line : List ℕ
  pub text : List ℕ

-- the machine's state after these lines
unfoldable pub after_all : Room → State → List Exchange → State
after_all room m [] = m
after_all room m (e ∷ es) = after_all room (after m (asked_in room e.line)) es

-- the text that the machine has for a line, where that has at most so many bytes
abbrev pub IsAnswer : Room → ℕ → State → Exchange → Type 0
IsAnswer room most m e =
    length (answer_text m (asked_in room e.line)) ≤ most → e.text ≡ answer_text m (asked_in room e.line)

-- each answer is the machine's in its state then
pub data Answers (room : Room) (most : ℕ) : State → List Exchange → Type 0 where
  none : {m : State} → Answers room most m []
  more : {m : State} {e : Exchange} {es : List Exchange} → IsAnswer room most m e
      → Answers room most (after m (asked_in room e.line)) es → Answers room most m (e ∷ es)
