-- What write answers and leaves in the bytes that it is lent.
use Rattle.std.specs.Prelude.{ℕ, ◌≡◌, List, Result}
use Rattle.std.proofs.Math.Option.{none}
use Rattle.model.specs.declared.Refusal.{Refusal}
use Rattle.model.specs.Answers.{write_reply}
use Rattle.model.specs.Tower.{Tower}
use Rattle.model.specs.Machine.{standing}
use Rattle.model.specs.Calls.{write, reply_of, lent_after}

-- write's answer and every byte, as the machine's call with a standing tower gives them
pub record WritesFile (t : Tower) (before after : List ℕ) (r : Result ℕ Refusal) : Type 0 where
  pub answer : write_reply r ≡ reply_of (standing t none) (write before)
  pub bytes : after ≡ lent_after (standing t none) (write before)
