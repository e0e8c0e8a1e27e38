-- What is read and not answered yet lies in the buffer.
use Rattle.std.specs.Prelude.{ℕ, ◌≤◌, List, length}
use Rattle.towerd.specs.declared.Input.{Input}

pub record Buffered (i : Input) (buf : List ℕ) : Type 0 where
  pub start : i.at ≤ i.end
  pub end : i.end ≤ length buf
