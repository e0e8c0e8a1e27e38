-- A text in a slice that goes on.
use Rattle.std.specs.Prelude.{◌≡◌, List, ℕ}
use Rattle.lines.specs.declared.text.Text.{Text}
use Rattle.lines.specs.Text.{Puts}

-- these bytes are put behind the text so far
pub record Appends (bytes : List ℕ) (old new : Text) : Type 0 where
  pub same : new.out.ghost_name ≡ old.out.ghost_name
  pub puts : Puts bytes old.out.now old.len new.out.now new.len
