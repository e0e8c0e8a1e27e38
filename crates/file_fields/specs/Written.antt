-- What a writer leaves in the bytes that it is lent.
use Rattle.std.specs.Prelude.{ℕ, ◌≡◌, List, ◌++◌, length, drop}

-- l stands at the front, n is its length, and what lies behind it is as before
pub record Puts (l before after : List ℕ) (n : ℕ) : Type 0 where
  pub count : n ≡ length l
  pub bytes : after ≡ l ++ drop (length l) before
