use Rattle.std.proofs.Common.{◌≡◌, ℕ, map, take}
use Rattle.lines.specs.Digest.{start, digest}
use Rattle.lines.proofs.digest.digest_of.Given as goal

abbrev pub invariant-loop-v : goal.invariant-loop-v
invariant-loop-v g l = (number : g.row.T.Denot → ℕ) → ((x : g.row.T.Denot) (n : ℕ) → g.T.Into.converts x n → n ≡ number x) → l.d ≡ digest start (map number (take l.v-index l.values))
