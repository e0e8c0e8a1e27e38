use Rattle.std.proofs.Common.{◌≡◌, length}
use Rattle.towerd.specs.Buffered.{Buffered}
use Rattle.towerd.proofs.serve.Given as goal

abbrev pub invariant-loop : goal.invariant-loop
invariant-loop g l = Buffered l.input l.buf × (length l.buf ≡ length l.fn.buf)
