use Rattle.lines.specs.Hex.{hex_text}
use Rattle.lines.proofs.Putting.{appends_none, appends_both}
use Rattle.lines.proofs.Hexes.{hex_more}
use Rattle.lines.proofs.text.Text.push_hex.Goals as goal

pub loop-b-init : goal.loop-b-init
unfolding hex_text
loop-b-init c = appends_none _

pub loop-b-preserved : goal.loop-b-preserved
loop-b-preserved c =
    rw (hex_more _ _ c.loop-b-test.true, ← c.hex_digit.ensures, ← c.hex_digit-in-loop-b.ensures)
    (appends_both c.loop-b.invariant (appends_both c.push.ensures c.push-in-loop-b.ensures))
