use Rattle.std.proofs.Common.{[], ◌∷◌, arith}
use Rattle.std.proofs.lemmas.List.{map-append}
use Rattle.file_fields.proofs.Answered.{onward, onward-no, passed_on}
use Rattle.file_parts.proofs.SoFar.{one_more, no_more, all_read}
use Rattle.file_parts.proofs.parts.read_each.Goals as goal

pub returns-in_err-part : goal.returns-in_err-part
returns-in_err-part g c =
    let no = onward-no g.T.FromBytes.reading c.args.file.now c.loop-index.at c.in_err-part.ensures in
    passed_on _ _ _ c.from_residual.result c.from_residual.ensures.1 (no_more _ _ _ _ c.loop-index.invariant.1 c.loop-index-test.true no)

pub loop-index-preserved : goal.loop-index-preserved
loop-index-preserved g c =
    let part = g.T.FromBytes in
    let l = c.loop-index in
    let read = onward part.reading c.args.file.now l.at l.invariant.1.within c.in_ok-part.ensures in (
      omega (arith, c.push.ensures.len),
      rw (c.push.ensures.items, map-append part.value_of l.parts.items (c.in_ok-part.part ∷ []))
          (one_more _ _ _ _ l.invariant.1 c.loop-index-test.true read),
    )

pub returns : goal.returns
returns g c = record { says = all_read _ _ _ _ c.loop-index.invariant.1 c.loop-index-test.false }
