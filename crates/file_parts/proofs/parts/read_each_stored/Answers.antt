use Rattle.std.proofs.Common.{[], ◌∷◌, refl, arith}
use Rattle.std.proofs.lemmas.List.{map-append}
use Rattle.counted.specs.Elements.{elements}
use Rattle.model.proofs.Lists.{all-of-append}
use Rattle.file_fields.proofs.Answered.{onward, onward-no, passed_on}
use Rattle.file_parts.proofs.SoFar.{one_more, no_more, all_read}
use Rattle.file_parts.proofs.parts.read_each_stored.Goals as goal

pub returns-in_err-part-clause-says : goal.returns-in_err-part-clause-says
returns-in_err-part-clause-says g c =
    let no = onward-no g.T.StoredFromBytes.reading c.args.file.now c.loop.at c.in_err-part.ensures.says in
    passed_on _ _ _ c.from_residual.result c.from_residual.ensures.1 (no_more _ _ _ _ c.loop.invariant.read c.loop-test.true no)

pub loop-preserved : goal.loop-preserved
loop-preserved g c =
    let part = g.T.StoredFromBytes in
    let l = c.loop in
    let read = onward part.reading c.args.file.now l.at l.invariant.read.within c.in_ok-part.ensures.says in
    record {
      long = omega (arith, c.push.ensures.len, l.invariant.long);
      read =
          rw (c.push.ensures.items, map-append part.value_of (elements l.parts) (c.in_ok-part.part ∷ []))
          (one_more _ _ _ _ l.invariant.read c.loop-test.true read);
      count = λ h. c.push.ensures.few;
      stored = λ h.
          rw (c.push.ensures.items, all-of-append part.stored (elements l.parts) (c.in_ok-part.part ∷ []), l.invariant.stored h, c.in_ok-part.ensures.stored) refl;
    }

pub returns-clause-says : goal.returns-clause-says
returns-clause-says g c = record { says = all_read _ _ _ _ c.loop.invariant.read c.loop-test.false }
