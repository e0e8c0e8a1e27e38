use Rattle.std.proofs.Common.{◌≡◌, sym, ◌∙◌, arith}
use Rattle.std.proofs.lemmas.Result.{err_from_is_err_and}
use Rattle.lines.specs.declared.hex.HexError.TheVariants.{Bad}
use Rattle.lines.proofs.Pairs.{no_pair, paired_more, paired_all}
use Rattle.lines.proofs.hex.read_hex.Goals as goal

pub returns-in_err-out-clause-value : goal.returns-in_err-out-clause-value
returns-in_err-out-clause-value c =
    let p = err_from_is_err_and c.from_residual.result c.from_residual.ensures.1 in
    let s = c.in-Some.ensures.steps in
    let bad = rw c.in_err-out.ensures.ok_part at c.in_err-out.ensures.value in
    let e : c.in_err-out.field-0.0 ≡ Bad = cc in
    rw (p.1, p.2, e)
    (no_pair _ _ _ _ _ _ (rw s.0.1.0 at c.loop-i.invariant.paired) (s.0.1.1 ∙ c.loop-i.invariant.two) c.if-text-eq1.false c.if-out-count.false
    (sym c.pair_value.ensures ∙ c.in_err-out.ensures.ok_part))

pub loop-i-preserved : goal.loop-i-preserved
loop-i-preserved c =
    let s = c.in-Some.ensures.steps in
    rw (s.2, s.1)
    (record {
      paired =
          paired_more _ _ _ _ _ _ (rw s.0.1.0 at c.loop-i.invariant.paired) (s.0.1.1 ∙ c.loop-i.invariant.two) c.if-text-eq1.false c.if-out-count.false _
          (sym c.pair_value.ensures ∙ c.in_ok-out.ensures.ok_part);
      two = s.0.0 ∙ c.loop-i.invariant.two;
    })

pub returns-clause-value : goal.returns-clause-value
returns-clause-value c =
    paired_all _ _ _ _ _ c.loop-i.invariant.paired (omega (arith, c.in-None.ensures.steps.0.1.0)) c.if-text-eq1.false c.if-out-count.false
