use Rattle.std.proofs.Common.{refl, sym, ◌∙◌, arith}
use Rattle.std.proofs.lemmas.List.{take_all}
use Rattle.exact.proofs.Bools.{and-join}
use Rattle.model.specs.Valid.{group_fits}
use Rattle.std.proofs.lemmas.List.Folds.{list_all_more}
use Rattle.areas.proofs.Facts.{no_group}
use Rattle.areas.proofs.Sums.{after_none, after-more, after-small}
use Rattle.areas.proofs.ranges.measure_groups.Goals as goal

pub loop-group-init : goal.loop-group-init
loop-group-init c = record { fit = refl; areas = after_none _ _ _ {a = c.default-areas.result} c.default-areas.ensures }

pub loop-group-preserved : goal.loop-group-preserved
loop-group-preserved c =
    let gs = c.args.groups.now in
    let l = c.loop-group in
    let fits = sym c.group_fits.ensures ∙ c.if-not-group_fits.false in
    record {
      fit = list_all_more group_fits gs l.group-index no_group c.loop-group-test.true ∙ and-join l.invariant.fit fits;
      areas = after-more c.args.ice.thickness c.args.q gs l.group-index no_group c.args.ice.thin c.loop-group-test.true fits l.invariant.areas c.add_group-areas.ensures;
    }

pub returns-clause-areas : goal.returns-clause-areas
returns-clause-areas c =
    let l = c.loop-group in
    let few = c.requires in
    (rw (take_all _ _ c.loop-group-test.false) at l.invariant.areas.sums, after-small {t = c.args.ice.thickness} {q = c.args.q} {l = c.args.groups.now} (omega arith) l.invariant.areas)
