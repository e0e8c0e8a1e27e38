use Rattle.std.proofs.Common.{◌≡◌, [], length, take, refl, ap, ◌∙◌, arith}
use Rattle.std.proofs.lemmas.List.{length-map, length-take-le, map_more, take_all}
use Rattle.host.proofs.Pressures.{pressure, by_pairs}
use Rattle.host.proofs.pressure_bytes.pressures_of.Goals as goal

pub push-requires : goal.push-requires
push-requires c =
    let pairs = c.as_chunks.result.0.now in
    let n = c.loop-pair.pair-index in
    let long : length c.loop-pair.pressures.items ≡ n = ap length c.loop-pair.invariant ∙ length-map (take n pairs) pressure ∙ length-take-le n pairs (omega arith) in
    (omega arith, omega (arith, long, c.as_chunks.ensures.front_len))

pub loop-pair-preserved : goal.loop-pair-preserved
loop-pair-preserved c =
    rw (c.push.ensures.items, c.loop-pair.invariant, map_more pressure c.as_chunks.result.0.now c.loop-pair.pair-index [] c.loop-pair-test.true, c.from_be_bytes.ensures) refl

pub returns : goal.returns
returns c =
    rw (c.loop-pair.invariant, take_all c.loop-pair.pair-index c.as_chunks.result.0.now (omega arith), c.as_chunks.ensures.front) (by_pairs _ c.args.bytes.now refl)
