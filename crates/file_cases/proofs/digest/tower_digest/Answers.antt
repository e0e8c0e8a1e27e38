use Rattle.std.proofs.Common.{[], ◌∷◌, map, length}
use Rattle.std.proofs.lemmas.List.{length-map}
use Rattle.counted.specs.Elements.{elements}
use Rattle.model.specs.Lists.{joined}
use Rattle.model.specs.Bytes.{legs_number}
use Rattle.model.specs.Tower.{section_of}
use Rattle.model.proofs.Lists.{joined-map}
use Rattle.lines.specs.Digest.{start}
use Rattle.file_cases.specs.Digest.{section_values, item_values}
use Rattle.file_cases.proofs.Mixing.{digest_parts}
use Rattle.file_cases.proofs.digest.tower_digest.Goals as goal

pub returns : goal.returns
unfolding joined
returns c =
    let t = c.args.tower.now in
    rw (
      c.mix_each.ensures,
      c.deref-2.ensures.0,
      c.mix-d.ensures,
      c.len-2.ensures.value,
      c.mix_each-d-2.ensures,
      c.deref.ensures.0,
      c.mix_each-d.ensures,
      c.from.ensures,
      c.len.ensures.value,
      joined-map section_values section_of (elements t.sections),
      length-map (elements t.sections) section_of,
    )
    (digest_parts start (legs_number t.legs ∷ length (elements t.sections) ∷ []) (joined section_values (map section_of (elements t.sections))) (length (elements t.items)) (joined item_values (elements t.items)))
