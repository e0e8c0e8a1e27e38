use Rattle.std.proofs.Common.{◌≡◌, refl, ap, ◌∙◌}
use Rattle.model.specs.Tower.{section_of}
use Rattle.slots.specs.Held.{stands_under, least_section}
use Rattle.slots.proofs.Codec.{fits-stands, least-stands}
use Rattle.slots.proofs.sections.least.Goals as goal

pub returns : goal.returns
returns c =
    let e : section_of (record { width = record { 0 = 100 }; height = record { 0 = 100 }; allowance = record { 0 = 0 }; groups = c.push.new.self }) ≡ least_section =
    rw (c.push.ensures.items, c.new-groups.ensures.items) refl in
    (e, λ t thin. fits-stands t _ thin c.push.ensures.few ∙ ap (stands_under t) e ∙ least-stands t thin)
