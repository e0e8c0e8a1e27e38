use Rattle.std.proofs.Common.{length}
use Rattle.std.proofs.lemmas.List.{length-map}
use Rattle.model.specs.File.{fields_in_range}
use Rattle.model.specs.Tower.{tower_of}
use Rattle.model.specs.Valid.{item_fits}
use Rattle.model.proofs.Lists.{all_weaker}
use Rattle.model.proofs.Reached.{fit_parts}
use Rattle.tower_calls.proofs.Towers.{tower-put}
use Rattle.tower_calls.proofs.erect.put_tower.Goals as goal

pub put_items-requires-clause-fit : goal.put_items-requires-clause-fit
put_items-requires-clause-fit c =
    let t = tower_of c.args.tower.now in
    rw c.deref-2.ensures.0 (all_weaker (item_fits (length t.sections)) fields_in_range (λ it k. (fit_parts _ it k).2) t.items c.requires.items)

pub returns : goal.returns
returns c =
    let t = tower_of c.args.tower.now in
    let sections = rw c.deref.ensures.0 at c.put_sections.ensures in
    let items = rw c.deref-2.ensures.0 at c.put_items.ensures in
    rw c.head_slot.ensures (tower-put t c.requires c.args.s.now c.put_sections.new.s c.put_items.new.s c.told-s (rw length-map sections) items)
