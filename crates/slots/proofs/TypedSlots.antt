-- The slots of an item and of a section are of their type.
use Rattle.std.proofs.Common.{◌≡◌, ℕ, zero, suc, ◌^◌, ◌-◌, ◌≤◌, ◌<◌, Bool, true, false, cond, List, [], ◌∷◌, map, length, replicate, refl, eq-eqb, arith}
use Rattle.std.proofs.lemmas.List.{length-append, length-map, length-replicate}
use borrow.Author.Tests.{lt-ltb}
use Rattle.model.specs.declared.Group.{Group}
use Rattle.model.specs.declared.Item.{Item}
use Rattle.model.specs.declared.Member.{Member}
use Rattle.model.specs.declared.Member.TheVariants.{Flat, Round}
use Rattle.model.specs.Bytes.{kind_of}
use Rattle.model.specs.Calls.{typed_item, bits}
use Rattle.model.specs.Lists.{all_of}
use Rattle.model.specs.Tower.{Section}
use Rattle.model.specs.Valid.{group_fits, section_fits}
use Rattle.model.proofs.Lists.{all_append}
use Rattle.model.proofs.Sections.{section-facts}
use Rattle.model.proofs.Typed.{item-bounds}
use Rattle.exact.proofs.Bools.{and-join}
use Rattle.areas.proofs.Facts.{group-facts}
use Rattle.slots.specs.Held.{slot_of, packed, group_number, field_slot, group_slot}
use Rattle.slots.specs.Nexts.{typed_slot}

pub item-typed : (it : Item) → typed_item it ≡ true → typed_slot (slot_of it) ≡ true
item-typed it h =
    let b = item-bounds it h in
    rw (
      lt-ltb it.number (2 ^ 32) (omega (arith, b.number)),
      lt-ltb it.section (2 ^ 32) (omega (arith, b.section)),
      lt-ltb it.width.0 (2 ^ 32) b.width,
      lt-ltb it.length.0 (2 ^ 32) b.length,
      lt-ltb it.bare (2 ^ 32) (omega (arith, b.bare)),
      lt-ltb it.iced (2 ^ 32) (omega (arith, b.iced)),
      lt-ltb it.position (2 ^ 32) (omega (arith, b.position)),
    )

pub fields-typed : (x : Section) (q : ℕ) → section_fits x ≡ true → q < 2 ^ 32 → typed_slot (field_slot x q) ≡ true
fields-typed x q h small =
    let f = section-facts x h in
    rw (
      lt-ltb x.width.0 (2 ^ 32) (omega (arith, f.width.high)),
      lt-ltb x.height.0 (2 ^ 32) (omega (arith, f.height.high)),
      lt-ltb x.allowance.0 (2 ^ 32) f.allowance,
      lt-ltb q (2 ^ 32) small,
      lt-ltb (length x.groups) (2 ^ 32) (omega (arith, f.count.high)),
    )

kind-small : (m : Member) → kind_of m ≤ 1
kind-small (Flat w) = omega arith
kind-small (Round w) = omega arith

number_small : (g : Group) → group_number g < 2 ^ 32
unfolding group_number
number_small g = by-case (group_fits g) refl
  where
    by-case : (b : Bool) → group_fits g ≡ b → cond b (packed g) 0 < 2 ^ 32
    by-case true e = let f = group-facts g e in omega (arith, kind-small g.member, f.size.high, f.length.high)
    by-case false e = omega arith

all_numbers : (gs : List Group) → all_of (bits 32) (map group_number gs) ≡ true
all_numbers [] = refl
all_numbers (g ∷ gs) = and-join (lt-ltb (group_number g) (2 ^ 32) (number_small g)) (all_numbers gs)

all_zeros : (n : ℕ) → all_of (bits 32) (replicate n 0) ≡ true
all_zeros zero = refl
all_zeros (suc n) = all_zeros n

pub groups-typed : (gs : List Group) → length gs ≤ 8 → typed_slot (group_slot gs) ≡ true
groups-typed gs few =
    and-join
    (eq-eqb (length (group_slot gs)) 12
    (omega (arith, length-append (map group_number gs) (replicate (12 - length gs) 0), length-map gs group_number, length-replicate {A = ℕ} (12 - length gs) 0)))
    (all_append (bits 32) (map group_number gs) (replicate (12 - length gs) 0) (all_numbers gs) (all_zeros (12 - length gs)))
