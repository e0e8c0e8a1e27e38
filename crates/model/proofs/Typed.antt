-- Items of their type, field by field.
use Prim.Native.Nat.{◌^◌, ◌<◌}
use mathlib.Core.Path.{◌≡◌}
use mathlib.Core.Bool.{true}
use borrow.Author.Tests.{lt-ltb, ltb-true}
use Rattle.exact.proofs.Bools.{and_split}
use Rattle.model.specs.declared.Item.{Item}
use Rattle.model.specs.Calls.{bits, typed_item}

pub record ItemBounds (it : Item) : Type 0 where
  pub number : it.number < 2 ^ 16
  pub section : it.section < 2 ^ 8
  pub width : it.width.0 < 2 ^ 32
  pub length : it.length.0 < 2 ^ 32
  pub bare : it.bare < 2 ^ 16
  pub iced : it.iced < 2 ^ 16
  pub position : it.position < 2 ^ 16

pub item-bounds : (it : Item) → typed_item it ≡ true → ItemBounds it
item-bounds it h =
    let g6 : _ = and_split _ (bits 16 it.position) h in
    let g5 : _ = and_split _ (bits 16 it.iced) g6.0 in
    let g4 : _ = and_split _ (bits 16 it.bare) g5.0 in
    let g3 : _ = and_split _ (bits 32 it.length.0) g4.0 in
    let g2 : _ = and_split _ (bits 32 it.width.0) g3.0 in
    let g1 : _ = and_split (bits 16 it.number) (bits 8 it.section) g2.0 in
    record {
      number = ltb-true _ _ g1.0;
      section = ltb-true _ _ g1.1;
      width = ltb-true _ _ g2.1;
      length = ltb-true _ _ g3.1;
      bare = ltb-true _ _ g4.1;
      iced = ltb-true _ _ g5.1;
      position = ltb-true _ _ g6.1;
    }

pub bounds-typed : (it : Item) → ItemBounds it → typed_item it ≡ true
bounds-typed it h =
    rw (
      lt-ltb it.number (2 ^ 16) h.number,
      lt-ltb it.section (2 ^ 8) h.section,
      lt-ltb it.width.0 (2 ^ 32) h.width,
      lt-ltb it.length.0 (2 ^ 32) h.length,
      lt-ltb it.bare (2 ^ 16) h.bare,
      lt-ltb it.iced (2 ^ 16) h.iced,
      lt-ltb it.position (2 ^ 16) h.position,
    )
