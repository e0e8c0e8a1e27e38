-- What is known of a group and of an item within document 01's ranges.
use Prim.Native.Nat.{◌+◌, ◌*◌, ◌≤◌}
use mathlib.Core.Path.{◌≡◌}
use mathlib.Core.Bool.{true}
use native.Mathlib.Nat.{mul-le-mul}
use native.Mathlib.Omega.{arith}
use Rattle.units.specs.declared.Length.{Length}
use Rattle.model.specs.declared.Member.TheVariants.{Flat}
use Rattle.model.specs.declared.Group.{Group}
use Rattle.model.specs.declared.Item.{Item}
use Rattle.model.specs.Ranges.{within, member_size, member_length}
use Rattle.model.specs.Areas.{size_of, group_area}
use Rattle.model.specs.Valid.{group_fits}
use Rattle.exact.proofs.Bools.{and_split}
use Rattle.model.proofs.Sections.{InRange, in-range, item-bound}

-- what is read past a list's end
abbrev pub no_group : Group
no_group = record { member = Flat (record { 0 = 0 }); length = record { 0 = 0 } }

abbrev pub no_item : Item
no_item =
    record {
      number = 0;
      section = 0;
      width = record { 0 = 0 };
      length = record { 0 = 0 };
      bare = 0;
      iced = 0;
      position = 0;
    }

pub record GroupFacts (g : Group) : Type 0 where
  pub size : InRange member_size (size_of g.member).0
  pub length : InRange member_length g.length.0

pub group-facts : (g : Group) → group_fits g ≡ true → GroupFacts g
group-facts g h =
    let k : _ = and_split (within member_size (size_of g.member).0) (within member_length g.length.0) h in
    record { size = in-range _ _ k.0; length = in-range _ _ k.1 }

-- 1.1 m by 200 m
pub group-bound : (t : Length) (g : Group) → t.0 ≤ 50 → GroupFacts g → (group_area t g).0 ≤ 220_000_000
unfolding group_area
group-bound t g h f =
    mul-le-mul {n₁ = (size_of g.member).0 + 2 * t.0} {m₁ = g.length.0} {n₂ = 1100} {m₂ = 200_000} (omega arith) (omega arith)

-- an item's part is at most that of the largest
pub ruleset item_bounds = (item-bound)
