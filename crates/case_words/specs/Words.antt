-- What a run of numbers means: a section, the wind on it, and items.
use Rattle.std.specs.Prelude.{ℕ, ◌+◌, ◌*◌, min, cond, List, [], ◌∷◌, eqb, ltb, get_or, refl}
use Rattle.counted.specs.declared.Counted.{Counted}
use Rattle.units.specs.declared.Length.{Length}
use Rattle.model.specs.declared.Member.{Member}
use Rattle.model.specs.declared.Member.TheVariants.{Flat, Round}
use Rattle.model.specs.declared.Group.{Group}
use Rattle.model.specs.declared.Item.{Item}
use Rattle.model.specs.declared.Section.{Section}
use Rattle.case_words.specs.declared.Case.{Case}

-- 0 past the end
abbrev pub at : List ℕ → ℕ → ℕ
at ws i = get_or ws i 0

-- the largest of its type where it does not fit
abbrev pub in32 : ℕ → ℕ
in32 x = min x 4_294_967_295

abbrev pub in16 : ℕ → ℕ
in16 x = min x 65_535

abbrev pub in8 : ℕ → ℕ
in8 x = min x 255

-- kinds are 0 and 1; any other has size 0, which no member may have
abbrev pub member_read : ℕ → ℕ → Member
member_read kind size =
    cond (eqb kind 0) (Flat (record { 0 = size })) (cond (eqb kind 1) (Round (record { 0 = size })) (Flat (record { 0 = 0 })))

unfoldable pub group_of : List ℕ → ℕ → Group
group_of ws i =
    record {
      member = member_read (at ws (8 + 3 * i)) (in32 (at ws (9 + 3 * i)));
      length = record { 0 = in32 (at ws (10 + 3 * i)) };
    }

-- the eight groups that may be told, and how many are
unfoldable pub groups_of : List ℕ → Counted Group 8
groups_of ws =
    record {
      count = in32 (at ws 7);
      places =
          group_of ws 0
          ∷ group_of ws 1
          ∷ group_of ws 2
          ∷ group_of ws 3
          ∷ group_of ws 4
          ∷ group_of ws 5
          ∷ group_of ws 6
          ∷ group_of ws 7
          ∷ [];
      whole = refl;
    }

unfoldable pub section_in : List ℕ → Section
section_in ws =
    record {
      width = record { 0 = in32 (at ws 5) };
      height = record { 0 = in32 (at ws 6) };
      allowance = record { 0 = 0 };
      groups = groups_of ws;
    }

unfoldable pub case_in : List ℕ → Case
case_in ws =
    record {
      legs = in32 (at ws 0);
      direction = in32 (at ws 1);
      ice = in32 (at ws 2);
      factor = in32 (at ws 3);
      pressure = in16 (at ws 4);
      section = section_in ws;
    }

-- a tower has at most 32 sections
abbrev pub width_on : ℕ → ℕ → Length
width_on section width = record { 0 = cond (ltb section 32) width 0 }

unfoldable pub item_of : List ℕ → ℕ → Item
item_of ws p =
    record {
      number = 0;
      section = in8 (at ws p);
      width = width_on (at ws p) (in32 (at ws (p + 1)));
      length = record { 0 = in32 (at ws (p + 2)) };
      bare = in16 (at ws (p + 3));
      iced = in16 (at ws (p + 4));
      position = in16 (at ws (p + 5));
    }

-- item i of those from place p on
abbrev pub item_from : List ℕ → ℕ → ℕ → Item
item_from ws p i = item_of ws (p + 6 * i)
