-- Groups, sections and items in slots, and back.
use Rattle.std.proofs.Common.{◌≡◌, ℕ, zero, suc, ◌%◌, ◌/◌, ◌+◌, ◌*◌, ◌≤◌, ◌<◌, Bool, true, false, List, map, length, get_or, set, refl, ap, sym, ◌∙◌, arith}
use Rattle.std.proofs.lemmas.List.{length-map, length-set, get_or-map, get_or_append_left, get_or-set_same, get_or-set_other, take_all}
use native.Mathlib.Nat.{mod-eq_of_lt, add-mul-mod_self_left, div-eq_of_lt-le}
use borrow.Author.Tests.{le-leb}
use Rattle.units.specs.declared.Length.{Length}
use Rattle.model.specs.declared.Member.{Member}
use Rattle.model.specs.declared.Member.TheVariants.{Flat, Round}
use Rattle.model.specs.declared.Group.{Group}
use Rattle.model.specs.declared.Item.{Item}
use Rattle.model.specs.declared.Section as stored
use Rattle.model.specs.Lists.{list_to, sum_by}
use Rattle.model.specs.Areas.{size_of, group_area, gross, solid_of}
use Rattle.model.specs.Bytes.{kind_of}
use Rattle.model.specs.File.{fields_in_range, member_of}
use Rattle.model.specs.Tower.{Section, section_of}
use Rattle.model.specs.Valid.{group_fits, section_fits}
use Rattle.model.proofs.Lists.{all-at}
use Rattle.model.proofs.Sections.{section-facts}
use Rattle.areas.specs.Fits.{fits_under}
use Rattle.areas.proofs.Fits.{under-facts}
use Rattle.areas.proofs.Facts.{group-facts}
use Rattle.exact.proofs.Bools.{and-join}
use Rattle.slots.specs.Held.{
  Slots,
  slot,
  item_of,
  slot_of,
  group_in,
  group_number,
  section_in,
  stands_under,
  section_of as section_in_slots,
  least_section,
  field_slot,
  group_slot,
  PutSection,
}
use Rattle.slots.proofs.Lists.{list-take}

-- the member of a number
pub member-round : (k : ℕ) (w : Length) → (k ≡ 0 → ⊥) → member_of k w ≡ Round w
member-round zero w h = absurd (h refl)
member-round (suc k) w h = refl

-- the three parts of a group's number
module _ (k w n : ℕ) (hk : k < 2) (hw : w < 1024) where
  low : (k + 2 * w + 2048 * n) % 2 ≡ k
  low =
      ap (λ (x : ℕ). x % 2) {x = k + 2 * w + 2048 * n} {y = k + 2 * (w + 1024 * n)} (omega arith)
      ∙ add-mul-mod_self_left k 2 (w + 1024 * n) ∙ mod-eq_of_lt hk

  middle : (k + 2 * w + 2048 * n) / 2 % 1024 ≡ w
  middle =
      ap (λ (x : ℕ). x % 1024) (div-eq_of_lt-le {k = w + 1024 * n} 2 {m = k + 2 * w + 2048 * n} (omega arith) (omega arith))
      ∙ add-mul-mod_self_left w 1024 n ∙ mod-eq_of_lt hw

  high : (k + 2 * w + 2048 * n) / 2048 ≡ n
  high = div-eq_of_lt-le {k = n} 2048 {m = k + 2 * w + 2048 * n} (omega arith) (omega arith)

  pub parts : group_in (k + 2 * w + 2048 * n) ≡ record { member = member_of k (record { 0 = w }); length = record { 0 = n } }
  parts = rw (low, middle, high)

back : (m : Member) (n : Length) → (size_of m).0 ≤ 1000 → group_in (kind_of m + 2 * (size_of m).0 + 2048 * n.0) ≡ record { member = m; length = n }
back (Flat w) n h = parts 0 w.0 n.0 (omega arith) (omega arith)
back (Round w) n h = parts 1 w.0 n.0 (omega arith) (omega arith)

-- a group that is in its ranges is what its number stands for
pub group-back : (g : Group) → group_fits g ≡ true → group_in (group_number g) ≡ g
unfolding group_number
group-back g h = rw h (back g.member g.length (group-facts g h).size.high)

-- of a section with at most 8 groups, the code's test is the definition's
pub fits-stands : (t : Length) (x : stored.Section) → t.0 ≤ 50 → x.groups.count ≤ 8 → fits_under t x ≡ stands_under t (section_of x)
unfolding fits_under
fits-stands t x thin few = rw (le-leb t.0 50 thin, le-leb x.groups.count 8 few)

-- the least section stands under any ice
pub least-stands : (t : Length) → t.0 ≤ 50 → stands_under t least_section ≡ true
unfolding solid_of sum_by group_area gross
least-stands t thin = and-join refl (le-leb ((1 + 2 * t.0) * 1 + 0) (100 * 100) (omega arith))

-- a section that is in its ranges is what its slots stand for
module _ (x : Section) (q : ℕ) (fits : section_fits x ≡ true) where
  few : length x.groups ≤ 8
  few = (section-facts x fits).count.high

  group_kept : (d : Group) (j : ℕ) → j < length x.groups → group_in (get_or (group_slot x.groups) j 0) ≡ get_or x.groups j d
  group_kept d j h =
      ap group_in
      (get_or_append_left (map group_number x.groups) _ 0 j (omega (arith, length-map x.groups group_number)) ∙ get_or-map group_number x.groups j d 0 h)
      ∙ group-back (get_or x.groups j d) (all-at group_fits x.groups j d h (section-facts x fits).groups)

  pub same-section : section_in (field_slot x q) (group_slot x.groups) ≡ x
  same-section =
      ap (λ (l : List Group). record { width = x.width; height = x.height; allowance = x.allowance; groups = l })
      (ap (list_to (λ (j : ℕ). group_in (get_or (group_slot x.groups) j 0))) {y = length x.groups} (omega (arith, few))
      ∙ list-take (λ (j : ℕ). group_in (get_or (group_slot x.groups) j 0)) x.groups (group_in 0) (length x.groups) (omega arith) (group_kept (group_in 0))
      ∙ take_all (length x.groups) x.groups (omega arith))

pub item_back : (it : Item) → it.number < 65_536 → it.section < 256 → it.bare < 65_536 → it.iced < 65_536 → it.position < 65_536
    → fields_in_range it ≡ true → item_of (slot_of it) ≡ it
unfolding item_of
item_back it a b d e f h = rw (mod-eq_of_lt a, mod-eq_of_lt b, mod-eq_of_lt d, mod-eq_of_lt e, mod-eq_of_lt f, h)

-- a section that was read and stands, or the least one
module _ (t : Length) (thin : t.0 ≤ 50) (a b : List ℕ) (x : stored.Section) (h : section_of x ≡ section_in a b) where
  stands : x.groups.count ≤ 8 → {v : Bool} → fits_under t x ≡ v → stands_under t (section_in a b) ≡ v
  stands few e = ap (stands_under t) (sym h) ∙ sym (fits-stands t x thin few) ∙ e

  pub section-good : fits_under t x ≡ true → (section_of x ≡ section_in_slots t a b) × (fits_under t x ≡ true)
  unfolding section_in_slots
  section-good e = (h ∙ rw (stands (under-facts t x e).count e) refl, e)

  pub section-bad : x.groups.count ≤ 8 → (y : stored.Section) → fits_under t x ≡ false
      → (section_of y ≡ least_section) × ((t : Length) → t.0 ≤ 50 → fits_under t y ≡ true)
      → (section_of y ≡ section_in_slots t a b) × (fits_under t y ≡ true)
  unfolding section_in_slots
  section-bad few y e l = (l.0 ∙ rw (stands few e) refl, l.1 t thin)

-- put into its slots
pub section-put : (l : Slots) (i : ℕ) (x : Section) (q : ℕ) → length l ≡ 129 → i < 32 → section_fits x ≡ true
    → PutSection x q i l (set (set l (1 + 2 * i) (field_slot x q)) (1 + 2 * i + 1) (group_slot x.groups))
section-put l i x q n h fits =
    let a : List ℕ = field_slot x q in
    let b : List ℕ = group_slot x.groups in
    let after : Slots = set (set l (1 + 2 * i) a) (1 + 2 * i + 1) b in
    let first : slot after (1 + 2 * i) ≡ a = grind (arith, get_or-set_same, get_or-set_other) in
    let second : slot after (1 + 2 * i + 1) ≡ b = grind (arith, get_or-set_same, length-set) in
    record {
      long = rw (length-set, length-set);
      it = rw (first, second) (same-section x q fits);
      pressed = rw first refl;
      others = λ j d e. grind (arith, get_or-set_other);
    }
