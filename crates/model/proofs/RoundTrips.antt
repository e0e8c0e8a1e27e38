-- A valid tower's file is read back as that tower, also without its items; and every element of a file is a byte.
use Prim.Native.Nat.{ℕ, ◌^◌, ◌≤◌, ◌<◌}
use mathlib.Core.Path.{◌≡◌, refl, sym, subst}
use mathlib.Core.Bool.{true, not}
use mathlib.Core.List.{List, [], ◌∷◌, ◌++◌, append_assoc, append-nil}
use native.Mathlib.Omega.{arith}
use lib.Dec.{ltb, lit<}
use lib.ListN.{length}
use borrow.Author.Tests.{ltb-true, le-leb, eq-eqb}
use Rattle.model.specs.declared.Legs.{Legs}
use Rattle.model.specs.declared.Legs.TheVariants.{Three, Four}
use Rattle.model.specs.declared.Member.{Member}
use Rattle.model.specs.declared.Member.TheVariants.{Flat, Round}
use Rattle.model.specs.declared.Group.{Group}
use Rattle.model.specs.declared.Item.{Item}
use Rattle.model.specs.Lists.{all_of, joined}
use Rattle.model.specs.Ranges.{within, leg_count, section_count, section_width, section_height, group_count, member_kind, member_size, member_length, item_count, item_width, item_length, coefficients, position_factor}
use Rattle.model.specs.Tower.{Section, Tower}
use Rattle.model.specs.Areas.{size_of}
use Rattle.model.specs.Reading.{Parsed, got, many}
use Rattle.model.specs.File.{member_of, numbered, legs_of, read_group, read_groups, read_section, read_sections, read_item_fields, read_item, read_items, read_file}
use Rattle.model.specs.Bytes.{kind_of, group_bytes, section_bytes, item_bytes, legs_number, file_of}
use Rattle.model.specs.Valid.{group_fits, section_fits, item_fits, distinct, ValidTower}
use Rattle.model.specs.Calls.{bits}
use Rattle.model.specs.Machine.{with_items}
use Rattle.exact.proofs.Bools.{and_split}
use Rattle.model.proofs.Lists.{all_append, all-of-append, all_in}
use Rattle.model.proofs.Sections.{in-range, within-range, section-facts, item-facts}
use Rattle.model.proofs.Fields.{all-bytes, field_back, ranged-back}
use Rattle.model.proofs.Distinct.{new-number}

-- a run of parts, each of which is read back behind those before it where the whole list is good
module _ {A : Type 0} (bytes_of : A → List ℕ) (p : List A → List ℕ → Parsed A) (Good : List A → Type 0) where
  many-back : ((l : List A) (a : A) (m : List A) → Good (l ++ (a ∷ m)) → (s : List ℕ) → p l (bytes_of a ++ s) ≡ got a s)
      → (l m : List A) (s : List ℕ) → Good (l ++ m) → many p (length m) l (joined bytes_of m ++ s) ≡ got (l ++ m) s
  unfolding many joined
  many-back back l [] s g = rw append-nil
  many-back back l (a ∷ m) s g =
      let e : l ++ (a ∷ m) ≡ (l ++ (a ∷ [])) ++ m = sym (append_assoc l (a ∷ []) m) in
      rw (append_assoc (bytes_of a) (joined bytes_of m) s, back l a m g (joined bytes_of m ++ s), e)
      (many-back back (l ++ (a ∷ [])) m s (subst Good e g))

-- groups
member_back : (m : Member) → member_of (kind_of m) (size_of m) ≡ m
member_back (Flat w) = refl
member_back (Round d) = refl

kind_fits : (m : Member) → within member_kind (kind_of m) ≡ true
kind_fits (Flat w) = refl
kind_fits (Round d) = refl

group-back : (g : Group) → group_fits g ≡ true → (s : List ℕ) → read_group (group_bytes g ++ s) ≡ got g s
unfolding read_group group_bytes
group-back g h s =
    let k : _ = and_split (within member_size (size_of g.member).0) (within member_length g.length.0) h in
    simp append_assoc
    (rw (
      ranged-back 1 member_kind 7 (kind_of g.member) _ (lit< tt) (kind_fits g.member),
      ranged-back 2 member_size 7 (size_of g.member).0 _ (lit< tt) k.0,
      ranged-back 4 member_length 7 g.length.0 _ (lit< tt) k.1,
      member_back g.member,
    ))

groups-back : (l : List Group) (s : List ℕ) → all_of group_fits l ≡ true → read_groups (length l) (joined group_bytes l ++ s) ≡ got l s
unfolding read_groups
groups-back l s h = many-back group_bytes (λ l. read_group) (λ l. all_of group_fits l ≡ true) (λ l g m k. group-back g (all_in group_fits l g m k)) [] l s h

-- sections
section-back : (x : Section) → section_fits x ≡ true → (s : List ℕ) → read_section (section_bytes x ++ s) ≡ got x s
unfolding read_section section_bytes
section-back x h s =
    let k : _ = section-facts x h in
    simp append_assoc
    (rw (
      ranged-back 2 section_width 5 x.width.0 _ (lit< tt) (within-range k.width),
      ranged-back 2 section_height 5 x.height.0 _ (lit< tt) (within-range k.height),
      eq-eqb _ _ k.even,
      field_back 4 x.allowance.0 _ k.allowance,
      ranged-back 1 group_count 6 (length x.groups) _ (lit< tt) (within-range k.count),
      groups-back x.groups s k.groups,
      le-leb _ _ k.bare,
    ))

sections-back : (l : List Section) (s : List ℕ) → all_of section_fits l ≡ true → read_sections (length l) (joined section_bytes l ++ s) ≡ got l s
unfolding read_sections
sections-back l s h =
    many-back section_bytes (λ l. read_section) (λ l. all_of section_fits l ≡ true) (λ l x m k. section-back x (all_in section_fits l x m k)) [] l s h

-- items
module _ (sections : ℕ) (few : sections ≤ 32) where
  item_back : (earlier : List Item) (it : Item) → not (numbered it.number earlier) ≡ true → item_fits sections it ≡ true
      → (s : List ℕ) → read_item sections earlier (item_bytes it ++ s) ≡ got it s
  unfolding read_item read_item_fields item_bytes
  item_back earlier it new h s =
      let a : _ = and_split (ltb it.number (2 ^ 16)) _ h in
      let b : _ = and_split (ltb it.section sections) _ a.1 in
      let k : _ = item-facts it b.1 in
      let there : it.section < 256 ^ 1 = omega (arith, ltb-true it.section sections b.0) in
      simp append_assoc
      (rw (
        field_back 2 it.number _ (ltb-true _ _ a.0),
        new,
        field_back 1 it.section _ there,
        b.0,
        ranged-back 2 item_width 12 it.width.0 _ (lit< tt) (within-range k.width),
        ranged-back 2 item_length 12 it.length.0 _ (lit< tt) (within-range k.length),
        ranged-back 2 coefficients 12 it.bare _ (lit< tt) (within-range k.bare),
        ranged-back 2 coefficients 12 it.iced _ (lit< tt) (within-range k.iced),
        ranged-back 2 position_factor 12 it.position s (lit< tt) (within-range k.position),
      ))

  items_back : (l : List Item) (s : List ℕ) → all_of (item_fits sections) l ≡ true → distinct l ≡ true
      → read_items sections (length l) (joined item_bytes l ++ s) ≡ got l s
  unfolding read_items
  items_back l s h d =
      many-back item_bytes (read_item sections) (λ l. (all_of (item_fits sections) l ≡ true) × (distinct l ≡ true))
      (λ l it m k. item_back l it (new-number l it m k.1) (all_in (item_fits sections) l it m k.0))
      [] l s (h, d)

legs-fit : (l : Legs) → within leg_count (legs_number l) ≡ true
legs-fit Three = refl
legs-fit Four = refl

legs-back : (l : Legs) → legs_of (legs_number l) ≡ l
legs-back Three = refl
legs-back Four = refl

-- written and read again, a tower is the same
pub same-tower : (t : Tower) → ValidTower t → read_file (file_of t) ≡ got t []
unfolding read_file file_of
same-tower t v =
    rw (
      ranged-back 1 leg_count 3 (legs_number t.legs) _ (lit< tt) (legs-fit t.legs),
      ranged-back 1 section_count 4 (length t.sections) _ (lit< tt) v.count,
      sections-back t.sections _ v.sections,
      ranged-back 1 item_count 9 (length t.items) _ (lit< tt) v.held,
      sym (append-nil (joined item_bytes t.items)),
      items_back (length t.sections) (in-range section_count _ v.count).high t.items [] v.items v.numbers,
      legs-back t.legs,
    )

-- the file of the tower without its items
pub bare-file : (t : Tower) → ValidTower t → ValidTower (with_items t []) × (read_file (file_of (with_items t [])) ≡ got (with_items t []) [])
bare-file t v =
    let bare : ValidTower (with_items t []) = record { count = v.count; sections = v.sections; held = refl; items = refl; numbers = refl } in
    (bare, same-tower (with_items t []) bare)

-- every element of a file is a byte
joined_bytes : {A : Type 0} (bytes_of : A → List ℕ) → ((a : A) → all_of (bits 8) (bytes_of a) ≡ true) → (l : List A) → all_of (bits 8) (joined bytes_of l) ≡ true
unfolding joined
joined_bytes bytes_of h [] = refl
joined_bytes bytes_of h (a ∷ l) = all_append (bits 8) (bytes_of a) (joined bytes_of l) (h a) (joined_bytes bytes_of h l)

group-bytes : (g : Group) → all_of (bits 8) (group_bytes g) ≡ true
unfolding group_bytes
group-bytes g = simp (all-of-append, all-bytes)

section-bytes : (s : Section) → all_of (bits 8) (section_bytes s) ≡ true
unfolding section_bytes
section-bytes s = simp (all-of-append, all-bytes, joined_bytes group_bytes group-bytes)

item-bytes : (it : Item) → all_of (bits 8) (item_bytes it) ≡ true
unfolding item_bytes
item-bytes it = simp (all-of-append, all-bytes)

pub file-bytes : (t : Tower) → all_of (bits 8) (file_of t) ≡ true
unfolding file_of
file-bytes t = simp (all-of-append, all-bytes, joined_bytes section_bytes section-bytes, joined_bytes item_bytes item-bytes)
