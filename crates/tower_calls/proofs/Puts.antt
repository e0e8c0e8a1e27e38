-- The loops that put sections and items into slots, over plain values.
use Rattle.std.proofs.Common.{◌≡◌, ℕ, ◌+◌, ◌*◌, ◌<◌, List, [], ◌∷◌, ◌++◌, map, length, get_or, set, take, drop, true, refl, ap, sym, ◌∙◌, arith}
use Rattle.std.proofs.lemmas.Grind.{common_steps}
use Rattle.std.proofs.lemmas.List.{length-map, length-set, length-drop, get_or-map, get_or-set_other, drop-set-add, take_more, take_more_set}
use mathlib.Core.List.{map-append}
use borrow.Author.Count.{below_more}
use Rattle.units.specs.declared.Length.{Length}
use Rattle.model.specs.declared.Item.{Item}
use Rattle.model.specs.declared.Section as stored
use Rattle.model.specs.Lists.{all_of}
use Rattle.model.specs.Tower.{Section, section_of}
use Rattle.model.specs.Valid.{section_fits}
use Rattle.model.proofs.Lists.{all-at}
use Rattle.slots.specs.Held.{Slots, cell, item_of, least_section, section_as, section_at, PutSection, PutSections}
use Rattle.tower_calls.specs.Placed.{section_in, PutItems}

-- sections and their pressures
module _ (f : ℕ → Section) (p : ℕ → ℕ) where
  pub sections-none : (l : Slots) → PutSections f p 0 l l
  sections-none l =
      record {
        long = refl;
        each = λ k h. absurd (omega arith);
        pressed = λ k h. absurd (omega arith);
        above = refl;
        below = λ j h. refl;
      }

  pub sections-more : (i : ℕ) {before mid after : Slots} → PutSections f p i before mid → PutSection (f i) (p i) i mid after
      → PutSections f p (i + 1) before after
  sections-more i {mid = mid} {after} m n =
      record {
        long = n.long ∙ m.long;
        each = below_more (λ (k : ℕ). section_as after k ≡ f k) i
            (λ k h. rw (n.others (1 + 2 * k) (λ z. omega arith) (λ z. omega arith), n.others (1 + 2 * k + 1) (λ z. omega arith) (λ z. omega arith)) (m.each k h))
            n.it;
        pressed = below_more (λ (k : ℕ). cell after (1 + 2 * k) 3 ≡ p k) i
            (λ k h. rw (n.others (1 + 2 * k) (λ z. omega arith) (λ z. omega arith)) (m.pressed k h))
            n.pressed;
        above = n.others 0 (λ z. omega arith) (λ z. omega arith) ∙ m.above;
        below = λ j h. n.others j (λ z. omega arith) (λ z. omega arith) ∙ m.below j (omega arith);
      }

  -- a section that is not put yet is as it was
  pub section-yet : (t : Length) (i : ℕ) {before mid : Slots} → PutSections f p i before mid → section_at mid t i ≡ section_at before t i
  section-yet t i m = rw (m.below (1 + 2 * i) (omega arith), m.below (1 + 2 * i + 1) (omega arith))

-- the section that is read at a place
module _ (l : List stored.Section) (i : ℕ) (x : stored.Section) (h : i < length l) (is : x ≡ get_or l i x) where
  pub section-there : section_in (map section_of l) i ≡ section_of x
  section-there = get_or-map section_of l i x least_section h ∙ ap section_of (sym is)

  pub section-fit : all_of section_fits (map section_of l) ≡ true → section_fits (section_of x) ≡ true
  section-fit e =
      ap section_fits (sym section-there) ∙ all-at section_fits (map section_of l) i least_section (omega (arith, length-map l section_of)) e

-- items
pub items-none : (l : Slots) → PutItems [] l l
items-none l = record { long = refl; each = refl; beside = λ j h. refl }

pub items-more : (items : List Item) (i : ℕ) (d : Item) (before mid : Slots) (it : List ℕ) → length before ≡ 129 → i < 64 → i < length items
    → PutItems (take i items) before mid → item_of it ≡ get_or items i d → PutItems (take (i + 1) items) before (set mid (65 + i) it)
items-more items i d before mid it n h k p e =
    let here : length (take i items) ≡ i = grind (arith, common_steps) in
    let next : length (take (i + 1) items) ≡ i + 1 = grind (arith, common_steps) in
    record {
      long = length-set mid (65 + i) it ∙ p.long;
      each =
          rw (next, drop-set-add 65 mid i it, take_more_set (drop 65 mid) i it (omega (arith, length-drop 65 mid, p.long)), map-append, e, take_more items i d k)
          (ap (λ m. m ++ get_or items i d ∷ []) (rw here at p.each));
      beside = λ j g. get_or-set_other mid (65 + i) j it [] (λ z. omega arith) ∙ p.beside j g;
    }
