-- A tower that was put into the slots is what they stand for.
use Rattle.std.proofs.Common.{◌≡◌, ℕ, ◌+◌, ◌*◌, ◌≤◌, ◌<◌, true, false, [], map, length, take, set, refl, ap, ◌∙◌, arith}
use Rattle.std.proofs.Math.Option.{none}
use Rattle.std.proofs.lemmas.List.{get_or-set_same, get_or-set_other, drop-set-lt, take_all}
use borrow.Author.Tests.{le-leb}
use Rattle.units.specs.declared.Length.{Length}
use Rattle.model.specs.declared.Legs.{Legs}
use Rattle.model.specs.declared.Legs.TheVariants.{Three, Four}
use Rattle.model.specs.Lists.{list_to}
use Rattle.model.specs.Ranges.{section_count, item_count}
use Rattle.model.specs.Tower.{Section, Tower}
use Rattle.model.specs.File.{legs_of}
use Rattle.model.specs.Bytes.{legs_number}
use Rattle.model.specs.Machine.{standing}
use Rattle.model.specs.Valid.{section_fits, ValidTower}
use Rattle.model.proofs.Lists.{all-at}
use Rattle.model.proofs.Sections.{in-range, section-facts}
use Rattle.exact.proofs.Bools.{and-join}
use Rattle.slots.specs.Held.{
  Slots,
  slot,
  cell,
  is_standing,
  count_in,
  held_in,
  item_of,
  items_to,
  items_in,
  least_section,
  stands_under,
  section_of,
  section_as,
  section_at,
  pressure_at,
  ground_of,
  is_windy,
  ice_on,
  tower_in,
  wind_in,
  state_of,
  PutSections,
}
use Rattle.slots.specs.Promises.{wind_asked}
use Rattle.slots.proofs.Lists.{list-take, list_same}
use Rattle.slots.proofs.Grounds.{standing-as, sections-are, pressures-are, ice-calm}
use Rattle.tower_calls.specs.Placed.{section_in, head_of, PutItems}

-- the tower and the wind in the slots, by their parts
pub tower-is : (l : Slots)
    → tower_in l ≡ record { legs = legs_of (cell l 0 1); sections = list_to (section_at l (ice_on (ground_of l))) (count_in l); items = items_in l }
unfolding ground_of
tower-is l = rw (sections-are l)

pub wind-is : (l : Slots) → wind_in l ≡ wind_asked (cell l 0 5) (cell l 0 6) (cell l 0 7) (list_to (pressure_at l) (count_in l))
unfolding ground_of
wind-is l = rw (pressures-are l)

-- sections that their slots hold, and that stand under the ice
pub sections-stand : (l : Slots) (t : Length) (f : ℕ → Section) (n : ℕ) → ((k : ℕ) → k < n → section_as l k ≡ f k)
    → ((k : ℕ) → k < n → stands_under t (f k) ≡ true) → list_to (section_at l t) n ≡ list_to f n
unfolding section_of
sections-stand l t f n each stand =
    list_same (section_at l t) f n (λ k h. let up = ap (stands_under t) (each k h) ∙ stand k h in rw up (each k h))

legs-back : (l : Legs) → legs_of (legs_number l) ≡ l
legs-back Three = refl
legs-back Four = refl

-- a tower that was put
module _ (t : Tower) (v : ValidTower t) (l s₁ s₂ : Slots) (long : length l ≡ 129)
    (p : PutSections (section_in t.sections) (λ _. 0) (length t.sections) l s₁) (q : PutItems t.items s₁ s₂) where
  abbrev put : Slots
  put = set s₂ 0 (head_of t)

  few-sections : length t.sections ≤ 32
  few-sections = (in-range section_count (length t.sections) v.count).high

  few-items : length t.items ≤ 64
  few-items = (in-range item_count (length t.items) v.held).high

  first : slot put 0 ≡ head_of t
  first = get_or-set_same s₂ 0 (head_of t) [] (omega (arith, q.long, p.long))

  others : (j : ℕ) → 0 < j → slot put j ≡ slot s₂ j
  others j h = get_or-set_other s₂ 0 j (head_of t) [] (λ z. omega arith)

  counted : count_in put ≡ length t.sections
  unfolding count_in
  counted = rw first (omega (arith, few-sections))

  holds : held_in put ≡ length t.items
  unfolding held_in
  holds = rw first (omega (arith, few-items))

  upright : is_standing put ≡ true
  unfolding is_standing
  upright = rw first

  still : is_windy (ground_of put) ≡ false
  unfolding ground_of
  still = rw first

  section-as : (k : ℕ) → k < length t.sections → section_as put k ≡ section_in t.sections k
  section-as k h =
      let a : slot put (1 + 2 * k) ≡ slot s₁ (1 + 2 * k) = others (1 + 2 * k) (omega arith) ∙ q.beside (1 + 2 * k) (omega (arith, few-sections)) in
      let b : slot put (1 + 2 * k + 1) ≡ slot s₁ (1 + 2 * k + 1) =
      others (1 + 2 * k + 1) (omega arith) ∙ q.beside (1 + 2 * k + 1) (omega (arith, few-sections)) in
      rw (a, b) (p.each k h)

  -- each stands bare
  bare : (k : ℕ) → k < length t.sections → stands_under (record { 0 = 0 }) (section_in t.sections k) ≡ true
  bare k h =
      let f = all-at section_fits t.sections k least_section h v.sections in
      and-join f (le-leb _ _ (section-facts (section_in t.sections k) f).bare)

  sections-put : list_to (section_at put (record { 0 = 0 })) (length t.sections) ≡ t.sections
  sections-put =
      sections-stand put (record { 0 = 0 }) (section_in t.sections) (length t.sections) section-as bare
      ∙ list-take (section_in t.sections) t.sections least_section (length t.sections) (omega arith) (λ j h. refl)
      ∙ take_all (length t.sections) t.sections (omega arith)

  items-put : items_to put (length t.items) ≡ t.items
  items-put = ap (λ (m : Slots). map item_of (take (length t.items) m)) (drop-set-lt 65 s₂ 0 (head_of t) (omega arith)) ∙ q.each

  pub tower-put : state_of put ≡ standing t none
  tower-put =
      standing-as put upright
      ∙ rw (still, tower-is put, ice-calm put still, first, counted, holds, sections-put, items-put, legs-back t.legs)
