-- The loop that reads sections, over plain values.
use Rattle.std.proofs.Common.{◌≡◌, ℕ, ◌+◌, List, [], ◌∷◌, ◌++◌, map, length, ap, sym, ◌∙◌}
use Rattle.std.proofs.lemmas.List.{length-map, map-append}
use Rattle.model.specs.declared.Section as stored
use Rattle.model.specs.Lists.{list_to}
use Rattle.model.specs.Tower.{section_of}
use Rattle.model.proofs.Lists.{length-list_to}
use Rattle.slots.specs.Held.{Slots, section_at, ground_of, ice_on}
use Rattle.slots.proofs.Lists.{list-more}

module _ (l : Slots) (i : ℕ) (sections : List stored.Section)
    (e : map section_of sections ≡ list_to (section_at l (ice_on (ground_of l))) i) where
  -- there are so many so far
  pub so-many : length sections ≡ i
  so-many = sym (length-map sections section_of) ∙ ap length e ∙ length-list_to (section_at l (ice_on (ground_of l))) i

  -- a section more
  pub sections-more : (x : stored.Section) → section_of x ≡ section_at l (ice_on (ground_of l)) i
      → map section_of (sections ++ (x ∷ [])) ≡ list_to (section_at l (ice_on (ground_of l))) (i + 1)
  sections-more x f = rw (map-append, e, f) (sym (list-more (section_at l (ice_on (ground_of l))) i))
