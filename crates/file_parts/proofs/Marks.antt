-- The marks of item numbers: where a number's mark is missing, no item has the number.
use Prim.Native.Nat.{ℕ, ◌%◌, ◌<◌}
use mathlib.Core.Path.{◌≡◌, refl, ap, sym, ◌∙◌}
use mathlib.Core.Bool.{Bool, true, false, true≢false}
use mathlib.Core.List.{List, [], ◌∷◌, ◌++◌}
use lib.Dec.{eqb}
use lib.ListN.{length, get_or, set}
use lib.Seq.{get_or-set_same, get_or-set_other}
use borrow.Author.Tests.{eqb-true, eqb-false, ne_eqb}
use Rattle.model.specs.declared.Item.{Item}
use Rattle.model.specs.File.{numbered}
use Rattle.model.proofs.Lists.{any_append}
use Rattle.file_parts.specs.Marks as stored

module _ (m : ℕ) where
  -- a number's mark is at its remainder modulo m
  abbrev pub Marked : List Bool → List Item → Type 0
  Marked marks l = (n : ℕ) → get_or marks (n % m) false ≡ false → numbered n l ≡ false

  -- an item more, which leaves its own mark
  pub marked_more : (marks : List Bool) (items : List Item) (it : Item) → it.number % m < length marks
      → Marked marks items → Marked (set marks (it.number % m) true) (items ++ (it ∷ []))
  marked_more marks items it k so n e = by-case (eqb (n % m) (it.number % m)) refl
    where
      by-case : (b : Bool) → eqb (n % m) (it.number % m) ≡ b → numbered n (items ++ (it ∷ [])) ≡ false
      by-case true s =
          let same : n % m ≡ it.number % m = eqb-true _ _ s in
          absurd (true≢false (sym (get_or-set_same marks (it.number % m) true false k) ∙ ap (λ (j : ℕ). get_or (set marks (it.number % m) true) j false) (sym same) ∙ e))
      by-case false s =
          let other : n % m ≡ it.number % m → ⊥ = eqb-false _ _ s in
          let earlier : numbered n items ≡ false = so n (sym (get_or-set_other marks (it.number % m) (n % m) true false other) ∙ e) in
          let differs : eqb it.number n ≡ false = ne_eqb _ _ (λ z. other (ap (λ (j : ℕ). j % m) (sym z))) in
          rw (any_append, earlier, differs) refl

-- those that are kept beside the items read are 1 024
pub kept_marks : (marks : List Bool) (items : List Item) → stored.Marked marks items ≡ Marked 1024 marks items
kept_marks marks items = refl
