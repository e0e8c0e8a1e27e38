-- Digests of lists, element by element.
use Prim.Native.Nat.{ℕ, ◌+◌, ◌<◌}
use mathlib.Core.Path.{◌≡◌, refl, sym, ◌∙◌}
use mathlib.Core.List.{List, [], ◌∷◌, ◌++◌}
use lib.ListN.{length, get_or, take}
use Rattle.std.proofs.lemmas.List.{take_more}
use Rattle.model.specs.Lists.{joined}
use Rattle.model.proofs.FileLength.{joined-more}
use Rattle.lines.specs.Digest.{mixed, digest}
use Rattle.lines.proofs.Mixing.{digest-append}

module _ {A : Type 0} (f : A → List ℕ) where
  pub mixed_none : (d : ℕ) → d ≡ digest d (joined f [])
  unfolding joined digest
  mixed_none d = refl

  -- one turn of a loop, at the part x
  pub mixed_more : (d e r : ℕ) (l : List A) (i : ℕ) (x : A) → i < length l → x ≡ get_or l i x → e ≡ digest d (joined f (take i l))
      → r ≡ digest e (f x) → r ≡ digest d (joined f (take (i + 1) l))
  mixed_more d e r l i x h k p q = rw (take_more l i x h, ← k, joined-more, digest-append, ← p) q

-- a tower's numbers: its head, its sections, how many items, and the items
pub digest_parts : (d : ℕ) (head sections : List ℕ) (n : ℕ) (items : List ℕ)
    → digest (mixed (digest (digest d head) sections) n) items ≡ digest d (head ++ (sections ++ (n ∷ items)))
unfolding digest
digest_parts d head sections n items =
    sym (digest-append d head (sections ++ (n ∷ items)) ∙ digest-append (digest d head) sections (n ∷ items))
