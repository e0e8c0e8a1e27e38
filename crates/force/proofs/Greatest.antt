-- The greatest of the formula's values, wind by wind. A lesser wind that cannot be the greatest changes nothing.
use Prim.Native.Nat.{ℕ, zero, suc, ◌+◌, ◌*◌, ◌≤◌, ◌<◌}
use mathlib.Core.Path.{◌≡◌, refl, sym, ◌∙◌}
use mathlib.Core.Bool.{Bool, cond, true, false, ◌||◌, true≢false}
use mathlib.Core.List.{List, [], ◌∷◌, ◌++◌, map, map-append}
use native.Mathlib.Omega.{arith}
use native.Mathlib.Numerals.{add-one}
use lib.Dec.{eqb}
use Rattle.std.specs.Ordering.{is_lt, nat_cmp}
use Rattle.std.proofs.lemmas.Bool.Decides.{nat_tests}
use lib.ListN.{length, take, get_or}
use Rattle.std.specs.Prelude.{Option, None, Some, IfSome, option_to_list}
use lib.Seq.{take-suc, take-length}
use borrow.Author.Tests.{eqb-true}
use Rattle.units.specs.declared.Length.{Length}
use Rattle.units.specs.declared.Force.{Force}
use Rattle.exact.specs.Fraction.{whole}
use Rattle.exact.specs.Rooted.{◌√≼◌}
use Rattle.exact.specs.Number as exact
use Rattle.exact.specs.Number.{greater, this, later, only, Sound, AtLeast, Least}
use Rattle.exact.proofs.Lists.{every-all, every-mapped, every-at}
use Rattle.exact.proofs.Greatest.{at-least-only, only-at-least, at-least-left, least-join, least-covered}
use Rattle.counted.specs.Elements.{elements}
use Rattle.model.specs.declared.Group.{Group}
use Rattle.model.specs.Lists.{any_of, joined}
use Rattle.model.specs.Tower.{section_of}
use Rattle.model.specs.Areas.{lesser_of, lesser_winds}
use Rattle.model.specs.Force.{exact_force}
use Rattle.model.proofs.FileLength.{joined-more}
use Rattle.model.proofs.LesserWinds.{formula-defined}
use Rattle.model.proofs.WeakWinds.{quarter}
use Rattle.areas.specs.Fits.{fits_under}
use Rattle.areas.specs.LesserPressures.{Needless, weak, seen, Covered, none, needless}
use Rattle.areas.proofs.Facts.{no_group}
use Rattle.force.specs.Loaded.{SectionInWind, formula_in, exact_on}
use Rattle.force.specs.Greatest.{greatest_to}
use Rattle.force.proofs.Loads.{stands}

-- the lesser winds of one group more
winds-more : (t : Length) (q : ℕ) (gs : List Group) (i : ℕ) (d : Group) → i < length gs
    → lesser_winds t q (take (i + 1) gs) ≡ lesser_winds t q (take i gs) ++ lesser_of t q (get_or gs i d).member
unfolding lesser_winds
winds-more t q gs i d h = rw (add-one, take-suc gs i d h, joined-more (λ g. lesser_of t q g.member) (take i gs) (get_or gs i d))

-- a pressure that came before is one of the list
listed : (p : ℕ) (ps : List ℕ) → any_of (eqb p) ps ≡ true → exact.Some (λ r. r ≡ p) ps
listed p [] h = absurd (true≢false (sym h))
listed p (r ∷ ps) h = go (eqb p r) refl h (listed p ps)
  where
    go : (b : Bool) → eqb p r ≡ b → (b || any_of (eqb p) ps) ≡ true → (any_of (eqb p) ps ≡ true → exact.Some (λ x. x ≡ p) ps) → exact.Some (λ x. x ≡ p) (r ∷ ps)
    go true e k rest = this (sym (eqb-true p r e))
    go false e k rest = later (rest k)

module _ (s : SectionInWind) (h : fits_under s.ice s.section ≡ true) where
  abbrev groups : List Group
  groups = elements s.section.groups

  abbrev winds : List Group → List ℕ
  winds gs = lesser_winds s.ice s.pressure gs

  abbrev lesser_at : ℕ → List ℕ
  lesser_at i = lesser_of s.ice s.pressure (get_or groups i no_group).member

  all_sound : (ps : List ℕ) → Sound (map (formula_in s) ps)
  all_sound ps =
      record {
        each = every-mapped (formula_in s) (λ p d. d)
            (every-all (formula-defined s.legs s.direction s.ice s.factor (section_of s.section) s.items (stands s h)) ps);
      }

  -- the value at full pressure is the first
  first_of : (i n : ℕ) → AtLeast (greatest_to s i) (whole n) → formula_in s s.pressure √≼ whole n
  unfolding greatest_to
  first_of i n c = only-at-least (at-least-left (only (formula_in s s.pressure)) _ c)

  -- after the last group
  pub greatest-all : {m : ℕ} → Least (greatest_to s (length groups)) m → Least (exact_on s) m
  unfolding greatest_to exact_force
  greatest-all {m} a = rw (take-length groups) at a

  -- group i, with these lesser winds
  module _ (i : ℕ) (g : i < length groups) where
    more-is : (ps : List ℕ) → lesser_at i ≡ ps → greatest_to s (i + 1) ≡ greatest_to s i ++ map (formula_in s) ps
    unfolding greatest_to
    more-is ps e = rw (winds-more s.ice s.pressure groups i no_group g, e) (map-append (formula_in s) (s.pressure ∷ winds (take i groups)) ps)

    module _ {m : ℕ} (a : Least (greatest_to s i) m) where
      covered : (ps : List ℕ) → lesser_at i ≡ ps
          → ((n : ℕ) → AtLeast (greatest_to s i) (whole n) → AtLeast (map (formula_in s) ps) (whole n)) → Least (greatest_to s (i + 1)) m
      covered ps e c = rw (more-is ps e) (least-covered c a)

      -- none, or one of at most a quarter of the pressure
      pub greatest-weak : (o : Option ℕ) → lesser_at i ≡ option_to_list o → IfSome o (λ p. 4 * p ≤ s.pressure) → Least (greatest_to s (i + 1)) m
      greatest-weak None e w = covered [] e (λ n c. record { each = exact.none })
      greatest-weak (Some p) e w =
          covered (p ∷ []) e
          (λ n c.
          at-least-only
          (quarter s.legs s.direction s.ice s.factor (section_of s.section) s.items (stands s h) p s.pressure w n (first_of i n c)))

      module _ (p : ℕ) (e : lesser_at i ≡ p ∷ []) where
        -- that of a group before
        pub greatest-seen : any_of (eqb p) (winds (take i groups)) ≡ true → Least (greatest_to s (i + 1)) m
        unfolding greatest_to
        greatest-seen f =
            covered (p ∷ []) e (λ n c. at-least-only (every-at (formula_in s) (later (listed p (winds (take i groups)) f)) c.each))

        -- one that is worked out
        pub greatest-more : {r : ℕ} → Least (only (formula_in s p)) r → Least (greatest_to s (i + 1)) (greater m r)
        unfolding greatest_to
        greatest-more {r} b =
            rw (more-is (p ∷ []) e) (least-join (all_sound (s.pressure ∷ winds (take i groups))) (all_sound (p ∷ [])) a b)

        skipped : Needless s.ice s.pressure groups i p → Least (greatest_to s (i + 1)) m
        skipped (weak w) = greatest-weak (Some p) e w
        skipped (seen f) = greatest-seen f

      -- which need not be worked out
      pub covered-at : Covered s.ice s.pressure groups i → Least (greatest_to s (i + 1)) m
      covered-at (none e) = greatest-weak None (e no_group) tt
      covered-at (needless {p} e w) = skipped p (e no_group) w

  -- many of these
  pub greatest-covered : (i n : ℕ) → i + n ≤ length groups → ((j : ℕ) → i ≤ j → j < i + n → Covered s.ice s.pressure groups j) → {m : ℕ}
      → Least (greatest_to s i) m → Least (greatest_to s (i + n)) m
  greatest-covered i zero b c {m} a = let z : i + 0 ≡ i = omega arith in rw z a
  greatest-covered i (suc n) b c {m} a =
      let z : i + suc n ≡ i + n + 1 = omega arith in
      rw z
      (covered-at (i + n) (omega arith) (greatest-covered i n (omega arith) (λ j x y. c j x (omega arith)) a)
      (c (i + n) (omega arith) (omega arith)))

  -- before the first group
  pub first-greatest : {r : ℕ} → Least (only (formula_in s s.pressure)) r → Least (greatest_to s 0) r
  unfolding greatest_to lesser_winds joined
  first-greatest {r} w = w

-- the greater of two forces, as their order has it
pub max-is : (a b : Force) → (cond (is_lt (nat_cmp b.0 a.0)) a b).0 ≡ greater a.0 b.0
unfolding greater
max-is a b = inside (is_lt (nat_cmp b.0 a.0)) ∙ grind (arith, nat_tests)
  where
    inside : (c : Bool) → (cond c a b).0 ≡ cond c a.0 b.0
    inside true = refl
    inside false = refl
