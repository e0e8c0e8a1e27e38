-- The lesser winds of the groups in code.
use Prim.Native.Nat.{ℕ, zero, suc, ◌+◌, ◌*◌, ◌/◌, ◌≤◌, ◌<◌}
use mathlib.Core.Path.{◌≡◌, refl, sym, ◌∙◌}
use mathlib.Core.Bool.{Bool, true, false, cond, not, ◌&&◌}
use mathlib.Core.List.{List, [], ◌∷◌}
use native.Mathlib.Omega.{arith}
use native.Mathlib.Nat.{mul-pos, mul-le-mul}
use lib.Dec.{eqb}
use lib.ListN.{length, get_or, take}
use lib.Seq.{get_or-take, length-take-le}
use borrow.Author.Tests.{eq-eqb, ne_eqb}
use Rattle.std.specs.Bool.{then_some}
use Rattle.units.specs.declared.Length.{Length}
use Rattle.exact.proofs.Bools.{clash, and_split}
use Rattle.model.specs.declared.Member.{Member}
use Rattle.model.specs.declared.Member.TheVariants.{Flat, Round}
use Rattle.model.specs.declared.Group.{Group}
use Rattle.model.specs.Lists.{any_of, all_of, joined}
use Rattle.model.specs.Areas.{flow_limit, is_supercritical, lesser_of, lesser_winds, areas_of}
use Rattle.std.proofs.lemmas.List.Folds.{list_any-append}
use Rattle.model.specs.Valid.{group_fits}
use Rattle.model.proofs.Sections.{none-lesser}
use Rattle.model.proofs.LesserWinds.{GreatestUnder, greatest-under, positive, less, limit-above, limit-over, stays, turns_at}
use Rattle.areas.specs.LesserPressures.{turns_above, Needless, seen, Covered, none, needless, WindOf}
use Rattle.areas.proofs.Facts.{no_group}

-- the greatest pressure at which a diameter is not supercritical that is so under q: below q
module _ (q : ℕ) (d : Length) (g : flow_limit < 2 * q * (d.0 * d.0)) where
  pub greatest : GreatestUnder flow_limit d.0 (flow_limit / (2 * (d.0 * d.0)))
  greatest = greatest-under flow_limit d.0 (positive flow_limit q d.0 g)

  pub greatest-less : flow_limit / (2 * (d.0 * d.0)) < q
  greatest-less = less q greatest g

  -- and above 0 where the diameter is at most 1 m
  module _ (h : d.0 ≤ 1000) where
    pub square-small : (0 < d.0 * d.0) × (d.0 * d.0 ≤ 1_000_000)
    square-small =
        let k : 0 < d.0 = positive flow_limit q d.0 g in
        (mul-pos k k, mul-le-mul {n₂ = 1000} {m₂ = 1000} h h)

    pub greatest-positive : 0 < flow_limit / (2 * (d.0 * d.0))
    greatest-positive = greatest.none_above 1 (omega (arith, square-small.1))

-- a round that turns supercritical between p and p + 1 has the lesser wind p under every higher pressure, and no other
-- has
module _ (t : Length) (p : ℕ) (d : Length) where
  pub not-turned : is_supercritical t p d ≡ true → (q : ℕ) → p < q → false ≡ any_of (eqb p) (lesser_of t q (Round d))
  unfolding lesser_of
  not-turned h q l = go (is_supercritical t q d) refl
    where
      go : (b : Bool) → is_supercritical t q d ≡ b → false ≡ any_of (eqb p) (cond b (flow_limit / (2 * (d.0 * d.0)) ∷ []) [])
      go true e =
          let g : _ = greatest-less p d (limit-above t p d h) in
          rw (ne_eqb p (flow_limit / (2 * (d.0 * d.0))) (λ z. omega (arith, g)))
      go false e = refl

  pub turned : is_supercritical t p d ≡ false → (q : ℕ) → p < q → is_supercritical t (p + 1) d ≡ any_of (eqb p) (lesser_of t q (Round d))
  unfolding lesser_of
  turned h q l = go (is_supercritical t q d) (is_supercritical t (p + 1) d) refl refl
    where
      go : (b c : Bool) → is_supercritical t q d ≡ b → is_supercritical t (p + 1) d ≡ c
          → c ≡ any_of (eqb p) (cond b (flow_limit / (2 * (d.0 * d.0)) ∷ []) [])
      go true true e f = rw (eq-eqb p (flow_limit / (2 * (d.0 * d.0))) (sym (turns_at t p d h f)))
      go true false e f =
          let z : _ = (and_split (eqb t.0 0) _ e).0 in
          let low : _ = (greatest q d (limit-above t q d e)).none_above (p + 1) (limit-over t (p + 1) d z f) in
          rw (ne_eqb p (flow_limit / (2 * (d.0 * d.0))) (λ k. omega arith))
      go false true e f = absurd (clash (stays t (p + 1) q d (omega arith) f) e)
      go false false e f = refl

-- a member that turns supercritical above p has the lesser wind p under every higher pressure, and no other has
pub turns : (t : Length) (p q : ℕ) (m : Member) → p < q → turns_above t p m ≡ any_of (eqb p) (lesser_of t q m)
unfolding turns_above lesser_of
turns t p q (Flat w) h = refl
turns t p q (Round d) h = go (is_supercritical t p d) refl
  where
    go : (b : Bool) → is_supercritical t p d ≡ b → (not b && is_supercritical t (p + 1) d) ≡ any_of (eqb p) (lesser_of t q (Round d))
    go true e = not-turned t p d e q h
    go false e = turned t p d e q h

pub any-turns : (t : Length) (p q : ℕ) (gs : List Group) → p < q → any_of (λ (g : Group). turns_above t p g.member) gs ≡ any_of (eqb p) (lesser_winds t q gs)
unfolding lesser_winds joined
any-turns t p q [] h = refl
any-turns t p q (g ∷ gs) h =
    rw (list_any-append (eqb p) (lesser_of t q g.member) (lesser_winds t q gs), turns t p q g.member h, any-turns t p q gs h)

pub came_before : (t : Length) (p q : ℕ) (gs : List Group) (i : ℕ) → p < q → any_of (λ (g : Group). turns_above t p g.member) (take i gs) ≡ true
    → Needless t q gs i p
came_before t p q gs i h e = seen (sym (any-turns t p q (take i gs) h) ∙ e)

-- what is read past the end does not matter before it
pub get_or-any : (l : List Group) (i : ℕ) (c d : Group) → i < length l → get_or l i c ≡ get_or l i d
get_or-any [] i c d h = absurd (omega arith)
get_or-any (g ∷ l) zero c d h = refl
get_or-any (g ∷ l) (suc i) c d h = get_or-any l i c d (omega arith)

-- group i, which has the lesser wind p and is covered where that is told to be needless
pub wind_of : (t : Length) (q : ℕ) (gs : List Group) (i p : ℕ) → i < length gs → lesser_of t q (get_or gs i no_group).member ≡ p ∷ [] → (0 < p) × (p < q)
    → (b : Bool) → (b ≡ true → Needless t q gs i p) → WindOf t q gs i (then_some (not b) p)
wind_of t q gs i p h e s true n = needless (λ d. rw (get_or-any gs i d no_group h) e) (n refl)
wind_of t q gs i p h e s false n = record { lesser = λ d. rw (get_or-any gs i d no_group h) e; positive = s.0; small = s.1 }

-- of the first n groups none has a lesser wind where there is no supercritical area
pub none-covered : (t : Length) (q n : ℕ) (gs : List Group) → n ≤ length gs → all_of group_fits (take n gs) ≡ true
    → (areas_of t q (take n gs)).supercritical.0 ≡ 0 → (i : ℕ) → i < n → Covered t q gs i
none-covered t q n gs b h z i l =
    none (λ d. let e : _ = none-lesser t q (take n gs) h z i d (omega (arith, length-take-le n gs b)) in rw get_or-take at e)

-- nor has any of them all
pub all-covered : (t : Length) (q : ℕ) (gs : List Group) → all_of group_fits gs ≡ true → (areas_of t q gs).supercritical.0 ≡ 0
    → (i : ℕ) → i < length gs → Covered t q gs i
all-covered t q gs h z i l = none (λ d. none-lesser t q gs h z i d l)
