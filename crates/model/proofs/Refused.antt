-- A call that is turned down changes nothing: not the state, and not a lent slice; and it answers its number alone.
use Prim.Native.Nat.{ℕ}
use mathlib.Core.Path.{◌≡◌, refl}
use mathlib.Core.Bool.{Bool, true, false, cond}
use mathlib.Core.List.{List, []}
use lib.Dec.{eqb}
use borrow.Author.Tests.{ne_eqb}
use Rattle.model.specs.Tower.{Tower}
use Rattle.model.specs.Reading.{Parsed, got, refused}
use Rattle.model.specs.File.{read_file}
use Rattle.model.specs.Machine.{State, unless_refused, filled, file_refusal, erected, erect_refusal}
use Rattle.model.specs.Calls.{Call, erect, meaning, refusal_of, step, reply_of, lent_before, lent_after}

-- of what is chosen by a number, the second where it is not 0; and either, where the two are one
otherwise : {A : Type 0} (n : ℕ) (x y : A) → (n ≡ 0 → ⊥) → cond (eqb n 0) x y ≡ y
otherwise n x y h = rw (ne_eqb n 0 h)

either : {A : Type 0} (b : Bool) (x : A) → cond b x x ≡ x
either true x = refl
either false x = refl

pub filled-refused : (n : ℕ) (given lent : List ℕ) → (n ≡ 0 → ⊥) → filled n given lent ≡ lent
unfolding filled
filled-refused n given lent h = otherwise n _ lent h

module _ (m : State) (c : Call) where
  pub refused-state : (refusal_of m c ≡ 0 → ⊥) → step m c ≡ m
  refused-state h = otherwise (refusal_of m c) (meaning m c).next m h

  pub refused-values : (refusal_of m c ≡ 0 → ⊥) → (reply_of m c).values ≡ []
  refused-values h = otherwise (refusal_of m c) (meaning m c).values [] h

  pub refused-lent : (refusal_of m c ≡ 0 → ⊥) → lent_after m c ≡ lent_before c
  refused-lent h = filled-refused (refusal_of m c) (meaning m c).given (lent_before c) h

  -- a call whose meaning changes no state, or answers no value, or gives nothing
  pub same-state : (meaning m c).next ≡ m → step m c ≡ m
  same-state e = rw e (either (eqb (refusal_of m c) 0) m)

  pub no-values : (meaning m c).values ≡ [] → (reply_of m c).values ≡ []
  no-values e = rw e (either (eqb (refusal_of m c) 0) [])

  pub same-lent : (meaning m c).given ≡ [] → lent_after m c ≡ lent_before c
  unfolding filled
  same-lent e = rw e (either (eqb (refusal_of m c) 0) (lent_before c))

-- erect: a file that is turned down leaves the state either way
erected-either : (m : State) (p : Parsed Tower) → unless_refused (file_refusal p) m (erected m p) ≡ erected m p
erected-either m (got t rest) = refl
erected-either m (refused n) = either (eqb n 0) m

pub erect-state : (m : State) (file : List ℕ) → step m (erect file) ≡ erected m (read_file file)
unfolding erect_refusal
erect-state m file = erected-either m (read_file file)
