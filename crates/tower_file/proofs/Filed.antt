-- What the answer to a whole file comes to.
use Prim.Native.Nat.{ℕ, ◌≤◌}
use mathlib.Core.Path.{◌≡◌}
use mathlib.Core.Bool.{true, false}
use mathlib.Core.List.{List}
use native.Mathlib.Omega.{arith}
use lib.Dec.{eqb}
use lib.ListN.{length, drop, length-drop}
use borrow.Author.Tests.{eq-eqb, ne_eqb}
use Rattle.std.specs.Prelude.{Result}
use Rattle.std.specs.Result.{IsErrAnd}
use Rattle.std.proofs.lemmas.Result.{err_from_is_err_and}
use Rattle.model.specs.declared.Refusal.{Refusal}
use Rattle.model.specs.declared.Tower as stored
use Rattle.model.specs.Answers.{refusal_number}
use Rattle.model.specs.Reading.{refused}
use Rattle.model.specs.File.{read_file}
pub use Rattle.file_fields.proofs.Fetched.{all-bytes}
use Rattle.tower_file.specs.Stored.{ReadsFile}

-- a refusal that is handed on by `?`
pub turned_down : {file : List ℕ} (e : Refusal) (r : Result stored.Tower Refusal) → IsErrAnd r (λ y. y ≡ e) → read_file file ≡ refused (refusal_number e)
    → ReadsFile file r
turned_down e r h f =
    let y = err_from_is_err_and r h in
    rw (y.1, y.2) (record { tower = f; counts = tt })

-- whether bytes follow
module _ (s : List ℕ) (n : ℕ) where
  pub bytes-follow : n ≤ length s → (n ≡ length s → ⊥) → eqb (length (drop n s)) 0 ≡ false
  bytes-follow h ne =
      let more : length (drop n s) ≡ 0 → ⊥ = λ e. ne (omega (arith, length-drop n s)) in
      ne_eqb (length (drop n s)) 0 more

  pub nothing-follows : n ≡ length s → eqb (length (drop n s)) 0 ≡ true
  nothing-follows e = eq-eqb (length (drop n s)) 0 (omega (arith, length-drop n s))
