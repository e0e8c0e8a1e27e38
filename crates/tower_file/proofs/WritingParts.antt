-- The parts of a tower's file, of the tower as a program holds it.
use Prim.Native.Nat.{ℕ, ◌+◌, ◌<◌, ◌≤◌}
use mathlib.Core.Path.{◌≡◌, ap, sym, ◌∙◌}
use mathlib.Core.List.{List, [], ◌∷◌, ◌++◌, append_assoc}
use mathlib.Core.Option.{none}
use native.Mathlib.Omega.{arith}
use lib.ListN.{length, length-append, length-map}
use borrow.Author.Tests.{lt-ltb, le-ltb}
use Rattle.std.specs.Prelude.{Ok, Err}
use Rattle.counted.specs.Elements.{elements}
use Rattle.model.specs.declared.Refusal.TheVariants.{OutputShort}
use Rattle.model.specs.declared.Section as stored-section
use Rattle.model.specs.declared.Tower as stored
use Rattle.model.specs.Lists.{joined}
use Rattle.model.specs.Tower.{Tower, section_of, tower_of}
use Rattle.model.specs.Bytes.{bytes, legs_number, section_bytes, item_bytes, file_of}
use Rattle.model.specs.Machine.{standing, filled}
use Rattle.model.specs.Calls as call
use Rattle.model.specs.Answers.{accepts}
use Rattle.model.proofs.FileLength.{length-bytes}
use Rattle.model.proofs.Lists.{joined-map}
use Rattle.model.proofs.Says.{refused-reply, accepted-reply}
use Rattle.file_fields.specs.Written.{Puts}
use Rattle.tower_file.specs.Written.{WritesFile}

abbrev pub stored_bytes : stored-section.Section → List ℕ
stored_bytes s = section_bytes (section_of s)

-- the file's parts, one after another
module _ (t : stored.Tower) where
  pub file-parts : (((bytes 1 (legs_number t.legs) ++ bytes 1 (length (elements t.sections))) ++ joined stored_bytes (elements t.sections)) ++ bytes 1 (length (elements t.items)))
      ++ joined item_bytes (elements t.items)
      ≡ file_of (tower_of t)
  unfolding file_of
  file-parts = rw (joined-map section_bytes section_of (elements t.sections), length-map) (simp append_assoc)

  pub parts_length : 3 + length (joined stored_bytes (elements t.sections)) + length (joined item_bytes (elements t.items)) ≡ length (file_of (tower_of t))
  parts_length = omega (arith, simp (length-append, length-bytes) at (ap length file-parts))

-- the answers of the writer of files
pub writes-none : (t : Tower) (d : List ℕ) → length d < length (file_of t) → WritesFile t d d (Err OutputShort)
unfolding filled
writes-none t d h =
    let e = lt-ltb (length d) (length (file_of t)) h in
    record { answer = sym (refused-reply (standing t none) (call.write d) OutputShort (rw e)); bytes = rw e }

pub writes-all : (t : Tower) {d x : List ℕ} {n : ℕ} → length (file_of t) ≤ length d → Puts (file_of t) d x n → WritesFile t d x (Ok n)
unfolding filled
writes-all t {d} h p =
    let e = le-ltb (length d) (length (file_of t)) h in
    record {
      answer = ap (λ (k : ℕ). accepts (k ∷ [])) p.count ∙ sym (accepted-reply (standing t none) (call.write d) (rw e));
      bytes = rw e p.bytes;
    }
