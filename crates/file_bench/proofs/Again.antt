-- A file that is accepted and written is itself again, and written twice it is as written once.
use Prim.Native.Nat.{ℕ, ◌-◌, ◌^◌, ◌≤◌, ◌<◌}
use mathlib.Core.Path.{◌≡◌, refl, ap, sym, ◌∙◌}
use mathlib.Core.Bool.{Bool, true, false, cond}
use mathlib.Core.List.{List, [], ◌++◌}
use mathlib.Core.Option.{none}
use native.Mathlib.Omega.{arith}
use lib.Dec.{leb, ltb}
use lib.ListN.{length, get_or, drop, length-append, length-drop}
use lib.Seq.{drop-append_seam}
use borrow.Author.Tests.{lt-ltb, le-ltb, leb-true, leb-false, le-leb, lt-leb}
use Rattle.std.specs.Prelude.{Result, Ok, Err}
use Rattle.model.specs.declared.Refusal.{Refusal}
use Rattle.model.specs.declared.Tower as stored
use Rattle.model.specs.Answers.{refusal_number, write_reply}
use Rattle.model.specs.Tower.{Tower, tower_of}
use Rattle.model.specs.Reading.{got, refused}
use Rattle.model.specs.File.{read_file}
use Rattle.model.specs.Bytes.{file_of}
use Rattle.model.specs.Machine.{standing, filled}
use Rattle.model.specs.Calls as call
use Rattle.model.specs.Calls.{reply_of, lent_after}
use Rattle.model.proofs.Accepted.{same_bytes}
use Rattle.model.proofs.Says.{write-length, write-room}
use Rattle.tower_file.specs.Stored.{ReadsFile}
use Rattle.tower_file.specs.Written.{WritesFile}
use Rattle.tower_file.proofs.Filed.{all-bytes}
use Rattle.file_bench.specs.Timed.{length_in, is_timed, answer_of, bytes_of, Timed}

-- what a writing answers and leaves, by whether the lent bytes are enough
module _ (t : Tower) where
  abbrev out : List ℕ → List ℕ
  out lent = lent_after (standing t none) (call.write lent)

  abbrev front : List ℕ → List ℕ
  front lent = file_of t ++ drop (length (file_of t)) lent

  module _ (lent : List ℕ) (w : Result ℕ Refusal) (s : write_reply w ≡ reply_of (standing t none) (call.write lent)) where
    answer-short : length lent < length (file_of t) → length_in w ≡ 2 ^ 64 - 1
    answer-short h = by_answer w s
      where
        by_answer : (v : Result ℕ Refusal) → write_reply v ≡ reply_of (standing t none) (call.write lent) → length_in v ≡ 2 ^ 64 - 1
        by_answer (Ok n) e = absurd (omega (arith, rw (lt-ltb _ _ h) at (write-length (standing t none) lent (sym e)).0))
        by_answer (Err r) e = refl

    answer-is : length_in w ≡ cond (leb (length (file_of t)) (length lent)) (length (file_of t)) (2 ^ 64 - 1)
    answer-is = by-case (leb (length (file_of t)) (length lent)) refl
      where
        by-case : (b : Bool) → leb (length (file_of t)) (length lent) ≡ b → length_in w ≡ cond b (length (file_of t)) (2 ^ 64 - 1)
        by-case true e = ap length_in (write-room (standing t none) lent w (rw (le-ltb _ _ (leb-true _ _ e))) (sym s))
        by-case false e = answer-short (leb-false _ _ e)

  module _ (lent : List ℕ) where
    out-enough : length (file_of t) ≤ length lent → out lent ≡ front lent
    unfolding filled
    out-enough h = rw (le-ltb _ _ h)

    out-short : length lent < length (file_of t) → out lent ≡ lent
    unfolding filled
    out-short h = rw (lt-ltb _ _ h)

    either_way : (P : List ℕ → Type 0) → (length (file_of t) ≤ length lent → P (front lent)) → (length lent < length (file_of t) → P lent) → P (out lent)
    either_way P enough short = by-case (leb (length (file_of t)) (length lent)) refl
      where
        by-case : (b : Bool) → leb (length (file_of t)) (length lent) ≡ b → P (out lent)
        by-case true e = let h : length (file_of t) ≤ length lent = leb-true _ _ e in rw (out-enough h) (enough h)
        by-case false e = let h : length lent < length (file_of t) = leb-false _ _ e in rw (out-short h) (short h)

    out-is : out lent ≡ cond (leb (length (file_of t)) (length lent)) (front lent) lent
    out-is =
        either_way (λ l. l ≡ cond (leb (length (file_of t)) (length lent)) (front lent) lent) (λ h. rw (le-leb _ _ h)) (λ h. rw (lt-leb _ _ h))

    length_front : length (file_of t) ≤ length lent → length (front lent) ≡ length lent
    length_front h = simp (length-append, length-drop) (omega arith)

    length-out : length (out lent) ≡ length lent
    length-out = either_way (λ l. length l ≡ length lent) length_front (λ h. refl)

  -- written again it stays
  out-again : (lent : List ℕ) → out (out lent) ≡ out lent
  out-again lent =
      either_way lent (λ l. out l ≡ l)
      (λ h. out-enough (front lent) (omega (arith, length_front lent h)) ∙ ap (λ l. file_of t ++ l) (drop-append_seam (file_of t) _))
      (out-short lent)

  pub length-kept : {a b : List ℕ} {v : Result ℕ Refusal} → WritesFile t a b v → length b ≡ length a
  length-kept {a} p = ap length p.bytes ∙ length-out a

  pub settled : {a b : List ℕ} {v : Result ℕ Refusal} → WritesFile t a b v → WritesFile t b b v
  settled {a} p = record { answer = rw (length-kept p) p.answer; bytes = p.bytes ∙ sym (ap out p.bytes ∙ out-again a) }

  pub again : {a b c : List ℕ} {v w : Result ℕ Refusal} → WritesFile t a b v → WritesFile t b c w → WritesFile t a c w
  again {a} p q = record { answer = rw (length-kept p) at q.answer; bytes = q.bytes ∙ ap out p.bytes ∙ out-again a }

-- the whole call
pub accepted : {file before after : List ℕ} {u : stored.Tower} {w : Result ℕ Refusal} → ((i : ℕ) → get_or file i 0 < 256) → ReadsFile file (Ok u)
    → WritesFile (tower_of u) before after w → Timed file 1 before after (length_in w)
unfolding is_timed answer_of bytes_of
accepted {file} {before} {u = u} {w} b p q =
    let t : Tower = tower_of u in
    let k : read_file file ≡ got t [] = p.tower in
    let s : file_of t ≡ file = same_bytes file (all-bytes file b) k in
    let room : ℕ = length before in
    record {
      answer = rw k (answer-is t before w q.answer ∙ ap (λ l. cond (leb (length l) room) (length l) (2 ^ 64 - 1)) s);
      bytes = rw k (q.bytes ∙ out-is t before ∙ ap (λ l. cond (leb (length l) room) (l ++ drop (length l) before) before) s);
    }

pub barred : {file lent : List ℕ} {e : Refusal} → ReadsFile file (Err e) → Timed file 1 lent lent (2 ^ 64 - 1)
unfolding is_timed answer_of bytes_of
barred {file} {e = e} p =
    let k : read_file file ≡ refused (refusal_number e) = p.tower in
    record { answer = rw k; bytes = rw k }

pub no-rounds : {file lent : List ℕ} → Timed file 0 lent lent (2 ^ 64 - 1)
unfolding is_timed answer_of bytes_of
no-rounds = record { answer = refl; bytes = refl }

pub some-rounds : {file before after : List ℕ} {n : ℕ} (rounds : ℕ) → (rounds ≡ 0 → ⊥) → Timed file 1 before after n
    → Timed file rounds before after n
unfolding is_timed answer_of bytes_of
some-rounds rounds h p =
    let k : ltb 0 rounds ≡ true = lt-ltb 0 rounds (omega arith) in
    record { answer = rw k p.answer; bytes = rw k p.bytes }
