-- What follows from the promises of `read` and `write`: an accepted file is that of a valid tower, has at most 2 915 bytes and is written as it was read;
-- a valid tower that is written is read again. `Read` and `Wrote` are the functions' own contracts, of what is handed over and handed back.
use Prim.Native.Nat.{ℕ, ◌≤◌}
use mathlib.Core.Path.{◌≡◌, refl, ap, sym, subst, ◌∙◌}
use mathlib.Core.Bool.{true, false}
use mathlib.Core.List.{List, ◌++◌}
use mathlib.Core.Option.{none}
use lib.Dec.{ltb}
use lib.ListN.{length, take, drop}
use lib.Seq.{take_at}
use borrow.Author.Tests.{le-ltb}
use Rattle.std.specs.Prelude.{Result, Ok, Err}
use Rattle.model.specs.declared.Refusal.{Refusal}
use Rattle.model.specs.declared.Tower as stored
use Rattle.model.specs.Lists.{all_of}
use Rattle.model.specs.Tower.{Tower, tower_of}
use Rattle.model.specs.Reading.{got}
use Rattle.model.specs.File.{read_file}
use Rattle.model.specs.Bytes.{file_of}
use Rattle.model.specs.Machine.{standing, filled}
use Rattle.model.specs.Calls.{bits}
use Rattle.model.specs.Valid.{ValidTower}
use Rattle.tower_file.specs.Stored.{filed_as}
use Rattle.tower_file.specs.Written.{WritesFile}
use contract.Lifetimes.{Lfts}
use denote.Ref.{Bor}
use denote.MutBor.{MutBor}
use Rattle.model.proofs.Says.{write-length, write-room}
use Rattle.model.proofs.Accepted.{accepted-valid, same_bytes, accepted-length}
use Rattle.model.proofs.RoundTrips.{same-tower}
use Rattle.tower_file.proofs.file.read.Reads as read-reads
use Rattle.tower_file.proofs.file.write.Reads as write-reads

-- `read` was given a file and handed back r
abbrev pub Read : Lfts 1 → Bor (List ℕ) → Result stored.Tower Refusal → Type 0
Read κ file r = read-reads.Post κ (file, tt) r (file, tt)

-- `write` was given a tower and lent out, handed back r and left after
abbrev pub Wrote : Lfts 2 → Bor stored.Tower → MutBor (List ℕ) → Result ℕ Refusal → MutBor (List ℕ) → Type 0
Wrote κ t out r after = write-reads.Post κ (t, (out, tt)) r (t, (after, tt))

-- where there is room, the file is written, and its length answered
writes-room : (t : Tower) {d x : List ℕ} {r : Result ℕ Refusal} → WritesFile t d x r → length (file_of t) ≤ length d
    → (r ≡ Ok (length (file_of t))) × (x ≡ file_of t ++ drop (length (file_of t)) d)
unfolding filled
writes-room t {d} {r = r} w h =
    let e : ltb (length d) (length (file_of t)) ≡ false = le-ltb (length d) (length (file_of t)) h in
    (write-room (standing t none) d r (rw e refl) (sym w.answer), w.bytes ∙ rw e refl)

-- and so many bytes are the file
writes-taken : (t : Tower) {d x : List ℕ} {n : ℕ} → WritesFile t d x (Ok n) → take n x ≡ file_of t
unfolding filled
writes-taken t {d} {x} {n} w =
    let k : _ = write-length (standing t none) d (sym w.answer) in
    let f : x ≡ file_of t ++ drop (length (file_of t)) d = w.bytes ∙ rw k.0 refl in
    ap (take n) f ∙ take_at (file_of t) (drop (length (file_of t)) d) n (sym k.1)

-- an answer that comes to a tower
filed-got : (r : Result stored.Tower Refusal) {t : Tower} {rest : List ℕ} → filed_as r ≡ got t rest → (u : stored.Tower) × (r ≡ Ok u) × (tower_of u ≡ t)
filed-got (Ok u) e = (u, refl, cc)
filed-got (Err e) k = cc

-- an accepted file
module _ (κ : Lfts 1) (file : Bor (List ℕ)) (typed : all_of (bits 8) file.now ≡ true) {t : stored.Tower}
    (h : Read κ file (Ok t)) where
  pub read-valid : ValidTower (tower_of t)
  read-valid = accepted-valid file.now typed h.tower

  pub read_length : length file.now ≤ 2915
  read_length = accepted-length file.now typed h.tower

  -- it is the file of the tower that was read
  pub read-file : file_of (tower_of t) ≡ file.now
  read-file = same_bytes file.now typed h.tower

  -- and written again it has the same bytes, wherever there is room
  pub read-written : (κ' : Lfts 2) (lent : Bor stored.Tower) (out after : MutBor (List ℕ)) {r : Result ℕ Refusal} → lent.now ≡ t
      → length file.now ≤ length out.now → Wrote κ' lent out r after
      → (r ≡ Ok (length file.now)) × (after.now ≡ file.now ++ drop (length file.now) out.now)
  read-written κ' lent out after {r} e room w =
      subst
      (λ (l : List ℕ). length l ≤ length out.now → (r ≡ Ok (length l)) × (after.now ≡ l ++ drop (length l) out.now))
      read-file
      (writes-room (tower_of t) (rw e at w))
      room

-- a valid tower that was written is read again, from just the bytes that write counts: the same legs, sections and items
pub written_read : (κ : Lfts 2) (κ' : Lfts 1) (t : Bor stored.Tower) (out after : MutBor (List ℕ)) (file : Bor (List ℕ)) {n : ℕ} {r : Result stored.Tower Refusal}
    → ValidTower (tower_of t.now) → Wrote κ t out (Ok n) after → file.now ≡ take n after.now → Read κ' file r
    → (u : stored.Tower) × (r ≡ Ok u) × (tower_of u ≡ tower_of t.now)
written_read κ κ' t out after file {n} {r} v w e h =
    let f : file.now ≡ file_of (tower_of t.now) = e ∙ writes-taken (tower_of t.now) w in
    filed-got r (sym h.tower ∙ ap read_file f ∙ same-tower (tower_of t.now) v)
