-- The rows of a tower under a wind, as bytes.
use Prim.Native.Nat.{ℕ, ◌*◌, ◌≤◌, ◌<◌}
use mathlib.Core.Path.{◌≡◌, refl, ap, sym, ◌∙◌}
use mathlib.Core.Bool.{Bool, true, false}
use mathlib.Core.List.{List, ◌++◌}
use mathlib.Core.Option.{Option, some}
use native.Mathlib.Omega.{arith}
use lib.ListN.{length, take, drop, length-take}
use lib.Dec.{ltb}
use lib.Seq.{take_at}
use borrow.Author.Tests.{lt-ltb, le-ltb}
use Rattle.std.specs.Prelude.{Result, Err, ⊤}
use Rattle.model.specs.declared.Refusal.{Refusal}
use Rattle.model.specs.Answers.{Reply, refusal_number, answer_reply, answer_number}
use Rattle.model.specs.Lists.{joined}
use Rattle.model.specs.Bytes.{bytes}
use Rattle.model.specs.Tower.{Tower, Wind}
use Rattle.model.specs.Report.{rows_of}
use Rattle.model.specs.Machine.{State, no_tower, standing, filled, report_refusal}
use Rattle.model.specs.Calls.{report, lent_after}
use Rattle.model.proofs.Refused.{filled-refused}
use Rattle.model.proofs.Says.{refusal-positive}
use Rattle.model.proofs.FileLength.{length-bytes, length-even}
use Rattle.model.proofs.Rows.{length-rows, report-rows}
use Rattle.file_fields.specs.Written.{Puts}
use Rattle.slots.specs.Held.{Slots, is_standing, count_in, tower_in, state_of}
use Rattle.slots.specs.Promises.{Meets}
use Rattle.slots.proofs.Grounds.{standing-as, fallen, count-few, section-count}
use Rattle.host.specs.Promises.{RowsLent}

-- the slots count the sections of the tower that they stand for
pub sections-counted : (l : Slots) {t : Tower} {v : Option Wind} → state_of l ≡ standing t v → length t.sections ≡ count_in l
sections-counted l {t} {v} e = by-case (is_standing l) refl
  where
    by-case : (b : Bool) → is_standing l ≡ b → length t.sections ≡ count_in l
    by-case true h =
        let f : standing (tower_in l) _ ≡ standing t v = sym (standing-as l h) ∙ e in
        let same : t ≡ tower_in l = cc in
        ap (λ (x : Tower). length x.sections) same ∙ section-count l
    by-case false h =
        let n : no_tower ≡ standing t v = sym (fallen l h) ∙ e in
        let z : ◌≡◌ {A = ℕ} 0 1 = cc in
        absurd (omega arith)

-- 8 bytes for each of six numbers per section
pub rows_room : (n room : ℕ) (numbers : List ℕ) → 48 * n ≤ room → length (joined (bytes 8) (take (6 * n) numbers)) ≤ room
rows_room n room numbers h = omega (arith, length-even (bytes 8) 8 (length-bytes 8) (take (6 * n) numbers), length-take (6 * n) numbers)

module _ (l : Slots) (n : ℕ) (counted : n ≡ count_in l) (t : Tower) (w : Wind) (stands : state_of l ≡ standing t (some w)) where
  sections-are : length t.sections ≡ n
  sections-are = sections-counted l stands ∙ sym counted

  -- 22
  pub rows_short : {lent : List ℕ} {r : ℕ} → length lent < 48 * n → r ≡ 22 → RowsLent t w lent lent r
  rows_short {lent} {r} h e =
      record {
        answer = rw (lt-ltb (length lent) (48 * length t.sections) (omega (arith, sections-are))) e;
        rows = sym (filled-refused r (joined (bytes 8) (rows_of t w)) lent (λ z. omega arith));
      }

  -- the array has room for every report
  pub never_refused : {lent after : List ℕ} {a : Result ⊤ Refusal} {e : Refusal} → length lent ≡ 192 → a ≡ Err e
      → Meets (report lent) l l (answer_reply a) after → ⊥
  never_refused {lent} {a = a} {e} long r h =
      let p : 0 < refusal_number e = refusal-positive e in
      let f : ltb (length lent) (6 * length t.sections) ≡ false = le-ltb _ _ (omega (arith, sections-are, counted, count-few l)) in
      let z : answer_number a ≡ 0 = ap (λ (x : Reply). x.number) h.reply ∙ ap (λ (m : State). report_refusal m (length lent)) stands ∙ rw f in
      let y : answer_number a ≡ refusal_number e = ap answer_number r in
      omega arith

  -- the first numbers of the array that the report is lent
  first-numbers : {lent after : List ℕ} {a : Reply} → length lent ≡ 192 → Meets (report lent) l l a after → take (6 * n) after ≡ rows_of t w
  first-numbers {lent} {after} long h =
      let room : 6 * length t.sections ≤ length lent = omega (arith, sections-are, counted, count-few l) in
      let f : after ≡ rows_of t w ++ drop (6 * length t.sections) lent =
      h.lent ∙ ap (λ (m : State). lent_after m (report lent)) stands ∙ report-rows t w lent room in
      ap (take (6 * n)) f
      ∙ take_at (rows_of t w) _ (6 * n) (length-rows t w (length t.sections) ∙ ap (λ (k : ℕ). 6 * k) sections-are)

  pub rows_written : {lent numbers before after : List ℕ} {a : Reply} {r : ℕ} → length lent ≡ 192 → Meets (report lent) l l a numbers
      → 48 * n ≤ length before → Puts (joined (bytes 8) (take (6 * n) numbers)) before after r → RowsLent t w before after 0
  unfolding filled
  rows_written {before = before} long m h p =
      record {
        answer = rw (le-ltb (length before) (48 * length t.sections) (omega (arith, sections-are))) refl;
        rows = p.bytes ∙ ap (λ (x : List ℕ). joined (bytes 8) x ++ drop (length (joined (bytes 8) x)) before) (first-numbers long m);
      }
