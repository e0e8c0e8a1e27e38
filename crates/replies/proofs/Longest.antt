-- The text of a message has at most 8192 bytes.
use Rattle.std.proofs.Common.{◌≡◌, ℕ, zero, suc, ◌+◌, ◌*◌, ◌/◌, ◌^◌, ◌≤◌, ◌<◌, List, [], ◌∷◌, length, get_or, take, drop, Some, None, Result, Ok, Err, Bor, arith, lit<, lit≤, length-append, get_or-drop}
use Rattle.std.specs.Prelude.{decimal}
use Rattle.std.proofs.lemmas.Fmt.{length-decimal-le}
use Rattle.model.specs.Answers.{refusal_number}
use Rattle.model.proofs.Says.{refusal-highest}
use Rattle.lines.proofs.Hexes.{hex-length}
use Rattle.requests.specs.declared.faults.Fault.{Fault}
use Rattle.requests.specs.declared.faults.Fault.TheVariants as fault
use Rattle.replies.specs.Help.{help_text}
use Rattle.replies.specs.MessageText.{fault_text, row_text, rows_text, message_text}
use Rattle.replies.specs.declared.Reply.{Reply}
use Rattle.replies.specs.declared.Reply.TheVariants.{Done, Rows, Over, File, Help}
use Rattle.replies.specs.declared.Rejection.{Rejection}
use Rattle.replies.specs.declared.Rejection.TheVariants.{Wrong, Refused}

-- at most 32 rows, the most a tower has sections, of 64-bit numbers, and a file of at most 3000 bytes
pub record FewRows (rows : List ℕ) : Type 0 where
  pub words : (i : ℕ) → get_or rows i 0 < 2 ^ 64
  pub most : length rows / 6 ≤ 32

abbrev pub Moderate : Result Reply Rejection → Type 0
Moderate (Ok Done) = Unit {0}
Moderate (Ok (Rows rows)) = FewRows rows.now
Moderate (Ok (Over (Some i))) = i < 2 ^ 64
Moderate (Ok (Over None)) = Unit {0}
Moderate (Ok (File file)) = length file.now ≤ 3000
Moderate (Ok Help) = Unit {0}
Moderate (Err e) = Unit {0}

-- the largest answers of a call: 32 rows, the last of 32 sections, and the longest file
pub largest-moderate : (rows : Bor (List ℕ)) → ((i : ℕ) → get_or rows.now i 0 < 2 ^ 64) → length rows.now ≡ 192
    → (file : Bor (List ℕ)) → length file.now ≡ 3000
    → Moderate (Ok (Rows rows)) × Moderate (Ok (Over (Some 31))) × Moderate (Ok (File file))
largest-moderate rows words r file f = (record { words = words; most = omega (arith, r) }, lit< tt, omega (arith, f))

word-short : (n : ℕ) → n < 2 ^ 64 → length (decimal n) ≤ 20
word-short n h = length-decimal-le 20 n (omega arith) (omega arith) h

row_cons : (n : ℕ) (row : List ℕ) → length (row_text (n ∷ row)) ≤ length (decimal n) + 1 + length (row_text row)
unfolding row_text
row_cons n [] = rw length-append (omega arith)
row_cons n (m ∷ row) = rw length-append (omega arith)

row-short : (k : ℕ) (row : List ℕ) → ((i : ℕ) → get_or row i 0 < 2 ^ 64) → length (row_text (take k row)) ≤ 1 + 21 * k
unfolding row_text
row-short zero row h = omega arith
row-short (suc k) [] h = omega arith
row-short (suc k) (n ∷ row) h =
    omega (arith, row_cons n (take k row), word-short n (h 0), row-short k row (λ i. h (suc i)))

rows_short : (n : ℕ) (rows : List ℕ) → ((i : ℕ) → get_or rows i 0 < 2 ^ 64) → length (rows_text n rows) ≤ 127 * n
unfolding rows_text
rows_short zero rows h = omega arith
rows_short (suc n) rows h =
    rw length-append
    (omega (arith, row-short 6 rows h, rows_short n (drop 6 rows) (λ i. rw get_or-drop (h (6 + i)))))

fault-short : (f : Fault) → length (fault_text f) ≤ 25
fault-short fault.NoRequest = lit≤ tt
fault-short fault.FewWords = lit≤ tt
fault-short fault.ManyWords = lit≤ tt
fault-short fault.NotDecimal = lit≤ tt
fault-short fault.TooLarge = lit≤ tt
fault-short fault.NotHex = lit≤ tt
fault-short fault.LongLine = lit≤ tt

help-short : length help_text ≤ 8192
unfolding help_text
help-short = lit≤ tt

pub message-short : (r : Result Reply Rejection) → Moderate r → length (message_text r) ≤ 8192
unfolding message_text
message-short (Ok Done) h = lit≤ tt
message-short (Ok (Rows rows)) h =
    let n = length rows.now / 6 in
    let d : length (decimal n) ≤ 20 = word-short n (omega (arith, h.most)) in
    simp length-append (omega (arith, h.most, rows_short n rows.now h.words))
message-short (Ok (Over (Some i))) h =
    let d : length (decimal i) ≤ 20 = word-short i h in
    simp length-append (omega arith)
message-short (Ok (Over None)) h = lit≤ tt
message-short (Ok (File file)) h = simp (length-append, hex-length) (omega arith)
message-short (Ok Help) h = help-short
message-short (Err (Wrong f)) h = simp length-append (omega (arith, fault-short f))
message-short (Err (Refused e)) h =
    let d : length (decimal (refusal_number e)) ≤ 20 = word-short _ (omega (arith, refusal-highest e)) in
    simp length-append (omega arith)
