-- The text of a message, as the service program prints it.
use Rattle.std.specs.Prelude.{ℕ, zero, suc, ◌/◌, List, [], ◌∷◌, ◌++◌, length, take, drop, decimal, codes, Some, None, Result, Ok, Err}
use Rattle.model.specs.Answers.{refusal_number}
use Rattle.lines.specs.Hex.{hex_text}
use Rattle.requests.specs.declared.faults.Fault.{Fault}
use Rattle.requests.specs.declared.faults.Fault.TheVariants as fault
use Rattle.replies.specs.Help.{help_text}
use Rattle.replies.specs.declared.Reply.{Reply}
use Rattle.replies.specs.declared.Reply.TheVariants.{Done, Rows, Over, File, Help}
use Rattle.replies.specs.declared.Rejection.{Rejection}
use Rattle.replies.specs.declared.Rejection.TheVariants.{Wrong, Refused}

-- what is wrong with a line
abbrev pub fault_text : Fault → List ℕ
fault_text fault.NoRequest = codes "unknown request, try help"
fault_text fault.FewWords = codes "too few words"
fault_text fault.ManyWords = codes "too many words"
fault_text fault.NotDecimal = codes "not a decimal number"
fault_text fault.TooLarge = codes "number too large"
fault_text fault.NotHex = codes "not hexadecimal"
fault_text fault.LongLine = codes "line too long"

-- numbers with single spaces between them, as a line
unfoldable pub row_text : List ℕ → List ℕ
row_text [] = codes "\n"
row_text (n ∷ []) = decimal n ++ codes "\n"
row_text (n ∷ (m ∷ row)) = decimal n ++ (codes " " ++ row_text (m ∷ row))

-- so many rows of six numbers
unfoldable pub rows_text : ℕ → List ℕ → List ℕ
rows_text zero rows = []
rows_text (suc n) rows = row_text (take 6 rows) ++ rows_text n (drop 6 rows)

-- accepted; a refusal by its number; one number; rows, behind how many; that there is no section; a file; what is wrong
abbrev pub done_text : List ℕ
done_text = codes "ok\n"

abbrev pub refused_text : ℕ → List ℕ
refused_text n = codes "refused " ++ (decimal n ++ codes "\n")

abbrev pub count_text : ℕ → List ℕ
count_text n = codes "ok " ++ (decimal n ++ codes "\n")

abbrev pub report_text : ℕ → List ℕ → List ℕ
report_text n rows = count_text n ++ rows_text n rows

abbrev pub none_text : List ℕ
none_text = codes "ok none\n"

abbrev pub file_text : List ℕ → List ℕ
file_text bytes = codes "ok " ++ (hex_text bytes ++ codes "\n")

abbrev pub error_text : List ℕ → List ℕ
error_text why = codes "error " ++ (why ++ codes "\n")

abbrev pub reply_text : Reply → List ℕ
reply_text Done = done_text
reply_text (Rows rows) = report_text (length rows.now / 6) rows.now
reply_text (Over (Some section)) = count_text section
reply_text (Over None) = none_text
reply_text (File bytes) = file_text bytes.now
reply_text Help = help_text

abbrev pub rejection_text : Rejection → List ℕ
rejection_text (Wrong f) = error_text (fault_text f)
rejection_text (Refused e) = refused_text (refusal_number e)

unfoldable pub message_text : Result Reply Rejection → List ℕ
message_text (Ok reply) = reply_text reply
message_text (Err rejection) = rejection_text rejection
