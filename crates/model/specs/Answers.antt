-- Document 01, "When a call is turned down": the number of each refusal, and the number and values of each answer.
use Rattle.std.specs.Prelude.{ℕ, List, [], ◌∷◌, Option, Some, None, Result, Ok, Err, ⊤}
use Rattle.model.specs.declared.Refusal.{Refusal}
use Rattle.model.specs.declared.Refusal.TheVariants as refusal

abbrev pub refusal_number : Refusal → ℕ
refusal_number refusal.NoTower = 1
refusal_number refusal.FileEnds = 2
refusal_number refusal.Legs = 3
refusal_number refusal.SectionCount = 4
refusal_number refusal.SectionSize = 5
refusal_number refusal.GroupCount = 6
refusal_number refusal.GroupField = 7
refusal_number refusal.BareSolidity = 8
refusal_number refusal.ItemCount = 9
refusal_number refusal.ItemNumber = 10
refusal_number refusal.ItemSection = 11
refusal_number refusal.ItemField = 12
refusal_number refusal.BytesFollow = 13
refusal_number refusal.NoSuchItem = 14
refusal_number refusal.Direction = 15
refusal_number refusal.IceClass = 16
refusal_number refusal.StructureFactor = 17
refusal_number refusal.PressureCount = 18
refusal_number refusal.Pressure = 19
refusal_number refusal.IcedSolidity = 20
refusal_number refusal.NoWind = 21
refusal_number refusal.OutputShort = 22

-- the highest of these numbers
abbrev pub highest_refusal : ℕ
highest_refusal = 22

-- an answer as document 01 has it: 0 or the refusal's number, and the values that are answered beside it
pub record Reply : Type 0 where
  pub number : ℕ
  pub values : List ℕ

abbrev pub accepts : List ℕ → Reply
accepts values = record { number = 0; values = values }

abbrev pub refuses : Refusal → Reply
refuses r = record { number = refusal_number r; values = [] }

-- the answer of erect, hang, take down, wind and report
abbrev pub answer_reply : Result ⊤ Refusal → Reply
answer_reply (Ok _) = accepts []
answer_reply (Err r) = refuses r

-- the answer of check: a section, or none
abbrev pub check_reply : Result (Option ℕ) Refusal → Reply
check_reply (Ok (Some i)) = accepts (i ∷ [])
check_reply (Ok None) = accepts []
check_reply (Err r) = refuses r

-- the answer of write: the length of the file
abbrev pub write_reply : Result ℕ Refusal → Reply
write_reply (Ok n) = accepts (n ∷ [])
write_reply (Err r) = refuses r

-- an answer that is a number alone
abbrev pub answer_number : Result ⊤ Refusal → ℕ
answer_number a = (answer_reply a).number
