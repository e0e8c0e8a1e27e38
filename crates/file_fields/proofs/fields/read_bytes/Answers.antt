use Rattle.std.proofs.Common.{ℕ, ◌+◌, ◌*◌, ◌<◌, ◌≡◌, arith, ap, ◌∙◌, get_or, take, length, add-one, inl, inr}
use native.Mathlib.Nat.{pow-suc, sub-zero}
use lib.Seq.{take_all}
use lib.Arith.{digits_lt}
use Rattle.model.specs.Reading.{bytes_number}
use Rattle.file_fields.proofs.Answered.{rest}
use Rattle.file_fields.proofs.Fetched.{field_ends, field_is, number-turn, number_room}
use Rattle.file_fields.proofs.fields.read_bytes.Goals as goal

pub returns-in_default : goal.returns-in_default
returns-in_default c =
    field_ends c.args.width c.args.file.now c.args.at
    (elim c.in_default.ensures.lookup.0 as (λ _. length (rest c.args.file.now c.args.at) < c.args.width) [ inl h ↦ absurd (omega arith) | inr h ↦ h ])

pub overflow_mul-value : goal.overflow_mul-value
overflow_mul-value c =
    let h = c.in-Some.ensures.lookup.0 in
    omega (arith, number_room c.loop-b.b-index c.loop-b.invariant.0 (omega arith))

pub loop-b-preserved : goal.loop-b-preserved
loop-b-preserved c =
    let i = c.loop-b.b-index in
    let b : get_or c.in-Some.bytes.now i 0 < 256 = omega arith in (
      rw (c.from.ensures, add-one, pow-suc 256 i) (digits_lt c.loop-b.invariant.0 b),
      rw (c.from.ensures, number-turn c.in-Some.bytes.now i c.loop-b-test.true)
          (ap (λ (n : ℕ). n * 256 + get_or c.in-Some.bytes.now i 0) c.loop-b.invariant.1),
    )

pub returns : goal.returns
returns c =
    let h = c.in-Some.ensures.lookup.0 in
    let l = c.loop-b in
    let end : l.b-index ≡ c.args.width = omega arith in
    let all : take l.b-index c.in-Some.bytes.now ≡ c.in-Some.bytes.now = take_all _ _ (omega arith) in
    field_is c.args.width c.args.file.now c.args.at c.in-Some.bytes.now l.value c.requires.0 h.1
    (rw sub-zero at h.2)
    (l.invariant.1 ∙ ap (bytes_number 0) all)
    (rw end at l.invariant.0)
