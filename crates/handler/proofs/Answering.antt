-- The ways out of report, check and write.
use Rattle.std.proofs.Common.{◌≡◌, ℕ, ◌*◌, ◌/◌, Bool, true, false, List, [], ◌++◌, length, take, drop, Option, Some, None, Ok, refl, ap, sym, subst, ◌∙◌, append_assoc, arith, take_at, Bor}
use Rattle.std.proofs.Math.Option.{none, some}
use Rattle.model.specs.Answers.{accepts, answer_reply, check_reply, write_reply}
use Rattle.model.specs.Machine.{State, no_tower, standing, filled, report_refusal, rows_in, check_refusal, write_refusal, file_in}
use Rattle.model.specs.Calls as call
use Rattle.model.proofs.Says.{accepted-reply, write-length}
use Rattle.model.proofs.Rows.{length-rows}
use Rattle.slots.specs.Held.{Slots, is_standing, count_in, state_of}
use Rattle.slots.specs.Promises.{Meets}
use Rattle.slots.proofs.Grounds.{standing-as, fallen, section-count}
use Rattle.replies.specs.declared.Reply.TheVariants.{Rows, Over, File}
use Rattle.replies.specs.MessageText.{message_text}
use Rattle.requests.specs.Asked.{called, reported, written}
use Rattle.handler.specs.AnswerText.{sections_in, over_text, answer_text}
use Rattle.handler.specs.RequestSteps.{RequestSteps}
use Rattle.handler.proofs.Stepping.{number_is, accepted-text}

-- check
module _ {s : Slots} where
  over_is : {values : List ℕ} → Meets call.check s s (accepts values) []
      → answer_text (state_of s) (called call.check) ≡ over_text values
  over_is h =
      let z : check_refusal (state_of s) ≡ 0 = sym (number_is h.reply) in
      accepted-text (state_of s) (called call.check) z
      ∙ ap over_text (sym (ap (λ r. r.values) (h.reply ∙ accepted-reply (state_of s) call.check z)))

  pub check_step : (o : Option ℕ) → Meets call.check s s (check_reply (Ok o)) [] → RequestSteps (called call.check) s s (Ok (Over o))
  unfolding message_text
  check_step (Some i) h = record { state = h.state; text = sym (over_is h); untouched = λ z. refl }
  check_step None h = record { state = h.state; text = sym (over_is h); untouched = λ z. refl }

-- what an accepted call gives stands at the start of the lent slice, whatever follows that
given-first : (given before part more : List ℕ) (refusal n : ℕ) → refusal ≡ 0 → part ≡ filled refusal given before → length given ≡ n
    → take n (part ++ more) ≡ given
unfolding filled
given-first given before part more refusal n z f l =
    let e : part ≡ given ++ drop (length given) before = rw z at f in
    rw (e, append_assoc given (drop (length given) before) more) (take_at given _ n l)

-- where a report is accepted the rows are those of the sections
rows_long : (m : State) (room : ℕ) → report_refusal m room ≡ 0 → length (rows_in m) ≡ 6 * sections_in m
rows_long no_tower room h = absurd (omega arith)
rows_long (standing t none) room h = absurd (omega arith)
rows_long (standing t (some w)) room h = length-rows t w (length t.sections)

sections-are : (s : Slots) (room : ℕ) → report_refusal (state_of s) room ≡ 0 → sections_in (state_of s) ≡ count_in s
sections-are s room accepted = by-case (is_standing s) refl
  where
    by-case : (b : Bool) → is_standing s ≡ b → sections_in (state_of s) ≡ count_in s
    by-case true e = ap sections_in (standing-as s e) ∙ section-count s
    by-case false e =
        let z : report_refusal no_tower room ≡ 0 = subst (λ (m : State). report_refusal m room ≡ 0) (fallen s e) accepted in
        absurd (omega (arith, z))

module _ (s : Slots) (before part more : List ℕ) {n : ℕ} (room : length before ≡ n) where
  module _ (k : ℕ) (count : k ≡ count_in s) (h : Meets (call.report before) s s (answer_reply (Ok tt)) part) where
    accepted : report_refusal (state_of s) (length before) ≡ 0
    accepted = sym (number_is h.reply)

    sections : sections_in (state_of s) ≡ k
    sections = sections-are s (length before) accepted ∙ sym count

    long : length (rows_in (state_of s)) ≡ 6 * k
    long = rows_long (state_of s) (length before) accepted ∙ ap (λ (j : ℕ). 6 * j) sections

    given : take (6 * k) (part ++ more) ≡ rows_in (state_of s)
    given = given-first (rows_in (state_of s)) before part more (report_refusal (state_of s) (length before)) (6 * k) accepted h.lent long

    pub rows_there : 6 * k ≡ length (take (6 * k) (part ++ more))
    rows_there = sym (ap length given ∙ long)

    pub rows_step : {shown : Bor (List ℕ)} → shown.now ≡ take (6 * k) (part ++ more) → RequestSteps (reported n) s s (Ok (Rows shown))
    unfolding message_text
    rows_step {shown} e =
        let l : length (rows_in (state_of s)) / 6 ≡ sections_in (state_of s) = omega (arith, long, sections) in
        record {
          state = refl;
          text = rw (e, given, l) (sym (accepted-text (state_of s) (reported n) (rw room at accepted)));
          untouched = λ u. refl;
        }

  pub file-step : {k : ℕ} {shown : Bor (List ℕ)} → Meets (call.write before) s s (write_reply (Ok k)) part → shown.now ≡ take k (part ++ more)
      → RequestSteps (written n) s s (Ok (File shown))
  unfolding message_text
  file-step {k} h e =
      let w : _ = write-length (state_of s) before (sym h.reply) in
      let f : take k (part ++ more) ≡ file_in (state_of s) =
      given-first (file_in (state_of s)) before part more (write_refusal (state_of s) (length before)) k w.0 h.lent (sym w.1) in
      record {
        state = refl;
        text = rw (e, f) (sym (accepted-text (state_of s) (written n) (rw room at w.0)));
        untouched = λ u. refl;
      }
