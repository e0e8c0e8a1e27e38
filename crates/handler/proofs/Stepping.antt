-- A request's step, over plain values.
use Rattle.std.proofs.Common.{◌≡◌, ℕ, List, Result, Ok, Err, refl, ap, sym, subst, ◌∙◌, arith, ne_eqb}
use Rattle.std.specs.Prelude.{IsErrAnd}
use Rattle.std.proofs.lemmas.Result.{err_from_is_err_and}
use Rattle.model.specs.declared.Refusal.{Refusal}
use Rattle.model.specs.Answers.{Reply as Answer, refusal_number, answer_reply}
use Rattle.model.specs.Machine.{State}
use Rattle.model.specs.Calls.{Call, refusal_of}
use Rattle.model.proofs.Says.{refusal-positive}
use Rattle.slots.specs.Held.{Slots, state_of}
use Rattle.slots.specs.Promises.{Meets}
use Rattle.replies.specs.declared.Reply.{Reply}
use Rattle.replies.specs.declared.Reply.TheVariants.{Done, Help}
use Rattle.replies.specs.declared.Rejection.{Rejection}
use Rattle.replies.specs.declared.Rejection.TheVariants.{Wrong, Refused}
use Rattle.replies.specs.MessageText.{message_text, done_text, refused_text}
use Rattle.requests.specs.declared.faults.Fault.{Fault}
use Rattle.requests.specs.Asked.{Asked, called, helped, wrong}
use Rattle.handler.specs.AnswerText.{refusal_to, called_text, accepted_text, answer_text}
use Rattle.handler.specs.RequestSteps.{after, RequestSteps}

pub number_is : {x y : Answer} → x ≡ y → x.number ≡ y.number
number_is e = ap (λ (r : Answer). r.number) e

-- a step is that of what the line is shown to ask for
pub asks : {a b : Asked} {old new : Slots} {r : Result Reply Rejection} → b ≡ a → RequestSteps b old new r → RequestSteps a old new r
asks {old = old} {new = new} {r = r} e h = subst (λ (x : Asked). RequestSteps x old new r) e h

-- the text of what is accepted, and of what is turned down
module _ (m : State) (a : Asked) where
  pub accepted-text : refusal_to m a ≡ 0 → answer_text m a ≡ accepted_text m a
  unfolding answer_text
  accepted-text z = rw z

  pub refused-text : (e : Refusal) → refusal_number e ≡ refusal_to m a → answer_text m a ≡ refused_text (refusal_number e)
  unfolding answer_text
  refused-text e h = rw (ne_eqb (refusal_to m a) 0 (λ z. omega (arith, refusal-positive e)), ← h)

-- what is returned where an argument is wrong
pub wrong_step : {a : Asked} {s : Slots} {f : Fault} (r : Result Reply Rejection) → IsErrAnd r (λ e. e ≡ Wrong f) → wrong f ≡ a → RequestSteps a s s r
unfolding message_text answer_text
wrong_step r given e =
    let p = err_from_is_err_and r given in
    rw (p.1, p.2) (asks e (record { state = refl; text = refl; untouched = λ z. refl }))

-- what is returned where a request that leaves the state is turned down
pub refused_step : (a : Asked) {s : Slots} (e : Refusal) (r : Result Reply Rejection) → IsErrAnd r (λ x. x ≡ Refused e) → after (state_of s) a ≡ state_of s
    → refusal_number e ≡ refusal_to (state_of s) a → RequestSteps a s s r
unfolding message_text
refused_step a {s} e r given same h =
    let p = err_from_is_err_and r given in
    rw (p.1, p.2) (record { state = sym same; text = sym (refused-text (state_of s) a e h); untouched = λ z. refl })

-- a call that answers a number alone
module _ (c : Call) {old new : Slots} {lent : List ℕ} where
  pub call_done : called_text (state_of old) c ≡ done_text → Meets c old new (answer_reply (Ok tt)) lent → RequestSteps (called c) old new (Ok Done)
  unfolding message_text
  call_done alone h =
      let z : refusal_of (state_of old) c ≡ 0 = sym (number_is h.reply) in
      record { state = h.state; text = sym (accepted-text (state_of old) (called c) z ∙ alone); untouched = h.untouched }

  pub call_refused : (e : Refusal) (r : Result Reply Rejection) → IsErrAnd r (λ x. x ≡ Refused e) → Meets c old new (answer_reply (Err e)) lent
      → RequestSteps (called c) old new r
  unfolding message_text
  call_refused e r given h =
      let p = err_from_is_err_and r given in
      rw (p.1, p.2)
      (record { state = h.state; text = sym (refused-text (state_of old) (called c) e (number_is h.reply)); untouched = h.untouched })

pub help_step : {s : Slots} → RequestSteps helped s s (Ok Help)
unfolding message_text answer_text
help_step = record { state = refl; text = refl; untouched = λ z. refl }
