-- Lists of lines, answered one after the other. A link is the contract of `respond`: `Post` of the module `Reads` that
-- the check makes of it.
use Rattle.std.proofs.Common.{◌≡◌, ℕ, ◌≤◌, ap, subst, ◌∙◌, List, [], ◌∷◌, arith, length, take, Bor, MutBor}
use contract.Lifetimes.{Lfts}
use Rattle.model.specs.Machine.{State, no_tower}
use Rattle.lines.specs.Text.{Puts}
use Rattle.slots.specs.Held.{Slots, state_of}
use Rattle.service.proofs.Links.{IsFresh, fresh-state}
use Rattle.requests.specs.Asked.{Asked, Room, asked_in}
use Rattle.handler.specs.declared.Buffers.{Buffers}
use Rattle.handler.specs.AnswerText.{answer_text}
use Rattle.handler.specs.RequestSteps.{after}
use Rattle.handler.specs.Responds.{room_in, Responds, SameSlices}
use Rattle.handler.specs.Sessions.{Exchange, after_all, Answers, none, more}
use Rattle.handler.proofs.respond.respond.Reads as respond-reads

-- the slices have these lengths at each line
pub record Lent (room : Room) (most : ℕ) (b : Buffers) : Type 0 where
  pub room_is : room_in b ≡ room
  pub out : length b.out.now ≡ most

-- and so they have at the next one
pub lent-next : {room : Room} {most : ℕ} {b b' : Buffers} → Lent room most b → SameSlices b b' → Lent room most b'
lent-next l p = record { room_is = p.room ∙ l.room_is; out = p.text ∙ l.out }

-- the text that was put at the start of a slice
put_whole : {text before out : List ℕ} {r most : ℕ} → Puts text before 0 out r → length before ≡ most → length text ≤ most → take r out ≡ text
put_whole p e h = (p.put (omega (arith, e))).1

-- each line is answered in the state that the last one left
pub data Session (room : Room) (most : ℕ) : Slots → List Exchange → Slots → Type 0 where
  ended : {s : Slots} → Session room most s [] s
  answered : (κ : Lfts 4) (s next : MutBor Slots) {s' : Slots} (line : Bor (List ℕ)) (buffers used : MutBor Buffers) {n : ℕ} {es : List Exchange}
      → Lent room most buffers.now → respond-reads.Post κ (s, (line, (buffers, tt))) n (next, (line, (used, tt)))
      → Session room most next.now es s' → Session room most s.now (record { line = line.now; text = take n used.now.out.now } ∷ es) s'

-- in a line's link, what stands for the sizes of the slices is the room
link-responds : (κ : Lfts 4) {room : Room} {most : ℕ} (s next : MutBor Slots) (line : Bor (List ℕ)) (buffers used : MutBor Buffers) {n : ℕ}
    → Lent room most buffers.now → respond-reads.Post κ (s, (line, (buffers, tt))) n (next, (line, (used, tt)))
    → Responds (asked_in room line.now) s.now next.now buffers.now.out.now used.now.out.now n
link-responds κ s next line buffers used {n} l p =
    subst (λ (x : Room). Responds (asked_in x line.now) s.now next.now buffers.now.out.now used.now.out.now n) l.room_is p.0

-- a line's step and its answer, in a machine's state that the slots are known to stand for
module _ {a : Asked} {old new : Slots} {before out : List ℕ} {n : ℕ} (d : Responds a old new before out n) {m : State} (e : state_of old ≡ m) where
  next-is : state_of new ≡ after m a
  next-is = d.state ∙ ap (λ (x : State). after x a) e

  text-is : Puts (answer_text m a) before 0 out n
  text-is = subst (λ (x : State). Puts (answer_text x a) before 0 out n) e d.text

module _ {room : Room} {most : ℕ} where
  -- the state at the end is the machine's after these lines
  pub session-state : {s s' : Slots} {es : List Exchange} (m : State) → state_of s ≡ m → Session room most s es s' → state_of s' ≡ after_all room m es
  unfolding after_all
  session-state m e ended = e
  session-state m e (answered κ s next line buffers used l p more-lines) =
      let d : _ = link-responds κ s next line buffers used l p in
      session-state (after m (asked_in room line.now)) (next-is d e) more-lines

  -- and each answer is the machine's
  pub session-answers : {s s' : Slots} {es : List Exchange} (m : State) → state_of s ≡ m → Session room most s es s' → Answers room most m es
  session-answers m e ended = none
  session-answers m e (answered κ s next line buffers used l p more-lines) =
      let d : _ = link-responds κ s next line buffers used l p in
      more (put_whole (text-is d e) l.out) (session-answers (after m (asked_in room line.now)) (next-is d e) more-lines)

  -- from a fresh service on
  pub session-from-fresh : {f s : Slots} {es : List Exchange} → IsFresh f → Session room most f es s
      → Answers room most no_tower es × (state_of s ≡ after_all room no_tower es)
  session-from-fresh fresh h = (session-answers no_tower (fresh-state fresh) h, session-state no_tower (fresh-state fresh) h)
