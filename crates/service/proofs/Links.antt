-- Chains of calls on a service's state. A link is a call: arguments of the types of the function's parameters, as its
-- signature has them, and the function's own contract, `Post` of the module `Reads` that the check makes of it, of the
-- values passed, the result, and the values at exit.
use Prim.Native.Nat.{ℕ, ◌^◌, ◌<◌}
use mathlib.Core.Path.{◌≡◌, refl, ap, ◌∙◌}
use mathlib.Core.Bool.{Bool, true, false}
use mathlib.Core.List.{List, [], ◌∷◌}
use lib.Dec.{eqb}
use borrow.Author.Tests.{eqb-true, eqb-false, eq-eqb}
use mir.Syntax.{Width}
use mir.Val.{Fits, bits}
use contract.Lifetimes.{Lfts}
use denote.Ref.{Bor}
use denote.MutBor.{MutBor}
use Rattle.std.specs.Prelude.{Option, Result, ⊤}
use Rattle.model.specs.declared.Item.{Item}
use Rattle.model.specs.declared.Refusal.{Refusal}
use Rattle.model.specs.declared.Wind.{Wind}
use Rattle.model.specs.Answers.{Reply, answer_reply, check_reply, write_reply}
use Rattle.model.specs.Lists.{all_of}
use Rattle.model.specs.Machine.{State, no_tower}
use Rattle.model.specs.Tower.{wind_of}
use Rattle.model.specs.Calls.{
  Call,
  erect,
  hang,
  take_down,
  wind,
  report,
  check,
  write,
  typed,
  typed_item,
  refusal_of,
  step,
  reply_of,
  lent_after,
  run,
  first_refusal,
  lent_last,
}
use Rattle.model.specs.Outcomes.{Outcome, is_accepted, last_lent}
use Rattle.exact.proofs.Bools.{and-join}
use Rattle.model.proofs.Typed.{ItemBounds, item-bounds, bounds-typed}
use Rattle.slots.specs.Held.{Slots, is_standing, state_of}
use Rattle.slots.specs.Promises.{Meets}
use Rattle.service.proofs.changes.fresh.Reads as fresh-reads
use Rattle.service.proofs.changes.erect.Reads as erect-reads
use Rattle.service.proofs.changes.hang.Reads as hang-reads
use Rattle.service.proofs.changes.take_down.Reads as down-reads
use Rattle.service.proofs.changes.set_wind.Reads as wind-reads
use Rattle.service.proofs.answers.report.Reads as report-reads
use Rattle.service.proofs.answers.check.Reads as check-reads
use Rattle.service.proofs.answers.write.Reads as write-reads
use Rattle.service.proofs.changes.erect.Kinds as erect-kinds
use Rattle.service.proofs.changes.hang.Kinds as hang-kinds
use Rattle.service.proofs.changes.take_down.Kinds as down-kinds
use Rattle.service.proofs.changes.set_wind.Kinds as wind-kinds
use Rattle.service.proofs.answers.report.Kinds as report-kinds
use Rattle.service.proofs.answers.write.Kinds as write-kinds
use Rattle.service.proofs.Arguments.{is_number, are_numbers, is_field, are_field, WellTyped, behind}

-- `fresh` left the state so
pub data IsFresh : Slots → Type 0 where
  cleared : (κ : Lfts 1) (s after : MutBor Slots) → fresh-reads.Post κ (s, tt) tt (after, tt) → IsFresh after.now

pub fresh-state : {f : Slots} → IsFresh f → state_of f ≡ no_tower
unfolding state_of is_standing
fresh-state (cleared κ s after p) = ap state_of p

-- on this state this call had this outcome and left that state. The arguments are of their parameters' types; the
-- state, parameter 0, may be any value
pub data Link : Slots → Call → Outcome → Slots → Type 0 where
  erected : (κ : Lfts 2) (s after : MutBor Slots) (file : Bor (List ℕ)) (a : Result ⊤ Refusal) → are_numbers erect-kinds.ps 1 file.now ≡ true
      → erect-reads.Post κ (s, (file, tt)) a (after, (file, tt))
      → Link s.now (erect file.now) (record { reply = answer_reply a; lent = file.now }) after.now
  hung : (κ : Lfts 1) (s after : MutBor Slots) (it : Item) (a : Result ⊤ Refusal) → WellTyped κ (behind hang-kinds.ps) (it, tt)
      → hang-reads.Post κ (s, (it, tt)) a (after, (it, tt))
      → Link s.now (hang it) (record { reply = answer_reply a; lent = [] }) after.now
  taken-down : (κ : Lfts 1) (s after : MutBor Slots) (n : ℕ) (a : Result ⊤ Refusal) → is_number down-kinds.ps 1 n ≡ true
      → down-reads.Post κ (s, (n, tt)) a (after, (n, tt))
      → Link s.now (take_down n) (record { reply = answer_reply a; lent = [] }) after.now
  wind-set : (κ : Lfts 2) (s after : MutBor Slots) (w : Wind) (a : Result ⊤ Refusal)
      → is_field wind-kinds.ps 1 0 w.direction ≡ true → is_field wind-kinds.ps 1 1 w.ice ≡ true → is_field wind-kinds.ps 1 2 w.factor ≡ true
      → are_field wind-kinds.ps 1 3 w.pressures.now ≡ true
      → wind-reads.Post κ (s, (w, tt)) a (after, (w, tt))
      → Link s.now (wind (wind_of w)) (record { reply = answer_reply a; lent = w.pressures.now }) after.now
  reported : (κ : Lfts 2) (s : Bor Slots) (out filled : MutBor (List ℕ)) (a : Result ⊤ Refusal) → are_numbers report-kinds.ps 1 out.now ≡ true
      → report-reads.Post κ (s, (out, tt)) a (s, (filled, tt))
      → Link s.now (report out.now) (record { reply = answer_reply a; lent = filled.now }) s.now
  checked : (κ : Lfts 1) (s : Bor Slots) (a : Result (Option ℕ) Refusal) → check-reads.Post κ (s, tt) a (s, tt)
      → Link s.now check (record { reply = check_reply a; lent = [] }) s.now
  written : (κ : Lfts 2) (s : Bor Slots) (out filled : MutBor (List ℕ)) (a : Result ℕ Refusal) → are_numbers write-kinds.ps 1 out.now ≡ true
      → write-reads.Post κ (s, (out, tt)) a (s, (filled, tt))
      → Link s.now (write out.now) (record { reply = write_reply a; lent = filled.now }) s.now

-- each call is given the state that the last one left
pub data Chain : Slots → List Call → List Outcome → Slots → Type 0 where
  none : {s : Slots} → Chain s [] [] s
  more : {s s' s'' : Slots} {c : Call} {o : Outcome} {cs : List Call} {os : List Outcome} → Link s c o s' → Chain s' cs os s''
      → Chain s (c ∷ cs) (o ∷ os) s''

-- an item that a program can pass
item-typed : (κ : Lfts 1) (it : Item) → WellTyped κ (behind hang-kinds.ps) (it, tt) → typed_item it ≡ true
item-typed κ it h =
    let a : _ = h.0 in
    let b : _ = a.1.1.1.1 in
    bounds-typed it
    (record {
      number = a.0.fits;
      section = a.1.0.fits;
      width = a.1.1.0.0.fits;
      length = a.1.1.1.0.0.fits;
      bare = b.0.fits;
      iced = b.1.0.fits;
      position = b.1.1.0.fits;
    })

pub item-passed : (κ : Lfts 1) (it : Item) → typed_item it ≡ true → WellTyped κ (behind hang-kinds.ps) (it, tt)
item-passed κ it h =
    let b : ItemBounds it = item-bounds it h in (
      (fit b.number, (fit b.section, ((fit b.width, tt), ((fit b.length, tt), (fit b.bare, (fit b.iced, (fit b.position, tt))))))),
      tt,
    )
  where
    fit : {w : Width} {n : ℕ} → n < 2 ^ bits w → Fits w n
    fit h = record { fits = h }

-- a call's arguments are those that the machine's lists take
pub link-typed : {s s' : Slots} {c : Call} {o : Outcome} → Link s c o s' → typed c ≡ true
link-typed (erected κ s after file a t p) = t
link-typed (hung κ s after it a t p) = item-typed κ it t
link-typed (taken-down κ s after n a t p) = t
link-typed (wind-set κ s after w a t₁ t₂ t₃ t₄ p) = and-join (and-join (and-join t₁ t₂) t₃) t₄
link-typed (reported κ s out filled a t p) = t
link-typed (checked κ s a p) = refl
link-typed (written κ s out filled a t p) = t

pub chain-typed : {s s' : Slots} {cs : List Call} {os : List Outcome} → Chain s cs os s' → all_of typed cs ≡ true
chain-typed none = refl
chain-typed (more l ch) = and-join (link-typed l) (chain-typed ch)

-- every call keeps the one promise; all else is read off it
pub link-meets : {s s' : Slots} {c : Call} {o : Outcome} → Link s c o s' → Meets c s s' o.reply o.lent
link-meets (erected κ s after file a t p) = p
link-meets (hung κ s after it a t p) = p
link-meets (taken-down κ s after n a t p) = p
link-meets (wind-set κ s after w a t₁ t₂ t₃ t₄ p) = p
link-meets (reported κ s out filled a t p) = p
link-meets (checked κ s a p) = p
link-meets (written κ s out filled a t p) = p

module _ {s s' : Slots} {c : Call} {o : Outcome} (l : Link s c o s') where
  pub link-state : state_of s' ≡ step (state_of s) c
  link-state = (link-meets l).state

  -- in a machine's state that the link's is known to be
  module _ (m : State) (e : state_of s ≡ m) where
    pub next-is : state_of s' ≡ step m c
    next-is = link-state ∙ ap (λ (x : State). step x c) e

    pub reply-is : o.reply ≡ reply_of m c
    reply-is = (link-meets l).reply ∙ ap (λ (x : State). reply_of x c) e

    pub number_is : o.reply.number ≡ refusal_of m c
    number_is = ap (λ (r : Reply). r.number) reply-is

    pub lent_is : o.lent ≡ lent_after m c
    lent_is = (link-meets l).lent ∙ ap (λ (x : State). lent_after x c) e

-- along a chain
pub chain-state : {s s' : Slots} {cs : List Call} {os : List Outcome} (m : State) → state_of s ≡ m → Chain s cs os s' → state_of s' ≡ run m cs
chain-state m e none = e
chain-state m e (more {c = c} l ch) = chain-state (step m c) (next-is l m e) ch

-- where the machine turns no call down, all are accepted
pub first-none : (m : State) (c : Call) (cs : List Call) → first_refusal m (c ∷ cs) ≡ 0 → (refusal_of m c ≡ 0) × (first_refusal (step m c) cs ≡ 0)
first-none m c cs h = by-case (eqb (refusal_of m c) 0) refl
  where
    by-case : (b : Bool) → eqb (refusal_of m c) 0 ≡ b → (refusal_of m c ≡ 0) × (first_refusal (step m c) cs ≡ 0)
    by-case true e = (eqb-true (refusal_of m c) 0 e, rw e (rw e at h))
    by-case false e = absurd (eqb-false (refusal_of m c) 0 e (rw e at h))

pub chain-accepted : {s s' : Slots} {cs : List Call} {os : List Outcome} (m : State) → state_of s ≡ m → Chain s cs os s'
    → first_refusal m cs ≡ 0 → all_of is_accepted os ≡ true
chain-accepted m e none h = refl
chain-accepted m e (more {c = c} {o = o} {cs = cs} l ch) h =
    let f : _ = first-none m c cs h in
    and-join (eq-eqb o.reply.number 0 (number_is l m e ∙ f.0)) (chain-accepted (step m c) (next-is l m e) ch f.1)

-- and the slice lent to the last call
pub chain-lent : {s s' : Slots} {cs : List Call} {os : List Outcome} (m : State) → state_of s ≡ m → Chain s cs os s' → last_lent os ≡ lent_last m cs
chain-lent m e none = refl
chain-lent m e (more {c = c} l none) = lent_is l m e
chain-lent m e (more {c = c} l (more k ch)) = chain-lent (step m c) (next-is l m e) (more k ch)
