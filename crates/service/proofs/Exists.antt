-- There are the chains that Demand3 speaks of: every call with arguments of its types has a link from every state, and
-- so every list of such calls has a chain from a fresh service.
use Prim.Native.Nat.{ℕ}
use mathlib.Core.Path.{◌≡◌, refl, ap, sym, subst, ◌∙◌}
use mathlib.Core.Bool.{true, ◌&&◌, true≢false}
use mathlib.Core.List.{List, [], ◌∷◌, Permᴰ}
use mathlib.Core.Option.{none, some}
use lib.ListN.{take}
use contract.Lifetimes.{Lfts}
use denote.Ref.{Bor}
use denote.MutBor.{MutBor}
use Rattle.std.specs.Prelude.{Option, Some, None, Result, Ok, Err, ⊤}
use Rattle.model.specs.declared.Item.{Item}
use Rattle.model.specs.declared.Refusal.{Refusal}
use Rattle.model.specs.Answers.{Reply, accepts, answer_reply, check_reply, write_reply}
use Rattle.model.specs.Lists.{all_of}
use Rattle.model.specs.Tower.{Tower, Wind}
use Rattle.model.specs.Reading.{Parsed, got, refused}
use Rattle.model.specs.File.{read_file}
use Rattle.model.specs.Report.{over_sections, topmost_over}
use Rattle.model.specs.declared.Refusal.TheVariants as refusal
use Rattle.model.specs.Machine as machine
use Rattle.model.specs.Machine.{State, no_tower, standing, erect_refusal, file_refusal}
use Rattle.model.specs.Calls.{Call, erect, hang, take_down, wind, report, check, write, bits, typed, meaning, refusal_of, reply_of, lent_before, lent_after, newly_erected}
use Rattle.model.specs.Outcomes.{Outcome}
use Rattle.model.specs.Valid.{ValidWind}
use Rattle.model.proofs.Accepted.{accepted-valid}
use Rattle.model.proofs.FileRefusals.{Numbered, file-numbered}
use Rattle.model.proofs.Named.{Told, free, told, refusal-for, not_free}
use Rattle.model.proofs.NewlyErected.{newly-typed}
use Rattle.model.proofs.Refused.{same-state, same-lent, erect-state}
use Rattle.model.proofs.Says.{accepted-reply, refused-reply}
use Rattle.exact.proofs.Bools.{and_split}
use Rattle.slots.specs.Held.{Slots, empty_slots, state_of}
use Rattle.slots.specs.Promises.{leaves, Meets}
use Rattle.slots.specs.Nexts.{TypedSlots, Next}
use Rattle.slots.proofs.WaysOut.{turned_down, accepted}
use Rattle.item_calls.proofs.Nexts.{hang-next, down-next}
use Rattle.tower_calls.proofs.Built.{erect-next, wind-next}
use Rattle.service.proofs.Links.{
  IsFresh,
  cleared,
  item-passed,
  Link,
  erected,
  hung,
  taken-down,
  wind-set,
  reported,
  checked,
  written,
  Chain,
  none,
  more,
}

-- the answer of erect, hang, take down or wind, and the slots that it leaves
record Stepped (c : Call) (l : Slots) : Type 0 where
  answer : Result ⊤ Refusal
  next : Next c l (answer_reply answer) (lent_before c)

-- where the call is turned down the slots stay
step_by : (c : Call) (l : Slots) → TypedSlots l → (refusal_of (state_of l) c ≡ 0 → Next c l (accepts []) (lent_before c)) → Stepped c l
step_by c l t done = by-case (refusal-for (state_of l) c)
  where
    by-case : Told (refusal_of (state_of l) c) → Stepped c l
    by-case (free z) = record { answer = Ok tt; next = done z }
    by-case (told n) =
        record {
          answer = Err n.why;
          next = record { after = l; meets = turned_down c l n.why n.number; typed = t };
        }

-- a file that is accepted
erect-step : (l : Slots) → TypedSlots l → (file : List ℕ) → all_of (bits 8) file ≡ true → Stepped (erect file) l
unfolding erect_refusal leaves
erect-step l t file h = step_by (erect file) l t (by-case (read_file file) refl)
  where
    by-case : (r : Parsed Tower) → read_file file ≡ r → file_refusal r ≡ 0 → Next (erect file) l (accepts []) file
    by-case (got tower rest) e z =
        let b = erect-next tower (accepted-valid file h e) in
        record {
          after = b.after;
          meets =
              accepted (erect file) l b.after (ap file_refusal e)
              (b.stands ∙ sym (erect-state (state_of l) file ∙ ap (machine.erected (state_of l)) e))
              (sym (same-lent (state_of l) (erect file) refl))
              (λ i j z. absurd (true≢false (sym z)));
          typed = b.typed;
        }
    by-case (refused n) e z = absurd (not_free (subst Numbered e (file-numbered file)) z)

-- report, check and write leave the slots, and in the lent slice what the machine does
asked : (c : Call) (l : Slots) {r : Reply} → (meaning (state_of l) c).next ≡ state_of l → r ≡ reply_of (state_of l) c
    → Meets c l l r (lent_after (state_of l) c)
asked c l n e =
    record {
      state = sym (same-state (state_of l) c n);
      reply = e;
      lent = refl;
      untouched = λ z. refl;
      left = λ i j z. refl;
    }

-- the machine's reply is that of an answer
report-answer : (m : State) (lent : List ℕ) → (a : Result ⊤ Refusal) × (answer_reply a ≡ reply_of m (report lent))
report-answer m lent = by-case (refusal-for m (report lent))
  where
    by-case : Told (refusal_of m (report lent)) → (a : Result ⊤ Refusal) × (answer_reply a ≡ reply_of m (report lent))
    by-case (free z) = (Ok tt, sym (accepted-reply m (report lent) z))
    by-case (told n) = (Err n.why, sym (refused-reply m (report lent) n.why (sym n.number)))

write-answer-for : (m : State) (lent : List ℕ) → (a : Result ℕ Refusal) × (write_reply a ≡ reply_of m (write lent))
write-answer-for m lent = by-case (refusal-for m (write lent))
  where
    by-case : Told (refusal_of m (write lent)) → (a : Result ℕ Refusal) × (write_reply a ≡ reply_of m (write lent))
    by-case (free z) = (Ok _, sym (accepted-reply m (write lent) z))
    by-case (told n) = (Err n.why, sym (refused-reply m (write lent) n.why (sym n.number)))

-- the first of a list, or none
first_of : (l : List ℕ) → (a : Result (Option ℕ) Refusal) × (check_reply a ≡ accepts (take 1 l))
first_of [] = (Ok None, refl)
first_of (i ∷ l) = (Ok (Some i), refl)

check-answer-for : (m : State) → (a : Result (Option ℕ) Refusal) × (check_reply a ≡ reply_of m check)
unfolding topmost_over
check-answer-for no_tower = (Err refusal.NoTower, refl)
check-answer-for (standing t none) = (Err refusal.NoWind, refl)
check-answer-for (standing t (some w)) = first_of (over_sections t w)

-- lifetimes, and a reference to a value, shared or exclusive; no promise names the lifetime, where the value lies, or
-- the name by which it is tracked
abbrev one : Lfts 1
one = ([], tt)

abbrev two : Lfts 2
two = ([], ([], tt))

abbrev lend : {A : Type 0} → A → Bor A
lend l = record { ref_ptr = (0, 0); now = l }

abbrev lend_mut : {A : Type 0} → A → MutBor A
lend_mut l = record { ref_ptr = (0, 0); ghost_name = 0; now = l }

-- each call has a link
pub record Linked (l : Slots) (c : Call) : Type 0 where
  pub outcome : Outcome
  pub next : Slots
  pub link : Link l c outcome next
  pub typed : TypedSlots next

pub link-exists : (l : Slots) → TypedSlots l → (c : Call) → typed c ≡ true → Linked l c
link-exists l t (erect file) h =
    let r = erect-step l t file h in
    record {
      outcome = _;
      next = r.next.after;
      link = erected two (lend_mut l) (lend_mut r.next.after) (lend file) r.answer h r.next.meets;
      typed = r.next.typed;
    }
link-exists l t (hang it) h =
    let r = step_by (hang it) l t (hang-next l t it h) in
    record {
      outcome = _;
      next = r.next.after;
      link = hung one (lend_mut l) (lend_mut r.next.after) it r.answer (item-passed one it h) r.next.meets;
      typed = r.next.typed;
    }
link-exists l t (take_down n) h =
    let r = step_by (take_down n) l t (down-next l t n) in
    record {
      outcome = _;
      next = r.next.after;
      link = taken-down one (lend_mut l) (lend_mut r.next.after) n r.answer h r.next.meets;
      typed = r.next.typed;
    }
link-exists l t (wind w) h =
    let r = step_by (wind w) l t (wind-next l t w h) in
    let ps : _ = and_split (bits 32 w.direction && bits 32 w.ice && bits 32 w.factor) _ h in
    let factor : _ = and_split (bits 32 w.direction && bits 32 w.ice) _ ps.0 in
    let k : _ = and_split (bits 32 w.direction) _ factor.0 in
    record {
      outcome = _;
      next = r.next.after;
      link =
          wind-set two (lend_mut l) (lend_mut r.next.after)
          (record { direction = w.direction; ice = w.ice; factor = w.factor; pressures = lend w.pressures }) r.answer k.0 k.1 factor.1 ps.1 r.next.meets;
      typed = r.next.typed;
    }
link-exists l t (report lent) h =
    record {
      outcome = _;
      next = l;
      link =
          reported two (lend l) (lend_mut lent) (lend_mut (lent_after (state_of l) (report lent))) (report-answer (state_of l) lent).0 h
          (asked (report lent) l refl (report-answer (state_of l) lent).1);
      typed = t;
    }
link-exists l t check h =
    record {
      outcome = _;
      next = l;
      link =
          checked one (lend l) (check-answer-for (state_of l)).0
          (subst (λ (x : List ℕ). Meets check l l (check_reply (check-answer-for (state_of l)).0) x) (same-lent (state_of l) check refl)
          (asked check l refl (check-answer-for (state_of l)).1));
      typed = t;
    }
link-exists l t (write lent) h =
    record {
      outcome = _;
      next = l;
      link =
          written two (lend l) (lend_mut lent) (lend_mut (lent_after (state_of l) (write lent))) (write-answer-for (state_of l) lent).0 h
          (asked (write lent) l refl (write-answer-for (state_of l) lent).1);
      typed = t;
    }

-- each list of calls has a chain
pub record Chained (l : Slots) (cs : List Call) : Type 0 where
  pub outcomes : List Outcome
  pub last : Slots
  pub chain : Chain l cs outcomes last
  pub typed : TypedSlots last

pub chain-exists : (l : Slots) → TypedSlots l → (cs : List Call) → all_of typed cs ≡ true → Chained l cs
chain-exists l t [] h = record { outcomes = []; last = l; chain = none; typed = t }
chain-exists l t (c ∷ cs) h =
    let k : _ = and_split (typed c) (all_of typed cs) h in
    let x : Linked l c = link-exists l t c k.0 in
    let r : Chained x.next cs = chain-exists x.next x.typed cs k.1 in
    record { outcomes = x.outcome ∷ r.outcomes; last = r.last; chain = more x.link r.chain; typed = r.typed }

-- each list of calls has a chain from a fresh service
pub fresh-exists : IsFresh empty_slots × TypedSlots empty_slots
fresh-exists = (cleared one (lend_mut empty_slots) (lend_mut empty_slots) refl, record { long = refl; each = refl })

pub record Ran (cs : List Call) : Type 0 where
  pub first : Slots
  pub fresh : IsFresh first
  pub outcomes : List Outcome
  pub last : Slots
  pub chain : Chain first cs outcomes last

pub every-list : (cs : List Call) → all_of typed cs ≡ true → Ran cs
every-list cs h =
    let r : Chained empty_slots cs = chain-exists empty_slots fresh-exists.1 cs h in
    record { first = empty_slots; fresh = fresh-exists.0; outcomes = r.outcomes; last = r.last; chain = r.chain }

-- and so have the calls by which Demand3 erects a tower newly
pub newly-exists : (t : Tower) (w : Wind) → ValidWind t w → (items : List Item) → Permᴰ t.items items → (lent : List ℕ) → all_of (bits 64) lent ≡ true
    → Ran (newly_erected t items w lent)
newly-exists t w v items p lent h = every-list (newly_erected t items w lent) (newly-typed t w v items p lent h)
