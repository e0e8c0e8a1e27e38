-- What a reply says, above all those of check and write, and the refusals' numbers.
use Prim.Native.Nat.{ℕ, ◌+◌, ◌-◌, ◌≤◌, ◌<◌}
use mathlib.Core.Path.{◌≡◌, refl, ap, sym, ◌∙◌}
use mathlib.Core.Bool.{false, not}
use mathlib.Core.List.{List, [], ◌∷◌}
use mathlib.Core.Option.{some}
use native.Mathlib.Omega.{arith}
use lib.Dec.{eqb, lit<, lit≤}
use lib.ListN.{length, get_or}
use borrow.Author.Count.{below_more}
use borrow.Author.Tests.{eqb-false, ltb-true, lt-ltb, ne_eqb, not-true}
use Rattle.std.specs.Prelude.{Some, None, Result, Ok, Err, ⊤}
use Rattle.model.specs.declared.Refusal.{Refusal}
use Rattle.model.specs.declared.Refusal.TheVariants as refusal
use Rattle.model.specs.Answers.{Reply, accepts, refuses, refusal_number, highest_refusal, answer_reply, answer_number, check_reply, write_reply}
use Rattle.model.specs.Tower.{Tower, Wind}
use Rattle.model.specs.Report.{section_at, shear_at, exceeds, IsOver, TopmostOver}
use Rattle.model.specs.Machine.{State, standing, check_refusal, write_refusal, file_in}
use Rattle.model.specs.Calls as call
use Rattle.model.specs.Calls.{Call, meaning, refusal_of, reply_of}
use Rattle.exact.proofs.Bools.{clash, and_split}
use Rattle.model.proofs.Refused.{refused-values, no-values}
use Rattle.model.proofs.Topmost.{topmost-is, topmost-none, is-topmost, none-topmost}

-- a section is over exactly if it is a section, states an allowance, and its reported shear is above that
pub record Over (t : Tower) (w : Wind) (i : ℕ) : Type 0 where
  pub section : i < length t.sections
  pub stated : (section_at t i).allowance.0 ≡ 0 → ⊥
  pub above : (section_at t i).allowance.0 < (shear_at t w (i + 1)).0

pub over-if : {t : Tower} {w : Wind} {i : ℕ} → Over t w i → IsOver t w i
unfolding exceeds
over-if {t} {w} {i} h =
    record {
      section = h.section;
      over = rw (ne_eqb (section_at t i).allowance.0 0 h.stated, lt-ltb (section_at t i).allowance.0 (shear_at t w (i + 1)).0 h.above);
    }

pub over-only : {t : Tower} {w : Wind} {i : ℕ} → IsOver t w i → Over t w i
unfolding exceeds
over-only {t} {w} {i} h =
    let k : _ = and_split (not (eqb (section_at t i).allowance.0 0)) _ h.over in
    record { section = h.section; stated = eqb-false _ _ (not-true _ k.0); above = ltb-true _ _ k.1 }

-- where none of the first n sections is over, and the next does not exceed its allowance, none of the first n + 1 is
pub none_more : {t : Tower} {w : Wind} (n : ℕ) → ((i : ℕ) → i < n → IsOver t w i → ⊥) → exceeds (shear_at t w (n + 1)) (section_at t n).allowance ≡ false
    → (i : ℕ) → i < n + 1 → IsOver t w i → ⊥
none_more n h e = below_more _ n h (λ o. clash o.over e)

-- the refusals in the order of their numbers
abbrev pub refusals : List Refusal
refusals =
    refusal.NoTower
    ∷ refusal.FileEnds
    ∷ refusal.Legs
    ∷ refusal.SectionCount
    ∷ refusal.SectionSize
    ∷ refusal.GroupCount
    ∷ refusal.GroupField
    ∷ refusal.BareSolidity
    ∷ refusal.ItemCount
    ∷ refusal.ItemNumber
    ∷ refusal.ItemSection
    ∷ refusal.ItemField
    ∷ refusal.BytesFollow
    ∷ refusal.NoSuchItem
    ∷ refusal.Direction
    ∷ refusal.IceClass
    ∷ refusal.StructureFactor
    ∷ refusal.PressureCount
    ∷ refusal.Pressure
    ∷ refusal.IcedSolidity
    ∷ refusal.NoWind
    ∷ refusal.OutputShort
    ∷ []

-- a refusal's number is not 0, which says that a call is accepted, and is at most the highest; the refusal stands at
-- that place of the list
refusal-numbered : (r : Refusal)
    → (0 < refusal_number r) × (refusal_number r ≤ highest_refusal) × (get_or refusals (refusal_number r - 1) refusal.NoTower ≡ r)
refusal-numbered refusal.NoTower = (lit< tt, lit≤ tt, refl)
refusal-numbered refusal.FileEnds = (lit< tt, lit≤ tt, refl)
refusal-numbered refusal.Legs = (lit< tt, lit≤ tt, refl)
refusal-numbered refusal.SectionCount = (lit< tt, lit≤ tt, refl)
refusal-numbered refusal.SectionSize = (lit< tt, lit≤ tt, refl)
refusal-numbered refusal.GroupCount = (lit< tt, lit≤ tt, refl)
refusal-numbered refusal.GroupField = (lit< tt, lit≤ tt, refl)
refusal-numbered refusal.BareSolidity = (lit< tt, lit≤ tt, refl)
refusal-numbered refusal.ItemCount = (lit< tt, lit≤ tt, refl)
refusal-numbered refusal.ItemNumber = (lit< tt, lit≤ tt, refl)
refusal-numbered refusal.ItemSection = (lit< tt, lit≤ tt, refl)
refusal-numbered refusal.ItemField = (lit< tt, lit≤ tt, refl)
refusal-numbered refusal.BytesFollow = (lit< tt, lit≤ tt, refl)
refusal-numbered refusal.NoSuchItem = (lit< tt, lit≤ tt, refl)
refusal-numbered refusal.Direction = (lit< tt, lit≤ tt, refl)
refusal-numbered refusal.IceClass = (lit< tt, lit≤ tt, refl)
refusal-numbered refusal.StructureFactor = (lit< tt, lit≤ tt, refl)
refusal-numbered refusal.PressureCount = (lit< tt, lit≤ tt, refl)
refusal-numbered refusal.Pressure = (lit< tt, lit≤ tt, refl)
refusal-numbered refusal.IcedSolidity = (lit< tt, lit≤ tt, refl)
refusal-numbered refusal.NoWind = (lit< tt, lit≤ tt, refl)
refusal-numbered refusal.OutputShort = (lit< tt, lit≤ tt, refl)

pub refusal-positive : (r : Refusal) → 0 < refusal_number r
refusal-positive r = (refusal-numbered r).0

pub refusal-highest : (r : Refusal) → refusal_number r ≤ highest_refusal
refusal-highest r = (refusal-numbered r).1

pub refusal-place : (r : Refusal) → get_or refusals (refusal_number r - 1) refusal.NoTower ≡ r
refusal-place r = (refusal-numbered r).2

-- and one reaches it
pub highest-reached : refusal_number refusal.OutputShort ≡ highest_refusal
highest-reached = refl

pub answer-highest : (a : Result ⊤ Refusal) → answer_number a ≤ highest_refusal
answer-highest (Ok _) = lit≤ tt
answer-highest (Err r) = refusal-highest r

-- the reply to a call: of one that is accepted, of one that is turned down, of one that answers a number alone
same-reply : {n k : ℕ} {v u : List ℕ} → n ≡ k → v ≡ u → ◌≡◌ {A = Reply} (record { number = n; values = v }) (record { number = k; values = u })
same-reply e f = rw (e, f)

module _ (m : State) (c : Call) where
  pub accepted-reply : refusal_of m c ≡ 0 → reply_of m c ≡ accepts (meaning m c).values
  accepted-reply e = rw e

  pub refused-reply : (r : Refusal) → refusal_number r ≡ refusal_of m c → reply_of m c ≡ refuses r
  refused-reply r e = same-reply (sym e) (refused-values m c (λ (z : refusal_of m c ≡ 0). omega (arith, refusal-positive r)))

  pub number-reply : (a : Result ⊤ Refusal) → (meaning m c).values ≡ [] → answer_number a ≡ refusal_of m c → reply_of m c ≡ answer_reply a
  number-reply (Ok _) v e = same-reply (sym e) (no-values m c v)
  number-reply (Err r) v e = same-reply (sym e) (no-values m c v)

-- the section that check names is the topmost over; it says that none is over exactly if none is
module _ {t : Tower} {w : Wind} where
  pub over-reply : {i : ℕ} → TopmostOver t w i → reply_of (standing t (some w)) call.check ≡ check_reply (Ok (Some i))
  over-reply h = ap accepts (topmost-is h)

  pub none-reply : ((i : ℕ) → IsOver t w i → ⊥) → reply_of (standing t (some w)) call.check ≡ check_reply (Ok None)
  none-reply h = ap accepts (topmost-none h)

  pub reply-over : {i : ℕ} → reply_of (standing t (some w)) call.check ≡ check_reply (Ok (Some i)) → TopmostOver t w i
  reply-over e = is-topmost (ap (λ (r : Reply). r.values) e)

  pub check-over : {i : ℕ} → reply_of (standing t (some w)) call.check ≡ check_reply (Ok (Some i)) → Over t w i
  check-over e = over-only (reply-over e).is-over

  pub check-topmost : {i : ℕ} → reply_of (standing t (some w)) call.check ≡ check_reply (Ok (Some i)) → (j : ℕ) → j < i → Over t w j → ⊥
  check-topmost e j k g = (reply-over e).none_above j k (over-if g)

  pub check-none : reply_of (standing t (some w)) call.check ≡ check_reply (Ok None) → (i : ℕ) → Over t w i → ⊥
  check-none e i g = none-topmost (ap (λ (r : Reply). r.values) e) i (over-if g)

pub check-refused : (m : State) (r : Refusal) → reply_of m call.check ≡ check_reply (Err r) → refusal_number r ≡ check_refusal m
check-refused m r e = sym (ap (λ (x : Reply). x.number) e)

-- write answers the file's length, and fills where there is room
module _ (m : State) (lent : List ℕ) where
  pub write-length : {n : ℕ} → reply_of m (call.write lent) ≡ write_reply (Ok n)
      → (write_refusal m (length lent) ≡ 0) × (n ≡ length (file_in m))
  write-length {n} e =
      let z : write_refusal m (length lent) ≡ 0 = ap (λ (r : Reply). r.number) e in
      let k : n ∷ [] ≡ length (file_in m) ∷ [] = ap (λ (r : Reply). r.values) (sym e ∙ accepted-reply m (call.write lent) z) in
      (z, cc)

  pub write-room : (r : Result ℕ Refusal) → write_refusal m (length lent) ≡ 0 → reply_of m (call.write lent) ≡ write_reply r
      → r ≡ Ok (length (file_in m))
  write-room (Ok n) z e = ap Ok (write-length e).1
  write-room (Err r) z e = absurd (omega (arith, refusal-positive r, ap (λ (x : Reply). x.number) e))
