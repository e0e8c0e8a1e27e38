-- Calls that are repeated, and how many of them are accepted.
use Rattle.std.specs.Prelude.{◌≡◌, ◌<◌, ℕ, zero, suc, ◌+◌, ◌%◌, ◌^◌, cond, List, [], ◌∷◌, ◌++◌, ◌==◌, slice_index_or}
use denote.Ref.{MutBor}
use Rattle.std.specs.Fn.{Shared}
use Rattle.model.specs.declared.Item.{Item}
use Rattle.model.specs.Tower.{Wind}
use Rattle.model.specs.Machine.{State, no_tower, standing}
use Rattle.slots.specs.Held.{Slots, state_of}
use Rattle.model.specs.Calls.{Call, erect, hang, take_down, wind, report, refusal_of, step, run, lent_after}

-- the state that erect and wind leave, from fresh
unfoldable pub windy : List ℕ → Wind → State
windy file w = run no_tower (erect file ∷ wind w ∷ [])

-- 1 where no refusal turns the call down
abbrev pub once : ℕ → ℕ
once refusal = cond (refusal == 0) 1 0

-- how many calls of a list are accepted
unfoldable pub accepted_in : State → List Call → ℕ
accepted_in m [] = 0
accepted_in m (c ∷ cs) = once (refusal_of m c) + accepted_in (step m c) cs

-- the calls of the first n rounds, where a round's calls are told by the state that the last one left and its number
unfoldable pub rounds_to : (State → ℕ → List Call) → State → ℕ → List Call
rounds_to round m zero = []
rounds_to round m (suc n) = rounds_to round m n ++ round (run m (rounds_to round m n)) n

abbrev pub report_round : List ℕ → List Call
report_round lent = report lent ∷ []

abbrev pub dish : ℕ → Item
dish n =
    record {
      number = n;
      section = 0;
      width = record { 0 = 1200 };
      length = record { 0 = 1200 };
      bare = 1200;
      iced = 1500;
      position = 900;
    }

-- the calls of round i
abbrev pub hang_round : ℕ → List Call
hang_round i = hang (dish (i % 1000)) ∷ take_down (i % 1000) ∷ []

abbrev pub erect_round : List ℕ → List Call
erect_round file = erect file ∷ []

-- the item that was hung first, or a dish where none hangs
abbrev pub first_in : State → Item
first_in no_tower = dish 0
first_in (standing t w) = slice_index_or t.items 0 (dish 0)

-- the calls of a round in a state
abbrev pub first_round : State → List Call
first_round m = take_down (first_in m).number ∷ hang (first_in m) ∷ []

-- so many of the calls are accepted, modulo 2^64
abbrev pub Counted : State → List Call → ℕ → Type 0
Counted m cs r = r ≡ accepted_in m cs % 2 ^ 64

-- the state and the count after some calls
pub record After (m : State) (cs : List Call) (s : Slots) (n : ℕ) : Type 0 where
  pub state : state_of s ≡ run m cs
  pub count : Counted m cs n

-- a call of f with these slots and this number may answer n, and leave those slots
pub record RoundReturns {F : Type 0} (g : Shared F (MutBor Slots × (ℕ × Unit {0})) (ℕ × (MutBor Slots × Unit {0}))) (f : F) (before : Slots) (i n : ℕ) (after : Slots) : Type 0 where
  pub lent : MutBor Slots
  pub shows : lent.now ≡ before
  pub left : MutBor Slots
  pub met : g.post f (lent, (i, tt)) (n, (left, tt))
  pub leaves : left.now ≡ after

-- each call of f, at the number of one of so many rounds, makes that round's calls
abbrev pub MakesRounds : {F : Type 0} → Shared F (MutBor Slots × (ℕ × Unit {0})) (ℕ × (MutBor Slots × Unit {0})) → F → ℕ → (State → ℕ → List Call) → Type 0
MakesRounds {F} g f rounds round =
    (before after : Slots) (i n : ℕ) → i < rounds → RoundReturns g f before i n after → After (state_of before) (round (state_of before) i) after n

-- so many of the calls of all rounds are accepted, whichever calls f makes
abbrev pub Repeats : {F : Type 0} → Shared F (MutBor Slots × (ℕ × Unit {0})) (ℕ × (MutBor Slots × Unit {0})) → F → State → ℕ → ℕ → Type 0
Repeats g f m rounds r = (round : State → ℕ → List Call) → MakesRounds g f rounds round → Counted m (rounds_to round m rounds) r

-- each report is lent what the last one left, and leaves what the first one left
pub record Reported (m : State) (rounds : ℕ) (before after : List ℕ) (r : ℕ) : Type 0 where
  pub answer : Counted m (rounds_to (λ _ _. report_round before) m rounds) r
  pub rows : after ≡ cond (rounds == 0) before (lent_after m (report before))

abbrev pub Hung : State → ℕ → ℕ → Type 0
Hung m rounds r = Counted m (rounds_to (λ _ i. hang_round i) m rounds) r

abbrev pub FirstDown : State → ℕ → ℕ → Type 0
FirstDown m rounds r = Counted m (rounds_to (λ x _. first_round x) m rounds) r

abbrev pub Erected : State → List ℕ → ℕ → ℕ → Type 0
Erected m file rounds r = Counted m (rounds_to (λ _ _. erect_round file) m rounds) r
