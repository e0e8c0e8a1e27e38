-- Each rule of hang over the slots: the number that comes where those before it are not met.
use Rattle.std.proofs.Common.{◌≡◌, ℕ, ◌≤◌, ◌<◌, true, false, not, leb, length, ap, arith}
use borrow.Author.Tests.{le-leb, lt-leb}
use Rattle.model.specs.declared.Item.{Item}
use Rattle.model.specs.File.{numbered, fields_in_range}
use Rattle.model.specs.Calls.{hang, refusal_of}
use Rattle.slots.specs.Held.{Slots, is_standing, count_in, held_in, items_in, tower_in, state_of}
use Rattle.slots.proofs.WaysOut.{refusal-of, met, unmet}
use Rattle.slots.proofs.Grounds.{standing-as, section-count, item_count}

-- slots that hold a tower
module _ (l : Slots) (long : length l ≡ 129) (s : is_standing l ≡ true) (it : Item) where
  abbrev hangs : ℕ → Type 0
  hangs n = refusal_of (state_of l) (hang it) ≡ n

  room : held_in l < 64 → leb 64 (length (items_in l)) ≡ false
  room h = lt-leb 64 (length (items_in l)) (omega (arith, item_count l long))

  there : it.section < count_in l → leb (length (tower_in l).sections) it.section ≡ false
  there h = lt-leb (length (tower_in l).sections) it.section (omega (arith, section-count l))

  pub hang-full : 64 ≤ held_in l → hangs 9
  hang-full h = refusal-of (hang it) (standing-as l s) (met 9 _ (le-leb 64 (length (items_in l)) (omega (arith, item_count l long))))

  pub hang-again : held_in l < 64 → numbered it.number (items_in l) ≡ true → hangs 10
  hang-again h e = refusal-of (hang it) (standing-as l s) (unmet 9 (room h) (met 10 _ e))

  module _ (h : held_in l < 64) (new : numbered it.number (items_in l) ≡ false) where
    pub hang-nowhere : count_in l ≤ it.section → hangs 11
    hang-nowhere k =
        refusal-of (hang it) (standing-as l s)
        (unmet 9 (room h) (unmet 10 new (met 11 _ (le-leb (length (tower_in l).sections) it.section (omega (arith, section-count l))))))

    pub hang-range : it.section < count_in l → fields_in_range it ≡ false → hangs 12
    hang-range k e = refusal-of (hang it) (standing-as l s) (unmet 9 (room h) (unmet 10 new (unmet 11 (there k) (met 12 _ (ap not e)))))
