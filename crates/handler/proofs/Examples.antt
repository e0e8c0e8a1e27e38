-- Examples: what is printed for two lines, the second one in the state that the first one left, that state, and what
-- `Answers` says of both; and slices of any lengths are `Lent`, in the room that these lengths are.
use Rattle.std.proofs.Common.{◌≡◌, ℕ, ◌≤◌, refl, ap, sym, ◌∙◌, List, [], ◌∷◌, arith, lit≤, length}
use Rattle.std.specs.Prelude.{codes}
use Rattle.std.specs.Fmt.{digits}
use Rattle.model.specs.Lists.{joined, sum_by}
use Rattle.model.specs.Areas.{group_area, gross, solid_of}
use Rattle.model.specs.Reading.{field, ranged, many}
use Rattle.model.specs.File.{read_group, read_groups, read_section, read_sections, read_item_fields, read_item, read_items, read_file}
use Rattle.model.specs.Machine.{no_tower, erect_refusal}
use Rattle.model.specs.declared.Refusal.TheVariants as refusal
use Rattle.model.specs.Calls.{erect, take_down, refusal_of, step}
use Rattle.model.proofs.Refused.{refused-state}
use Rattle.lines.specs.Hex.{pairs}
use Rattle.lines.specs.Numbers.{read_to}
use Rattle.requests.specs.Asked.{called, Room, take_down_asked, erect_text, asked_by, numbers_text, asked_text, asked_in}
use Rattle.requests.specs.Decoded.{room_of}
use Rattle.handler.specs.declared.Buffers.{Buffers}
use Rattle.handler.specs.AnswerText.{answer_text}
use Rattle.handler.specs.RequestSteps.{after}
use Rattle.handler.specs.Responds.{room_in}
use Rattle.handler.specs.Sessions.{after_all, Answers, none, more}
use Rattle.handler.proofs.Stepping.{accepted-text, refused-text}
use Rattle.handler.proofs.Sessions.{Lent}

-- a tower of one section, then an item that does not hang on it
abbrev erect_line : List ℕ
erect_line = codes "erect 040107d01770000000000100006400005dc000"

abbrev down_line : List ℕ
down_line = codes "takedown 7"

abbrev room : Room
room = room_of 3003 192 3000

abbrev file : List ℕ
file = 4 ∷ 1 ∷ 7 ∷ 208 ∷ 23 ∷ 112 ∷ 0 ∷ 0 ∷ 0 ∷ 0 ∷ 1 ∷ 0 ∷ 0 ∷ 100 ∷ 0 ∷ 0 ∷ 93 ∷ 192 ∷ 0 ∷ []

erect-asked : asked_in room erect_line ≡ called (erect file)
unfolding asked_in asked_text erect_text pairs
erect-asked = refl

down-asked : asked_in room down_line ≡ called (take_down 7)
unfolding asked_in asked_text numbers_text read_to asked_by take_down_asked
down-asked = refl

erect-refusal : refusal_of no_tower (erect file) ≡ 0
unfolding erect_refusal joined sum_by group_area gross solid_of field ranged many read_group read_groups read_section read_sections read_item_fields read_item read_items read_file
erect-refusal = refl

down-refusal : refusal_of (step no_tower (erect file)) (take_down 7) ≡ 14
unfolding erect_refusal joined sum_by group_area gross solid_of field ranged many read_group read_groups read_section read_sections read_item_fields read_item read_items read_file
down-refusal = refl

-- what is printed for each, in the state then
pub erect-text : answer_text no_tower (asked_in room erect_line) ≡ codes "ok\n"
erect-text = ap (answer_text no_tower) erect-asked ∙ accepted-text no_tower (called (erect file)) erect-refusal

pub down-text : answer_text (after no_tower (asked_in room erect_line)) (asked_in room down_line) ≡ codes "refused 14\n"
unfolding digits
down-text = rw (erect-asked, down-asked) (refused-text (step no_tower (erect file)) (called (take_down 7)) refusal.NoSuchItem (sym down-refusal))

-- a text that has room
roomy : {most : ℕ} {put text told : List ℕ} → text ≡ told → length told ≤ most → (length text ≤ most → put ≡ text) → put ≡ told
roomy e h g = g (rw e h) ∙ e

pub two-lines : {s t : List ℕ} → Answers room 8192 no_tower (record { line = erect_line; text = s } ∷ record { line = down_line; text = t } ∷ [])
    → (s ≡ codes "ok\n") × (t ≡ codes "refused 14\n")
two-lines (more t₁ (more t₂ none)) = (roomy erect-text (lit≤ tt) t₁, roomy down-text (lit≤ tt) t₂)

pub after-lines : (s t : List ℕ) → after_all room no_tower (record { line = erect_line; text = s } ∷ record { line = down_line; text = t } ∷ []) ≡ step no_tower (erect file)
unfolding after_all
after-lines s t = rw (erect-asked, down-asked) (refused-state (step no_tower (erect file)) (take_down 7) (λ z. omega (arith, down-refusal)))

pub lent-own : (b : Buffers) → Lent (room_in b) (length b.out.now) b
lent-own b = record { room_is = refl; out = refl }
