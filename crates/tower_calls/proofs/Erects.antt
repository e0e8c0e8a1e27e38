-- The ways out of erect, over plain values.
use Rattle.std.proofs.Common.{◌≡◌, ℕ, List, [], refl, ap, sym, ◌∙◌}
use Rattle.std.proofs.Math.Option.{none}
use Rattle.model.specs.declared.Refusal.{Refusal}
use Rattle.model.specs.Answers.{refusal_number, accepts, refuses}
use Rattle.model.specs.Tower.{Tower}
use Rattle.model.specs.File.{read_file}
use Rattle.model.specs.Reading.{got, refused}
use Rattle.model.specs.Machine.{standing, file_refusal, erected, erect_refusal}
use Rattle.model.specs.Calls.{erect}
use Rattle.model.proofs.Refused.{same-lent, erect-state}
use Rattle.exact.proofs.Bools.{clash}
use Rattle.slots.specs.Held.{Slots, state_of}
use Rattle.slots.specs.Promises.{leaves, Meets}
use Rattle.slots.proofs.WaysOut.{turned_down, accepted}

module _ (l : Slots) (file : List ℕ) where
  pub file-refused : (e : Refusal) → read_file file ≡ refused (refusal_number e) → Meets (erect file) l l (refuses e) file
  unfolding erect_refusal
  file-refused e f = turned_down (erect file) l e (ap file_refusal f)

  pub file-accepted : (t : Tower) → read_file file ≡ got t [] → (after : Slots) → state_of after ≡ standing t none
      → Meets (erect file) l after (accepts []) file
  unfolding erect_refusal leaves
  file-accepted t is_read after e =
      accepted (erect file) l after (ap file_refusal is_read) (e ∙ sym (erect-state (state_of l) file ∙ ap (erected (state_of l)) is_read))
      (sym (same-lent (state_of l) (erect file) refl)) (λ i j z. absurd (clash z refl))
