-- The customer's second demand: what the numbers of an accepted report are, and the two ways round of a tower file.
use Prim.Native.Nat.{ℕ, ◌+◌, ◌*◌, ◌≤◌, ◌<◌}
use mathlib.Core.Path.{◌≡◌, refl, ap, sym, subst, ◌∙◌}
use mathlib.Core.Bool.{false}
use mathlib.Core.List.{List, [], ◌++◌}
use mathlib.Core.Option.{Option, none, some}
use native.Mathlib.Omega.{arith}
use lib.ListN.{length, take, drop, get_or}
use lib.Seq.{take_at}
use lib.Dec.{ltb}
use borrow.Author.Tests.{le-ltb, ltb-false}
use Rattle.std.specs.Prelude.{Ok}
use Rattle.model.specs.Lists.{sum_to}
use Rattle.model.specs.Tower.{Tower, Wind}
use Rattle.model.specs.Reading.{Parsed, got, refused}
use Rattle.model.specs.File.{read_file}
use Rattle.model.specs.Bytes.{file_of}
use Rattle.model.specs.Report.{row_at, rows_of, height_at, areas_at, force_at, arm, shear, moment}
use Rattle.model.specs.Answers.{write_reply}
use Rattle.model.specs.Machine.{standing, erected, erect_refusal, file_refusal, filled, no_tower, report_refusal}
use Rattle.model.specs.Calls.{Call, report, erect, write}
use Rattle.model.specs.Valid.{ValidState, none_standing}
use Rattle.model.proofs.Forces.{refuse-none}
use Rattle.model.proofs.Reached.{tower-in, run-valid}
use Rattle.model.proofs.Lists.{sum_to-same}
use Rattle.model.proofs.Rows.{columns, report-rows}
use Rattle.model.proofs.Accepted.{same_bytes}
use Rattle.model.proofs.RoundTrips.{same-tower}
use Rattle.model.proofs.FileRefusals.{Numbered, number, file-numbered}
use Rattle.model.proofs.Says.{write-length, accepted-reply}
use Rattle.model.proofs.Refused.{erect-state}
use Rattle.model.specs.Outcomes.{Outcome}
use Rattle.slots.specs.Held.{Slots, state_of}
use Rattle.service.proofs.Links.{
  IsFresh,
  fresh-state,
  Chain,
  chain-typed,
  chain-state,
  Link,
  link-typed,
  next-is,
  reply-is,
  number_is,
  lent_is,
}
use Rattle.service.proofs.Demand3.{number-at}

-- the numbers of section i: the areas of each flow class under the wind's ice, the force, the shear as the sum of the
-- reported forces from the top, and the moment as the sum of those forces times their arms
pub record Numbers (t : Tower) (w : Wind) (rows : List ℕ) (i : ℕ) : Type 0 where
  pub flat : get_or rows (6 * i + 0) 0 ≡ (areas_at t w i).flat.0
  pub subcritical : get_or rows (6 * i + 1) 0 ≡ (areas_at t w i).subcritical.0
  pub supercritical : get_or rows (6 * i + 2) 0 ≡ (areas_at t w i).supercritical.0
  pub force : get_or rows (6 * i + 3) 0 ≡ (force_at t w i).0
  pub shear : get_or rows (6 * i + 4) 0 ≡ sum_to (λ j. get_or rows (6 * j + 3) 0) (i + 1)
  pub moment : get_or rows (6 * i + 5) 0 ≡ sum_to (λ j. get_or rows (6 * j + 3) 0 * (arm (height_at t) j (i + 1)).0) (i + 1)

module _ {s s' : Slots} {lent : List ℕ} {o : Outcome} (l : Link s (report lent) o s') {t : Tower} {w : Wind}
    (e : state_of s ≡ standing t (some w)) (a : o.reply.number ≡ 0) where
  rows_are : o.lent ≡ rows_of t w ++ drop (6 * length t.sections) lent
  rows_are =
      let r : report_refusal (standing t (some w)) (length lent) ≡ 0 = sym (number_is l (standing t (some w)) e) ∙ a in
      let room : 6 * length t.sections ≤ length lent = ltb-false _ _ (refuse-none (ltb (length lent) (6 * length t.sections)) 22 0 (omega arith) r).0 in
      lent_is l (standing t (some w)) e ∙ report-rows t w lent room

  at : (i k : ℕ) → i < length t.sections → k < 6 → get_or o.lent (6 * i + k) 0 ≡ get_or (row_at t w i) k 0
  at = number-at t w lent o.lent rows_are

  pub demand-2-rows : (i : ℕ) → i < length t.sections → Numbers t w o.lent i
  unfolding shear moment
  demand-2-rows i h =
      let f : (j : ℕ) → j < i + 1 → (force_at t w j).0 ≡ get_or o.lent (6 * j + 3) 0 =
      λ j g. sym (at j 3 (omega arith) (omega arith) ∙ (columns t w j).force) in
      record {
        flat = at i 0 h (omega arith) ∙ (columns t w i).flat;
        subcritical = at i 1 h (omega arith) ∙ (columns t w i).subcritical;
        supercritical = at i 2 h (omega arith) ∙ (columns t w i).supercritical;
        force = at i 3 h (omega arith) ∙ (columns t w i).force;
        shear =
            at i 4 h (omega arith) ∙ (columns t w i).shear-at-foot
            ∙ sum_to-same (λ j. (force_at t w j).0) (λ j. get_or o.lent (6 * j + 3) 0) (i + 1) f;
        moment =
            at i 5 h (omega arith) ∙ (columns t w i).moment-at-foot
            ∙ sum_to-same (λ j. (force_at t w j).0 * (arm (height_at t) j (i + 1)).0) (λ j. get_or o.lent (6 * j + 3) 0 * (arm (height_at t) j (i + 1)).0) (i + 1)
            (λ j g. ap (λ (n : ℕ). n * (arm (height_at t) j (i + 1)).0) (f j g));
      }

-- a file that erect accepts has a tower
record FileTower (x : Parsed Tower) : Type 0 where
  tower : Tower
  rest : List ℕ
  is : x ≡ got tower rest

file-tower : (x : Parsed Tower) → Numbered x → file_refusal x ≡ 0 → FileTower x
file-tower (got t rest) n h = record { tower = t; rest = rest; is = refl }
file-tower (refused k) (number low high) h = absurd (omega arith)

-- a tower that stands, written where there is room
module _ {s s' : Slots} {lent : List ℕ} {o : Outcome} (l : Link s (write lent) o s') {t : Tower} {w : Option Wind} (e : state_of s ≡ standing t w) where
  written-room : length (file_of t) ≤ length lent
      → (o.reply ≡ write_reply (Ok (length (file_of t)))) × (o.lent ≡ file_of t ++ drop (length (file_of t)) lent)
  unfolding filled
  written-room h =
      let f : ltb (length lent) (length (file_of t)) ≡ false = le-ltb (length lent) (length (file_of t)) h in (
        reply-is l (standing t w) e ∙ accepted-reply (standing t w) (write lent) (rw f refl),
        lent_is l (standing t w) e ∙ rw f refl,
      )

  written-bytes : {n : ℕ} → o.reply ≡ write_reply (Ok n) → take n o.lent ≡ file_of t
  unfolding filled
  written-bytes {n} q =
      let k : _ = write-length (standing t w) lent (sym (reply-is l (standing t w) e) ∙ q) in
      let f : o.lent ≡ file_of t ++ drop (length (file_of t)) lent = lent_is l (standing t w) e ∙ rw k.0 refl in
      ap (take n) f ∙ take_at (file_of t) (drop (length (file_of t)) lent) n (sym k.1)

-- the state after erect
erected-is : {s s' : Slots} {file : List ℕ} {o : Outcome} → Link s (erect file) o s' → {x : Parsed Tower} → read_file file ≡ x → state_of s' ≡ erected (state_of s) x
erected-is {s = s} {file = file} l g = next-is l (state_of s) refl ∙ erect-state (state_of s) file ∙ ap (erected (state_of s)) g

-- a tower file read and written again has the same bytes
pub demand-2-same-bytes : {s s₁ s₂ : Slots} {file lent : List ℕ} {o p : Outcome}
    → Link s (erect file) o s₁ → o.reply.number ≡ 0 → Link s₁ (write lent) p s₂ → length file ≤ length lent
    → (p.reply ≡ write_reply (Ok (length file))) × (p.lent ≡ file ++ drop (length file) lent)
unfolding erect_refusal
demand-2-same-bytes {s = s} {file = file} {lent = lent} {p = p} l a k room =
    let g : FileTower (read_file file) = file-tower (read_file file) (file-numbered file) (sym (number_is l (state_of s) refl) ∙ a) in
    let e : _ = erected-is l g.is in
    subst
    (λ (x : List ℕ). length x ≤ length lent → (p.reply ≡ write_reply (Ok (length x))) × (p.lent ≡ x ++ drop (length x) lent))
    (same_bytes file (link-typed l) g.is) (written-room k e) room

-- a tower written and read again has the same sections and items, whatever list of calls led to it
pub demand-2-same-tower : {f s s₁ s₂ s₃ : Slots} {cs : List Call} {os : List Outcome} {lent file : List ℕ} {o p : Outcome} {t : Tower} {w : Option Wind} {n : ℕ}
    → IsFresh f → Chain f cs os s → state_of s ≡ standing t w → Link s (write lent) o s₁ → o.reply ≡ write_reply (Ok n) → file ≡ take n o.lent
    → Link s₂ (erect file) p s₃ → (p.reply.number ≡ 0) × (state_of s₃ ≡ standing t none)
unfolding erect_refusal
demand-2-same-tower {s₂ = s₂} {cs = cs} {file = file} {t = t} fresh ch e l q f k =
    let v : ValidState (standing t _) = subst ValidState (sym (chain-state no_tower (fresh-state fresh) ch) ∙ e) (run-valid no_tower cs (chain-typed ch) none_standing) in
    let g : read_file file ≡ got t [] = ap read_file (f ∙ written-bytes l e q) ∙ same-tower t (tower-in v) in
    (number_is k (state_of s₂) refl ∙ ap file_refusal g, erected-is k g)
