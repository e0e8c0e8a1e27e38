-- The steps of the loops over the sections, over plain values.
use Prim.Native.Nat.{ℕ, ◌+◌, ◌-◌, ◌*◌, ◌≤◌, ◌<◌}
use mathlib.Core.Path.{◌≡◌, refl, ap, sym, ◌∙◌}
use mathlib.Core.Bool.{true, false}
use mathlib.Core.List.{List, [], ◌∷◌, ◌++◌, append_assoc}
use native.Mathlib.Omega.{arith}
use lib.ListN.{length, take, drop, set, length-append, length-drop, length-take}
use lib.Seq.{take_at, drop_at, drop-drop}
use borrow.Rule.Slice.PartMut.{put_mid, Post-is}
use Rattle.units.specs.declared.Force.{Force}
use Rattle.model.specs.Tower.{Tower, Wind}
use Rattle.model.specs.Force.{largest_force}
use Rattle.model.specs.Report.{height_at, force_at, row, row_at, rows_to, shear_at, moment_at, exceeds, is_over, IsOver, topmost_over}
use Rattle.model.proofs.Moments.{shear-none, shear-more, moment-none, moment_more}
use Rattle.model.proofs.Rows.{rows_more, length-rows}
use Rattle.model.proofs.Topmost.{topmost-is, topmost-none}
use Rattle.model.proofs.Says.{none_more}
use Rattle.rows.specs.declared.feet.Foot.{Foot}
use Rattle.rows.specs.declared.loads.SectionLoad.{SectionLoad}
use Rattle.rows.specs.Loaded.{LoadAt, NextFoot, row_of}

-- six stores into a slice of six
pub six : (l : List ℕ) (a b c d e f : ℕ) → length l ≡ 6 → set (set (set (set (set (set l 0 a) 1 b) 2 c) 3 d) 4 e) 5 f ≡ a ∷ b ∷ c ∷ d ∷ e ∷ f ∷ []
six [] a b c d e f h = absurd (omega arith)
six (u ∷ []) a b c d e f h = absurd (omega arith)
six (u ∷ v ∷ []) a b c d e f h = absurd (omega arith)
six (u ∷ v ∷ w ∷ []) a b c d e f h = absurd (omega arith)
six (u ∷ v ∷ w ∷ x ∷ []) a b c d e f h = absurd (omega arith)
six (u ∷ v ∷ w ∷ x ∷ y ∷ []) a b c d e f h = absurd (omega arith)
six (u ∷ v ∷ w ∷ x ∷ y ∷ z ∷ []) a b c d e f h = refl
six (u ∷ v ∷ w ∷ x ∷ y ∷ z ∷ k ∷ l) a b c d e f h = absurd (omega arith)

-- the six from a on
pub part-six : (a : ℕ) (l : List ℕ) → a + 6 ≤ length l → length (take (a + 6 - a) (drop a l)) ≡ 6
part-six a l h = rw (length-take, length-drop) (omega arith)

module _ (t : Tower) (w : Wind) where
  -- after n sections: the foot of the last, and their rows at the start of the lent slice
  pub record Written (lent : List ℕ) (n : ℕ) (out : List ℕ) (foot : Foot) : Type 0 where
    pub shear : foot.shear.0 ≡ (shear_at t w n).0
    pub moment : foot.moment.0 ≡ (moment_at t w n).0
    pub rows : out ≡ rows_to t w n ++ drop (6 * n) lent
    pub shear-small : foot.shear.0 ≤ n * largest_force
    pub moment-small : foot.moment.0 ≤ n * (largest_force * 320_000)

  pub written_none : (lent : List ℕ) {foot : Foot} → (foot.shear.0 ≡ 0) × (foot.moment.0 ≡ 0) → Written lent 0 lent foot
  unfolding rows_to
  written_none lent {foot} e =
      record {
        shear = e.0 ∙ sym (shear-none (force_at t w));
        moment = e.1 ∙ sym (moment-none (force_at t w) (height_at t));
        rows = refl;
        shear-small = omega arith;
        moment-small = omega arith;
      }

  -- after n sections: the shear at the foot of the last, and none of them is over its allowance
  pub record Checked (n : ℕ) (v : Force) : Type 0 where
    pub shear : v.0 ≡ (shear_at t w n).0
    pub small : v.0 ≤ n * largest_force
    pub none : (i : ℕ) → i < n → IsOver t w i → ⊥

  pub checked-none : Checked 0 (record { 0 = 0 })
  checked-none = record { shear = sym (shear-none (force_at t w)); small = omega arith; none = λ i q o. omega (arith, q) }

  -- one row more, written into its part
  row_put : (i : ℕ) (lent out part : List ℕ) → out ≡ rows_to t w i ++ drop (6 * i) lent → part ≡ row_at t w i
      → put_mid (6 * i) (6 * i + 6 - 6 * i) out part ≡ rows_to t w (i + 1) ++ drop (6 * (i + 1)) lent
  row_put i lent out part p q =
      let e : 6 * (i + 1) ≡ 6 * i + 6 = omega arith in
      let front : List ℕ = rows_to t w i in
      let d : drop (6 * i + 6) (front ++ drop (6 * i) lent) ≡ drop (6 * i + 6) lent =
      rw (← drop-drop 6 (6 * i) (front ++ drop (6 * i) lent), drop_at front (drop (6 * i) lent) (6 * i) (length-rows t w i), drop-drop) in
      rw (Post-is (6 * i) (6 * i + 6) out (omega arith), p, q, take_at front (drop (6 * i) lent) (6 * i) (length-rows t w i), d, e, rows_more t w i)
      (sym (append_assoc front (row_at t w i) (drop (6 * i + 6) lent)))

  -- the shear one section down
  shear-next : (i : ℕ) {v : ℕ} {f : Force} → v ≡ (shear_at t w i).0 → f ≡ force_at t w i → v + f.0 ≡ (shear_at t w (i + 1)).0
  shear-next i p q = omega (arith, shear-more (force_at t w) i, ap (λ (x : Force). x.0) q)

module _ {t : Tower} {w : Wind} {i : ℕ} where
  -- the slice keeps its length
  pub written-long : {lent out : List ℕ} {foot : Foot} → Written t w lent i out foot → 6 * i ≤ length lent → length out ≡ length lent
  written-long {lent} s h =
      ap length s.rows ∙ omega (arith, length-append (rows_to t w i) (drop (6 * i) lent), length-rows t w i, length-drop (6 * i) lent)

  -- section i, below the rows so far
  module _ {lent out : List ℕ} {above foot : Foot} {own : SectionLoad} (s : Written t w lent i out above) (a : LoadAt t w i own)
      (n : NextFoot above own.load.force own.height foot) where
    next-shear : foot.shear.0 ≡ (shear_at t w (i + 1)).0
    next-shear = n.shear ∙ shear-next t w i s.shear a.force

    next-moment : foot.moment.0 ≡ (moment_at t w (i + 1)).0
    next-moment = n.moment ∙ rw (s.moment, s.shear, a.force, a.height) (sym (moment_more (force_at t w) (height_at t) i))

    row_is : row_of own.load foot ≡ row_at t w i
    unfolding row
    row_is = rw (a.areas, a.force, next-shear, next-moment)

    pub written_next : (part : List ℕ) → part ≡ row_of own.load foot
        → Written t w lent (i + 1) (put_mid (6 * i) (6 * i + 6 - 6 * i) out part) foot
    written_next part e =
        record {
          shear = next-shear;
          moment = next-moment;
          rows = row_put t w i lent out part s.rows (e ∙ row_is);
          shear-small = omega (arith, n.shear, s.shear-small, a.small);
          moment-small = omega (arith, n.small, s.moment-small);
        }

  -- is section i over?
  module _ {above v : Force} {own : SectionLoad} (s : Checked t w i above) (a : LoadAt t w i own) (sum : v.0 ≡ above.0 + own.load.force.0) where
    next : v.0 ≡ (shear_at t w (i + 1)).0
    next = sum ∙ shear-next t w i s.shear a.force

    pub exceeds-is : exceeds v own.allowance ≡ is_over t w i
    exceeds-is = ap (λ (n : ℕ). exceeds (record { 0 = n }) own.allowance) next ∙ ap (exceeds (shear_at t w (i + 1))) a.allowance

    pub checked-next : is_over t w i ≡ false → Checked t w (i + 1) v
    checked-next g = record { shear = next; small = omega (arith, sum, s.small, a.small); none = none_more i s.none g }

  pub over-found : {v : Force} → Checked t w i v → i < length t.sections → is_over t w i ≡ true → i ∷ [] ≡ topmost_over t w
  over-found s h e = sym (topmost-is (record { is-over = record { section = h; over = e }; none_above = s.none }))

  pub none_found : {v : Force} → Checked t w i v → length t.sections ≤ i → [] ≡ topmost_over t w
  none_found s h = sym (topmost-none (λ j o. s.none j (omega (arith, o.section)) o))
