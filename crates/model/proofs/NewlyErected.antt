-- A tower newly erected, its items hung in any order: no call is turned down, and the report is the same.
use Prim.Native.Nat.{ℕ, ◌*◌, ◌≤◌}
use mathlib.Core.Path.{◌≡◌, refl, sym, subst, ◌∙◌}
use mathlib.Core.Bool.{true}
use mathlib.Core.List.{List, [], ◌∷◌, ◌++◌, map, append_assoc, append-nil, Permᴰ}
use mathlib.Core.Option.{Option, none, some}
use native.Mathlib.Omega.{arith}
use lib.ListN.{length, drop, length-append}
use borrow.Author.Tests.{le-ltb, not-true, eq-eqb}
use Rattle.model.specs.declared.Item.{Item}
use Rattle.model.specs.Lists.{all_of}
use Rattle.model.specs.Ranges.{section_count, item_count}
use Rattle.model.specs.Tower.{Tower, Wind}
use Rattle.model.specs.Report.{rows_of}
use Rattle.model.specs.Bytes.{file_of}
use Rattle.model.specs.Machine.{State, no_tower, standing, erect_refusal, with_items, hang_refusal}
use Rattle.model.specs.Calls.{Call, erect, hang, wind, report, bits, typed, typed_item, refusal_of, step, run, lent_last, newly_erected, first_refusal}
use Rattle.model.specs.Valid.{item_fits, ValidTower, ValidWind}
use Rattle.exact.proofs.Bools.{and-join}
use Rattle.model.proofs.Lists.{length-perm, all-perm, all_append, all_weaker, all_in}
use Rattle.std.proofs.lemmas.List.Folds.{list_all-map}
use Rattle.model.proofs.Distinct.{distinct-perm, new-number}
use Rattle.model.proofs.Sections.{in-range}
use Rattle.model.proofs.Reorder.{rows-order}
use Rattle.model.proofs.Rows.{report-rows}
use Rattle.model.proofs.Refused.{same-state}
use Rattle.model.proofs.RoundTrips.{bare-file, file-bytes}
use Rattle.model.proofs.Reached.{fit_parts, hang-accepted, valid-items, valid-item-typed, valid-wind-typed}

-- the calls cs from m and the calls rest from m' have the same first refusal, the same state at the end and the same
-- last lent slice
record Leads (m : State) (cs : List Call) (m' : State) (rest : List Call) : Type 0 where
  refusal : first_refusal m cs ≡ first_refusal m' rest
  state : run m cs ≡ run m' rest
  lent : lent_last m cs ≡ lent_last m' rest

leads-on : {m m' m'' : State} {cs ds es : List Call} → Leads m cs m' ds → Leads m' ds m'' es → Leads m cs m'' es
leads-on a b = record { refusal = a.refusal ∙ b.refusal; state = a.state ∙ b.state; lent = a.lent ∙ b.lent }

-- a call before others; where it is accepted, the others say
lent-later : (m : State) (c : Call) (cs : List Call) (d : Call) (ds : List Call) → lent_last m (c ∷ (cs ++ (d ∷ ds))) ≡ lent_last (step m c) (cs ++ (d ∷ ds))
lent-later m c [] d ds = refl
lent-later m c (e ∷ cs) d ds = refl

accepted-call : (m m' : State) (c : Call) (cs : List Call) (d : Call) (ds : List Call) → refusal_of m c ≡ 0 → step m c ≡ m'
    → Leads m (c ∷ (cs ++ (d ∷ ds))) m' (cs ++ (d ∷ ds))
accepted-call m m' c cs d ds h e =
    subst (λ (x : State). Leads m (c ∷ (cs ++ (d ∷ ds))) x (cs ++ (d ∷ ds))) e
    (record { refusal = rw (eq-eqb (refusal_of m c) 0 h); state = refl; lent = lent-later m c cs d ds })

-- one hang for each item, before a call d and others
module _ (t : Tower) (w : Option Wind) (d : Call) (ds : List Call) where
  hang-each : (held items : List Item) → ValidTower (with_items t (held ++ items))
      → Leads (standing (with_items t held) w) (map hang items ++ (d ∷ ds)) (standing (with_items t (held ++ items)) w) (d ∷ ds)
  hang-each held [] v = rw append-nil (record { refusal = refl; state = refl; lent = refl })
  hang-each held (it ∷ items) v =
      let now : State = standing (with_items t held) w in
      let e : held ++ (it ∷ items) ≡ (held ++ (it ∷ [])) ++ items = sym (append_assoc held (it ∷ []) items) in
      let few : length (held ++ (it ∷ items)) ≤ 64 = (in-range item_count _ v.held).high in
      let parts : _ = fit_parts (length t.sections) it (all_in (item_fits (length t.sections)) held it items v.items) in
      let free : hang_refusal now it ≡ 0 =
      hang-accepted (with_items t held) w it
      (record {
        room = omega (arith, length-append held (it ∷ items));
        new = not-true _ (new-number held it items v.numbers);
        there = parts.1;
        fields = parts.2;
      }) in
      rw e
      (leads-on (accepted-call now (standing (with_items t (held ++ (it ∷ []))) w) (hang it) (map hang items) d ds free (rw free))
      (hang-each (held ++ (it ∷ [])) items (subst (λ (l : List Item). ValidTower (with_items t l)) e v)))

module _ (t : Tower) (w : Wind) (v : ValidWind t w) (items : List Item) (p : Permᴰ t.items items) (lent : List ℕ) where
  -- the tower with its items in this order
  reordered : ValidTower (with_items t items)
  reordered =
      let u : ValidTower t = v.tower in
      valid-items u items (omega (arith, length-perm p, (in-range item_count (length t.items) u.held).high))
      (sym (all-perm (item_fits (length t.sections)) p) ∙ u.items) (sym (distinct-perm p) ∙ u.numbers)

  -- the calls before the report
  to-report : Leads no_tower (newly_erected t items w lent) (standing (with_items t items) (some w)) (report lent ∷ [])
  unfolding erect_refusal
  to-report =
      let read : _ = (bare-file t v.tower).1 in
      leads-on
      (accepted-call no_tower (standing (with_items t []) none) (erect (file_of (with_items t []))) (map hang items) (wind w) (report lent ∷ []) (rw read) (rw read))
      (leads-on (hang-each t none (wind w) (report lent ∷ []) [] items reordered)
      (accepted-call (standing (with_items t items) none) (standing (with_items t items) (some w)) (wind w) [] (report lent) [] v.accepted (rw v.accepted)))

  pub newly-typed : all_of (bits 64) lent ≡ true → all_of typed (newly_erected t items w lent) ≡ true
  newly-typed h =
      let few : length t.sections ≤ 32 = (in-range section_count (length t.sections) v.tower.count).high in
      let hung : all_of typed_item items ≡ true =
      all_weaker (item_fits (length t.sections)) typed_item (λ it f. valid-item-typed (length t.sections) it few f) items reordered.items in
      and-join (file-bytes (with_items t []))
      (all_append typed (map hang items) (wind w ∷ report lent ∷ []) (list_all-map typed hang items ∙ hung)
      (and-join (valid-wind-typed v) (and-join h refl)))

  pub newly-state : run no_tower (newly_erected t items w lent) ≡ standing (with_items t items) (some w)
  newly-state = to-report.state ∙ same-state (standing (with_items t items) (some w)) (report lent) refl

  module _ (room : 6 * length t.sections ≤ length lent) where
    -- none of these calls is turned down
    pub newly-accepted : first_refusal no_tower (newly_erected t items w lent) ≡ 0
    newly-accepted = to-report.refusal ∙ rw (le-ltb (length lent) (6 * length t.sections) room)

    pub newly-rows : lent_last no_tower (newly_erected t items w lent) ≡ rows_of t w ++ drop (6 * length t.sections) lent
    newly-rows = to-report.lent ∙ report-rows (with_items t items) w lent room ∙ rw (rows-order t w t.items items p)
