use Rattle.std.proofs.Common.{◌≡◌, ℕ, ◌+◌, ◌<◌, ◌∷◌, [], length, drop, true, false, refl, sym, ap, ◌∙◌, arith, rules}
use Rattle.std.proofs.lemmas.List.{map-append, length-drop, take_rest}
use Rattle.exact.proofs.Bools.{and-join, clash}
use Rattle.model.specs.declared.Item.{Item}
use Rattle.model.specs.Lists.{list_to}
use Rattle.model.specs.File.{fields_in_range}
use Rattle.case_words.specs.Words.{at, item_from}
use Rattle.slots.specs.Held.{item_of}
use Rattle.slots.proofs.Lists.{list-more, all-next, all-not}
use Rattle.force_cases.proofs.Chunks.{item-cut, rest-cut, six-more}
use Rattle.force_cases.proofs.items.item_slots.Goals as goal

pub loop-fields-init : goal.loop-fields-init
unfolding list_to
loop-fields-init c =
    let it = c.into_iter-fields-iterator.ensures.into_iter_gives in
    let s = c.chunks_exact-fields-items.ensures in
    let ws = c.args.numbers.now in
    let rest = s.rest ∙ take_rest ws (c.args.place + 1) in
    rw (c.new-slots.ensures, it)
    (record {
      six = s.size;
      rest = rest ∙ ap (λ (n : ℕ). drop n ws) (omega arith);
      long = rw rest (omega (arith, length-drop (c.args.place + 1) ws));
      held = refl;
      fit = refl;
    })

pub returns-then-not-fields_in_range-clause-fit : goal.returns-then-not-fields_in_range-clause-fit
returns-then-not-fields_in_range-clause-fit c =
    let ws = c.args.numbers.now in
    let f : ℕ → Item = item_from ws (c.args.place + 1) in
    let i = length c.loop-fields.slots.items in
    let held : c.in_ok-held.field-0.now ≡ at ws c.args.place = search rules in
    let s = c.in-Some.ensures.steps in
    let six = s.1.1 ∙ c.loop-fields.invariant.six in
    let cut = sym c.loop-fields.invariant.rest ∙ s.1.0 in
    let same : c.item_at-item.result ≡ f i = c.item_at-item.ensures ∙ item-cut ws _ _ _ six cut in
    let e : fields_in_range (f i) ≡ false = ap fields_in_range (sym same) ∙ sym c.if-not-fields_in_range.ensures in
    let more : i < at ws c.args.place = omega (arith, six-more _ _ _ six s.1.0, held, c.loop-fields.invariant.long) in
    λ _. all-not fields_in_range f (at ws c.args.place) i more e

pub returns-then-not-fields_in_range-clause-taken : goal.returns-then-not-fields_in_range-clause-taken
returns-then-not-fields_in_range-clause-taken c = λ _ _ e. absurd (clash e (returns-then-not-fields_in_range-clause-fit c refl))

pub loop-fields-preserved : goal.loop-fields-preserved
loop-fields-preserved c =
    let ws = c.args.numbers.now in
    let f : ℕ → Item = item_from ws (c.args.place + 1) in
    let l = c.loop-fields in
    let i = length l.slots.items in
    let s = c.in-Some.ensures.steps in
    let six = s.1.1 ∙ l.invariant.six in
    let cut = sym l.invariant.rest ∙ s.1.0 in
    let same : c.item_at-item.result ≡ f i = c.item_at-item.ensures ∙ item-cut ws _ _ _ six cut in
    let fits : fields_in_range (f i) ≡ true = ap fields_in_range (sym same) ∙ sym c.if-not-fields_in_range.ensures in
    let n : length c.push.new.self.items ≡ i + 1 = omega (arith, c.push.ensures.len) in
    rw n
    (record {
      six = s.0 ∙ l.invariant.six;
      rest = rest-cut ws _ _ _ six cut ∙ ap (λ m. drop m ws) (omega arith);
      long = omega (arith, six-more _ _ _ six s.1.0, l.invariant.long);
      held =
          rw c.push.ensures.items (map-append item_of l.slots.items (c.item_slot.result ∷ [])
          ∙ rw (l.invariant.held, c.item_slot.ensures.1 ∙ same) (sym (list-more f i)));
      fit = all-next fields_in_range f i ∙ and-join l.invariant.fit fits;
    })
