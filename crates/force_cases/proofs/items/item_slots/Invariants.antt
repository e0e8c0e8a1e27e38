use Rattle.std.proofs.Common.{◌≡◌, ◌+◌, ◌*◌, true, map, length, drop}
use Rattle.std.specs.Slice.Iter.{chunks_exact_rest, chunks_exact_size}
use Rattle.model.specs.Lists.{all_of, list_to}
use Rattle.model.specs.File.{fields_in_range}
use Rattle.slots.specs.Held.{item_of}
use Rattle.case_words.specs.Words.{item_from}
use Rattle.force_cases.proofs.items.item_slots.Given as goal

-- the first items, as many as there are slots, and the numbers of the others
abbrev pub invariant-loop-fields : goal.invariant-loop-fields
invariant-loop-fields l = record {
  six : chunks_exact_size l.fields-iterator ≡ 6;
  rest : chunks_exact_rest l.fields-iterator ≡ drop (l.place + 1 + 6 * length l.slots.items) l.numbers;
  long : 6 * length l.slots.items + length (chunks_exact_rest l.fields-iterator) ≡ l.needed;
  held : map item_of l.slots.items ≡ list_to (item_from l.numbers (l.place + 1)) (length l.slots.items);
  fit : all_of fields_in_range (list_to (item_from l.numbers (l.place + 1)) (length l.slots.items)) ≡ true;
}
