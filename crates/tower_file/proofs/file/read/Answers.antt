use Rattle.std.proofs.Common.{◌≡◌, ℕ, ◌+◌, ◌≤◌, List, [], map, length, drop, eqb, refl, true, arith, Ok}
use borrow.Author.Tests.{le-leb}
use Rattle.counted.specs.Elements.{elements}
use Rattle.model.specs.declared.Item.{Item}
use Rattle.model.specs.declared.Section as stored
use Rattle.model.specs.declared.Tower as tower
use Rattle.model.specs.Lists.{all_of}
use Rattle.model.specs.Ranges.{leg_count, section_count}
use Rattle.model.specs.Tower.{Section, section_of}
use Rattle.model.specs.Reading.{got, require, ranged, many}
use Rattle.model.specs.File.{legs_of, read_section, read_sections, read_file}
use Rattle.file_fields.specs.Outcomes.{ReadsAs}
use Rattle.file_fields.proofs.Answered.{rest, onward, onward-no, ranged-high}
use Rattle.file_parts.specs.Parts.{read_item_part}
use Rattle.file_parts.specs.Stored.{groups_stored}
use Rattle.file_parts.proofs.Each.{each-behind, each-barred}
use Rattle.file_parts.proofs.Order.{items-last}
use Rattle.tower_file.specs.Stored.{counts_stored}
use Rattle.tower_file.proofs.Filed.{turned_down, bytes-follow, nothing-follows}
use Rattle.tower_file.proofs.file.read.Goals as goal

pub returns-in_err-legs : goal.returns-in_err-legs
returns-in_err-legs c = turned_down _ _ c.from_residual.ensures.1 (rw (items-last c.args.file.now, c.in_err-legs.ensures.says) refl)

pub returns-in_err-count : goal.returns-in_err-count
returns-in_err-count c =
    turned_down _ _ c.from_residual-in_err-count.ensures.1
    (rw (items-last c.args.file.now, c.in_ok-legs.ensures.says.0, c.in_err-count.ensures.says) refl)

pub read_each_stored-requires : goal.read_each_stored-requires
read_each_stored-requires c = rw c.new-sections.ensures.items (omega (arith, ranged-high 1 section_count 4 _ c.in_ok-count.ensures.says.0))

pub returns-in_err-at : goal.returns-in_err-at
unfolding read_sections
returns-in_err-at c =
    let count = c.in_ok-count in
    let no = each-barred section_of read_section count.count c.args.file.now count.at c.new-sections.ensures.items c.in_err-at.ensures.says in
    turned_down _ _ c.from_residual-in_err-at.ensures.1
    (rw (items-last c.args.file.now, c.in_ok-legs.ensures.says.0, count.ensures.says.0, no) refl)

pub returns-in_err-items : goal.returns-in_err-items
unfolding read_sections
returns-in_err-items c =
    let s = c.args.file.now in
    let count = c.in_ok-count in
    let sections = each-behind section_of read_section count.count s count.at c.new-sections.ensures.items count.ensures.says.1 _ c.in_ok-at.ensures.says in
    let no = onward-no (read_item_part count.count) s (count.at + c.in_ok-at.field-0) c.in_err-items.ensures.says in
    turned_down _ _ c.from_residual-in_err-items.ensures.1
    (rw (items-last s, c.in_ok-legs.ensures.says.0, count.ensures.says.0, sections.0, no) refl)

-- all parts were read: whether bytes follow decides
module _ (s : List ℕ) (a : ℕ) (sections : List stored.Section) {R : Type 0} {items : R → List Item} {next : R → ℕ} where
  parts-read : {legs count at used : ℕ} {none : List stored.Section} {r : R} → ranged 1 leg_count 3 s ≡ got legs (drop a s)
      → (ranged 1 section_count 4 (drop a s) ≡ got count (drop at s)) × (at ≤ length s) → none ≡ []
      → ReadsAs (λ (n : ℕ). map section_of sections) (λ (n : ℕ). n) (rest s at)
      (many (λ (l : List Section). read_section) count (map section_of none) (rest s at)) (Ok used)
      → ReadsAs items next (rest s (at + used)) (read_item_part count (rest s (at + used))) (Ok r)
      → (read_file s
      ≡ require (eqb (length (drop (at + used + next r) s)) 0) 13
      (got (record { legs = legs_of legs; sections = map section_of sections; items = items r }) []))
      × (at + used + next r ≤ length s)
  unfolding read_sections
  parts-read {count = count} {at} {used} legs counted e parts held =
      let front = each-behind section_of read_section count s at e counted.1 sections parts in
      let all = onward (read_item_part count) s (at + used) front.1 held in
      (rw (items-last s, legs, counted.0, front.0, all.0) refl, all.1)

counted : (t : tower.Tower) → t.sections.count ≤ 32 → t.items.count ≤ 64 → all_of groups_stored (elements t.sections) ≡ true
    → counts_stored t ≡ true
unfolding counts_stored
counted t a b e = rw (le-leb _ _ a, le-leb _ _ b, e) refl

pub returns-then-at-used : goal.returns-then-at-used
returns-then-at-used c =
    let s = c.args.file.now in
    let read = parts-read s _ _ c.in_ok-legs.ensures.says.0 c.in_ok-count.ensures.says c.new-sections.ensures.items c.in_ok-at.ensures.says c.in_ok-items.ensures.says in
    record { tower = rw (read.0, bytes-follow s _ read.1 c.if-at-used.true) refl; counts = tt }

pub returns : goal.returns
returns c =
    let s = c.args.file.now in
    let read = parts-read s _ _ c.in_ok-legs.ensures.says.0 c.in_ok-count.ensures.says c.new-sections.ensures.items c.in_ok-at.ensures.says c.in_ok-items.ensures.says in
    record {
      tower = rw (read.0, nothing-follows s _ c.if-at-used.false, c.from-legs.ensures) refl;
      counts =
          counted _ (c.in_ok-at.ensures.count c.new-sections.ensures.few) c.in_ok-items.ensures.count
          (c.in_ok-at.ensures.stored (rw c.new-sections.ensures.items refl));
    }
