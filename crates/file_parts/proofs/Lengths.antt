-- How many bytes the first sections take.
use Prim.Native.Nat.{ℕ, ◌+◌, ◌*◌, ◌<◌}
use mathlib.Core.Path.{◌≡◌, refl, ap, ◌∙◌}
use mathlib.Core.List.{List, [], map}
use lib.ListN.{length, take, get_or, length-append}
use Rattle.std.proofs.lemmas.List.{map_more}
use Rattle.counted.specs.Elements.{elements}
use Rattle.model.specs.declared.Section.{Section}
use Rattle.model.specs.Lists.{joined}
use Rattle.model.specs.Tower.{section_of}
use Rattle.model.specs.Bytes.{section_bytes}
use Rattle.model.proofs.FileLength.{joined-more, length-section}

abbrev pub sections_bytes : List Section → List ℕ
sections_bytes l = joined section_bytes (map section_of l)

pub no_sections : length (sections_bytes []) ≡ 0
unfolding joined
no_sections = refl

pub section_more : (l : List Section) (i : ℕ) (s : Section) → i < length l → s ≡ get_or l i s
    → length (sections_bytes (take (i + 1) l)) ≡ length (sections_bytes (take i l)) + (9 + 7 * length (elements s.groups))
section_more l i s h e =
    let more = ap (λ (m : List _). length (joined section_bytes m)) (map_more section_of l i s h)
    ∙ ap length (joined-more section_bytes (map section_of (take i l)) (section_of (get_or l i s)))
    ∙ length-append (sections_bytes (take i l)) (section_bytes (section_of (get_or l i s))) in
    rw (← e) at more ∙ ap (λ (n : ℕ). length (sections_bytes (take i l)) + n) (length-section (section_of s))
