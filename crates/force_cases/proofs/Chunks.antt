-- An item of six numbers that are cut off the front of those from place p on.
use Rattle.std.proofs.Common.{◌≡◌, ℕ, ◌+◌, ◌<◌, ◌++◌, List, length, get_or, drop, sym, ap, ◌∙◌, refl, arith}
use Rattle.std.proofs.lemmas.List.{get_or-drop, drop-drop, length-append}
use Rattle.std.proofs.Math.ListN.{get_or-append}
use Rattle.std.proofs.Math.Seq.{drop-append_seam}
use Rattle.case_words.specs.Words.{at, item_of}

module _ (ws fields rest : List ℕ) (p : ℕ) (six : length fields ≡ 6) (cut : drop p ws ≡ fields ++ rest) where
  at-cut : (j : ℕ) → j < 6 → at fields j ≡ at ws (p + j)
  at-cut j h = sym (get_or-append fields rest 0 j (omega arith)) ∙ ap (λ (l : List ℕ). get_or l j 0) (sym cut) ∙ get_or-drop p ws j 0

  pub item-cut : item_of fields 0 ≡ item_of ws p
  unfolding item_of
  item-cut =
      let first : at fields 0 ≡ at ws p = at-cut 0 (omega arith) ∙ ap (at ws) (omega arith) in
      rw (first, at-cut 1 (omega arith), at-cut 2 (omega arith), at-cut 3 (omega arith), at-cut 4 (omega arith), at-cut 5 (omega arith)) refl

  pub rest-cut : rest ≡ drop (p + 6) ws
  rest-cut = sym (drop-append_seam fields rest) ∙ ap (λ (l : List ℕ). drop (length fields) l) (sym cut) ∙ drop-drop (length fields) p ws ∙ ap (λ (n : ℕ). drop (p + n) ws) six

pub six-more : (l fields rest : List ℕ) → length fields ≡ 6 → l ≡ fields ++ rest → length l ≡ 6 + length rest
six-more l fields rest six cut = rw cut (omega (arith, length-append fields rest, six))
