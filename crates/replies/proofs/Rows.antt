-- A row that is put number by number, and rows one after the other; a row reads back.
use Rattle.std.proofs.Common.{◌≡◌, ℕ, zero, suc, ◌+◌, ◌-◌, ◌*◌, ◌/◌, ◌^◌, ◌<◌, List, [], ◌∷◌, ◌++◌, length, get_or, take, drop, refl, append_assoc, append-nil, add-one, arith, length-append}
use Rattle.std.specs.Prelude.{decimal}
use Rattle.std.proofs.lemmas.List.{take_more, take_at, drop_at, drop-drop}
use Rattle.lines.specs.declared.text.Text.{Text}
use Rattle.lines.specs.Text.{spaced}
use Rattle.lines.specs.Appends.{Appends}
use Rattle.lines.proofs.Putting.{appends_both}
use Rattle.lines.specs.Numbers.{inside, read_to}
use Rattle.lines.proofs.ReadBack.{read_first, numbers-back}
use Rattle.replies.specs.MessageText.{row_text, rows_text}

spaced-append : (ns ms : List ℕ) → spaced (ns ++ ms) ≡ spaced ns ++ spaced ms
unfolding spaced
spaced-append [] ms = refl
spaced-append (n ∷ ns) ms = rw (spaced-append ns ms, append_assoc)

-- one number more
pub spaced_more : (row : List ℕ) (i : ℕ) → i < length row → spaced (take (i + 1) row) ≡ spaced (take i row) ++ (decimal (get_or row i 0) ++ (32 ∷ []))
unfolding spaced
spaced_more row i h = rw (take_more row i 0 h, spaced-append)

pub row_none : (ns : List ℕ) → length ns ≡ 0 → row_text ns ≡ 10 ∷ []
unfolding row_text
row_none [] h = refl
row_none (n ∷ ns) h = absurd (omega arith)

pub row_of : (ns : List ℕ) (n : ℕ) → row_text (ns ++ (n ∷ [])) ≡ spaced ns ++ (decimal n ++ (10 ∷ []))
unfolding spaced row_text
row_of [] n = refl
row_of (m ∷ []) n = rw append_assoc
row_of (m ∷ (k ∷ ns)) n = rw (row_of (k ∷ ns) n) (simp append_assoc)

-- one row more
rows-suc : (i : ℕ) (rows : List ℕ) → rows_text (suc i) rows ≡ rows_text i rows ++ row_text (take 6 (drop (6 * i) rows))
unfolding rows_text
rows-suc zero rows = rw append-nil
rows-suc (suc i) rows =
    let e : 6 * suc i ≡ 6 + 6 * i = omega arith in
    rw (rows-suc i (drop 6 rows), drop-drop, e, append_assoc)

pub rows_more : (rows : List ℕ) {before after last : Text} (i : ℕ) → Appends (rows_text i rows) before after
    → Appends (row_text (take 6 (drop (6 * i) rows))) after last → Appends (rows_text (i + 1) rows) before last
rows_more rows i a b = rw (add-one i, rows-suc) (appends_both a b)

-- rows are put, and `rest` is left
pub record RowsPut (rows rest : List ℕ) (old new : Text) : Type 0 where
  pub done : List ℕ
  pub put : Appends done old new
  pub left : rows_text (length rows / 6) rows ≡ done ++ rows_text (length rest / 6) rest

rows_and : (row rest : List ℕ) → length row ≡ 6
    → rows_text (length (row ++ rest) / 6) (row ++ rest) ≡ row_text row ++ rows_text (length rest / 6) rest
unfolding rows_text
rows_and row rest six =
    let n : length (row ++ rest) / 6 ≡ suc (length rest / 6) = omega (arith, length-append row rest) in
    rw (n, take_at row rest 6 six, drop_at row rest 6 six)

pub row_put : {rows : List ℕ} (row : List ℕ) {rest : List ℕ} {old text new : Text} → RowsPut rows (row ++ rest) old text → length row ≡ 6
    → Appends (row_text row) text new → RowsPut rows rest old new
row_put row {rest} p six a =
    record {
      done = p.done ++ row_text row;
      put = appends_both p.put a;
      left = rw (p.left, rows_and row rest six, append_assoc);
    }

pub all_rows : {rows rest : List ℕ} {old new : Text} → RowsPut rows rest old new → length rest < 6 → Appends (rows_text (length rows / 6) rows) old new
unfolding rows_text
all_rows {rest = rest} p h =
    let z : length rest / 6 ≡ 0 = omega arith in
    rw (p.left, z, append-nil) p.put

-- a row, without its line end, reads back
pub row_back : (room : ℕ) (ns : List ℕ) (n : ℕ) → ((i : ℕ) → get_or ns i 0 < 10 ^ 19) → n < 10 ^ 19 → length ns < room
    → read_to room (row_text (ns ++ (n ∷ []))) (length (row_text (ns ++ (n ∷ []))) - 1) ≡ inside ns n
row_back room ns n h k g =
    let s = spaced ns ++ decimal n in
    let e : row_text (ns ++ (n ∷ [])) ≡ s ++ (10 ∷ []) = rw (row_of ns n) (simp append_assoc) in
    let l : length (s ++ (10 ∷ [])) - 1 ≡ length s = omega (arith, length-append s (10 ∷ [])) in
    rw (e, l, read_first room s (10 ∷ []) (length s) (omega arith)) (numbers-back room ns n h k g)
