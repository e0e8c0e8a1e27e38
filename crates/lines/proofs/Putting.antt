-- Texts put in a slice one after the other.
use Rattle.std.proofs.Common.{◌≡◌, ℕ, ◌+◌, ◌≤◌, List, [], ◌++◌, length, refl, ◌∙◌, append_assoc, append-nil, arith, length-append}
use Rattle.lines.specs.declared.text.Text.{Text}
use Rattle.lines.specs.Text.{Puts}
use Rattle.lines.specs.Appends.{Appends}

pub puts_none : (before : List ℕ) (at : ℕ) → at ≤ length before → Puts [] before at before at
puts_none before at h =
    record { long = refl; low = omega arith; high = h; put = λ g. (omega arith, rw append-nil) }

module _ {s t before after last : List ℕ} {at p r : ℕ} where
  pub puts-both : Puts s before at after p → Puts t after p last r → Puts (s ++ t) before at last r
  puts-both a b =
      record {
        long = rw (b.long, a.long);
        low = omega arith;
        high = omega (arith, a.long);
        put = λ g.
            let l : length (s ++ t) ≡ length s + length t = length-append s t in
            let x = a.put (omega arith) in
            let y = b.put (omega (arith, a.long, x.0)) in
            (omega (arith, x.0, y.0), rw (y.1, x.1, append_assoc));
      }

pub appends_none : (t : Text) → Appends [] t t
appends_none t = record { same = refl; puts = puts_none _ _ t.fits }

pub appends_both : {r s : List ℕ} {t u v : Text} → Appends r t u → Appends s u v → Appends (r ++ s) t v
appends_both a b = record { same = b.same ∙ a.same; puts = puts-both a.puts b.puts }
