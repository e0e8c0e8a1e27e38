-- What a line is: a letter alone, or with a space behind it.
use Rattle.std.specs.Prelude.{ℕ, cond, List, [], ◌∷◌, eqb, Option, Some, None}
use Rattle.file_cases.specs.declared.cases.Kind.{Kind}
use Rattle.file_cases.specs.declared.cases.Kind.TheVariants.{File, First, Changed, Longer, Room}

-- f, c, s, a, r
unfoldable pub kind_byte : ℕ → Option Kind
kind_byte b =
    cond (eqb b 102) (Some File)
    (cond (eqb b 99) (Some First) (cond (eqb b 115) (Some Changed) (cond (eqb b 97) (Some Longer) (cond (eqb b 114) (Some Room) None))))

unfoldable pub kind_in : List ℕ → Option Kind
kind_in [] = None
kind_in (b ∷ []) = kind_byte b
kind_in (b ∷ space ∷ s) = cond (eqb space 32) (kind_byte b) None
