-- Arguments of their parameters' types. The types are those of the signature that the check makes of a function: `ps`
-- of its module `Kinds`.
use Prim.Native.Nat.{ℕ, zero, suc, ◌^◌}
use mathlib.Core.Bool.{Bool}
use mathlib.Core.List.{List, [], ◌∷◌}
use lib.Dec.{ltb}
use lib.ListN.{get_or}
use mir.Syntax.{Ty, ty_int, ty_bool, ty_float, ty_ptr, ty_ref, ty_array, ty_unit, ty_struct, ty_enum, ty_param, ty_const, ty_array_p, ty_named, Tys, tnil, tcons}
use mir.Val.{bits, WT}
use contract.Lifetimes.{Lfts}
use borrow.Fn.Kinds.{ParamKind, Dens}
use borrow.Kind.ShrSlice.{ptr_of}
use Rattle.model.specs.Lists.{all_of}

-- the bits of a number; none for a type that is no unsigned integer
abbrev width : Ty → ℕ
width (ty_int w) = bits w
width ty_bool = 0
width (ty_float f) = 0
width ty_ptr = 0
width (ty_ref κ μ τ) = 0
width (ty_array τ n) = 0
width ty_unit = 0
width (ty_struct ν τs) = 0
width (ty_enum ν τss) = 0
width (ty_param i) = 0
width (ty_const n) = 0
width (ty_array_p τ i) = 0
width (ty_named h τs) = 0

-- what a reference points at
abbrev target : Ty → Ty
target (ty_int w) = ty_unit
target ty_bool = ty_unit
target (ty_float f) = ty_unit
target ty_ptr = ty_unit
target (ty_ref κ μ τ) = τ
target (ty_array τ n) = ty_unit
target ty_unit = ty_unit
target (ty_struct ν τs) = ty_unit
target (ty_enum ν τss) = ty_unit
target (ty_param i) = ty_unit
target (ty_const n) = ty_unit
target (ty_array_p τ i) = ty_unit
target (ty_named h τs) = ty_unit

-- the fields of a struct, and one of them
abbrev fields : Ty → Tys
fields (ty_int w) = tnil
fields ty_bool = tnil
fields (ty_float f) = tnil
fields ty_ptr = tnil
fields (ty_ref κ μ τ) = tnil
fields (ty_array τ n) = tnil
fields ty_unit = tnil
fields (ty_struct ν τs) = τs
fields (ty_enum ν τss) = tnil
fields (ty_param i) = tnil
fields (ty_const n) = tnil
fields (ty_array_p τ i) = tnil
fields (ty_named h τs) = tnil

abbrev field : Tys → ℕ → Ty
field tnil j = ty_unit
field (tcons τ τs) zero = τ
field (tcons τ τs) (suc j) = field τs j

module _ {n : ℕ} where
  abbrev types : List (ParamKind n) → List Ty
  types [] = []
  types (k ∷ ps) = k.is.ty ∷ types ps

  -- a number for parameter i, which is a number; and the elements of a slice for parameter i, which is a slice of
  -- numbers
  abbrev pub is_number : List (ParamKind n) → ℕ → ℕ → Bool
  is_number ps i x = ltb x (2 ^ width (get_or (types ps) i ty_unit))

  abbrev pub are_numbers : List (ParamKind n) → ℕ → List ℕ → Bool
  are_numbers ps i xs = all_of (λ x. ltb x (2 ^ width (target (ptr_of (get_or (types ps) i ty_unit))))) xs

  -- the same for field j of parameter i, which is a struct
  abbrev pub is_field : List (ParamKind n) → ℕ → ℕ → ℕ → Bool
  is_field ps i j x = ltb x (2 ^ width (field (fields (get_or (types ps) i ty_unit)) j))

  abbrev pub are_field : List (ParamKind n) → ℕ → ℕ → List ℕ → Bool
  are_field ps i j xs = all_of (λ x. ltb x (2 ^ width (target (ptr_of (field (fields (get_or (types ps) i ty_unit)) j))))) xs

  -- values for all parameters: their machine values are well typed, each field of a struct too
  abbrev pub WellTyped : (κs : Lfts n) (ps : List (ParamKind n)) → Dens κs ps → Type 0
  WellTyped κs [] a = Unit {0}
  WellTyped κs (k ∷ ps) a = WT (k.is.val κs a.0) × WellTyped κs ps a.1

  -- the parameters behind the first, which is the state
  abbrev pub behind : List (ParamKind n) → List (ParamKind n)
  behind [] = []
  behind (k ∷ ps) = ps
