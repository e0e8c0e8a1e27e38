-- The exact force over whole numbers: what code computes with. It is not of document 01: proofs/WholeForm shows that it
-- is `exact`. e is the open area A_u − A_S, so that no area is subtracted; S = A_S and U = A_u = S + e.
use Rattle.std.specs.Prelude.{ℕ, ◌+◌, ◌*◌, ◌-◌, cond, leb}
use Rattle.units.specs.declared.Area.{Area}
use Rattle.exact.specs.Surd.{Surd}
use Rattle.model.specs.declared.Legs.{Legs}
use Rattle.model.specs.declared.Legs.TheVariants.{Three, Four}
use Rattle.model.specs.declared.Areas.{Areas}
use Rattle.model.specs.Areas.{solid}
use Rattle.model.specs.Force.{quarters, halves}

-- A_u
abbrev pub gross_of : Areas → ℕ → Area
gross_of a e = record { 0 = (solid a).0 + e }

-- 5 U K2
unfoldable pub k2_num : ℕ → ℕ → ℕ
k2_num S e = cond (leb (4 * S) e) (S + e) (cond (leb (4 * e) S) (S + e) (cond (leb S e) (5 * S) (5 * e)))

-- A_c + A_p
abbrev pub rounds : Areas → ℕ
rounds a = a.subcritical.0 + a.supercritical.0

-- Kθ = incidence_num / incidence_den
unfoldable pub incidence_den : Legs → ℕ → ℕ → ℕ
incidence_den Four S e = 400 * S * (S + e)
incidence_den Three S e = 20 * S

unfoldable pub incidence_num : Legs → ℕ → Areas → ℕ → ℕ
incidence_num Four k a e =
    400 * (solid a).0 * ((solid a).0 + e) + (11 * a.flat.0 + 16 * rounds a) * k2_num (solid a).0 e * quarters k
incidence_num Three k a e = 20 * rounds a + a.flat.0 * (20 - halves k)

-- c_f = flat_num / face_den, c_c = subcritical_num / face_den, 1.9 = supercritical_num / face_den
unfoldable pub face_den : Legs → ℕ → ℕ
face_den Four U = 200 * (U * U)
face_den Three U = 5000 * (U * U)

unfoldable pub flat_num : Legs → ℕ → ℕ → ℕ
flat_num Four S e = 396 * (S * S + S * e + 2 * (e * e))
flat_num Three S e = 3344 * (3 * (S * S) + 3 * (S * e) + 5 * (e * e))

unfoldable pub subcritical_num : Legs → ℕ → ℕ → ℕ
subcritical_num Four S e = 25 * (16 * (S * S) + 9 * (S * e) + 18 * (e * e))
subcritical_num Three S e = 25 * (403 * (S * S) + 228 * (S * e) + 380 * (e * e))

unfoldable pub supercritical_num : Legs → ℕ → ℕ
supercritical_num Four U = 380 * (U * U)
supercritical_num Three U = 9500 * (U * U)

-- c_f A_f + c_c A_c + 1.9 A_p = face_num / face_den, in mm²
unfoldable pub face_num : Legs → Areas → ℕ → ℕ
face_num l a e =
    flat_num l (solid a).0 e * a.flat.0
    + subcritical_num l (solid a).0 e * a.subcritical.0
    + supercritical_num l ((solid a).0 + e) * a.supercritical.0

-- what stands under the root of c_p, times (face_den / U)²
unfoldable pub root_num : Legs → ℕ → ℕ → ℕ
root_num Four S e = 200 * (e * (247 * S + 47 * e))
root_num Three S e = 50_000 * (e * (817 * S + 317 * e))

-- the exact force; `items` is the items' sum
unfoldable pub whole_form : Legs → ℕ → ℕ → ℕ → Areas → ℕ → ℕ → Surd
whole_form l k factor q a e items =
    let U : ℕ = (solid a).0 + e in
    let h : ℕ = incidence_den l (solid a).0 e * face_den l U in
    let r : ℕ = q * factor * incidence_num l k a e * 1_000_000 * a.supercritical.0 * U in
    record {
      num = q * factor * (incidence_num l k a e * face_num l a e * 1_000_000 + items * h);
      radicand = r * r * root_num l (solid a).0 e;
      den = h * 1_000_000_000_000_000;
    }
