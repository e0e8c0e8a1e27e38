-- The examples of the demands' statements, by computing.
use Prim.Native.Nat.{ℕ, zero, suc, ◌≤◌, ◌<◌}
use mathlib.Core.Path.{refl, ap}
use mathlib.Core.List.Permᴰ
use mathlib.Core.List.{List, []}
use native.Mathlib.Omega.{arith}
use Rattle.model.specs.Lists.{joined, sum_by, sum_to, list_to}
use Rattle.model.specs.Areas.{group_area, gross, solid_of}
use Rattle.model.specs.Reading.{field, ranged, many}
use Rattle.model.specs.File.{read_group, read_groups, read_section, read_sections, read_item_fields, read_item, read_items, read_file}
use Rattle.model.specs.Bytes.{bytes, group_bytes, section_bytes, item_bytes, file_of}
use Rattle.model.specs.Machine.{filled, erect_refusal}
use Rattle.model.specs.Report.{pressure_at, height_at, arm, arms_to, row, rows_to, exceeds, over_sections, topmost_over}
use Rattle.model.specs.Examples.{file_with, group, item_with, plain, item_of, wind_with, plain_tower}
use Rattle.model.specs.StatementExamples.{widest, wider, told, accepting, refusing, file_with_item, accepted, turned_down, two_high, wind_over, StatementExamples}
use Rattle.model.proofs.TopmostExamples as topmost
use Rattle.model.proofs.Topmost.{topmost-is}

pub statement-examples : StatementExamples
unfolding joined sum_by sum_to list_to group_area gross solid_of field ranged many read_group read_groups read_section read_sections read_item_fields read_item read_items read_file bytes group_bytes section_bytes item_bytes file_of filled erect_refusal height_at arm arms_to row rows_to exceeds over_sections topmost_over file_with group item_with plain item_of wind_with plain_tower widest wider accepting refusing file_with_item accepted turned_down two_high
statement-examples =
    record {
      typed_widest = refl;
      untyped_wider = refl;
      lent = refl;
      replies = refl;
      is-accepted = refl;
      is_refused = refl;
      outcomes_accepted = refl;
      outcomes_refused = refl;
      section-over = ap (λ (over : List ℕ). told 0 over []) (topmost-is topmost.stated);
      last-lent = refl;
      lent-last = refl;
      first-refusal = refl;
      newly = refl;
      newly_stands = refl;
      arms_upper = refl;
      arms_lower = refl;
      no_lower =
          record {
            legs = refl;
            sections = refl;
            items = Permᴰ.swap refl refl;
            direction = refl;
            ice = refl;
            factor = refl;
            pressure = λ i h. omega (arith, higher i h);
          };
      two_above = λ first second h.
          record {
            upper_force = h.force 0 (omega arith);
            upper_shear = omega (arith, h.shear 0 (omega arith));
            upper_moment = h.moment 0 (omega arith);
            lower_force = h.force 1 (omega arith);
            lower_shear = omega (arith, h.shear 1 (omega arith));
            lower_moment = h.moment 1 (omega arith);
          };
      two_no_less = λ first second h.
          record {
            upper_force = h.force 0 (omega arith);
            upper_shear = h.shear 0 (omega arith);
            upper_moment = h.moment 0 (omega arith);
            lower_force = h.force 1 (omega arith);
            lower_shear = h.shear 1 (omega arith);
            lower_moment = h.moment 1 (omega arith);
          };
    }
  where
    higher : (i : ℕ) → i < 2 → pressure_at (wind_over 400) i ≤ pressure_at (wind_over 401) i
    higher zero h = omega arith
    higher (suc zero) h = omega arith
    higher (suc (suc i)) h = absurd (omega arith)
