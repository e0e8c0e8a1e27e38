-- The machine's examples, by computing.
use mathlib.Core.Path.{refl}
use Rattle.model.specs.Lists.{joined, sum_by, list_to}
use Rattle.model.specs.Areas.{group_area, gross, solid_of, flow_of}
use Rattle.model.specs.Reading.{field, ranged, many}
use Rattle.model.specs.File.{read_group, read_groups, read_section, read_sections, read_item_fields, read_item, read_items, read_file}
use Rattle.model.specs.Bytes.{bytes, group_bytes, section_bytes, item_bytes, file_of}
use Rattle.model.specs.Machine.{filled, erect_refusal}
use Rattle.model.specs.Report.{exceeds}
use Rattle.model.specs.Host.{pressures_of, host_refusal}
use Rattle.model.specs.Examples.{
  file_with,
  group,
  item_with,
  plain,
  item_of,
  wind_with,
  gives,
  holds,
  files,
  calls,
  plain_tower,
  triangle,
  largest_tower,
  MachineExamples,
}
use Rattle.model.proofs.TopmostExamples.{of_three, stated, exceeded}

pub machine-examples : MachineExamples
unfolding joined sum_by list_to group_area gross solid_of flow_of field ranged many read_group read_groups read_section read_sections read_item_fields read_item read_items read_file bytes group_bytes section_bytes item_bytes file_of filled erect_refusal exceeds pressures_of host_refusal file_with group item_with plain item_of wind_with gives holds files calls plain_tower triangle largest_tower
machine-examples =
    record {
      file = refl;
      read = refl;
      written = refl;
      largest_length = refl;
      read_files = refl;
      turned_down = refl;
      order = refl;
      second-wind = refl;
      valid_square = record {
        tower = record { count = refl; sections = refl; held = refl; items = refl; numbers = refl };
        accepted = refl;
      };
      valid_triangle = record {
        tower = record { count = refl; sections = refl; held = refl; items = refl; numbers = refl };
        accepted = refl;
      };
      host = refl;
      host_file_first = refl;
      host_direction_first = refl;
      host_odd = refl;
      host_pressure = refl;
      host_short = refl;
      host_pressures = refl;
      write_out = refl;
      write_refused = refl;
      exceeded = refl;
      reached = refl;
      not_stated = refl;
      topmost_of_three = of_three;
      topmost_stated = stated;
      topmost_exceeded = exceeded;
      iced_round = refl;
    }
