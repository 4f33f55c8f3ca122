-- What the form of a document gives of its sheet.
use Rattle.std.specs.Prelude.{◌≡◌, pos, true, ◌||◌, ◌==◌, int_le, is_none, length}
use Rattle.std.specs.List.{list_all}
use Rattle.design_table.specs.Parsed.{ParsedTrain, ParsedSheet}
use Rattle.rail_base.specs.Admission.{is_name}
use Rattle.infra_reader.specs.Names.{node_names, edge_names, section_names, signal_names, vehicle_names, train_names}

-- The names of all entries, and of sections, are names. How long trains stand is said from version 3 on alone, and
-- overlaps from version 4 on.
pub record IsSpelled (s : ParsedSheet) : Type 0 where
  pub nodes : list_all is_name (node_names s) ≡ true
  pub edges : list_all is_name (edge_names s) ≡ true
  pub sections : list_all is_name (section_names s) ≡ true
  pub signals : list_all is_name (signal_names s) ≡ true
  pub vehicles : list_all is_name (vehicle_names s) ≡ true
  pub trains : list_all is_name (train_names s) ≡ true
  pub dwells : list_all (λ (t : ParsedTrain). int_le (pos 3) s.version || is_none t.dwell_ms) s.trains ≡ true
  pub overlaps : (int_le (pos 4) s.version || (length s.overlaps == 0)) ≡ true
