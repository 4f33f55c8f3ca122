-- The design in a document, or the first refusal.
use Rattle.std.specs.Prelude.{ℕ, List, Option, Some, None, Result, Ok, Err}
use Rattle.toml.specs.Data.{Members}
use Rattle.design_table.specs.declared.fault.Code.{Code}
use Rattle.design_table.specs.declared.fault.Code.TheVariants.{D01, D02, D03, D04, D05, D06, D07, D08, D09, D10, D11}
use Rattle.design_table.specs.declared.place.Place.{Place}
use Rattle.design_table.specs.declared.place.Place.TheVariants.{File}
use Rattle.design_table.specs.Reads.{unless_at}
use Rattle.design_table.specs.Sheet.{sheet_of, form_fault}
use Rattle.design_table.specs.Parsed.{ParsedSheet}
use Rattle.design_table.specs.Toml.{toml_of}
use Rattle.rail_base.specs.declared.station.Station.{Station}
use Rattle.infra_reader.specs.Names.{repeated_names}
use Rattle.infra_reader.specs.Unknown.{unknown_names}
use Rattle.infra_reader.specs.Limits.{out_of_range}
use Rattle.infra_reader.specs.Stations.{station_of}
use Rattle.infra_reader.specs.Track.{crowded, open_boundaries, misplaced_signals}
use Rattle.infra_reader.specs.Traffic.{zeros, inner_starts, missing_visits}

-- the rules on a station, in ascending order of their codes
abbrev pub ruled : Station → Result Station (Code × Place)
ruled d =
    unless_at D06 (crowded d) (
    unless_at D07 (open_boundaries d) (
    unless_at D08 (misplaced_signals d) (
    unless_at D09 (zeros d) (
    unless_at D10 (inner_starts d) (
    unless_at D11 (missing_visits d) (Ok d))))))

-- the rules on what a sheet says, and then on its station
abbrev pub resolved : ParsedSheet → Result Station (Code × Place)
resolved s =
    unless_at D03 (repeated_names s) (
    unless_at D04 (unknown_names s) (
    unless_at D05 (out_of_range s) (ruled (station_of s))))

-- the rules on the form of a document, and then on what it says
abbrev pub parsed_by : Option Members → Result Station (Code × Place)
parsed_by None = Err (D01, File)
parsed_by (Some ms) = unless_at D02 (form_fault ms) (resolved (sheet_of ms))

-- the design in the bytes, or the lowest code that holds anywhere, at its first place
abbrev pub design_of : List ℕ → Result Station (Code × Place)
design_of bytes = parsed_by (toml_of bytes)
