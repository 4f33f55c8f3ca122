-- A design in bytes is admitted.
use Rattle.std.proofs.Common.{◌≡◌, true, List, [], ◌∷◌, Option, Some, None, Result, Ok, refl, subst}
use Rattle.toml.specs.Data.{Members}
use Rattle.design_table.specs.declared.fault.Code.{Code}
use Rattle.design_table.specs.declared.fault.Code.TheVariants.{D02, D03, D04, D05, D06, D07, D08, D09, D10, D11}
use Rattle.design_table.specs.declared.place.Place.{Place}
use Rattle.design_table.specs.Reads.{unless_at}
use Rattle.design_table.specs.Sheet.{sheet_of, form_fault}
use Rattle.design_table.specs.Parsed.{ParsedSheet}
use Rattle.design_table.specs.Toml.{toml_of}
use Rattle.rail_base.specs.declared.station.Station.{Station}
use Rattle.rail_base.specs.Admission.{is_admitted}
use Rattle.rail_base.proofs.Admitting.{admitted}
use Rattle.infra_reader.specs.Names.{repeated_names}
use Rattle.infra_reader.specs.Unknown.{unknown_names}
use Rattle.infra_reader.specs.Limits.{out_of_range}
use Rattle.infra_reader.specs.Stations.{station_of}
use Rattle.infra_reader.specs.Track.{crowded, open_boundaries, misplaced_signals}
use Rattle.infra_reader.specs.Traffic.{zeros, inner_starts, missing_visits}
use Rattle.infra_reader.specs.Spelling.{IsSpelled}
use Rattle.infra_reader.specs.Design.{resolved, parsed_by}
use Rattle.infra_reader.proofs.Spelling.{is_spelled}
use Rattle.infra_reader.proofs.Admitted as reader
use Rattle.infra_reader.specs.Laws.{ParsedAreAdmitted}

-- no place is refused, and the rest is read
passes_on : (code : Code) (places : List Place) (next : Result Station (Code × Place)) (d : Station) → unless_at code places next ≡ Ok d → (places ≡ []) × (next ≡ Ok d)
passes_on code [] next d e = (refl, e)
passes_on code (p ∷ ps) next d e = absurd (cc)

from_sheet : (s : ParsedSheet) (d : Station) → IsSpelled s → resolved s ≡ Ok d → is_admitted d ≡ true
from_sheet s d named e =
    let h3 = passes_on D03 (repeated_names s) _ d e in
    let h4 = passes_on D04 (unknown_names s) _ d h3.1 in
    let h5 = passes_on D05 (out_of_range s) _ d h4.1 in
    let h6 = passes_on D06 (crowded (station_of s)) _ d h5.1 in
    let h7 = passes_on D07 (open_boundaries (station_of s)) _ d h6.1 in
    let h8 = passes_on D08 (misplaced_signals (station_of s)) _ d h7.1 in
    let h9 = passes_on D09 (zeros (station_of s)) _ d h8.1 in
    let h10 = passes_on D10 (inner_starts (station_of s)) _ d h9.1 in
    let h11 = passes_on D11 (missing_visits (station_of s)) _ d h10.1 in
    let one : Ok (station_of s) ≡ Ok d = h11.1 in
    let same : station_of s ≡ d = cc in
    subst (λ (x : Station). is_admitted x ≡ true) same (reader.admitted s named h3.0 h4.0 h5.0 h6.0 h7.0 h8.0 h9.0 h10.0 h11.0)

from_document : (document : Option Members) (d : Station) → parsed_by document ≡ Ok d → is_admitted d ≡ true
from_document None d e = absurd (cc)
from_document (Some ms) d e =
    let h2 = passes_on D02 (form_fault ms) (resolved (sheet_of ms)) d e in
    from_sheet (sheet_of ms) d (is_spelled ms h2.0) h2.1

pub spelled_admitted : ParsedAreAdmitted
spelled_admitted bytes d e = admitted d (from_document (toml_of bytes) d e)
