-- The text of an admitted design spells that design.
use Rattle.std.proofs.Common.{◌≡◌, nat_le, List, [], Result, Ok, refl, ap, ◌∙◌}
use Rattle.design_table.specs.declared.fault.Code.{Code}
use Rattle.design_table.specs.declared.fault.Code.TheVariants.{D02, D03, D04, D05, D06, D07, D08, D09, D10, D11}
use Rattle.design_table.specs.declared.place.Place.{Place}
use Rattle.design_table.specs.Reads.{unless_at}
use Rattle.design_table.specs.Sheet.{sheet_of, form_fault}
use Rattle.rail_base.specs.declared.station.Station.{Station}
use Rattle.infra_reader.specs.Names.{repeated_names}
use Rattle.infra_reader.specs.Unknown.{unknown_names}
use Rattle.infra_reader.specs.Limits.{out_of_range}
use Rattle.infra_reader.specs.Stations.{station_of}
use Rattle.infra_reader.specs.Track.{crowded, open_boundaries, misplaced_signals}
use Rattle.infra_reader.specs.Traffic.{zeros, inner_starts, missing_visits}
use Rattle.infra_reader.specs.Design.{parsed_by, ruled, resolved}
use Rattle.design_text.specs.Laws.{TextsReadBack}
use Rattle.design_text.proofs.Documents.{document}
use Rattle.design_text.proofs.ReadTexts.{text_read}
use Rattle.design_text.proofs.Sheets.{sheet, sheet_is}
use Rattle.design_text.proofs.Splitting.{two}
use Rattle.design_text.proofs.Admitting.{timed, no_overlaps}
use Rattle.design_text.proofs.Spelling.{well_spelled}
use Rattle.design_text.proofs.Returning.{station_is}
use Rattle.design_text.proofs.Rules.{once_named, all_known, all_inside, none_crowded, none_open, none_misplaced, none_zero, none_inner, none_missing}

-- a code with no place leaves it to the next
past : (code : Code) (places : List Place) (next : Result Station (Code × Place)) → places ≡ [] → unless_at code places next ≡ next
past code places next h = rw h refl

pub read_back : TextsReadBack
read_back d admitted =
    let s = sheet d in
    let rules = ruled (station_of s) in
    let from_d11 = unless_at D11 (missing_visits d) (Ok d) in
    let from_d10 = unless_at D10 (inner_starts d) from_d11 in
    let from_d09 = unless_at D09 (zeros d) from_d10 in
    let from_d08 = unless_at D08 (misplaced_signals d) from_d09 in
    let from_d07 = unless_at D07 (open_boundaries d) from_d08 in
    let from_d05 = unless_at D05 (out_of_range s) rules in
    let from_d04 = unless_at D04 (unknown_names s) from_d05 in
    ap parsed_by (text_read d admitted)
    ∙ past D02 (form_fault (document d)) (resolved (sheet_of (document d))) (well_spelled d admitted)
    ∙ ap resolved (sheet_is d (two (nat_le 1 d.version) (nat_le d.version 4) (timed d admitted).0).1 (no_overlaps d admitted))
    ∙ past D03 (repeated_names s) from_d04 (once_named d admitted)
    ∙ past D04 (unknown_names s) from_d05 (all_known d admitted)
    ∙ past D05 (out_of_range s) rules (all_inside d admitted)
    ∙ ap ruled (station_is d admitted)
    ∙ past D06 (crowded d) from_d07 (none_crowded d admitted)
    ∙ past D07 (open_boundaries d) from_d08 (none_open d admitted)
    ∙ past D08 (misplaced_signals d) from_d09 (none_misplaced d admitted)
    ∙ past D09 (zeros d) from_d10 (none_zero d admitted)
    ∙ past D10 (inner_starts d) from_d11 (none_inner d admitted)
    ∙ past D11 (missing_visits d) (Ok d) (none_missing d admitted)
