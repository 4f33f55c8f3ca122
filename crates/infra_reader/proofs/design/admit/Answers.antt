use Rattle.std.proofs.lemmas.Result.{err_from_is_err_and}
use Rattle.design_table.specs.Parsed.{sheet_seen}
use Rattle.infra_reader.specs.Seen.{names_seen}
use Rattle.infra_reader.proofs.Resolved.{known_names, unknown_fails, own_station, refused_d04, refused_d05, refused_by_rules, resolved_to, is_own_admitted}
use Rattle.infra_reader.proofs.design.admit.Goals as goal

pub returns-in_err-station : goal.returns-in_err-station
returns-in_err-station c =
    let p = err_from_is_err_and c.from_residual-in_err-station.result c.from_residual-in_err-station.ensures.1 in
    let s = sheet_seen c.args.sheet.now in
    rw (p.1, p.2) (refused_d04 s c.in_ok-names.ensures.0 c.in_err-station.field-0.0 (unknown_fails s (names_seen c.in_ok-names.names) c.in_ok-names.ensures.1 c.in_err-station.field-0.0 c.in_err-station.ensures))

pub returns-in_err-refuse_outside : goal.returns-in_err-refuse_outside
returns-in_err-refuse_outside c =
    let p = err_from_is_err_and c.from_residual-in_err-refuse_outside.result c.from_residual-in_err-refuse_outside.ensures.1 in
    let s = sheet_seen c.args.sheet.now in
    rw (p.1, p.2) (refused_d05 s c.in_ok-names.ensures.0 (known_names s (names_seen c.in_ok-names.names) c.in_ok-names.ensures.1 c.in_ok-station.ensures.0) c.in_err-refuse_outside.field-0.0 c.in_err-refuse_outside.ensures)

pub returns-in_err-refuse_broken : goal.returns-in_err-refuse_broken
returns-in_err-refuse_broken c =
    let p = err_from_is_err_and c.from_residual-in_err-refuse_broken.result c.from_residual-in_err-refuse_broken.ensures.1 in
    let s = sheet_seen c.args.sheet.now in
    rw (p.1, p.2) (refused_by_rules s c.in_ok-names.ensures.0 (known_names s (names_seen c.in_ok-names.names) c.in_ok-names.ensures.1 c.in_ok-station.ensures.0) c.in_ok-refuse_outside.ensures.0 c.in_ok-station.station (own_station s (names_seen c.in_ok-names.names) c.in_ok-names.ensures.1 c.in_ok-station.station c.in_ok-station.ensures.1) c.in_err-refuse_broken.field-0.0 c.in_err-refuse_broken.ensures.err)

pub invariant_of-result : goal.invariant_of-result
invariant_of-result c =
    let s = sheet_seen c.args.sheet.now in
    record { admitted = is_own_admitted s c.in_ok-names.ensures.0 (known_names s (names_seen c.in_ok-names.names) c.in_ok-names.ensures.1 c.in_ok-station.ensures.0) c.in_ok-refuse_outside.ensures.0 c.in_ok-station.station (own_station s (names_seen c.in_ok-names.names) c.in_ok-names.ensures.1 c.in_ok-station.station c.in_ok-station.ensures.1) c.requires c.in_ok-refuse_broken.ensures.ok }

pub returns : goal.returns
returns c =
    let s = sheet_seen c.args.sheet.now in
    resolved_to s c.in_ok-names.ensures.0 (known_names s (names_seen c.in_ok-names.names) c.in_ok-names.ensures.1 c.in_ok-station.ensures.0) c.in_ok-refuse_outside.ensures.0 c.in_ok-station.station (own_station s (names_seen c.in_ok-names.names) c.in_ok-names.ensures.1 c.in_ok-station.station c.in_ok-station.ensures.1) c.in_ok-refuse_broken.ensures.ok
