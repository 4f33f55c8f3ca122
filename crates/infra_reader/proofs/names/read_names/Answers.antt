use Rattle.std.proofs.Common.{List, ℕ, subst}
use Rattle.std.proofs.lemmas.Result.{err_from_is_err_and}
use Rattle.design_table.specs.declared.fault.Code.TheVariants.{D03}
use Rattle.design_table.specs.Parsed.{sheet_seen}
use Rattle.design_table.specs.Reads.{Fails}
use Rattle.design_table.proofs.Walks.{fails_here}
use Rattle.infra_reader.specs.Names.{overlap_signals, overlaps_repeated, repeated_names}
use Rattle.infra_reader.proofs.names.read_names.Goals as goal

pub returns-in_err-trains : goal.returns-in_err-trains
unfolding repeated_names
returns-in_err-trains c =
    let p = err_from_is_err_and c.from_residual-in_err-trains.result c.from_residual-in_err-trains.ensures.1 in
    rw (p.1, p.2, c.in_ok-nodes.ensures.0, c.in_ok-edge_names.ensures.0, c.in_ok-signals.ensures.0, c.in_ok-vehicles.ensures.0) (fails_here c.in_err-trains.field-0.0 D03 _ _ c.in_err-trains.ensures)

pub returns-in_err-refuse_overlaps : goal.returns-in_err-refuse_overlaps
unfolding repeated_names
returns-in_err-refuse_overlaps c =
    let p = err_from_is_err_and c.from_residual-in_err-refuse_overlaps.result c.from_residual-in_err-refuse_overlaps.ensures.1 in
    let e = c.in_err-refuse_overlaps.field-0.0 in
    let names = overlap_signals (sheet_seen c.args.sheet.now) in
    rw (p.1, p.2, c.in_ok-nodes.ensures.0, c.in_ok-edge_names.ensures.0, c.in_ok-signals.ensures.0, c.in_ok-vehicles.ensures.0, c.in_ok-trains.ensures.0)
    (subst (λ (known : List (List ℕ)). Fails e D03 (overlaps_repeated known names)) c.in_ok-signals.ensures.1 c.in_err-refuse_overlaps.ensures)

pub returns-in_err-sections : goal.returns-in_err-sections
returns-in_err-sections c =
    let p = err_from_is_err_and c.from_residual-in_err-sections.result c.from_residual-in_err-sections.ensures.1 in
    rw (p.1, p.2) tt
