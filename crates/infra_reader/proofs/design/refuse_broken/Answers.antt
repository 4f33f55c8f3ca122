use Rattle.infra_reader.proofs.Resolved.{last_rule}
use Rattle.infra_reader.proofs.design.refuse_broken.Goals as goal

pub returns : goal.returns
returns c =
    let last = last_rule c.args.station.now c.refuse_missing_visits.result c.in_ok-refuse_crowded.ensures.0 c.in_ok-refuse_open_boundaries.ensures.0 c.in_ok-refuse_misplaced_signals.ensures.0 c.in_ok-refuse_zeros.ensures.0 c.in_ok-refuse_inner_starts.ensures.0 c.refuse_missing_visits.ensures in
    record { ok = last.0; err = last.1 }
