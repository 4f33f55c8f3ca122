use Rattle.std.proofs.Common.{sym, ap, ◌∙◌}
use Rattle.rail_spec.specs.Track.{routes_of}
use Rattle.greatest_time.proofs.Alike.{routes_alike}
use Rattle.greatest_time.proofs.changed.with_max_ms.Goals as goal

pub new-requires-clause-table : goal.new-requires-clause-table
new-requires-clause-table c =
    c.args.interlocking.table ∙ sym (routes_alike c.args.interlocking.design.station _) ∙ sym (ap routes_of c.design_with-design.ensures)
