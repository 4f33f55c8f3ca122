use Rattle.std.proofs.Common.{sym, ◌∙◌}
use Rattle.rail_base.proofs.Admitting.{admitted}
use Rattle.bound_clause.specs.Spoken.{station_of, routes_in}
use Rattle.bound_clause.proofs.Fitting.{requirement_fits, train_from_fits}
use Rattle.bound_clause.proofs.numbered.NumberedBound.push_origin.Goals as goal

pub push_starts-requires : goal.push_starts-requires
push_starts-requires c =
    let self = c.args.self.now in
    train_from_fits (station_of self) (routes_in self) (admitted (station_of self) self.contention.interlocking.now.design.admitted) self.bound.now.requirement (requirement_fits (station_of self) (routes_in self) self.bound.now self.known) c.in-FirstTick-Some.train (sym c.in-FirstTick-Some.is-1 ∙ c.train_from.ensures)
