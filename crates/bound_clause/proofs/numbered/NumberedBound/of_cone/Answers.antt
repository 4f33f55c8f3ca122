use Rattle.std.proofs.Common.{List, Some, ap, sym, ◌∙◌}
use Rattle.sat_clause.specs.declared.lit.Lit.{Lit}
use Rattle.bound_clause.specs.Spoken.{left, routes_in, station_of}
use Rattle.bound_clause.proofs.Fitting.{cone_fits}
use Rattle.bound_clause.proofs.Nothing.{no_cone_at}
use Rattle.bound_clause.proofs.numbered.NumberedBound.of_cone.Goals as goal

pub clause_of-requires : goal.clause_of-requires
clause_of-requires c = record { fits = cone_fits (station_of c.args.self.now) (routes_in c.args.self.now) c.args.self.now.bound.now c.args.self.now.known c.in-Cone.tick c.in-Cone.cone c.in-Cone.is }

pub returns-in-Visit : goal.returns-in-Visit
returns-in-Visit c =
    let self = c.args.self.now in
    ap (λ (ls : List Lit). Some ls) c.new.ensures.items ∙ sym (ap (left self) (no_cone_at (station_of self) (routes_in self) self.bound.now.requirement self.bound.now.origin c.in-Visit.is))
