use Rattle.sat_trail.specs.Watches.{rows}
use Rattle.sat_trail.proofs.Blocking.{blocked-detached}
use Rattle.sat_trail.proofs.Attaching.{watching-detached}
use Rattle.sat_trail.proofs.Settling.{settled-detached}
use Rattle.sat_trail.proofs.trail.Trail.detach.Goals as goal

pub invariant_of-self : goal.invariant_of-self
invariant_of-self c = (
  watching-detached c.self.inside.assigned c.detach.new.self c.self.inside.watches.loose.items (rows c.self.inside.watches.lists.items) c.self.inside.watches.pairs.items c.self.inside.head c.args.id c.detach.ensures c.self.invariant.0,
  settled-detached c.self.inside.assigned c.detach.new.self c.self.inside.watches.loose.items c.self.inside.settled.count c.self.inside.settled.top c.args.id c.detach.ensures c.self.invariant.1,
  blocked-detached c.self.inside.assigned c.detach.new.self c.self.inside.watches.loose.items _ c.args.id c.self.inside.watches.lists.items c.detach.ensures c.self.invariant.2,
)
