use Rattle.std.proofs.Common.{ap}
use Rattle.sat_trail.specs.View.{View}
use Rattle.sat_trail.proofs.Blocking.{blocked-same}
use Rattle.sat_trail.specs.Watches.{rows}
use Rattle.sat_trail.proofs.Attaching.{watching-decided}
use Rattle.sat_trail.proofs.Settling.{settled-steps}
use Rattle.sat_trail.proofs.trail.Trail.decide.Goals as goal

pub invariant_of-self : goal.invariant_of-self
invariant_of-self c = (
  watching-decided c.self.inside.assigned c.decide.new.self c.self.inside.watches.loose.items (rows c.self.inside.watches.lists.items) c.self.inside.watches.pairs.items c.self.inside.head _ _ c.decide.ensures.pushed c.self.invariant.0,
  settled-steps c.self.inside.assigned c.decide.new.self c.self.inside.watches.loose.items c.self.inside.settled.count c.self.inside.settled.top _ (ap (λ (v : View). v.attached) c.decide.ensures.pushed) (ap (λ (v : View). v.steps) c.decide.ensures.pushed) c.self.invariant.1,
  blocked-same c.self.inside.assigned c.decide.new.self c.self.inside.watches.loose.items _ c.self.inside.watches.lists.items (ap (λ (v : View). v.attached) c.decide.ensures.pushed) c.self.invariant.2,
)
