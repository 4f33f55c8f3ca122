use Rattle.std.proofs.Common.{ap}
use Rattle.sat_trail.specs.View.{View}
use Rattle.sat_trail.specs.Watches.{rows}
use Rattle.sat_trail.proofs.Attaching.{watching-paced}
use Rattle.sat_trail.proofs.Blocking.{blocked-same}
use Rattle.sat_trail.proofs.Settling.{settled-paced}
use Rattle.sat_trail.proofs.trail.Trail.begin_question.Goals as goal

pub invariant_of-self : goal.invariant_of-self
invariant_of-self c = (
  watching-paced c.self.inside.assigned c.begin_question.new.self c.self.inside.watches.loose.items (rows c.self.inside.watches.lists.items) c.self.inside.watches.pairs.items c.self.inside.head _ _ c.begin_question.ensures c.self.invariant.0,
  settled-paced c.self.inside.assigned c.begin_question.new.self c.self.inside.watches.loose.items c.self.inside.settled.count c.self.inside.settled.top _ _ c.begin_question.ensures c.self.invariant.1,
  blocked-same c.self.inside.assigned c.begin_question.new.self c.self.inside.watches.loose.items _ c.self.inside.watches.lists.items (ap (λ (v : View). v.attached) c.begin_question.ensures) c.self.invariant.2,
)
