use Rattle.std.proofs.Common.{ap, arith, length}
use Rattle.sat_trail.specs.View.{View}
use Rattle.sat_trail.specs.Watches.{rows}
use Rattle.sat_trail.proofs.Blocking.{blocked-same}
use Rattle.sat_trail.proofs.Attaching.{watching-back}
use Rattle.sat_trail.proofs.Settling.{settled-back}
use Rattle.sat_trail.proofs.trail.Trail.back.Goals as goal

pub invariant_of-self : goal.invariant_of-self
invariant_of-self c =
    let m = c.min-self-inside.ensures in
    let n = ap length c.steps-count.ensures.steps in (
      watching-back c.self.inside.assigned c.back.new.self c.self.inside.watches.loose.items (rows c.self.inside.watches.lists.items) c.self.inside.watches.pairs.items c.args.level c.self.inside.head c.min-self-inside.result c.back.ensures.kept c.back.ensures.prefix (omega arith) (omega arith) c.self.invariant.0,
      settled-back c.self.inside.assigned c.back.new.self c.self.inside.watches.loose.items c.self.inside.settled.count c.self.inside.settled.top c.args.level c.back.ensures.kept c.self.invariant.1,
      blocked-same c.self.inside.assigned c.back.new.self c.self.inside.watches.loose.items _ c.self.inside.watches.lists.items (ap (λ (v : View). v.attached) c.back.ensures.kept) c.self.invariant.2,
    )
