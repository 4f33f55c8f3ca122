use Rattle.rail_spec.specs.Track.{routes_of}
use Rattle.plan_encoding.specs.Bases.{speaks_of}
use Rattle.verify_loop.proofs.Made.{selects}
use Rattle.verify_loop.proofs.rounds.PlanSearch.by_step.Goals as goal

pub returns : goal.returns
returns c =
    let q = c.args.self.now in
    let d = q.interlocking.now.design.station in
    let n = q.numbering.now.steps in
    selects q.aim.base d (routes_of d) n c.args.step q.numbering.now c.selector.result q.numbers (c.selector.ensures (speaks_of q.aim.base d (routes_of d)) d (routes_of d) n q.numbers)
