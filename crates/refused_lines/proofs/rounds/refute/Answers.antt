use Rattle.refused_lines.proofs.Bases.{base_of}
use Rattle.refused_lines.proofs.rounds.refute.Goals as goal

pub invariant_of-plan_search : goal.invariant_of-plan_search
invariant_of-plan_search c = record { numbers = base_of c.args.interlocking.now c.args.steps.count c.in_ok-base.base c.in_ok-base.ensures.base }
