use Rattle.verify_loop.proofs.Spoken.{of_design_so, paired_so}
use Rattle.verify_loop.proofs.rounds.PlanSearch.contention.Goals as goal

pub invariant_of-result : goal.invariant_of-result
invariant_of-result c =
    let q = c.args.self.now in
    let i = q.interlocking.now in record {
      of_design = of_design_so q.aim.base i q.numbering.now q.numbers i.table c.pairs.result.now.commands c.pairs.ensures.commands;
      paired = paired_so q.aim.base i q.numbering.now q.numbers i.table c.pairs.result.now.commands c.pairs.ensures.commands c.pairs.result.now.pairs c.pairs.ensures.pairs;
      at_most_8000000 = c.pairs.ensures.bound;
    }
