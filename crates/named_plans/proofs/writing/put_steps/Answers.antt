use Rattle.std.proofs.Common.{arith}
use Rattle.named_plans.proofs.Lines.{all_lines}
use Rattle.named_plans.proofs.writing.put_steps.Goals as goal

pub returns : goal.returns
returns c = all_lines c.args.design.now.station c.args.steps.now _ _ c.loop-index.index (omega arith) c.loop-index.invariant
