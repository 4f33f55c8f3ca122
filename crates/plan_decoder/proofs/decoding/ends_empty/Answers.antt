use Rattle.plan_decoder.proofs.Cuts.{kept_last}
use Rattle.plan_decoder.proofs.decoding.ends_empty.Goals as goal

pub returns-in-Some-clause-no : goal.returns-in-Some-clause-no
returns-in-Some-clause-no c = kept_last c.args.steps.now c.in-Some.step.now c.is_empty.result c.in-Some.ensures.value c.is_empty.ensures.1
