use Rattle.serde_json.specs.View.{view}
use Rattle.rail_plan.specs.Text.{text_steps}
use Rattle.rail_plan.proofs.Parsed.{runnable_result}
use Rattle.rail_plan.proofs.reading.read_plan.Goals as goal

pub returns-clause-runnable : goal.returns-clause-runnable
returns-clause-runnable c = runnable_result c.args.interlocking.now.design.station c.args.interlocking.now.routes (text_steps (view c.in_ok-value.value)) c.plan_at.result c.plan_at.ensures
