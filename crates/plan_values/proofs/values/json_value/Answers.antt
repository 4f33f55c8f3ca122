use Rattle.std.proofs.Common.{◌≡◌, true, sym}
use Rattle.serde_json.specs.View.{view}
use Rattle.rail_plan.proofs.Json.{json_found, json_refused}
use Rattle.plan_values.proofs.values.json_value.Goals as goal

pub returns-in-Ok : goal.returns-in-Ok
returns-in-Ok c = sym (json_found c.args.bytes.now (view c.in-Ok.value) c.in-Ok.ensures.ok.0 c.in-Ok.ensures.ok.1)

pub returns-else-is_memory : goal.returns-else-is_memory
returns-else-is_memory c = sym (json_refused c.args.bytes.now (c.in-Err.ensures.err (λ m. let t : c.is_memory.result ≡ true = c.is_memory.ensures.1 m in cc)))
