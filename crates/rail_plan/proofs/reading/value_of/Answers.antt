use Rattle.std.proofs.Common.{◌≡◌, Option, true, ap}
use Rattle.std.specs.Prelude.{ok_or}
use Rattle.serde_json.specs.Data.{Data}
use Rattle.serde_json.specs.View.{view}
use Rattle.rail_plan.specs.declared.fault.PlanCode.TheVariants.{P1}
use Rattle.rail_plan.specs.declared.place.PlanPlace.TheVariants as place
use Rattle.rail_plan.proofs.Json.{json_found, json_refused}
use Rattle.rail_plan.proofs.reading.value_of.Goals as goal

pub returns-in-Ok : goal.returns-in-Ok
returns-in-Ok c = ap (λ (o : Option Data). ok_or o (P1, place.File)) (json_found c.args.bytes.now (view c.in-Ok.value) c.in-Ok.ensures.ok.0 c.in-Ok.ensures.ok.1)

pub returns-else-is_memory : goal.returns-else-is_memory
returns-else-is_memory c = ap (λ (o : Option Data). ok_or o (P1, place.File)) (json_refused c.args.bytes.now (c.in-Err.ensures.err (λ m. let t : c.is_memory.result ≡ true = c.is_memory.ensures.1 m in cc)))
