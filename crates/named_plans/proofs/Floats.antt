-- A step with names has no floats.
use Rattle.std.proofs.Common.{◌≡◌, false, ◌||◌, List, refl, ap}
use Rattle.serde_json.specs.Data.{string}
use Rattle.serde_json.specs.Written.{has_float}
use Rattle.rail_base.specs.declared.station.Station.{Station}
use Rattle.rail_base.specs.declared.plan.Command.{Command}
use Rattle.rail_base.specs.Routes.{route_at}
use Rattle.rail_spec.specs.Track.{routes_of}
use Rattle.plan_text.specs.Text.{in_file_order}
use Rattle.plan_text.proofs.Plain.{no_floats}
use Rattle.plan_names.specs.Shown.{shown}
use Rattle.named_plans.specs.Text.{command_value, step_value}

pub no_float : (d : Station) (step : List Command) → has_float (step_value d step) ≡ false
no_float d step = no_floats (command_value d) (in_file_order d step) (λ c. ap (λ b. b || false) (no_floats string (shown d (routes_of d) (route_at (routes_of d) c.route)) (λ n. refl)))
