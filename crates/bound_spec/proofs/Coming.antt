-- What has come to a train, seen from its state now.
use Rattle.std.proofs.Common.{◌≡◌, ℕ, List, ap, sym, ◌∙◌}
use Rattle.rail_base.specs.declared.station.Station.{Station}
use Rattle.rail_base.specs.declared.route.Route.{Route}
use Rattle.rail_base.specs.declared.plan.Command.{Command}
use Rattle.rail_base.specs.declared.state.TrainEvent.{TrainEvent}
use Rattle.rail_base.specs.Events.{has_happened}
use Rattle.rail_spec.specs.Dispatches.{state_of, ago, past_of, of_plan, pasts_at, state_at}
use Rattle.rail_laws.proofs.Running.{state_is_last}
use Rattle.bound_spec.specs.Events.{has_come_by}

-- an event that no ticks follow has come where it has happened in the state now
pub come_now : (d : Station) (routes : List Route) (plan : List (List Command)) (e : TrainEvent) (k : ℕ) → e.ticks ≡ 0
    → has_come_by d routes plan e k ≡ has_happened (state_of (state_at d routes (of_plan routes plan) k) e.train) e.event
come_now d routes plan e k none =
    let past = past_of (pasts_at d routes (of_plan routes plan) k) e.train in
    ap (λ n. has_happened (ago n past) e.event) none ∙ ap (λ s. has_happened s e.event) (sym (state_is_last d routes (of_plan routes plan) (pasts_at d routes (of_plan routes plan) k) e.train))
