-- How far a run has come.
use Rattle.std.specs.Prelude.{◌≡◌, List}
use Rattle.rail_base.specs.declared.station.Station.{Station}
use Rattle.rail_base.specs.declared.route.Route.{Route}
use Rattle.rail_spec.specs.Dispatches.{Dispatch}
use Rattle.rail_require.specs.Ticks.{has_visit_at}
use Rattle.quiet_spec.specs.Histories.{history_at}
use Rattle.dispatch_run.specs.declared.run.Progress.{Progress}
use Rattle.dispatch_run.specs.Looks.{IsKnown}

-- what is known at the tick of all trains, what has happened to them by then, and whether a visit is made in the tick
pub record IsProgress (d : Station) (routes : List Route) (dispatch : Dispatch) (g : Progress) : Type 0 where
  pub known : IsKnown d routes dispatch g.tick g.states.items g.looks.items
  pub recorded : g.histories.items ≡ history_at d routes dispatch g.tick
  pub visited : g.visited ≡ has_visit_at g.tick g.histories.items
