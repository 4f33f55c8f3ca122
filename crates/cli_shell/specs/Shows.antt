-- What the run of a plan shows.
use Rattle.std.specs.Prelude.{List}
use Rattle.rail_base.specs.declared.station.Station.{Station}
use Rattle.rail_base.specs.declared.plan.Command.{Command}
use Rattle.rail_base.specs.declared.history.Verdict.{Verdict}
use Rattle.rail_base.specs.Stations.{horizon}
use Rattle.rail_spec.specs.Histories.{verdict_of}
use Rattle.rail_spec.specs.Track.{routes_of}

-- what the run of a plan shows by the horizon
abbrev pub verdict_at_horizon : Station → List (List Command) → Verdict
verdict_at_horizon d plan = verdict_of d (routes_of d) plan (horizon d)
