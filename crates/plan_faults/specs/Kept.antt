-- Which command keeps a train from a section, and how much track its train lacks until it has left the section.
use Rattle.std.specs.Prelude.{ℕ, ◌+◌, Bool, ◌&&◌, nat_le, nat_lt, List, find, map, Option}
use Rattle.rail_base.specs.declared.plan.Command.{Command}
use Rattle.rail_base.specs.declared.route.Route.{Route}
use Rattle.rail_base.specs.declared.station.SectionNo.{SectionNo}
use Rattle.rail_base.specs.declared.station.Station.{Station}
use Rattle.rail_base.specs.Routes.{release_offset, route_at}
use Rattle.rail_base.specs.Stations.{train_length}
use Rattle.rail_spec.specs.Plans.{commands, given_between, is_train, step_of}
use Rattle.rail_plan.specs.Executable.{keeps_from}
use Rattle.rail_plan.specs.Holds.{rest_after}

-- the command e is of d's train, from d on, in a step before c's
abbrev pub is_given_between : List (List Command) → Command → Command → Command → Bool
is_given_between plan d c e = is_train e.train d.train
    && nat_le (step_of plan d) (step_of plan e) && nat_lt (step_of plan e) (step_of plan c)

module _ (d : Station) (routes : List Route) where
  -- how much track the train of e is to be given from the start of e's route on, until its tail has left the section
  abbrev pub wanted_mm : Command → SectionNo → ℕ
  wanted_mm e z = release_offset (route_at routes e.route) z + train_length d e.train

  module _ (plan : List (List Command)) where
    -- the routes that e's train is given from e on, in the steps before that of c
    abbrev pub routes_between : Command → Command → List Route
    routes_between e c = map (λ g. route_at routes g.route) (given_between plan e c)

    -- how much of that track it is not given before c
    abbrev pub lacking_mm : Command → Command → SectionNo → ℕ
    lacking_mm e c z = rest_after (wanted_mm e z) (routes_between e c)

    -- the first command that keeps c from the section
    abbrev pub keeper : Command → SectionNo → Option Command
    keeper c z = find (keeps_from d routes plan c z) (commands plan)
