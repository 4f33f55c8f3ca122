-- What the laws of sets of commands say.
use Rattle.std.specs.Prelude.{◌≡◌, ℕ, Bool, true, List}
use Rattle.rail_base.specs.declared.station.Station.{Station}
use Rattle.rail_base.specs.declared.route.Route.{Route}
use Rattle.rail_base.specs.declared.plan.Command.{Command}
use Rattle.rail_base.specs.Members.{In}
use Rattle.rail_base.specs.Routes.{IsRoute}
use Rattle.rail_base.specs.Stations.{IsTrain}
use Rattle.rail_spec.specs.Plans.{all_commands}
use Rattle.clause_spec.specs.declared.question.Turns.{Turns}
use Rattle.clause_spec.specs.Variables.{pairs}
use Rattle.live_clause_spec.specs.Clauses.{base_left}
use Rattle.live_clause_spec.specs.Variables.{live_commands, live_pairs}
use Rattle.command_set.specs.Commands.{AreCommandsOf, is_among}

-- it is so of each test of a design's commands
abbrev pub OfEachTest : ((Command → Bool) → Station → List Route → Type 0) → Type 0
OfEachTest Is = (live : Command → Bool) (d : Station) (routes : List Route) → Is live d routes

-- those that pass are a set
abbrev pub AreSets : (Command → Bool) → Station → List Route → Type 0
AreSets live d routes = AreCommandsOf d routes (live_commands live d routes)

-- a command of the design is one of them exactly where it passes
abbrev pub TellsAlike : (Command → Bool) → Station → List Route → Type 0
TellsAlike live d routes = (c : Command) → In c (all_commands d routes)
    → is_among (live_commands live d routes) c ≡ live c

-- the pairs of commands that contend are the same by both
abbrev pub PairsAreAlike : (Command → Bool) → Station → List Route → Type 0
PairsAreAlike live d routes =
    live_pairs (is_among (live_commands live d routes)) d routes ≡ live_pairs live d routes

-- what is left of the base is the same by both
abbrev pub BasesAreAlike : Turns → (Command → Bool) → Station → List Route → ℕ → Type 0
BasesAreAlike turns live d routes n =
    base_left turns (is_among (live_commands live d routes)) d routes n ≡ base_left turns live d routes n

-- all commands are a set
abbrev pub AllAreASet : Station → List Route → Type 0
AllAreASet d routes = AreCommandsOf d routes (all_commands d routes)

-- the pairs of them are all that contend
abbrev pub AllPairs : Station → List Route → Type 0
AllPairs d routes = live_pairs (is_among (all_commands d routes)) d routes ≡ pairs d routes

-- each command of a train and a route is one of them
abbrev pub AllNamed : Station → List Route → Type 0
AllNamed d routes = (c : Command) → IsTrain d c.train → IsRoute routes c.route
    → is_among (all_commands d routes) c ≡ true
