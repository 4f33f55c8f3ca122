-- Commands that a base speaks of, and the places of them.
use Rattle.std.specs.Prelude.{◌≡◌, ℕ, ◌<◌, Bool, if◌then◌else◌, List, map, length, Option, Some, None}
use Rattle.std.specs.List.{list_any}
use Rattle.rail_base.specs.declared.station.Station.{Station}
use Rattle.rail_base.specs.declared.route.Route.{Route}
use Rattle.rail_base.specs.declared.route.RouteNo.{RouteNo}
use Rattle.rail_base.specs.declared.plan.Command.{Command}
use Rattle.rail_base.specs.Members.{Pairs}
use Rattle.rail_base.specs.Numbering.{before_first}
use Rattle.rail_spec.specs.Plans.{is_command}
use Rattle.live_clause_spec.specs.Variables.{live_commands}

-- the command is one of these
abbrev pub is_among : List Command → Command → Bool
is_among cs c = list_any (is_command c) cs

-- these are the commands of a design that are among them: by train and then by route, each once
abbrev pub AreCommandsOf : Station → List Route → List Command → Type 0
AreCommandsOf d routes cs = live_commands (is_among cs) d routes ≡ cs

-- it is so of each design of which these are commands
abbrev pub OfDesign : List Command → (Station → List Route → Type 0) → Type 0
OfDesign cs Is = (d : Station) (routes : List Route) → AreCommandsOf d routes cs → Is d routes

-- the place of the first that passes, where one does
abbrev pub first_place : {X : Type 0} → (X → Bool) → List X → Option ℕ
first_place test xs = if list_any test xs then Some (length (before_first test xs)) else None

-- the numbers rise
abbrev pub AreRising : List RouteNo → Type 0
AreRising row = Pairs (λ (r q : RouteNo). r.0 < q.0) row

-- the command of a train and a route of these numbers
abbrev pub command : ℕ → ℕ → Command
command t r = record { train = record { 0 = t }; route = record { 0 = r } }

-- a train's commands with the routes of a row
abbrev pub commands_in : ℕ → List RouteNo → List Command
commands_in t row = map (λ r. record { train = record { 0 = t }; route = r }) row
