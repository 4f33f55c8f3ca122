-- What clauses are emitted for: a design with its routes, a number of steps, and the commands that the base speaks of.
use Rattle.std.specs.Prelude.{ℕ, ◌≡◌, Bool, true, All, List, map}
use Rattle.sat_clause.specs.declared.lit.Lit.{Lit}
use Rattle.rail_base.specs.declared.station.Station.{Station}
use Rattle.rail_base.specs.declared.station.TrainNo.{TrainNo}
use Rattle.rail_base.specs.declared.route.Route.{Route}
use Rattle.rail_base.specs.declared.route.RouteNo.{RouteNo}
use Rattle.rail_base.specs.declared.plan.Command.{Command}
use Rattle.rail_base.specs.Routes.{IsRoute}
use Rattle.rail_base.specs.Stations.{IsTrain}
use Rattle.clause_spec.specs.Clauses.{Clause}
use Rattle.live_clause_spec.specs.Variables.{live_numbered}
use Rattle.command_set.specs.Commands.{is_among}
use Rattle.plan_encoding.specs.declared.sink.BaseFault.{BaseFault}
use Rattle.plan_encoding.specs.declared.encoder.Encoder.{Encoder}
use Rattle.plan_encoding.specs.Sinks.{SinkView, Emitted, emitted, FaultSays}

-- the station of the design
abbrev pub station : Encoder → Station
station f = f.interlocking.now.design.station

-- its elementary routes
abbrev pub table : Encoder → List Route
table f = f.interlocking.now.routes

-- the commands that its base speaks of
abbrev pub commands : Encoder → List Command
commands f = f.pairs.now.commands

-- the pairs of them that contend
abbrev pub pairs_of : Encoder → List (Command × Command)
pairs_of f = f.pairs.now.pairs

-- what is said of a station, of routes and of a number of steps, at those of the encoder
abbrev pub over : {A : Type 0} → Encoder → (Station → List Route → ℕ → A) → A
over f says = says f.interlocking.now.design.station f.interlocking.now.routes f.steps.count

-- what is said of live commands too, where those that the base speaks of are taken for live
abbrev pub among : {A : Type 0} → Encoder → ((Command → Bool) → Station → List Route → ℕ → A) → A
among f says = over f (says (is_among f.pairs.now.commands))

-- one of its commands, with a train of the design and a route of the table
pub record IsCommand (f : Encoder) (c : Command) : Type 0 where
  pub train : IsTrain f.interlocking.now.design.station c.train
  pub route : IsRoute f.interlocking.now.routes c.route
  pub known : is_among f.pairs.now.commands c ≡ true

-- the train has such commands with these routes
abbrev pub HasCommands : Encoder → TrainNo → List RouteNo → Type 0
HasCommands f t rs = All (λ r. IsCommand f (record { train = t; route = r })) rs

-- a clause over the numbers of its variables
abbrev pub written : Encoder → Clause → List Lit
written f c = map (among f live_numbered) c

-- clauses over the numbers of their variables
abbrev pub numbered_clauses : Encoder → List Clause → List (List Lit)
numbered_clauses f cs = map (map (among f live_numbered)) cs

-- when these clauses are listed, the one sink becomes the other
abbrev pub Emits : Encoder → List Clause → SinkView → SinkView → Type 0
Emits f cs old new = emitted old (numbered_clauses f cs) ≡ Emitted new

-- when these clauses are listed, the fault is this
abbrev pub Stops : Encoder → List Clause → SinkView → BaseFault → Type 0
Stops f cs old fault = FaultSays (emitted old (numbered_clauses f cs)) fault
