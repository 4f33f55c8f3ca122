-- The clauses of normal plans as they are emitted.
use Rattle.std.specs.Prelude.{◌≡◌, ℕ, ◌-◌, List, [], ◌∷◌, ◌++◌, map, flat_map}
use Rattle.sat_clause.specs.declared.lit.Lit.{Lit}
use Rattle.rail_base.specs.declared.station.Station.{Station}
use Rattle.rail_base.specs.declared.station.TrainNo.{TrainNo}
use Rattle.rail_base.specs.declared.route.Route.{Route}
use Rattle.rail_base.specs.declared.route.RouteNo.{RouteNo}
use Rattle.rail_base.specs.declared.plan.Command.{Command}
use Rattle.rail_base.specs.Numbering.{count_from}
use Rattle.clause_spec.specs.Variables.{Given, if_given, no}
use Rattle.normal_clause_spec.specs.Variables.{is_in, is_not_in, normal_numbered, of_base}
use Rattle.normal_clause_spec.specs.Clauses.{NormalClause, exactly, keepers, kept, leaders, normal_clauses}
use Rattle.plan_encoding.specs.declared.sink.BaseFault.{BaseFault}
use Rattle.plan_encoding.specs.declared.encoder.Encoder.{Encoder}
use Rattle.plan_encoding.specs.Encoders.{commands, over}
use Rattle.plan_encoding.specs.Sinks.{SinkView, Emitted, emitted, FaultSays}

-- the commands of a train with these routes
abbrev pub commands_on : TrainNo → List RouteNo → List Command
commands_on t rs = map (λ w. record { train = t; route = w }) rs

-- where the command is given by a step and not by the one before, it is given in it
abbrev pub new_clause : Command → ℕ → NormalClause
new_clause c i = of_base (no (Given c i)) ∷ map of_base (if_given c (i - 1)) ++ is_in c i ∷ []

-- where the command is given in a step, one of these is given in the step before
abbrev pub kept_by : Command → List Command → ℕ → NormalClause
kept_by c before i = is_not_in c i ∷ map (λ e. is_in e (i - 1)) before

module _ (f : Encoder) where
  -- a clause over the numbers of its variables
  abbrev pub normal_written : NormalClause → List Lit
  normal_written c = map (over f normal_numbered) c

  -- clauses over the numbers of their variables
  abbrev pub normal_numbered_clauses : List NormalClause → List (List Lit)
  normal_numbered_clauses cs = map (map (over f normal_numbered)) cs

  -- when these clauses are listed, the one sink becomes the other
  abbrev pub EmitsNormal : List NormalClause → SinkView → SinkView → Type 0
  EmitsNormal cs old new = emitted old (normal_numbered_clauses cs) ≡ Emitted new

  -- when these clauses are listed, the fault is this
  abbrev pub StopsNormal : List NormalClause → SinkView → BaseFault → Type 0
  StopsNormal cs old fault = FaultSays (emitted old (normal_numbered_clauses cs)) fault

  -- the commands of which one is given in the step before: its leaders, and then its keepers
  abbrev pub before_it : Command → List Command
  before_it c = over f leaders c ++ over f keepers c

  -- one of these is given in the step before, in whichever step the command is given
  abbrev pub kept_always : Command → List Command → List NormalClause
  kept_always c before = map (kept_by c before) (count_from 2 (f.steps.count - 1))

  -- a command is given in a step where it is given by it, and not by the step before
  abbrev pub all_exact : List NormalClause
  all_exact = flat_map (over f exactly) (commands f)

  -- no command could be given a step earlier
  abbrev pub all_kept : List NormalClause
  all_kept = flat_map (over f kept) (commands f)

-- all clauses of normal plans over numbers
abbrev pub normal_part : Station → List Route → ℕ → List (List Lit)
normal_part d routes n = map (map (normal_numbered d routes n)) (normal_clauses d routes n)
