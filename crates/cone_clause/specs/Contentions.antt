-- What is said of the commands that a base speaks of, and of the numbers that it gives its variables.
use Rattle.std.specs.Prelude.{ℕ, Bool, if◌then◌else◌, List, Option, None, Some}
use Rattle.std.specs.List.{list_any}
use Rattle.rail_base.specs.declared.station.Station.{Station}
use Rattle.rail_base.specs.declared.route.Route.{Route}
use Rattle.rail_base.specs.declared.plan.Command.{Command}
use Rattle.interlocking.specs.Plans.{on}
use Rattle.sat_clause.specs.declared.lit.Lit.{Lit}
use Rattle.clause_spec.specs.Clauses.{Clause}
use Rattle.clause_spec.specs.Variables.{Before, Given, is_pair}
use Rattle.live_clause_spec.specs.Clauses.{left_of}
use Rattle.live_clause_spec.specs.Variables.{live_number}
use Rattle.command_set.specs.Commands.{is_among}
use Rattle.cone_clause.specs.declared.contention.Contention.{Contention}

-- what is said of a station and its routes, of those of the contention
abbrev pub over {ℓ} : {A : Type ℓ} → Contention → (Station → List Route → A) → A
over contention word = on contention.interlocking.now word

-- the base speaks of the command
abbrev pub among : Contention → Command → Bool
among contention = is_among contention.pairs.now.commands

-- what is left of a clause, over numbers; none where it denies what the base doesn't speak of
abbrev pub left_over : Contention → ℕ → Clause → Option (List Lit)
left_over contention = over contention (left_of (among contention))

-- the number of the variable that a command is given by the last step, where the base speaks of it
abbrev pub used_number : Contention → ℕ → Command → Option ℕ
used_number contention n c =
    if among contention c then Some (over contention (live_number (among contention)) n (Given c n)) else None

-- the number of the variable that one command is given before another, where they are one of the pairs
abbrev pub before_number : Contention → ℕ → Command → Command → Option ℕ
before_number contention n e c =
    if list_any (is_pair e c) contention.pairs.now.pairs
    then Some (over contention (live_number (among contention)) n (Before e c)) else None
