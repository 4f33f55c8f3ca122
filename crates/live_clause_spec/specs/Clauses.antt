-- The clauses of the sorted base with the variables of commands that aren't live taken for false.
use Rattle.std.specs.Prelude.{ℕ, Bool, not, ◌&&◌, if◌then◌else◌, List, ◌++◌, map, filter, flat_map, Option, None, Some}
use Rattle.std.specs.List.{list_any}
use Rattle.rail_base.specs.declared.station.Station.{Station}
use Rattle.rail_base.specs.declared.route.Route.{Route}
use Rattle.rail_base.specs.declared.plan.Command.{Command}
use Rattle.sat_clause.specs.declared.lit.Lit.{Lit}
use Rattle.clause_spec.specs.declared.question.Turns.{Turns}
use Rattle.clause_spec.specs.Clauses.{Clause, clauses}
use Rattle.alike_clause_spec.specs.Turns.{in_turn, turn_pairs}
use Rattle.live_clause_spec.specs.Live.{is_live}
use Rattle.live_clause_spec.specs.Variables.{is_dead, live_numbered}

module _ (live : Command → Bool) where
  -- the negation of a dead variable stands in the clause, which is true by it
  abbrev pub denies_dead : Clause → Bool
  denies_dead cl = list_any (λ l. l.negated && is_dead live l.variable) cl

  -- the clause without literals of dead variables
  abbrev pub without_dead : Clause → Clause
  without_dead cl = filter (λ l. not (is_dead live l.variable)) cl

  -- what is left of clauses where dead variables are false
  abbrev pub with_dead_false : List Clause → List Clause
  with_dead_false cls = map without_dead (filter (λ cl. not (denies_dead cl)) cls)

-- the clauses of the sorted base
abbrev pub sorted_clauses : Turns → Station → List Route → ℕ → List Clause
sorted_clauses turns d routes n = clauses d routes n ++ flat_map (in_turn d routes n) (turn_pairs turns d)

module _ (turns : Turns) (live : Command → Bool) (d : Station) (routes : List Route) (n : ℕ) where
  -- what is left of them
  abbrev pub clauses_left : List Clause
  clauses_left = with_dead_false live (sorted_clauses turns d routes n)

  -- over numbers
  abbrev pub base_left : List (List Lit)
  base_left = map (map (live_numbered live d routes n)) clauses_left

-- what is left of a clause, over numbers; none where it denies what is dead, and so is true
abbrev pub left_of : (Command → Bool) → Station → List Route → ℕ → Clause → Option (List Lit)
left_of live d routes n cl =
    if denies_dead live cl then None else Some (map (live_numbered live d routes n) (without_dead live cl))

-- the base of the live commands of a design
abbrev pub live_base : Turns → Station → List Route → ℕ → List (List Lit)
live_base turns d routes n = base_left turns (is_live d routes) d routes n
