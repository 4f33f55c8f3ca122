-- The variables of live commands, with their numbers. Which commands are live is said by a test.
use Rattle.std.specs.Prelude.{ℕ, ◌+◌, ◌*◌, Bool, false, not, ◌&&◌, List, filter, length}
use Rattle.rail_base.specs.declared.station.Station.{Station}
use Rattle.rail_base.specs.declared.route.Route.{Route}
use Rattle.rail_base.specs.declared.plan.Command.{Command}
use Rattle.rail_base.specs.Numbering.{before_first}
use Rattle.rail_spec.specs.Plans.{all_commands, is_command}
use Rattle.sat_clause.specs.declared.lit.Lit.{Lit}
use Rattle.clause_spec.specs.Variables.{Variable, Given, Before, By, Literal, is_pair, pairs, variables}

module _ (live : Command → Bool) where
  -- both commands of the pair are live
  abbrev pub both_live : Command × Command → Bool
  both_live p = live p.0 && live p.1

  -- the variable is of a command that isn't live
  abbrev pub is_dead : Variable → Bool
  is_dead (Given c i) = not (live c)
  is_dead (Before e c) = not (both_live (e, c))
  is_dead (By k) = false

module _ (live : Command → Bool) (d : Station) (routes : List Route) where
  -- all live commands, by train and then by route
  abbrev pub live_commands : List Command
  live_commands = filter live (all_commands d routes)

  -- the pairs of live commands that contend
  abbrev pub live_pairs : List (Command × Command)
  live_pairs = filter (both_live live) (pairs d routes)

module _ (live : Command → Bool) (d : Station) (routes : List Route) (n : ℕ) where
  -- the variables that aren't dead, in the order of their numbers
  abbrev pub live_variables : List Variable
  live_variables = filter (λ v. not (is_dead live v)) (variables d routes n)

  -- the number of a variable among them, counted from 1
  abbrev pub live_number : Variable → ℕ
  live_number (Given c i) = length (before_first (is_command c) (live_commands live d routes)) * n + i
  live_number (Before e c) =
      length (live_commands live d routes) * n + length (before_first (is_pair e c) (live_pairs live d routes)) + 1
  live_number (By k) = length (live_commands live d routes) * n + length (live_pairs live d routes) + k

  -- how many there are
  abbrev pub live_count : ℕ
  live_count = length (live_commands live d routes) * n + length (live_pairs live d routes) + n

  -- a literal over the number of its variable among them
  abbrev pub live_numbered : Literal → Lit
  live_numbered l = record { var = live_number l.variable; negated = l.negated }
