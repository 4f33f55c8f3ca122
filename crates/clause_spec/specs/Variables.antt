-- The variables of the base, with their numbers, and literals over them.
use Rattle.std.specs.Prelude.{ℕ, zero, suc, ◌+◌, ◌*◌, ◌-◌, Bool, true, false, ◌&&◌, List, [], ◌∷◌, ◌++◌, map, filter}
use Rattle.std.specs.Prelude.{flat_map, length}
use Rattle.rail_base.specs.declared.station.Station.{Station}
use Rattle.rail_base.specs.declared.route.Route.{Route}
use Rattle.rail_base.specs.declared.plan.Command.{Command}
use Rattle.rail_base.specs.Numbering.{one_to, before_first}
use Rattle.rail_spec.specs.Plans.{is_command, contend, all_commands}
use Rattle.sat_clause.specs.declared.lit.Lit.{Lit}

-- what a variable says: a command is given by a step, one command is given before another, or all is given by a step
pub data Variable : Type 0 where
  Given : Command → ℕ → Variable
  Before : Command → Command → Variable
  By : ℕ → Variable

-- a variable or its negation
pub record Literal : Type 0 where
  pub variable : Variable
  pub negated : Bool

-- the variable itself
abbrev pub yes : Variable → Literal
yes v = record { variable = v; negated = false }

-- its negation
abbrev pub no : Variable → Literal
no v = record { variable = v; negated = true }

-- the literal that a command is given by a step, which is left out for step 0
abbrev pub if_given : Command → ℕ → List Literal
if_given c zero = []
if_given c (suc i) = yes (Given c (suc i)) ∷ []

-- the pair is of these two commands
abbrev pub is_pair : Command → Command → Command × Command → Bool
is_pair d c p = is_command d p.0 && is_command c p.1

module _ (d : Station) (routes : List Route) where
  -- the commands that contend with this one, each with it before
  abbrev pub pairs_before : Command → List (Command × Command)
  pairs_before e = map (λ c. (e, c)) (filter (contend routes e) (all_commands d routes))

  -- all pairs that contend, by the first command and then the second
  abbrev pub pairs : List (Command × Command)
  pairs = flat_map pairs_before (all_commands d routes)

module _ (d : Station) (routes : List Route) (n : ℕ) where
  -- the variables in the order of their numbers
  abbrev pub variables : List Variable
  variables =
      flat_map (λ c. map (Given c) (one_to n)) (all_commands d routes)
      ++ (map (λ p. Before p.0 p.1) (pairs d routes) ++ map By (one_to n))

  -- the number of a variable, counted from 1
  abbrev pub number_of : Variable → ℕ
  number_of (Given c i) = ((c.train.0 - 1) * length routes + (c.route.0 - 1)) * n + i
  number_of (Before e c) =
      length d.trains * length routes * n + length (before_first (is_pair e c) (pairs d routes)) + 1
  number_of (By k) = length d.trains * length routes * n + length (pairs d routes) + k

  -- how many variables there are
  abbrev pub variable_count : ℕ
  variable_count = length d.trains * length routes * n + length (pairs d routes) + n

  -- a literal over the number of its variable
  abbrev pub numbered : Literal → Lit
  numbered l = record { var = number_of l.variable; negated = l.negated }
