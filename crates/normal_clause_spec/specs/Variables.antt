-- The variables of the base of normal plans, with their numbers, and literals over them.
use Rattle.std.specs.Prelude.{ℕ, ◌+◌, ◌*◌, Bool, true, false, List, length}
use Rattle.rail_base.specs.declared.station.Station.{Station}
use Rattle.rail_base.specs.declared.route.Route.{Route}
use Rattle.rail_base.specs.declared.plan.Command.{Command}
use Rattle.sat_clause.specs.declared.lit.Lit.{Lit}
use Rattle.clause_spec.specs.Variables.{Variable, Given, Literal, number_of, variable_count}

-- what a variable says: what one of the base does, or that a command is given in a step: by it, and not by the one before
pub data NormalVariable : Type 0 where
  OfBase : Variable → NormalVariable
  GivenIn : Command → ℕ → NormalVariable

-- such a variable or its negation
pub record NormalLiteral : Type 0 where
  pub variable : NormalVariable
  pub negated : Bool

-- a literal of the base
abbrev pub of_base : Literal → NormalLiteral
of_base l = record { variable = OfBase l.variable; negated = l.negated }

-- the command is given in the step
abbrev pub is_in : Command → ℕ → NormalLiteral
is_in c i = record { variable = GivenIn c i; negated = false }

-- it is not
abbrev pub is_not_in : Command → ℕ → NormalLiteral
is_not_in c i = record { variable = GivenIn c i; negated = true }

module _ (d : Station) (routes : List Route) (n : ℕ) where
  -- the number of a variable: behind those of the base come, in the order of those that a command is given by a step, those that it is given in it
  abbrev pub normal_number_of : NormalVariable → ℕ
  normal_number_of (OfBase v) = number_of d routes n v
  normal_number_of (GivenIn c i) = variable_count d routes n + number_of d routes n (Given c i)

  -- how many variables there are
  abbrev pub normal_variable_count : ℕ
  normal_variable_count = variable_count d routes n + length d.trains * length routes * n

  -- a literal over the number of its variable
  abbrev pub normal_numbered : NormalLiteral → Lit
  normal_numbered l = record { var = normal_number_of l.variable; negated = l.negated }
