-- The clause of a cone over the variables of the base, and over their numbers.
use Rattle.std.specs.Prelude.{ℕ, Bool, List, [], ◌∷◌, map, Option, None, Some, ◌≡◌, option_map, Vec}
use Rattle.std.specs.List.{list_all}
use Rattle.std.specs.declared.alloc.Global.{Global}
use Rattle.rail_base.specs.declared.station.Station.{Station}
use Rattle.rail_base.specs.declared.route.Route.{Route}
use Rattle.rail_base.specs.declared.plan.Command.{Command}
use Rattle.cone_spec.specs.declared.Cone.{Cone}
use Rattle.cone_spec.specs.Clauses.{Fact, Used, Before, Literal, clause_of_cone}
use Rattle.sat_clause.specs.declared.lit.Lit.{Lit}
use Rattle.clause_spec.specs.Clauses.{Clause}
use Rattle.clause_spec.specs.Variables.{Variable, Given, numbered, Before as BeforeIn, Literal as BaseLiteral}
use Rattle.live_clause_spec.specs.Listed.{is_live_for}
use Rattle.live_clause_spec.specs.Variables.{live_numbered}

-- a command is used where it is given by the last step
abbrev pub variable_of : ℕ → Fact → Variable
variable_of n (Used c) = Given c n
variable_of n (Before e c) = BeforeIn e c

-- the literal over that variable
abbrev pub base_literal : ℕ → Literal → BaseLiteral
base_literal n l = record { variable = variable_of n l.fact; negated = l.negated }

-- the literal of a variable and a sign, where there is a sign
abbrev pub signed : ℕ → Option Bool → List Lit
signed v None = []
signed v (Some negated) = record { var = v; negated = negated } ∷ []

module _ (d : Station) (routes : List Route) (n : ℕ) where
  -- the cone's clause over the variables of the base
  abbrev pub base_clause : Cone → Clause
  base_clause k = map (base_literal n) (clause_of_cone d routes k)

  -- a literal, with the number that the base gives its variable
  abbrev pub lit_of : Literal → Lit
  lit_of l = numbered d routes n (base_literal n l)

  -- the cone's clause, with the numbers of the base
  abbrev pub numbered_clause : Cone → List Lit
  numbered_clause k = map lit_of (clause_of_cone d routes k)

module _ (live : Command → Bool) (d : Station) (routes : List Route) (n : ℕ) where
  -- a literal, with the number that its variable has among those of live commands
  abbrev pub left_lit : Literal → Lit
  left_lit l = live_numbered live d routes n (base_literal n l)

-- each command of the cone passes
abbrev pub names_only : (Command → Bool) → Cone → Bool
names_only live k = list_all (λ e. list_all (is_live_for live e.train) e.path) k.trains

-- these are the literals of the clause that is found, if one is
abbrev pub HasLiterals : Option (Vec Lit Global) → Option (List Lit) → Type 0
HasLiterals found clause = option_map (λ v. v.items) found ≡ clause
