-- The clause of a certificate over the variables of the base, and over their numbers.
use Rattle.std.specs.Prelude.{ℕ, Bool, if◌then◌else◌, List, ◌++◌, map, Option, None}
use Rattle.rail_base.specs.declared.station.Station.{Station}
use Rattle.rail_base.specs.declared.route.Route.{Route}
use Rattle.rail_base.specs.declared.plan.Command.{Command}
use Rattle.rail_spec.specs.Track.{routes_of}
use Rattle.sat_clause.specs.declared.lit.Lit.{Lit}
use Rattle.clause_spec.specs.Clauses.{Clause}
use Rattle.live_clause_spec.specs.Clauses.{left_of}
use Rattle.cone_spec.specs.declared.Cone.{Cone}
use Rattle.cone_clause.specs.Numbered.{base_literal, lit_of, numbered_clause}
use Rattle.bound_spec.specs.declared.Bound.{Bound}
use Rattle.bound_spec.specs.Clauses.{clause_of_bound}
use Rattle.bound_spec.specs.Validity.{is_consistent}

-- the certificate's clause over the variables of the base
abbrev pub base_clause_of_bound : Station → List Route → ℕ → Bound → Clause
base_clause_of_bound d routes n b = map (base_literal n) (clause_of_bound d routes b)

-- the certificate's clause, with the numbers of the base
abbrev pub numbered_bound : Station → List Route → ℕ → Bound → List Lit
numbered_bound d routes n b = map (lit_of d routes n) (clause_of_bound d routes b)

-- the clauses of these cones and certificates
abbrev pub clauses_of_evidence : Station → ℕ → List Cone → List Bound → List (List Lit)
clauses_of_evidence d n cones bounds =
    map (numbered_clause d (routes_of d) n) cones ++ map (numbered_bound d (routes_of d) n) bounds

-- what is left of the clause over these commands; none too where something is taken for granted both ways
abbrev pub left_if_consistent : (Command → Bool) → Station → List Route → ℕ → Bound → Option (List Lit)
left_if_consistent live d routes n b =
    if is_consistent d routes b then left_of live d routes n (base_clause_of_bound d routes n b) else None
