-- The variables of bases, and the clauses by which no trains come in turn, are the same whatever the withins are.
use Rattle.std.proofs.Common.{◌≡◌, ℕ, List, refl, ap, ◌∙◌}
use Rattle.rail_base.specs.declared.station.Station.{Station}
use Rattle.rail_base.specs.declared.station.Within.{Within}
use Rattle.rail_base.specs.declared.route.Route.{Route}
use Rattle.rail_spec.specs.Track.{routes_of}
use Rattle.clause_spec.specs.declared.question.BaseKind.{BaseKind}
use Rattle.clause_spec.specs.declared.question.BaseKind.TheVariants.{Plain, Normal}
use Rattle.clause_spec.specs.Clauses.{Clause, past_limit}
use Rattle.base_spec.specs.Bases.{before_selectors, clauses_of, left_in, variables_of}
use Rattle.greatest_time.proofs.Alike.{routes_alike}
use Rattle.time_evidence.specs.Laws.{EachTwoTimes, SameVariables, SameClauses, ClausesAlike}
use Rattle.greatest_time.specs.Laws.{EachChange}

module _ (d : Station) (ws : List Within) where
  -- the design with these withins
  abbrev asking : Station
  asking = record d { withins = ws }

  module _ (routes : List Route) (n : ℕ) where
    pub left_same : (kind : BaseKind) (clause : Clause) → left_in kind asking routes n clause ≡ left_in kind d routes n clause
    left_same Plain clause = refl
    left_same _ clause = refl

    before_same : (kind : BaseKind) → before_selectors kind asking routes n ≡ before_selectors kind d routes n
    before_same Plain = refl
    before_same _ = refl

    variables_same : (kind : BaseKind) → variables_of kind asking routes n ≡ variables_of kind d routes n
    variables_same Plain = refl
    variables_same _ = refl

  variables_alike : SameVariables d asking
  variables_alike kind n = record {
    variables = ap (λ routes. variables_of kind asking routes n) (routes_alike d ws) ∙ variables_same (routes_of d) n kind;
    before_selectors = ap (λ routes. before_selectors kind asking routes n) (routes_alike d ws) ∙ before_same (routes_of d) n kind;
    left = λ clause. ap (λ routes. left_in kind asking routes n clause) (routes_alike d ws) ∙ left_same (routes_of d) n kind clause;
  }

  alike_by : (kind : BaseKind) (n : ℕ) → clauses_of kind asking (routes_of asking) n ≡ clauses_of kind d (routes_of d) n → ClausesAlike kind d asking n
  alike_by kind n same = record { clauses = same; literals = λ limit. ap (past_limit limit 0) same }

  plain_alike : SameClauses Plain d asking
  plain_alike n = alike_by Plain n (ap (λ routes. clauses_of Plain asking routes n) (routes_alike d ws))

  normal_alike : SameClauses Normal d asking
  normal_alike n = alike_by Normal n (ap (λ routes. clauses_of Normal asking routes n) (routes_alike d ws))

-- ---- one within with another time

pub changed_variables : EachChange SameVariables
changed_variables d w ms = variables_alike d _

pub variables_of_times : EachTwoTimes SameVariables
variables_of_times d w ms other = variables_alike (record d { withins = _ }) _

pub changed_plain : EachChange (SameClauses Plain)
changed_plain d w ms = plain_alike d _

pub changed_normal : EachChange (SameClauses Normal)
changed_normal d w ms = normal_alike d _

pub plain_of_times : EachTwoTimes (SameClauses Plain)
plain_of_times d w ms other = plain_alike (record d { withins = _ }) _

pub normal_of_times : EachTwoTimes (SameClauses Normal)
normal_of_times d w ms other = normal_alike (record d { withins = _ }) _
