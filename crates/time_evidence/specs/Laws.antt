-- What the laws say of designs with less time.
use Rattle.std.specs.Prelude.{◌≡◌, ℕ, ◌≤◌, List, None, Result, Ok}
use Rattle.rail_base.specs.declared.station.Station.{Station}
use Rattle.rail_spec.specs.Track.{routes_of}
use Rattle.sat_clause.specs.declared.lit.Lit.{Lit}
use Rattle.sat_clause.specs.Clauses.{Store}
use Rattle.clause_spec.specs.declared.question.BaseKind.{BaseKind}
use Rattle.clause_spec.specs.declared.question.VariableCounts.{VariableCounts}
use Rattle.clause_spec.specs.Clauses.{Clause, past_limit}
use Rattle.base_spec.specs.Bases.{before_selectors, clauses_of, left_in, variables_of}
use Rattle.cone_spec.specs.declared.Cone.{Cone}
use Rattle.cone_spec.specs.Validity as cone
use Rattle.bound_spec.specs.declared.Bound.{Bound}
use Rattle.bound_spec.specs.declared.Evidence.{Evidence}
use Rattle.bound_spec.specs.declared.EvidenceFault.{EvidenceFault}
use Rattle.bound_spec.specs.Validity as bound
use Rattle.proof_log.specs.declared.head.Head.{Head}
use Rattle.log_recorder.specs.Logs.{AllGoOn, LogLine}
use Rattle.proof_judge.specs.Judged.{refuted}
use Rattle.greatest_time.specs.Times.{with_max}

-- ---- what the laws go over

-- it is so of each design with two greatest times for a within of it
abbrev pub EachTwoTimes : (Station → Station → Type 0) → Type 0
EachTwoTimes Is = (d : Station) (w ms other : ℕ) → Is (with_max d w ms) (with_max d w other)

-- it is so where the second is no greater
abbrev pub EachLessTime : (Station → Station → Type 0) → Type 0
EachLessTime Is = (d : Station) (w ms less : ℕ) → less ≤ ms → Is (with_max d w ms) (with_max d w less)

-- ---- cones and bounds

-- a cone that is valid in the one is so in the other
abbrev pub ConesStayValid : Station → Station → Type 0
ConesStayValid d e = (k : Cone) → cone.fault_of d (routes_of d) k ≡ None → cone.fault_of e (routes_of e) k ≡ None

-- and so is a bound
abbrev pub BoundsStayValid : Station → Station → Type 0
BoundsStayValid d e = (b : Bound) → bound.fault_of d (routes_of d) b ≡ None → bound.fault_of e (routes_of e) b ≡ None

-- which clauses cones and bounds show
abbrev pub Showing : Type 0
Showing = Evidence → Result (List Lit) EvidenceFault

-- by the second a cone or a bound shows each clause that it shows by the first
abbrev pub ShowsMore : Showing → Showing → Type 0
ShowsMore one other = (e : Evidence) (clause : List Lit) → one e ≡ Ok clause → other e ≡ Ok clause

-- so it is with the clauses of valid cones and bounds, in each base
abbrev pub EvidenceStaysShown : Station → Station → Type 0
EvidenceStaysShown d e = (kind : BaseKind) (n : ℕ) → ShowsMore (refuted kind d n) (refuted kind e n)

-- ---- bases

-- the two have the same variables, and the same is left of each clause
pub record VariablesAlike (kind : BaseKind) (d e : Station) (n : ℕ) : Type 0 where
  pub variables : variables_of kind e (routes_of e) n ≡ variables_of kind d (routes_of d) n
  pub before_selectors : before_selectors kind e (routes_of e) n ≡ before_selectors kind d (routes_of d) n
  pub left : (clause : Clause) → left_in kind e (routes_of e) n clause ≡ left_in kind d (routes_of d) n clause

-- so it is with each base
abbrev pub SameVariables : Station → Station → Type 0
SameVariables d e = (kind : BaseKind) (n : ℕ) → VariablesAlike kind d e n

-- the two have the same clauses, and so many literals
pub record ClausesAlike (kind : BaseKind) (d e : Station) (n : ℕ) : Type 0 where
  pub clauses : clauses_of kind e (routes_of e) n ≡ clauses_of kind d (routes_of d) n
  pub literals : (limit : ℕ) → past_limit limit 0 (clauses_of kind e (routes_of e) n)
      ≡ past_limit limit 0 (clauses_of kind d (routes_of d) n)

-- so it is with this base
abbrev pub SameClauses : BaseKind → Station → Station → Type 0
SameClauses kind d e = (n : ℕ) → ClausesAlike kind d e n

-- ---- logs

-- lines that go on go on where cones and bounds show more
abbrev pub LinesGoOn : Type 0
LinesGoOn = (head : Head) (one other : Showing) → ShowsMore one other → (variables : VariableCounts) (store : Store)
    (learnt : List ℕ) (lines : List LogLine)
    → AllGoOn head one variables store learnt lines → AllGoOn head other variables store learnt lines

-- what is so of a log of these lines is so where cones and bounds show more
abbrev pub StaysSo : (Head → Showing → VariableCounts → Store → List LogLine → List ℕ → Type 0) → Type 0
StaysSo Is = (head : Head) (one other : Showing) → ShowsMore one other → (variables : VariableCounts) (base : Store)
    (lines : List LogLine) (log : List ℕ) → Is head one variables base lines log → Is head other variables base lines log
