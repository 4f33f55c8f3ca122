-- Plans that fail, and what shows that they do.
use Rattle.std.specs.Prelude.{ℕ, ◌≡◌, Bool, true, List, [], ◌∷◌, Option, None, Some}
use Rattle.std.specs.List.{list_all}
use Rattle.base_spec.specs.Bases.{clauses_of, decoded_of, left_in}
use Rattle.clause_spec.specs.declared.question.BaseKind.{BaseKind}
use Rattle.proof_judge.specs.Judged.{clause_said}
use Rattle.rail_base.specs.declared.history.TrainHistory.{TrainHistory}
use Rattle.rail_base.specs.declared.history.Verdict.TheVariants.{Failed}
use Rattle.rail_base.specs.declared.plan.Command.{Command}
use Rattle.rail_base.specs.declared.plan.Violation.{Violation}
use Rattle.rail_base.specs.declared.station.Station.{Station}
use Rattle.bound_spec.specs.declared.Evidence.{Evidence}
use Rattle.bound_spec.specs.declared.Evidence.TheVariants as evidence
use Rattle.bound_spec.specs.Clauses.{clause_of_bound}
use Rattle.bound_spec.specs.Validity.{is_valid_bound}
use Rattle.cone_spec.specs.Clauses.{is_false_of}
use Rattle.slice_spec.specs.Leasts.{IsSliceOf}
use Rattle.rail_spec.specs.Histories.{verdict_of}
use Rattle.rail_spec.specs.Track.{routes_of}
use Rattle.sat_clause.specs.declared.lit.Lit.{Lit}
use Rattle.sat_clause.specs.Clauses.{clause_holds}
use Rattle.sat_core.specs.Models.{value_in}

-- the plan fails in this way, as its run up to that tick shows
abbrev pub FailsSo : Station → List (List Command) → List TrainHistory → ℕ → Violation → Type 0
FailsSo d plan history tick violation = verdict_of d (routes_of d) plan tick ≡ Failed history tick violation

-- values of a base's variables, for n steps, give the plan
pub record AreValuesOfPlan (kind : BaseKind) (d : Station) (n : ℕ) (values : List Bool) (plan : List (List Command))
    : Type 0 where
  pub holds : list_all (clause_holds (value_in values)) (clauses_of kind d (routes_of d) n) ≡ true
  pub decoded : plan ≡ decoded_of kind d (routes_of d) n (value_in values)

module _ (d : Station) where
  -- the plan fails
  pub record Fails (plan : List (List Command)) : Type 0 where
    pub history : List TrainHistory
    pub tick : ℕ
    pub violation : Violation
    pub fails : FailsSo d plan history tick violation

  -- the cone is the slice of its failure; or the bound is valid, and its clause false of the plan
  abbrev pub Shows : (plan : List (List Command)) → Fails plan → Evidence → Type 0
  Shows plan f (evidence.Cone cone) = IsSliceOf d (routes_of d) plan f.tick f.violation cone
  Shows plan f (evidence.Bound bound) =
      (is_valid_bound d (routes_of d) bound ≡ true) × (is_false_of plan (clause_of_bound d (routes_of d) bound) ≡ true)

  -- the plan fails, and this shows it
  abbrev pub IsRefutedBy : List (List Command) → Evidence → Type 0
  IsRefutedBy plan e = (f : Fails plan) × Shows plan f e

-- the clause that is left, if one is
abbrev pub listed : Option (List Lit) → List (List Lit)
listed None = []
listed (Some clause) = clause ∷ []

-- what is left in a base of n steps of the clause of a cone or a bound
abbrev pub clauses_of_evidence : BaseKind → Station → ℕ → Evidence → List (List Lit)
clauses_of_evidence kind d n e = listed (left_in kind d (routes_of d) n (clause_said d n e))
