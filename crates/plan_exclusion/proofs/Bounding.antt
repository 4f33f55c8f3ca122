-- The exclusion of a plan by a bound whose clause is false by the values that give the plan.
use Rattle.std.proofs.Common.{◌≡◌, ℕ, ◌≤◌, Bool, true, false, not, List, map, option_map, Some, Ok, refl, sym, ap, ◌∙◌}
use Rattle.base_spec.specs.Bases.{left_in}
use Rattle.bound_clause.specs.Numbered.{numbered_bound}
use Rattle.bound_clause.proofs.Holding.{fits_design}
use Rattle.bound_clause.proofs.Known.{all_known}
use Rattle.cone_clause.proofs.Agreeing.{each_alike}
use Rattle.clause_spec.specs.declared.question.BaseKind.{BaseKind}
use Rattle.clause_spec.specs.Models.{model_of}
use Rattle.clause_spec.specs.Variables.{numbered}
use Rattle.log_checker.specs.Verdict.{may_stand}
use Rattle.proof_judge.specs.Judged.{clause_said, refuted}
use Rattle.proof_log.specs.declared.line.Line.TheVariants.{Refute}
use Rattle.proof_log.specs.Lines.{line_in_bytes}
use Rattle.proof_log.proofs.OneText.{one-text}
use Rattle.rail_base.specs.declared.history.TrainHistory.{TrainHistory}
use Rattle.rail_base.specs.declared.plan.Command.{Command}
use Rattle.rail_base.specs.declared.plan.Violation.{Violation}
use Rattle.rail_base.specs.declared.station.Station.{Station}
use Rattle.bound_spec.specs.declared.Bound.{Bound}
use Rattle.bound_spec.specs.declared.BoundFault.TheVariants.{BoundNotInDesign}
use Rattle.bound_spec.specs.declared.Evidence.TheVariants as evidence
use Rattle.bound_spec.specs.declared.EvidenceFault.TheVariants as of
use Rattle.bound_spec.specs.Clauses.{clause_of_bound}
use Rattle.bound_spec.specs.Validity.{fault_of, is_valid_bound}
use Rattle.cone_spec.specs.Clauses.{is_false_of}
use Rattle.rail_spec.specs.Feasible.{IsRunnable}
use Rattle.rail_spec.specs.Track.{routes_of}
use Rattle.sat_clause.specs.declared.lit.Lit.{Lit}
use Rattle.sat_clause.specs.Clauses.{clause_holds}
use Rattle.sat_core.specs.Models.{value_in}
use Rattle.plan_exclusion.specs.Exclusions.{IsExclusion}
use Rattle.plan_exclusion.specs.Failures.{FailsSo, AreValuesOfPlan}
use Rattle.proof_judge.proofs.Below.{numbers_said}
use Rattle.plan_exclusion.proofs.Modelling.{shown_alike}
use Rattle.proof_judge.proofs.Within.{written_so}
use Rattle.proof_judge.proofs.Showing.{none_of, shown_valid}
use Rattle.clause_spec.proofs.Shown.{short_enough}

not_false : (b : Bool) → not b ≡ false → b ≡ true
not_false true h = refl
not_false false h = absurd (cc)

module _ (d : Station) (n : ℕ) (some : 1 ≤ n) (plan : List (List Command)) (runs : IsRunnable d (routes_of d) n plan) where
  -- the clause of a valid bound is true in the plan's model just where a fact of the plan makes it true
  pub bound_says : (b : Bound) → is_valid_bound d (routes_of d) b ≡ true → clause_holds (model_of d (routes_of d) n plan) (numbered_bound d (routes_of d) n b) ≡ not (is_false_of plan (clause_of_bound d (routes_of d) b))
  bound_says b valid =
      each_alike d (routes_of d) n some plan (short_enough d (routes_of d) n plan runs.well_formed.formed) (clause_of_bound d (routes_of d) b) (all_known d (routes_of d) b (fits_design d (routes_of d) b valid))

  module _ (kind : BaseKind) (values : List Bool) (told : AreValuesOfPlan kind d n values plan) where
    -- it is false of the plan where the values make what is left of it false
    false_so : (b : Bound) (clause : List Lit) → refuted kind d n (evidence.Bound b) ≡ Ok clause → is_valid_bound d (routes_of d) b ≡ true → clause_holds (value_in values) clause ≡ false → is_false_of plan (clause_of_bound d (routes_of d) b) ≡ true
    false_so b clause shows valid denied =
        let said = map (numbered d (routes_of d) n) (clause_said d n (evidence.Bound b)) in
        let own : clause_holds (model_of d (routes_of d) n plan) said ≡ false =
        ap (λ (p : List (List Command)). clause_holds (model_of d (routes_of d) n p) said) told.decoded ∙ (shown_alike kind d n some (value_in values) told.holds (evidence.Bound b) clause shows ∙ denied) in
        not_false (is_false_of plan (clause_of_bound d (routes_of d) b))
        (sym (bound_says b valid) ∙ (sym (ap (clause_holds (model_of d (routes_of d) n plan)) (numbers_said d (routes_of d) n (clause_of_bound d (routes_of d) b))) ∙ own))

    pub bounded_so : (history : List TrainHistory) (tick : ℕ) (violation : Violation) → FailsSo d plan history tick violation
        → (b : Bound) → may_stand kind (evidence.Bound b) ≡ true → (line : List ℕ) (clause : List Lit) → line_in_bytes line ≡ Some (Refute (evidence.Bound b)) → refuted kind d n (evidence.Bound b) ≡ Ok clause → clause_holds (value_in values) clause ≡ false → IsExclusion kind d n plan line clause
    bounded_so history tick violation fails b stands line clause read shows denied =
        let s = shown_valid (option_map of.Bound (fault_of d (routes_of d) b)) (of.Bound BoundNotInDesign) (left_in kind d (routes_of d) n (clause_said d n (evidence.Bound b))) clause shows in
        let valid = none_of of.Bound (fault_of d (routes_of d) b) s.0 in
        let text = one-text line (Refute (evidence.Bound b)) read in
        record {
          evidence = evidence.Bound b;
          refuted_by = (record { history = history; tick = tick; violation = violation; fails = fails }, (valid, false_so b clause shows valid denied));
          written = written_so kind d n some (evidence.Bound b) line clause shows stands text.1 (sym text.0);
        }
