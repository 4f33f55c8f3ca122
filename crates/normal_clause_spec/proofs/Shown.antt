-- Where no values make the base of normal plans true, no plan is feasible.
use Rattle.std.proofs.Common.{◌≡◌, ℕ, ◌≤◌, true, nat_le, List, ◌∙◌, arith, le-leb}
use Rattle.std.specs.List.{list_all}
use Rattle.std.proofs.lemmas.List.Folds.{list_all-append}
use Rattle.rail_base.specs.declared.station.Station.{Station}
use Rattle.rail_base.specs.declared.plan.Command.{Command}
use Rattle.rail_base.specs.Admitted.{IsAdmitted}
use Rattle.rail_base.proofs.Members.{and_both, list_all_at}
use Rattle.rail_base.proofs.Lists.{list_all_from}
use Rattle.rail_spec.specs.Track.{routes_of}
use Rattle.rail_spec.specs.Plans.{commands, step_of}
use Rattle.rail_spec.specs.Feasible.{IsFeasible, IsInfeasible}
use Rattle.normal_plan_spec.proofs.Sooner.{has_normal_plan}
use Rattle.sat_clause.specs.declared.lit.Lit.{Lit}
use Rattle.sat_clause.specs.Clauses.{clause_holds}
use Rattle.clause_spec.specs.Variables.{By, number_of}
use Rattle.clause_spec.specs.Models.{is_so, model_of}
use Rattle.clause_spec.proofs.Numbers.{model_says}
use Rattle.clause_spec.proofs.Shown.{more_feasible, short_enough}
use Rattle.clause_spec.proofs.Steps.{step_high}
use Rattle.clause_spec.proofs.Variables.{number_high}
use Rattle.normal_clause_spec.specs.Clauses.{normal_base}
use Rattle.normal_clause_spec.specs.Models.{normal_model_of}
use Rattle.normal_clause_spec.specs.Normal.{AreOverBase, AreSound, HasNormalModelBy, NoneNormalBy}
use Rattle.normal_clause_spec.proofs.Holding.{feasible_normal_plans_hold}
use Rattle.normal_clause_spec.proofs.Values.{alike_on_base, on_base}

module _ (d : Station) (n k : ℕ) (some : 1 ≤ k) (within : k ≤ n) (admitted : IsAdmitted d) where
  pub has_normal_model : (plan : List (List Command)) → IsFeasible d k plan → HasNormalModelBy d n k
  has_normal_model plan f =
      let h = has_normal_plan d admitted k plan f in
      let g = more_feasible d k n h.other within h.feasible in
      let short = short_enough d (routes_of d) k h.other h.feasible.runnable.well_formed.formed in
      let by_then : is_so h.other (By k) ≡ true = list_all_from (λ c. nat_le (step_of h.other c) k) (commands h.other) (λ c m. (let high = step_high h.other c m in le-leb (step_of h.other c) k (omega arith))) in
      record {
        plan = h.other;
        feasible = g;
        normal = h.normal;
        holds = feasible_normal_plans_hold d n h.other (omega arith) g h.normal;
        by =
            on_base d (routes_of d) n h.other (number_of d (routes_of d) n (By k)) (number_high d (routes_of d) n (By k) (some, within))
            ∙ (model_says d (routes_of d) n h.other (By k) (some, within) ∙ by_then);
      }

  -- clauses over the base that hold in the model of each feasible plan hold in its model of normal plans
  sound_too : (more : List (List Lit)) → AreOverBase d n more → AreSound d n more → (plan : List (List Command)) → IsFeasible d n plan → list_all (clause_holds (normal_model_of d (routes_of d) n plan)) more ≡ true
  sound_too more over sound plan f = list_all_from (clause_holds (normal_model_of d (routes_of d) n plan)) more
      (λ c m. alike_on_base d (routes_of d) n plan c (over c m) ∙ list_all_at (clause_holds (model_of d (routes_of d) n plan)) more c (sound plan f) m)

  pub none_normal : (more : List (List Lit)) → AreOverBase d n more → AreSound d n more → NoneNormalBy d n k more → IsInfeasible d k
  none_normal more over sound none plan f =
      let m = has_normal_model plan f in
      none (normal_model_of d (routes_of d) n m.plan)
      (list_all-append (clause_holds (normal_model_of d (routes_of d) n m.plan)) (normal_base d (routes_of d) n) more ∙ and_both _ _ m.holds (sound_too more over sound m.plan m.feasible))
      m.by
