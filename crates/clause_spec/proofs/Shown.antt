-- A base that leaves no way to be done by a step shows that no plan of so many steps is feasible.
use Rattle.std.proofs.Common.{◌≡◌, ℕ, ◌≤◌, true, ◌&&◌, List, length, nat_le, arith, leb-true, le-leb, ◌∙◌}
use Rattle.std.specs.List.{list_all}
use Rattle.rail_base.specs.declared.station.Station.{Station}
use Rattle.rail_base.specs.declared.route.Route.{Route}
use Rattle.rail_base.specs.declared.plan.Command.{Command}
use Rattle.rail_base.proofs.Members.{and_left, and_right, and_both}
use Rattle.rail_base.proofs.Lists.{list_all_from}
use Rattle.rail_spec.specs.Track.{routes_of}
use Rattle.rail_spec.specs.Plans.{commands, step_of, one_each, is_well_formed}
use Rattle.rail_spec.specs.Feasible.{IsFeasible, IsInfeasible}
use Rattle.clause_spec.specs.Variables.{By}
use Rattle.clause_spec.specs.Models.{is_so, model_of}
use Rattle.clause_spec.specs.Laws.{NoneBy}
use Rattle.clause_spec.proofs.Steps.{step_high}
use Rattle.clause_spec.proofs.Numbers.{model_says}
use Rattle.clause_spec.proofs.Theorems.{feasible_plans_are_models}

-- a plan that is well formed for k steps has at most k
pub short_enough : (d : Station) (routes : List Route) (k : ℕ) (plan : List (List Command)) → is_well_formed d routes k plan ≡ true → length plan ≤ k
short_enough d routes k plan h = leb-true _ _ (and_left (nat_le (length plan) k) _ (and_left (nat_le (length plan) k && list_all one_each plan) _ h))

-- and is well formed for more
pub formed_for_more : (d : Station) (routes : List Route) (k n : ℕ) (plan : List (List Command)) → k ≤ n → is_well_formed d routes k plan ≡ true → is_well_formed d routes n plan ≡ true
formed_for_more d routes k n plan within h =
    let short = short_enough d routes k plan h in
    and_both _ _ (and_both _ _ (le-leb (length plan) n (omega arith)) (and_right (nat_le (length plan) k) (list_all one_each plan) (and_left (nat_le (length plan) k && list_all one_each plan) _ h)))
    (and_right (nat_le (length plan) k && list_all one_each plan) _ h)

pub more_feasible : (d : Station) (k n : ℕ) (plan : List (List Command)) → k ≤ n → IsFeasible d k plan → IsFeasible d n plan
more_feasible d k n plan within f = record {
  runnable = record {
    well_formed = record { named = f.runnable.well_formed.named; formed = formed_for_more d (routes_of d) k n plan within f.runnable.well_formed.formed };
    executable = f.runnable.executable;
  };
  met = f.met;
}

pub none_by_is_infeasible : (d : Station) (n k : ℕ) → 1 ≤ k → k ≤ n → NoneBy d (routes_of d) n k → IsInfeasible d k
none_by_is_infeasible d n k some within none plan f =
    let short = short_enough d (routes_of d) k plan f.runnable.well_formed.formed in
    let by_then : is_so plan (By k) ≡ true = list_all_from (λ c. nat_le (step_of plan c) k) (commands plan) (λ c m. (let high = step_high plan c m in le-leb (step_of plan c) k (omega arith))) in
    none (model_of d (routes_of d) n plan) (feasible_plans_are_models d n plan (omega arith) (more_feasible d k n plan within f))
    (model_says d (routes_of d) n plan (By k) (some, within) ∙ by_then)
