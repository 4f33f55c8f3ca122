-- Feasible plans have values that make the clauses of each base true, and such values give plans that have some.
use Rattle.std.proofs.Common.{◌≡◌, ℕ, ◌+◌, ◌≤◌, Bool, true, List, nat_le, refl, sym, ◌∙◌, arith, le-leb}
use Rattle.std.specs.List.{list_all}
use Rattle.rail_base.specs.declared.route.Route.{Route}
use Rattle.rail_base.specs.declared.station.Station.{Station}
use Rattle.rail_base.specs.declared.plan.Command.{Command}
use Rattle.rail_base.specs.Admitted.{IsAdmitted}
use Rattle.rail_base.proofs.Lists.{list_all_from}
use Rattle.rail_spec.specs.Track.{routes_of}
use Rattle.rail_spec.specs.Plans.{commands, step_of}
use Rattle.rail_spec.specs.Feasible.{IsFeasible, IsRunnable}
use Rattle.sat_clause.specs.Clauses.{clause_holds}
use Rattle.clause_spec.specs.declared.question.BaseKind.{BaseKind}
use Rattle.clause_spec.specs.declared.question.BaseKind.TheVariants.{Plain, Sorted, Normal, Live}
use Rattle.clause_spec.specs.declared.question.Turns.{Turns}
use Rattle.clause_spec.specs.declared.question.Turns.TheVariants.{All}
use Rattle.clause_spec.specs.Variables.{By, number_of}
use Rattle.clause_spec.specs.Clauses.{base_clauses}
use Rattle.clause_spec.specs.Models.{is_so, decoded, model_of}
use Rattle.clause_spec.proofs.DecodedModels.{retold}
use Rattle.clause_spec.proofs.Numbers.{model_says}
use Rattle.clause_spec.proofs.Shown.{more_feasible, short_enough}
use Rattle.clause_spec.proofs.Steps.{step_high}
use Rattle.clause_spec.proofs.Theorems.{feasible_plans_are_models, models_are_plans}
use Rattle.clause_spec.proofs.Variables.{number_high}
use Rattle.alike_clause_spec.specs.Sorted.{sorted_base}
use Rattle.alike_clause_spec.specs.Turns.{turn_clauses, turn_pairs}
use Rattle.alike_clause_spec.proofs.Holding.{has_model}
use Rattle.normal_clause_spec.specs.Models.{normal_model_of}
use Rattle.normal_clause_spec.proofs.Shown.{has_normal_model}
use Rattle.normal_clause_spec.proofs.Values.{on_base}
use Rattle.live_clause_spec.specs.Live.{is_live}
use Rattle.live_clause_spec.specs.Models.{live_model_of, spread}
use Rattle.live_clause_spec.proofs.Base.{base_of_plan}
use Rattle.live_clause_spec.proofs.Shown.{give_plans, have_live_models}
use Rattle.live_clause_spec.proofs.Spread.{live_same, model_spread, spread_says}
use Rattle.base_spec.specs.Bases.{before_selectors, clauses_of, decoded_of, on_plain}
use Rattle.base_spec.specs.Laws.{HasModelBy, ModelsGivePlans}
use Rattle.base_spec.proofs.Alike.{begins_with_plain, both_true, first_true, last_true}
use Rattle.base_spec.proofs.Retold.{joined, joined_low, normal_retold}
use Rattle.base_spec.proofs.Turning.{turns_retold}

module _ (d : Station) (n k : ℕ) (some : 1 ≤ k) (within : k ≤ n) where
  plain_model : (plan : List (List Command)) → IsFeasible d k plan → HasModelBy Plain d n k
  plain_model plan f =
      let g = more_feasible d k n plan within f in
      let short = short_enough d (routes_of d) k plan f.runnable.well_formed.formed in
      let by_then : is_so plan (By k) ≡ true = list_all_from (λ c. nat_le (step_of plan c) k) (commands plan) (λ c m. (let high = step_high plan c m in le-leb (step_of plan c) k (omega arith))) in
      record {
        plan = plan;
        feasible = g;
        model = record { values = model_of d (routes_of d) n plan; of_plan = λ v h. refl; holds = feasible_plans_are_models d n plan (omega arith) g };
        by = model_says d (routes_of d) n plan (By k) (some, within) ∙ by_then;
      }

  sorted_model : (plan : List (List Command)) → IsFeasible d k plan → HasModelBy Sorted d n k
  sorted_model plan f =
      let m = has_model All d n k some within plan f in
      record {
        plan = m.plan;
        feasible = m.feasible;
        model = record { values = model_of d (routes_of d) n m.plan; of_plan = λ v h. refl; holds = m.holds };
        by = m.by;
      }

  normal_model : IsAdmitted d → (plan : List (List Command)) → IsFeasible d k plan → HasModelBy Normal d n k
  normal_model admitted plan f =
      let m = has_normal_model d n k some within admitted plan f in
      record {
        plan = m.plan;
        feasible = m.feasible;
        model = record { values = normal_model_of d (routes_of d) n m.plan; of_plan = on_base d (routes_of d) n m.plan; holds = m.holds };
        by = m.by;
      }

  live_model : (turns : Turns) (plan : List (List Command)) → IsFeasible d k plan → HasModelBy (Live turns) d n k
  live_model turns plan f =
      let m = have_live_models turns d n k some within plan f in
      let live = is_live d (routes_of d) in
      record {
        plan = m.plan;
        feasible = m.feasible;
        model = record { values = live_model_of live d (routes_of d) n m.plan; of_plan = λ v h. model_spread live d (routes_of d) n m.plan m.live_alone v; holds = m.holds };
        by = m.by;
      }

  pub has_model_by : (kind : BaseKind) → IsAdmitted d → (plan : List (List Command)) → IsFeasible d k plan → HasModelBy kind d n k
  has_model_by Plain admitted plan f = plain_model plan f
  has_model_by Sorted admitted plan f = sorted_model plan f
  has_model_by Normal admitted plan f = normal_model admitted plan f
  has_model_by (Live turns) admitted plan f = live_model turns plan f

-- the value that says that all is given by step k
pub by_on_plain : (kind : BaseKind) (d : Station) (routes : List Route) (n k : ℕ) → 1 ≤ k → k ≤ n → (values : ℕ → Bool)
    → on_plain kind d routes n values (number_of d routes n (By k)) ≡ values (before_selectors kind d routes n + k)
by_on_plain Plain d routes n k low high values = refl
by_on_plain Sorted d routes n k low high values = refl
by_on_plain Normal d routes n k low high values = refl
by_on_plain (Live turns) d routes n k low high values = spread_says (is_live d routes) d routes n values (By k) (low, high) ∙ live_same (is_live d routes) d routes n values (By k) refl

-- so it is in the model of a plan
pub by_of_plan : (kind : BaseKind) (d : Station) (n k : ℕ) → 1 ≤ k → k ≤ n → (m : HasModelBy kind d n k) → model_of d (routes_of d) n m.plan (number_of d (routes_of d) n (By k)) ≡ true
by_of_plan kind d n k low high m =
    sym (m.model.of_plan (number_of d (routes_of d) n (By k)) (number_high d (routes_of d) n (By k) (low, high)))
    ∙ (by_on_plain kind d (routes_of d) n k low high m.model.values ∙ m.by)

-- the plan that values give can be carried out
pub gives_runnable : (kind : BaseKind) (d : Station) (routes : List Route) (n : ℕ) → 1 ≤ n → (values : ℕ → Bool) → list_all (clause_holds values) (clauses_of kind d routes n) ≡ true
    → IsRunnable d routes n (decoded_of kind d routes n values)
gives_runnable kind d routes n some values h = (models_are_plans d routes n (on_plain kind d routes n values) some (begins_with_plain kind d routes n some values h)).0

-- values that make the sorted base true give a plan whose model does
sorted_retold : (turns : Turns) (d : Station) (n : ℕ) → 1 ≤ n → (values : ℕ → Bool) → list_all (clause_holds values) (sorted_base turns d (routes_of d) n) ≡ true
    → list_all (clause_holds (model_of d (routes_of d) n (decoded d (routes_of d) n values))) (sorted_base turns d (routes_of d) n) ≡ true
sorted_retold turns d n some values h =
    let base = base_clauses d (routes_of d) n in
    let more = turn_clauses d (routes_of d) n (turn_pairs turns d) in
    let true_ : list_all (clause_holds values) (base_clauses d (routes_of d) n) ≡ true = first_true values base more h in
    both_true (model_of d (routes_of d) n (decoded d (routes_of d) n values)) base more (retold d (routes_of d) n values true_ some) (turns_retold turns d n values true_ (last_true values base more h))

pub gives_plan : (kind : BaseKind) (d : Station) (n : ℕ) → 1 ≤ n → ModelsGivePlans kind d n
gives_plan Plain d n some values h = record {
  values = model_of d (routes_of d) n (decoded d (routes_of d) n values);
  of_plan = λ v l. refl;
  holds = retold d (routes_of d) n values h some;
}
gives_plan Sorted d n some values h = record {
  values = model_of d (routes_of d) n (decoded d (routes_of d) n values);
  of_plan = λ v l. refl;
  holds = sorted_retold All d n some values h;
}
gives_plan Normal d n some values h = record {
  values = joined d (routes_of d) n values;
  of_plan = joined_low d (routes_of d) n values;
  holds = normal_retold d (routes_of d) n values some h;
}
gives_plan (Live turns) d n some values h =
    let live = is_live d (routes_of d) in
    let whole = spread live d (routes_of d) n values in
    let plan = decoded d (routes_of d) n whole in
    let told = give_plans turns live d (routes_of d) n some values h in
    record {
      values = live_model_of live d (routes_of d) n plan;
      of_plan = λ v l. model_spread live d (routes_of d) n plan told.1 v;
      holds = base_of_plan turns live d (routes_of d) n some plan told.1 ∙ sorted_retold turns d n some whole told.0;
    }
