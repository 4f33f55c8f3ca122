-- The model of a normal plan makes the base of normal plans true.
use Rattle.std.proofs.Common.{◌≡◌, ℕ, ◌≤◌, ◌⊎◌, inl, inr, true, List, map, ap, sym, ◌∙◌, arith}
use Rattle.std.specs.List.{list_all}
use Rattle.rail_base.specs.declared.station.Station.{Station}
use Rattle.rail_base.specs.declared.route.Route.{Route}
use Rattle.rail_base.specs.declared.plan.Command.{Command}
use Rattle.rail_base.proofs.Members.{In, list_all_at}
use Rattle.rail_base.proofs.Lists.{in_append, in_map_back, list_all_from}
use Rattle.rail_spec.specs.Track.{routes_of}
use Rattle.rail_spec.specs.Plans.{commands}
use Rattle.rail_spec.specs.Feasible.{is_of, IsFeasible, IsRunnable}
use Rattle.rail_plan.specs.Normal.{IsNormal}
use Rattle.sat_clause.specs.declared.lit.Lit.{Lit}
use Rattle.sat_clause.specs.Clauses.{clause_holds}
use Rattle.clause_spec.specs.Clauses.{base_clauses}
use Rattle.clause_spec.specs.Models.{model_of}
use Rattle.clause_spec.specs.Laws.{VisitsAll}
use Rattle.clause_spec.proofs.Base.{is_of_in}
use Rattle.clause_spec.proofs.Forward.{Fit}
use Rattle.clause_spec.proofs.InRange.{literals_in_range}
use Rattle.clause_spec.proofs.Theorems.{plans_are_models, feasible_plans_are_models}
use Rattle.normal_clause_spec.specs.Variables.{normal_number_of, normal_numbered}
use Rattle.normal_clause_spec.specs.Clauses.{NormalClause, normal_clauses, normal_base}
use Rattle.normal_clause_spec.specs.Models.{normal_holds, is_normally_so, normal_model_of}
use Rattle.normal_clause_spec.proofs.Exact.{exactly_in_holds}
use Rattle.normal_clause_spec.proofs.InRange.{by_clause, all_fine}
use Rattle.normal_clause_spec.proofs.Kept.{kept_holds}
use Rattle.normal_clause_spec.proofs.Values.{alike_on_base, normal_says, normal_clause_says, normal_alike}

module _ (d : Station) (routes : List Route) (n : ℕ) (plan : List (List Command)) where
  fit : IsRunnable d routes n plan → Fit d routes n plan
  fit run = record {
    named = λ c m. is_of_in d routes c (list_all_at (is_of d routes) (commands plan) c run.well_formed.named m);
    formed = run.well_formed.formed;
    can_run = run.executable;
  }

  clauses_hold : IsRunnable d routes n plan → IsNormal d routes plan → (cl : NormalClause) → In cl (normal_clauses d routes n) → normal_holds (is_normally_so plan) cl ≡ true
  clauses_hold run normal = by_clause d routes n (λ cl. normal_holds (is_normally_so plan) cl ≡ true)
      (λ c k i low high cl m. exactly_in_holds d routes n plan c i cl m)
      (λ c k i low high. kept_holds d routes n plan (fit run) c normal i low)

  -- where the model of the plan makes the base true, that of a normal plan makes all clauses true
  normal_base_holds : 1 ≤ n → IsRunnable d routes n plan → IsNormal d routes plan → list_all (clause_holds (model_of d routes n plan)) (base_clauses d routes n) ≡ true → list_all (clause_holds (normal_model_of d routes n plan)) (normal_base d routes n) ≡ true
  normal_base_holds some run normal base = list_all_from (clause_holds (normal_model_of d routes n plan)) (normal_base d routes n) (λ c m. one c (in_append c (base_clauses d routes n) (map (map (normal_numbered d routes n)) (normal_clauses d routes n)) m))
    where
      one : (c : List Lit) → In c (base_clauses d routes n) ⊎ In c (map (map (normal_numbered d routes n)) (normal_clauses d routes n)) → clause_holds (normal_model_of d routes n plan) c ≡ true
      one c (inl k) =
          alike_on_base d routes n plan c (λ l i. (let r = literals_in_range d routes n some c k l i in let high = r.1 in omega arith))
          ∙ list_all_at (clause_holds (model_of d routes n plan)) (base_clauses d routes n) c base k
      one c (inr k) =
          let f = in_map_back (map (normal_numbered d routes n)) (normal_clauses d routes n) c k in
          ap (clause_holds (normal_model_of d routes n plan)) (sym f.2)
          ∙ (normal_clause_says d routes n (normal_model_of d routes n plan) f.0
          ∙ (normal_alike (λ v. normal_model_of d routes n plan (normal_number_of d routes n v)) (is_normally_so plan) f.0 (λ l i. normal_says d routes n plan l.variable (all_fine d routes n f.0 f.1 l i))
          ∙ clauses_hold run normal f.0 f.1))

  pub normal_plans_hold : 1 ≤ n → IsRunnable d routes n plan → VisitsAll d routes plan → IsNormal d routes plan → list_all (clause_holds (normal_model_of d routes n plan)) (normal_base d routes n) ≡ true
  normal_plans_hold some run all normal = normal_base_holds some run normal (plans_are_models d routes n plan some run all)

pub feasible_normal_plans_hold : (d : Station) (n : ℕ) (plan : List (List Command)) → 1 ≤ n → IsFeasible d n plan → IsNormal d (routes_of d) plan → list_all (clause_holds (normal_model_of d (routes_of d) n plan)) (normal_base d (routes_of d) n) ≡ true
feasible_normal_plans_hold d n plan some f normal = normal_base_holds d (routes_of d) n plan some f.runnable normal (feasible_plans_are_models d n plan some f)
