-- Plans and models of the base, in both directions.
use Rattle.std.proofs.Common.{◌≡◌, ℕ, ◌≤◌, Bool, true, List, length, ap, arith}
use Rattle.std.specs.List.{list_all}
use Rattle.rail_base.specs.declared.station.Station.{Station}
use Rattle.rail_base.specs.declared.station.TrainNo.{TrainNo}
use Rattle.rail_base.specs.declared.route.Route.{Route}
use Rattle.rail_base.specs.declared.plan.Command.{Command}
use Rattle.rail_base.specs.Numbering.{one_to}
use Rattle.rail_spec.specs.Track.{routes_of}
use Rattle.rail_base.specs.Stations.{trains}
use Rattle.rail_spec.specs.Dispatches.{of_plan}
use Rattle.rail_spec.specs.Visits.{makes_visits}
use Rattle.rail_spec.specs.Feasible.{IsFeasible, IsRunnable}
use Rattle.sat_clause.specs.Clauses.{clause_holds}
use Rattle.clause_spec.specs.Clauses.{base_clauses}
use Rattle.clause_spec.specs.Models.{model_of, decoded}
use Rattle.clause_spec.specs.Laws.{VisitsAll, Agrees}
use Rattle.clause_spec.proofs.Places.{pair_from}
use Rattle.clause_spec.proofs.Base.{is_of_in, base_holds}
use Rattle.clause_spec.proofs.Decode.{decoded_names, decoded_formed, decoded_runs, decoded_given, decoded_before}
use Rattle.clause_spec.proofs.Feasibles.{meets_visits}
use Rattle.rail_base.proofs.Lists.{list_all_from, in_map_back, in_count_back}

pub plans_are_models : (d : Station) (routes : List Route) (n : ℕ) (plan : List (List Command)) → 1 ≤ n → IsRunnable d routes n plan → VisitsAll d routes plan → list_all (clause_holds (model_of d routes n plan)) (base_clauses d routes n) ≡ true
plans_are_models d routes n plan some drawn all = base_holds d routes n plan some drawn.well_formed.named drawn.well_formed.formed drawn.executable
    (list_all_from (makes_visits d routes (of_plan routes plan)) (trains d) (λ t m.
    let number : ℕ → TrainNo = λ k. record { 0 = k } in
    let f = in_map_back number (one_to (length d.trains)) t m in
    let r = in_count_back 1 (length d.trains) f.0 f.1 in
    let low = r.0 in let high = r.1 in
    let e : f.0 ≡ t.0 = ap (λ (u : TrainNo). u.0) f.2 in
    all.made t (omega arith) (omega arith)))

pub feasible_plans_are_models : (d : Station) (n : ℕ) (plan : List (List Command)) → 1 ≤ n → IsFeasible d n plan → list_all (clause_holds (model_of d (routes_of d) n plan)) (base_clauses d (routes_of d) n) ≡ true
feasible_plans_are_models d n plan some f = base_holds d (routes_of d) n plan some f.runnable.well_formed.named f.runnable.well_formed.formed f.runnable.executable
    (list_all_from (makes_visits d (routes_of d) (of_plan (routes_of d) plan)) (trains d) (meets_visits d (routes_of d) plan f.met))

pub models_are_plans : (d : Station) (routes : List Route) (n : ℕ) (values : ℕ → Bool) → 1 ≤ n → list_all (clause_holds values) (base_clauses d routes n) ≡ true → IsRunnable d routes n (decoded d routes n values) × Agrees d routes n (model_of d routes n (decoded d routes n values)) values
models_are_plans d routes n values some h = (
  record { well_formed = record { named = decoded_names d routes n values h; formed = decoded_formed d routes n values h }; executable = decoded_runs d routes n values h },
  record {
    given = λ c i k low high. decoded_given d routes n values h c i (is_of_in d routes c k) low high;
    before = λ e c a b k. decoded_before d routes n values h some e c (pair_from d routes e c (is_of_in d routes e a) (is_of_in d routes c b) k);
  },
)
