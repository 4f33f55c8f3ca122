-- The model of a plan makes the base true.
use Rattle.std.proofs.Common.{◌≡◌, ℕ, ◌≤◌, true, ◌&&◌, List, map, length, sym, ap, ◌∙◌, leb-true, nat_le, nat_lt}
use Rattle.std.specs.List.{list_all}
use Rattle.rail_base.specs.declared.station.Station.{Station}
use Rattle.rail_base.specs.declared.route.Route.{Route}
use Rattle.rail_base.specs.declared.plan.Command.{Command}
use Rattle.rail_base.specs.Stations.{trains}
use Rattle.rail_spec.specs.Plans.{commands, is_well_formed, is_executable, all_commands}
use Rattle.rail_spec.specs.Feasible.{is_of, names_only}
use Rattle.rail_spec.specs.Dispatches.{of_plan}
use Rattle.rail_spec.specs.Visits.{makes_visits}
use Rattle.rail_base.proofs.Members.{In, and_left, and_right, list_all_at}
use Rattle.sat_clause.specs.declared.lit.Lit.{Lit}
use Rattle.sat_clause.specs.Clauses.{clause_holds}
use Rattle.clause_spec.specs.Variables.{pairs, numbered, number_of}
use Rattle.clause_spec.specs.Clauses.{Clause, clauses, base_clauses}
use Rattle.clause_spec.specs.Models.{holds, is_so, model_of}
use Rattle.clause_spec.proofs.Places.{command_from, route_in, train_in, pair_of}
use Rattle.clause_spec.proofs.Forward.{Fit, stays_given_holds, starts_rightly_holds, excluded_holds, not_at_once_holds, in_order_holds, all_given_holds}
use Rattle.clause_spec.proofs.Waiting.{waits_holds}
use Rattle.clause_spec.proofs.Visiting.{makes_visits_holds}
use Rattle.clause_spec.proofs.Numbers.{clause_says, holds_alike, model_says}
use Rattle.clause_spec.proofs.Families.{by_family, clauses_known}
use Rattle.rail_base.proofs.Lists.{list_all_from, in_map_back, in_filter_back}

pub is_of_in : (d : Station) (routes : List Route) (c : Command) → is_of d routes c ≡ true → In c (all_commands d routes)
is_of_in d routes c k =
    let abc = and_left (nat_le 1 c.train.0 && nat_le c.train.0 (length d.trains) && nat_le 1 c.route.0) _ k in
    let ab = and_left (nat_le 1 c.train.0 && nat_le c.train.0 (length d.trains)) _ abc in
    command_from d routes c.train c.route
    (train_in d c.train (leb-true _ _ (and_left (nat_le 1 c.train.0) _ ab)) (leb-true _ _ (and_right (nat_le 1 c.train.0) _ ab)))
    (route_in routes c.route (leb-true _ _ (and_right (nat_le 1 c.train.0 && nat_le c.train.0 (length d.trains)) _ abc)) (leb-true _ _ (and_right (nat_le 1 c.train.0 && nat_le c.train.0 (length d.trains) && nat_le 1 c.route.0) _ k)))

module _ (d : Station) (routes : List Route) (n : ℕ) (plan : List (List Command)) where
  named : names_only d routes plan ≡ true → (c : Command) → In c (commands plan) → In c (all_commands d routes)
  named h c m = is_of_in d routes c (list_all_at (is_of d routes) (commands plan) c h m)

  pub clauses_hold : names_only d routes plan ≡ true → is_well_formed d routes n plan ≡ true → is_executable d routes plan ≡ true → list_all (makes_visits d routes (of_plan routes plan)) (trains d) ≡ true
      → (cl : Clause) → In cl (clauses d routes n) → holds (is_so plan) cl ≡ true
  clauses_hold names formed can made =
      let fit : Fit d routes n plan = record { named = named names; formed = formed; can_run = can } in
      by_family d routes n (λ cl. holds (is_so plan) cl ≡ true) (record {
        stays = λ c k. stays_given_holds d routes n plan fit c;
        starts = λ c k. starts_rightly_holds d routes n plan fit c;
        excludes = λ t k. excluded_holds d routes n plan fit t;
        apart = λ p k cl m. (let j = in_filter_back (λ (p : Command × Command). nat_lt p.0.train.0 p.1.train.0) (pairs d routes) p k in not_at_once_holds d routes n plan fit p.0 p.1 cl (pair_of d routes p j.0).contend m);
        waits = λ p k cl m. waits_holds d routes n plan fit p.0 p.1 cl (pair_of d routes p k).contend m;
        visits = λ t k. makes_visits_holds d routes n plan fit t k (list_all_at (makes_visits d routes (of_plan routes plan)) (trains d) t made k);
        orders = λ p k cl m. in_order_holds d routes n plan fit p.0 p.1 cl m;
        ends = λ j h. all_given_holds d routes n plan fit j;
      })

  -- the model of a plan that is well formed, can be carried out and makes all visits makes the base true
  pub base_holds : 1 ≤ n → names_only d routes plan ≡ true → is_well_formed d routes n plan ≡ true → is_executable d routes plan ≡ true → list_all (makes_visits d routes (of_plan routes plan)) (trains d) ≡ true
      → list_all (clause_holds (model_of d routes n plan)) (base_clauses d routes n) ≡ true
  base_holds some names formed can made = list_all_from (clause_holds (model_of d routes n plan)) (base_clauses d routes n) one
    where
      one : (c : List Lit) → In c (base_clauses d routes n) → clause_holds (model_of d routes n plan) c ≡ true
      one c m =
          let f = in_map_back (map (numbered d routes n)) (clauses d routes n) c m in
          let known = clauses_known d routes n some f.0 f.1 in
          ap (clause_holds (model_of d routes n plan)) (sym f.2) ∙ (clause_says d routes n (model_of d routes n plan) f.0
          ∙ (holds_alike (λ v. model_of d routes n plan (number_of d routes n v)) (is_so plan) f.0 (λ l k. model_says d routes n plan l.variable (known l k))
          ∙ clauses_hold names formed can made f.0 f.1))
