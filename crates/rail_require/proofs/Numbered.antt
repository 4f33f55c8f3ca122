-- The history of a run has numbers of 32 bits.
use Rattle.std.proofs.Common.{◌≡◌, ℕ, ◌<◌, ◌^◌, true, ◌&&◌, List, length, get_or, subst, ◌∙◌, arith, nat_le, leb-true}
use Rattle.std.specs.List.{list_all}
use Rattle.rail_base.specs.declared.station.Station.{Station}
use Rattle.rail_base.specs.declared.station.TrainNo.{TrainNo}
use Rattle.rail_base.specs.declared.route.Route.{Route}
use Rattle.rail_base.specs.declared.plan.Command.{Command}
use Rattle.rail_base.specs.declared.history.TrainHistory.{TrainHistory}
use Rattle.rail_base.specs.Members.{In}
use Rattle.rail_base.specs.Stations.{IsTrain, trains, train_of}
use Rattle.rail_base.specs.Admitted.{IsAdmitted}
use Rattle.rail_base.proofs.Members.{and_left, and_right}
use Rattle.rail_base.proofs.Lists.{in_map_back, length-map}
use Rattle.rail_base.proofs.Contained.{in_at}
use Rattle.rail_spec.specs.Plans.{path, one_each, is_well_formed, is_path, path_routes}
use Rattle.rail_spec.specs.Histories.{history_at, train_history}
use Rattle.rail_require.specs.Ticks.{HasNumbers}
use Rattle.rail_laws.proofs.Lengths.{path_few}
use Rattle.rail_require.proofs.Agreeing.{is_a_train}
use Rattle.rail_require.proofs.Telling.{length-trains, length-granted, length-visits}

module _ (d : Station) (routes : List Route) (plan : List (List Command)) (adm : IsAdmitted d) where
  pub have_numbers : ((t : TrainNo) → length (path plan t) < 2 ^ 32) → (k : ℕ) → HasNumbers (history_at d routes plan k)
  have_numbers few k = (all_trains, λ i other l. each (get_or (history_at d routes plan k) i other) (in_map_back (train_history d routes plan k) (trains d) (get_or (history_at d routes plan k) i other) (in_at (history_at d routes plan k) i other l)))
    where
      all_trains : length (history_at d routes plan k) < 2 ^ 32
      all_trains =
          let e = length-map (train_history d routes plan k) (trains d) ∙ length-trains d in
          let many = adm.many_trains.1 in
          omega arith

      one : (t : TrainNo) → IsTrain d t → (length (train_history d routes plan k t).grants < 2 ^ 32) × (length (train_history d routes plan k t).visits < 2 ^ 32)
      one t is =
          let g = length-granted d routes plan k t in
          let v = length-visits d routes plan k t in
          let path_of = few t in
          let visits_of = (adm.train t is).visits.1 in
          (omega arith, omega arith)

      each : (h : TrainHistory) → ((t : TrainNo) × In t (trains d) × (train_history d routes plan k t ≡ h)) → (length h.grants < 2 ^ 32) × (length h.visits < 2 ^ 32)
      each h (t, m, e) = subst (λ (x : TrainHistory). (length x.grants < 2 ^ 32) × (length x.visits < 2 ^ 32)) e (one t (is_a_train d t m))

  pub plans_have_numbers : (n : ℕ) → n < 2 ^ 32 → is_well_formed d routes n plan ≡ true → (k : ℕ) → HasNumbers (history_at d routes plan k)
  plans_have_numbers n small formed = have_numbers (λ t. let few = path_few t plan one in let steps = leb-true (length plan) n short in omega arith)
    where
      first : (nat_le (length plan) n && list_all one_each plan) ≡ true
      first = and_left (nat_le (length plan) n && list_all one_each plan) (list_all (λ t. is_path (train_of d t) (path_routes routes plan t)) (trains d)) formed

      short : nat_le (length plan) n ≡ true
      short = and_left (nat_le (length plan) n) (list_all one_each plan) first

      one : list_all one_each plan ≡ true
      one = and_right (nat_le (length plan) n) (list_all one_each plan) first
