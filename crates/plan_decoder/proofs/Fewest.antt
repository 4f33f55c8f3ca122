-- No plan without steps is feasible, since there is a train and it has a visit to make.
use Rattle.std.proofs.Common.{◌≡◌, ◌≤◌, true, ◌&&◌, List, [], ◌∷◌, length, nat_le, sym, arith, leb-true, true≢false}
use Rattle.std.specs.Prelude.{is_some}
use Rattle.std.specs.List.{list_all}
use Rattle.rail_base.specs.declared.station.Station.{Station}
use Rattle.rail_base.specs.declared.station.NodeNo.{NodeNo}
use Rattle.rail_base.specs.declared.station.TrainNo.{TrainNo}
use Rattle.rail_base.specs.declared.route.Route.{Route}
use Rattle.rail_base.specs.declared.plan.Command.{Command}
use Rattle.rail_base.specs.Admitted.{IsAdmitted}
use Rattle.rail_base.specs.Stations.{train_of}
use Rattle.rail_base.proofs.Members.{and_left}
use Rattle.rail_spec.specs.Track.{routes_of}
use Rattle.rail_spec.specs.Plans.{one_each}
use Rattle.rail_spec.specs.Dispatches.{of_plan}
use Rattle.rail_spec.specs.Visits.{makes_visits}
use Rattle.rail_spec.specs.Feasible.{IsInfeasible}
use Rattle.rail_spec.specs.Places.{visits_on}
use Rattle.clause_spec.proofs.Feasibles.{meets_visits}
use Rattle.clause_spec.proofs.Places.{train_in}

not_on : (sets : List (List NodeNo)) → 1 ≤ length sets → list_all is_some (visits_on sets []) ≡ true → ⊥
not_on [] some h = omega arith
not_on (set ∷ sets) some h = true≢false (sym h)

-- a train that visits makes none without steps
not_made : (d : Station) (routes : List Route) (plan : List (List Command)) (t : TrainNo) → length plan ≤ 0 → 1 ≤ length (train_of d t).visits → makes_visits d routes (of_plan routes plan) t ≡ true → ⊥
not_made d routes [] t none some h = not_on (train_of d t).visits some h
not_made d routes (step ∷ steps) t none some h = omega arith

pub none_without_steps : (d : Station) → IsAdmitted d → IsInfeasible d 0
none_without_steps d adm plan f =
    let first : TrainNo = record { 0 = 1 } in
    let many = adm.many_trains.0 in
    let visits = (adm.train first (omega arith, many)).visits.0 in
    let none : length plan ≤ 0 = leb-true _ _ (and_left (nat_le (length plan) 0) _ (and_left (nat_le (length plan) 0 && list_all one_each plan) _ f.runnable.well_formed.formed)) in
    not_made d (routes_of d) plan first none visits (meets_visits d (routes_of d) plan f.met first (train_in d first (omega arith) many))
