-- A plan of at most n steps is one of at most m, where n is no more than m.
use Rattle.std.proofs.Common.{◌≡◌, ℕ, ◌≤◌, true, ◌&&◌, List, length, nat_le, arith, leb-true}
use Rattle.std.specs.List.{list_all}
use Rattle.std.proofs.lemmas.Bool.{le-leb}
use Rattle.rail_base.specs.declared.station.Station.{Station}
use Rattle.rail_base.specs.declared.route.Route.{Route}
use Rattle.rail_base.specs.declared.plan.Command.{Command}
use Rattle.rail_base.specs.Stations.{trains, train_of}
use Rattle.rail_base.proofs.Members.{and_left, and_right, and_both}
use Rattle.rail_spec.specs.Feasible.{IsWellFormed}
use Rattle.rail_spec.specs.Plans.{is_well_formed, one_each, is_path, path_routes}

formed_within : (d : Station) (routes : List Route) (n m : ℕ) (plan : List (List Command)) → n ≤ m → is_well_formed d routes n plan ≡ true → is_well_formed d routes m plan ≡ true
formed_within d routes n m plan le h =
    let paths = list_all (λ t. is_path (train_of d t) (path_routes routes plan t)) (trains d) in
    let prefix = and_left (nat_le (length plan) n && list_all one_each plan) paths h in
    let short : length plan ≤ n = leb-true (length plan) n (and_left (nat_le (length plan) n) (list_all one_each plan) prefix) in
    and_both (nat_le (length plan) m && list_all one_each plan) paths
    (and_both (nat_le (length plan) m) (list_all one_each plan) (le-leb (length plan) m (omega arith)) (and_right (nat_le (length plan) n) (list_all one_each plan) prefix))
    (and_right (nat_le (length plan) n && list_all one_each plan) paths h)

pub well_formed_within : (d : Station) (routes : List Route) (n m : ℕ) (plan : List (List Command)) → n ≤ m → IsWellFormed d routes n plan → IsWellFormed d routes m plan
well_formed_within d routes n m plan le w = record { named = w.named; formed = formed_within d routes n m plan le w.formed }
