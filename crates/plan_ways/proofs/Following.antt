-- A path may go on with a route, by the numbers of its routes.
use Rattle.std.proofs.Common.{◌≡◌, Bool, ◌&&◌, List, [], ◌∷◌, map, refl, ap, ◌∙◌}
use Rattle.std.specs.Prelude.{option_map}
use Rattle.std.specs.List.{list_all}
use Rattle.rail_base.specs.declared.route.Route.{Route}
use Rattle.rail_base.specs.declared.route.RouteNo.{RouteNo}
use Rattle.rail_base.specs.declared.station.Station.{Station}
use Rattle.rail_base.specs.declared.station.TrainNo.{TrainNo}
use Rattle.rail_base.specs.Routes.{route_at}
use Rattle.rail_base.specs.Stations.{first_visit, train_of}
use Rattle.rail_plan.specs.WellFormed.{are_apart, begins_well, last_of_list}
use Rattle.rail_plan.proofs.Firsts.{last_mapped}
use Rattle.plan_ways.specs.Paths.{may_go_on_with}

all_mapped : {X Y : Type 0} (test : Y → Bool) (f : X → Y) (xs : List X) → list_all test (map f xs) ≡ list_all (λ x. test (f x)) xs
all_mapped test f [] = refl
all_mapped test f (x ∷ xs) = ap (λ b. test (f x) && b) (all_mapped test f xs)

module _ (d : Station) (routes : List Route) (t : TrainNo) (path : List RouteNo) (r : RouteNo) where
  abbrev pub begins : Bool
  begins = begins_well (first_visit (train_of d t)) (option_map (route_at routes) (last_of_list path)) (route_at routes r)

  abbrev pub apart : Bool
  apart = list_all (λ q. are_apart (route_at routes q) (route_at routes r)) path

  pub follows_is : may_go_on_with d routes t path r ≡ (begins && apart)
  follows_is =
      ap (λ o. begins_well (first_visit (train_of d t)) o (route_at routes r) && list_all (λ q. are_apart q (route_at routes r)) (map (route_at routes) path)) (last_mapped (route_at routes) path)
      ∙ ap (λ b. begins && b) (all_mapped (λ q. are_apart q (route_at routes r)) (route_at routes) path)
