-- Where a route goes further than a path, and what is said of a train without one.
use Rattle.std.proofs.Common.{◌≡◌, suc, ◌-◌, Bool, true, false, not, ◌&&◌, if◌then◌else◌, List, [], ◌∷◌, ◌++◌, map, flat_map, get_or, length, refl, sym, ap₂, subst, arith, true≢false, ◌==◌, eqb-true}
use Rattle.rail_base.specs.declared.route.Route.{Route}
use Rattle.rail_base.specs.declared.route.RouteNo.{RouteNo}
use Rattle.rail_base.specs.Routes.{route_at}
use Rattle.rail_base.specs.declared.station.Station.{Station}
use Rattle.rail_base.specs.declared.station.TrainNo.{TrainNo}
use Rattle.rail_base.proofs.Members.{and_left, and_right}
use Rattle.rail_spec.specs.Plans.{is_start, goes_on}
use Rattle.cone_spec.specs.declared.Cone.{Cone}
use Rattle.cone_spec.specs.Cones.{named, has_route}
use Rattle.cone_spec.specs.Clauses.{Used, Literal, goes_further, is_closed, used_literals}

-- a route that goes further starts at the signal where the last of the path ends
pub last_goes : (f : RouteNo → Route) (q : Route) (xs : List RouteNo) (other : RouteNo) → goes_further (map f xs) q ≡ true → goes_on (f (get_or xs (length xs - 1) other)).finish q.start ≡ true
last_goes f q [] other h = absurd (true≢false (sym h))
last_goes f q (x ∷ []) other h = let e : length (x ∷ []) - 1 ≡ 0 = omega arith in subst (λ i. goes_on (f (get_or (x ∷ []) i other)).finish q.start ≡ true) (sym e) (and_left _ _ h)
last_goes f q (x ∷ y ∷ ys) other h =
    let e : length (x ∷ y ∷ ys) - 1 ≡ suc (length (y ∷ ys) - 1) = omega arith in
    subst (λ i. goes_on (f (get_or (x ∷ y ∷ ys) i other)).finish q.start ≡ true) (sym e) (last_goes f q (y ∷ ys) other (and_right (not (is_start x'.start q.start)) _ h))
  where
    x' : Route
    x' = f x

-- nothing is said of a train without a path
pub nothing_said : (d : Station) (routes : List Route) (k : Cone) (t : TrainNo) → (named k t).path ≡ [] → (rs : List RouteNo) → flat_map (used_literals d routes k) (map (λ r. record { train = t; route = r }) rs) ≡ []
nothing_said d routes k t none = each
  where
    one : (r : RouteNo) → used_literals d routes k (record { train = t; route = r }) ≡ []
    one r = go (named k t).path none (is_closed d routes k t)
      where
        go : (rs : List RouteNo) → rs ≡ [] → (b : Bool) → ◌≡◌ {A = List Literal} (if has_route rs r then record { fact = Used (record { train = t; route = r }); negated = true } ∷ [] else if b && goes_further (map (route_at routes) rs) (route_at routes r) then record { fact = Used (record { train = t; route = r }); negated = false } ∷ [] else []) []
        go [] e true = refl
        go [] e false = refl
        go (s ∷ rs) e b = absurd (cc)

    each : (rs : List RouteNo) → flat_map (used_literals d routes k) (map (λ r. record { train = t; route = r }) rs) ≡ []
    each [] = refl
    each (r ∷ rs) = ap₂ (λ a b. a ++ b) (one r) (each rs)

pub empty_list : {X : Type 0} (xs : List X) → (length xs == 0) ≡ true → xs ≡ []
empty_list [] h = refl
empty_list (x ∷ xs) h = let e : length (x ∷ xs) ≡ 0 = eqb-true (length (x ∷ xs)) 0 h in absurd (omega arith)
