-- Routes that are in range.
use Rattle.std.proofs.Common.{◌≡◌, ℕ, zero, suc, ◌≤◌, ◌<◌, ◌⊎◌, inl, inr, true, ◌&&◌, nat_le, List, [], ◌∷◌, length, get_or, sym, ap, subst, All, arith, leb-true}
use Rattle.std.specs.List.{list_all}
use Rattle.rail_base.specs.declared.station.Station.{Station}
use Rattle.rail_base.specs.declared.station.TrainNo.{TrainNo}
use Rattle.rail_base.specs.declared.route.Route.{Route}
use Rattle.rail_base.specs.declared.route.RouteNo.{RouteNo}
use Rattle.rail_base.specs.declared.plan.Command.{Command}
use Rattle.rail_base.specs.Admission.{is_from}
use Rattle.rail_base.specs.Routes.{IsRoute}
use Rattle.rail_base.proofs.Members.{In, and_left, and_right, list_all_at}
use Rattle.cone_spec.specs.declared.Cone.{Cone}
use Rattle.cone_spec.specs.declared.ConeTrain.{ConeTrain}
use Rattle.cone_spec.specs.Cones.{unnamed, first_named, named, is_named}
use Rattle.cone_spec.specs.Validity.{train_in_design}
use Rattle.cone_spec.proofs.Naming.{IsNamed, named_or_not, has_route_in}

pub from_bounds : (a b n : ℕ) → is_from a b n ≡ true → (a ≤ n) × (n ≤ b)
from_bounds a b n h = (leb-true _ _ (and_left (nat_le a n) (nat_le n b) h), leb-true _ _ (and_right (nat_le a n) (nat_le n b) h))

-- where a test says so of all, each is a route
pub all_routes : (routes : List Route) (path : List RouteNo) → list_all (λ r. is_from 1 (length routes) r.0) path ≡ true → All (IsRoute routes) path
all_routes routes [] h = λ k other less. absurd (omega arith)
all_routes routes (r ∷ rs) h = go (all_routes routes rs (and_right (is_from 1 (length routes) r.0) (list_all (λ r. is_from 1 (length routes) r.0) rs) h))
  where
    go : All (IsRoute routes) rs → (k : ℕ) (other : RouteNo) → k < length (r ∷ rs) → IsRoute routes (get_or (r ∷ rs) k other)
    go rest zero other less = from_bounds 1 (length routes) r.0 (and_left (is_from 1 (length routes) r.0) (list_all (λ r. is_from 1 (length routes) r.0) rs) h)
    go rest (suc k) other less = rest k other (omega arith)

-- so are those of named commands, where the trains are right
pub named_routes : (d : Station) (routes : List Route) (k : Cone) → list_all (train_in_design d routes k) k.trains ≡ true → (c : Command) → is_named k c ≡ true → IsRoute routes c.route
named_routes d routes k h c n = go (named_or_not k.trains c.train)
  where
    member : In c.route (named k c.train).path
    member = has_route_in (named k c.train).path c.route n

    of_entry : (e : ConeTrain) → In e k.trains → list_all (λ r. is_from 1 (length routes) r.0) e.path ≡ true
    of_entry e m =
        let t = list_all_at (train_in_design d routes k) k.trains e h m in
        and_right (is_from 1 (length d.trains) e.train.0) _ (and_left (is_from 1 (length d.trains) e.train.0 && list_all (λ r. is_from 1 (length routes) r.0) e.path) _ (and_left _ _ (and_left _ _ t)))

    go : IsNamed k.trains c.train ⊎ (first_named c.train k.trains ≡ unnamed c.train) → IsRoute routes c.route
    go (inl i) = from_bounds 1 (length routes) c.route.0 (list_all_at (λ (r : RouteNo). is_from 1 (length routes) r.0) (named k c.train).path c.route (of_entry (named k c.train) i.member) member)
    go (inr e) = absurd (subst (λ (x : ConeTrain). In c.route x.path) e member)

-- the train of an entry is one of the design
pub train_bounds : (d : Station) (routes : List Route) (k : Cone) → list_all (train_in_design d routes k) k.trains ≡ true → (e : ConeTrain) → In e k.trains → (1 ≤ e.train.0) × (e.train.0 ≤ length d.trains)
train_bounds d routes k h e m =
    let t = list_all_at (train_in_design d routes k) k.trains e h m in
    from_bounds 1 (length d.trains) e.train.0 (and_left (is_from 1 (length d.trains) e.train.0) _ (and_left (is_from 1 (length d.trains) e.train.0 && list_all (λ r. is_from 1 (length routes) r.0) e.path) _ (and_left _ _ (and_left _ _ t))))

-- the routes of a train's path are there
pub path_in_range : (d : Station) (routes : List Route) (k : Cone) → list_all (train_in_design d routes k) k.trains ≡ true → (t : TrainNo) → All (IsRoute routes) (named k t).path
path_in_range d routes k h t = go (named_or_not k.trains t)
  where
    go : IsNamed k.trains t ⊎ (first_named t k.trains ≡ unnamed t) → All (IsRoute routes) (named k t).path
    go (inl i) =
        let e = list_all_at (train_in_design d routes k) k.trains (named k t) h i.member in
        all_routes routes (named k t).path (and_right (is_from 1 (length d.trains) (named k t).train.0) _ (and_left (is_from 1 (length d.trains) (named k t).train.0 && list_all (λ r. is_from 1 (length routes) r.0) (named k t).path) _ (and_left _ _ (and_left _ _ e))))
    go (inr e) = let none : (named k t).path ≡ [] = ap (λ (c : ConeTrain). c.path) e in subst (λ (rs : List RouteNo). All (IsRoute routes) rs) (sym none) (λ j other less. absurd (omega arith))
