-- A train's command that is misplaced has a reason.
use Rattle.std.proofs.Common.{◌≡◌, ℕ, ◌+◌, ◌-◌, inl, inr, ◌⊎◌, Bool, true, false, true≢false, not, cond, ◌&&◌, List, [], ◌∷◌, ◌++◌, map, filter, flat_map, take, find, Option, None, Some, option_map, refl, sym, ap, subst, ◌∙◌}
use Rattle.std.specs.Option.{option_or}
use Rattle.std.specs.List.{list_all}
use Rattle.rail_base.specs.declared.plan.Command.{Command}
use Rattle.rail_base.specs.declared.route.Route.{Route}
use Rattle.rail_base.specs.declared.route.RouteNo.{RouteNo}
use Rattle.rail_base.specs.declared.station.Station.{Station}
use Rattle.rail_base.specs.declared.station.TrainNo.{TrainNo}
use Rattle.rail_base.specs.Members.{In}
use Rattle.rail_base.specs.Numbering.{entry}
use Rattle.rail_base.specs.Routes.{route_at}
use Rattle.rail_base.specs.Stations.{first_visit, train_of}
use Rattle.rail_spec.specs.Plans.{end_at_one_signal, is_start, path, routes_given}
use Rattle.rail_plan.specs.WellFormed.{are_apart, begins_well, is_placed, last_of_list, may_follow, may_go_on}
use Rattle.rail_plan.proofs.Firsts.{last_mapped}
use Rattle.plan_faults.specs.declared.reasons.Reason.{Reason}
use Rattle.plan_faults.specs.declared.reasons.Reason.TheVariants as reason
use Rattle.plan_faults.specs.Laws.{HasReason}
use Rattle.plan_faults.specs.Reasons.{IsSo, again, end_alike, misled, reason_of, reason_of_route, start_alike}

-- what is found is there, and passes
pub find_in : {X : Type 0} (p : X → Bool) (xs : List X) (x : X) → find p xs ≡ Some x → In x xs × (p x ≡ true)
find_in p [] x e = cc
find_in {X} p (y ∷ ys) x e = go (p y) refl e (find_in p ys x)
  where
    go : (b : Bool) → p y ≡ b → cond b (Some y) (find p ys) ≡ Some x → (find p ys ≡ Some x → In x ys × (p x ≡ true)) → In x (y ∷ ys) × (p x ≡ true)
    go true t k later = let same : y ≡ x = cc in (inl same, subst (λ z. p z ≡ true) same t)
    go false t k later = let l = later k in (inr l.0, l.1)

last_none : {X : Type 0} (xs : List X) → last_of_list xs ≡ None → xs ≡ []
last_none [] e = refl
last_none {X} (x ∷ xs) e = go (last_of_list xs) e
  where
    go : (o : Option X) → option_or o (Some x) ≡ None → x ∷ xs ≡ []
    go None k = cc
    go (Some y) k = cc

module _ (routes : List Route) (r : RouteNo) where
  abbrev apart : RouteNo → Bool
  apart q = are_apart (route_at routes q) (route_at routes r)

  -- where nothing is found, all are apart
  all_apart : (before : List RouteNo) → find (start_alike routes r) before ≡ None → find (end_alike routes r) before ≡ None
      → list_all (λ q. are_apart q (route_at routes r)) (map (route_at routes) before) ≡ true
  all_apart [] s e = refl
  all_apart (q ∷ qs) s e = go (start_alike routes r q) (end_alike routes r q) refl refl s e (all_apart qs)
    where
      go : (a b : Bool) → start_alike routes r q ≡ a → end_alike routes r q ≡ b → cond a (Some q) (find (start_alike routes r) qs) ≡ None
          → cond b (Some q) (find (end_alike routes r) qs) ≡ None
          → (find (start_alike routes r) qs ≡ None → find (end_alike routes r) qs ≡ None → list_all (λ q. are_apart q (route_at routes r)) (map (route_at routes) qs) ≡ true)
          → (are_apart (route_at routes q) (route_at routes r) && list_all (λ q. are_apart q (route_at routes r)) (map (route_at routes) qs)) ≡ true
      go true b ea eb ka kb later = cc
      go false true ea eb ka kb later = cc
      go false false ea eb ka kb later = rw (ea, eb) (later ka kb)

module _ (d : Station) (routes : List Route) (t : TrainNo) where
  -- a reason that is found, and is so
  pub record Found (before given : List RouteNo) (o : Option Reason) : Type 0 where
    pub reason : Reason
    pub found : o ≡ Some reason
    pub so : IsSo d routes t before given reason

  again_found : (before : List RouteNo) (r : RouteNo) → list_all (λ q. are_apart q (route_at routes r)) (map (route_at routes) before) ≡ false
      → Found before (r ∷ []) (again routes before r)
  again_found before r e = go (find (start_alike routes r) before) (find (end_alike routes r) before) refl refl
    where
      go : (a b : Option RouteNo) → find (start_alike routes r) before ≡ a → find (end_alike routes r) before ≡ b
          → Found before (r ∷ []) (option_or (option_map (λ q. reason.StartsAgain r q) a) (option_map (λ q. reason.EndsAgain r q) b))
      go (Some q) b ea eb = let l = find_in (start_alike routes r) before q ea in record { reason = reason.StartsAgain r q; found = refl; so = (refl, l.0, l.1) }
      go None (Some q) ea eb = let l = find_in (end_alike routes r) before q eb in record { reason = reason.EndsAgain r q; found = refl; so = (refl, l.0, l.1) }
      go None None ea eb = absurd (true≢false (sym (all_apart routes r before ea eb) ∙ e))

  misled_found : (before : List RouteNo) (r : RouteNo) → begins_well (first_visit (train_of d t)) (option_map (route_at routes) (last_of_list before)) (route_at routes r) ≡ false
      → Found before (r ∷ []) (Some (misled (last_of_list before) r))
  misled_found before r e = go (last_of_list before) refl e
    where
      go : (o : Option RouteNo) → last_of_list before ≡ o → begins_well (first_visit (train_of d t)) (option_map (route_at routes) o) (route_at routes r) ≡ false
          → Found before (r ∷ []) (Some (misled o r))
      go None is k = record { reason = reason.Begins r; found = refl; so = (refl, last_none before is, k) }
      go (Some q) is k = record { reason = reason.GoesOn r q; found = refl; so = (refl, is, k) }

  route_found : (before : List RouteNo) (r : RouteNo) → may_follow (train_of d t) (map (route_at routes) before) (route_at routes r) ≡ false
      → Found before (r ∷ []) (reason_of_route d routes t before r)
  route_found before r e = go (begins_well (first_visit (train_of d t)) (option_map (route_at routes) (last_of_list before)) (route_at routes r)) refl
      (ap (λ o. begins_well (first_visit (train_of d t)) o (route_at routes r) && list_all (λ q. are_apart q (route_at routes r)) (map (route_at routes) before)) (sym (last_mapped (route_at routes) before)) ∙ e)
    where
      go : (b : Bool) → begins_well (first_visit (train_of d t)) (option_map (route_at routes) (last_of_list before)) (route_at routes r) ≡ b
          → (b && list_all (λ q. are_apart q (route_at routes r)) (map (route_at routes) before)) ≡ false
          → Found before (r ∷ []) (cond b (again routes before r) (Some (misled (last_of_list before) r)))
      go true is k = again_found before r k
      go false is k = misled_found before r is

  pub reason_found : (before given : List RouteNo) → may_go_on (train_of d t) (map (route_at routes) before) (map (route_at routes) given) ≡ false
      → Found before given (reason_of d routes t before given)
  reason_found before [] e = cc
  reason_found before (r ∷ []) e = route_found before r e
  reason_found before (r ∷ q ∷ rs) e = record { reason = reason.Second r q; found = refl; so = (rs, refl) }

  pub reason_there : (plan : List (List Command)) (i : ℕ) → is_placed d routes (take (i - 1) plan) (entry [] plan i) t ≡ false → HasReason d routes plan i t
  reason_there plan i e =
      let l = reason_found (path (take (i - 1) plan) t) (routes_given t (entry [] plan i)) e in
      record { reason = l.reason; found = l.found; so = l.so }
