-- The waits of a train's commands say which is ready.
use Rattle.std.proofs.Common.{◌≡◌, ◌⊎◌, inl, inr, ℕ, zero, suc, Bool, true, List, [], ◌∷◌, ◌++◌, map, filter, length, slice_get, Some, refl, sym, ap, subst}
use Rattle.rail_base.specs.declared.station.Station.{Station}
use Rattle.rail_base.specs.declared.station.SectionNo.{SectionNo}
use Rattle.rail_base.specs.declared.station.TrainNo.{TrainNo}
use Rattle.rail_base.specs.declared.route.Route.{Route}
use Rattle.rail_base.specs.declared.route.RouteNo.{RouteNo}
use Rattle.rail_base.specs.declared.plan.Command.{Command}
use Rattle.rail_base.specs.Members.{In}
use Rattle.rail_base.specs.Routes.{route_at, has_section}
use Rattle.rail_base.proofs.Lists.{in_append, in_filter_back, in_flat_map_back, in_map_back}
use Rattle.rail_spec.specs.Dispatches.{Dispatch, pasts_at, state_at, state_of}
use Rattle.rail_course.specs.declared.itineraries.Itineraries.{Itineraries}
use Rattle.rail_course.specs.declared.waits.Wait.{Wait}
use Rattle.rail_course.specs.Itineraries.{path_in, AreTrainWaitsIn}
use Rattle.rail_course.specs.Ready.{GiveWhatIsReady, AreWaitsOf}
use Rattle.rail_course.specs.Waits.{AreWaits, IsWait, own_waits, hold_waits, waits_for, waits_of, waits_of_train}
use Rattle.rail_course.proofs.Holding.{own_known, held_known, wait_elsewhere}
use Rattle.rail_course.proofs.Showing.{over_shown}
use Rattle.rail_course.proofs.Waiting.{ready_when_over}

-- ---- the waits of each command of a train's path

module _ (d : Station) (routes : List Route) (p : Dispatch) where
  many_waits : (t : TrainNo) (rs : List RouteNo) (waits : List (List Wait)) → AreWaitsOf d routes p t rs waits → length waits ≡ length rs
  many_waits t [] [] h = refl
  many_waits t [] (own ∷ waits) h = absurd h
  many_waits t (r ∷ rs) [] h = absurd h
  many_waits t (r ∷ rs) (own ∷ waits) h = ap suc (many_waits t rs waits h.1)

  waits_at : (t : TrainNo) (rs : List RouteNo) (waits : List (List Wait)) → AreWaitsOf d routes p t rs waits → (i : ℕ) (r : RouteNo) (own : List Wait) → slice_get rs i ≡ Some r → slice_get waits i ≡ Some own → AreWaits d routes p (record { train = t; route = r }) own
  waits_at t [] waits h i r own e f = cc
  waits_at t (q ∷ rs) [] h i r own e f = absurd h
  waits_at t (q ∷ rs) (ws ∷ waits) h zero r own e f =
      let same : q ≡ r = cc in
      let are : ws ≡ own = cc in
      subst (λ n. AreWaits d routes p (record { train = t; route = n }) own) same (subst (AreWaits d routes p (record { train = t; route = q })) are h.0)
  waits_at t (q ∷ rs) (ws ∷ waits) h (suc i) r own e f = waits_at t rs waits h.1 i r own e f

  waits_known : (t : TrainNo) (rs : List RouteNo) (waits : List (List Wait)) → AreWaitsOf d routes p t rs waits → (own : List Wait) (w : Wait) → In own waits → In w own → IsWait d routes p w
  waits_known t [] [] h own w m k = absurd m
  waits_known t [] (ws ∷ waits) h own w m k = absurd h
  waits_known t (r ∷ rs) [] h own w m k = absurd h
  waits_known t (r ∷ rs) (ws ∷ waits) h own w (inl e) k = h.0.known w (subst (In w) (sym e) k)
  waits_known t (r ∷ rs) (ws ∷ waits) h own w (inr m) k = waits_known t rs waits h.1 own w m k

  -- those of one route more
  pub one_route_more : (t : TrainNo) (rs : List RouteNo) (waits : List (List Wait)) (r : RouteNo) (own : List Wait) → AreWaitsOf d routes p t rs waits → AreWaits d routes p (record { train = t; route = r }) own → AreWaitsOf d routes p t (rs ++ r ∷ []) (waits ++ own ∷ [])
  one_route_more t [] [] r own are here = (here, tt)
  one_route_more t [] (ws ∷ waits) r own are here = absurd are
  one_route_more t (q ∷ rs) [] r own are here = absurd are
  one_route_more t (q ∷ rs) (ws ∷ waits) r own are here = (are.0, one_route_more t rs waits r own are.1 here)

  pub waits_give : (t : TrainNo) (waits : List (List Wait)) → AreWaitsOf d routes p t (p.path t) waits → GiveWhatIsReady d routes p t waits
  waits_give t waits are = record {
    waits_a_route = many_waits t (p.path t) waits are;
    next = λ k r own here there. (waits_at t (p.path t) waits are (state_of (state_at d routes p k) t).granted r own here there).over (pasts_at d routes p k);
    shown = λ own w m i k s histories shows. over_shown d routes p k s histories shows w (waits_known t (p.path t) waits are own w m i);
  }

  -- ---- all waits of a command say whether it is ready

  for_known : (c e : Command) (w : Wait) → In w (waits_for d routes p c e) → IsWait d routes p w
  for_known c e w k = go (in_map_back (λ v. v.1) (filter (λ v. has_section (route_at routes c.route) v.0) (own_waits d routes p e ++ hold_waits d routes p e)) w k)
    where
      at : (v : SectionNo × Wait) → In v (own_waits d routes p e) ⊎ In v (hold_waits d routes p e) → IsWait d routes p v.1
      at v (inl i) = own_known d routes p e v i
      at v (inr i) = held_known d routes p e v i

      go : ((v : SectionNo × Wait) × In v (filter (λ v. has_section (route_at routes c.route) v.0) (own_waits d routes p e ++ hold_waits d routes p e)) × (v.1 ≡ w)) → IsWait d routes p w
      go (v, i, s) = subst (IsWait d routes p) s (at v (in_append v (own_waits d routes p e) (hold_waits d routes p e) (in_filter_back (λ v. has_section (route_at routes c.route) v.0) (own_waits d routes p e ++ hold_waits d routes p e) v i).0))

  all_are_waits : (c : Command) → AreWaits d routes p c (waits_of d routes p c)
  all_are_waits c = record { over = λ ps. ready_when_over d routes p ps c; known = λ w m. go w (in_flat_map_back (waits_for d routes p c) (p.before c) w m) }
    where
      go : (w : Wait) → ((e : Command) × In e (p.before c) × In w (waits_for d routes p c e)) → IsWait d routes p w
      go w (e, m, k) = for_known c e w k

  pub all_waits_tell : (t : TrainNo) → GiveWhatIsReady d routes p t (waits_of_train d routes p t)
  all_waits_tell t = waits_give t (waits_of_train d routes p t) (go (p.path t))
    where
      go : (rs : List RouteNo) → AreWaitsOf d routes p t rs (map (λ r. waits_of d routes p (record { train = t; route = r })) rs)
      go [] = tt
      go (r ∷ rs) = (all_are_waits (record { train = t; route = r }), go rs)

-- so do those that are worked out over its paths
module _ (d : Station) (routes : List Route) (p : Dispatch) (these : ℕ → TrainNo → Bool) where
  abbrev like : Dispatch
  like = record { path = p.path; before = p.before; concerns = these }

  waits_same : (t : TrainNo) (rs : List RouteNo) (waits : List (List Wait)) → AreWaitsOf d routes like t rs waits → AreWaitsOf d routes p t rs waits
  waits_same t [] [] h = tt
  waits_same t [] (own ∷ waits) h = absurd h
  waits_same t (r ∷ rs) [] h = absurd h
  waits_same t (r ∷ rs) (own ∷ waits) h = (record { over = h.0.over; known = λ w m. wait_elsewhere d routes like p refl w (h.0.known w m) }, waits_same t rs waits h.1)

pub all_waits_in : (i : Itineraries) (p : Dispatch) → path_in i ≡ p.path → (t : TrainNo) (waits : List (List Wait)) → AreTrainWaitsIn i p.before t waits
    → GiveWhatIsReady i.interlocking.now.design.station i.interlocking.now.routes p t waits
all_waits_in i p same t waits are =
    let d = i.interlocking.now.design.station in
    let routes = i.interlocking.now.routes in
    waits_give d routes p t waits (waits_same d routes p (λ k t. true) t (p.path t) waits (subst (λ path. AreWaitsOf d routes (record { path = path; before = p.before; concerns = λ k t. true }) t (path t) waits) same are))
