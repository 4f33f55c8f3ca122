-- The waits for those that stand last say what is ready.
use Rattle.std.proofs.Common.{◌≡◌, inl, inr, ℕ, zero, suc, ◌&&◌, List, [], ◌∷◌, ◌++◌, length, slice_get, Some, refl, sym, ap, subst, ◌∙◌, nat_le}
use Rattle.std.specs.List.{list_all}
use Rattle.rail_base.specs.declared.station.Station.{Station}
use Rattle.rail_base.specs.declared.station.TrainNo.{TrainNo}
use Rattle.rail_base.specs.declared.route.Route.{Route}
use Rattle.rail_base.specs.declared.route.RouteNo.{RouteNo}
use Rattle.rail_base.specs.declared.plan.Command.{Command}
use Rattle.rail_base.specs.Members.{In}
use Rattle.rail_base.specs.Stations.{trains, train_of}
use Rattle.rail_base.proofs.Admitting.{admitted}
use Rattle.rail_base.proofs.Members.{and_left, and_right}
use Rattle.rail_course.specs.declared.waits.Wait.{Wait}
use Rattle.rail_spec.specs.Plans.{path, path_routes, is_path, one_each}
use Rattle.rail_spec.specs.Dispatches.{of_plan, pasts_at}
use Rattle.rail_spec.specs.Feasible.{IsWellFormed}
use Rattle.rail_laws.proofs.Admits.{path_differs}
use Rattle.interlocking.specs.declared.railway.Interlocking.{Interlocking}
use Rattle.rail_course.specs.Ready.{GiveWhatIsReady}
use Rattle.rail_course.specs.Waits.{IsWait}
use Rattle.rail_course.proofs.Showing.{over_shown}
use Rattle.dispatcher.specs.Waits.{AreWaits, AreWaitsOf}
use Rattle.dispatcher.proofs.Enough.{IsOrderly, ready_when_free}

module _ (d : Station) (routes : List Route) (plan : List (List Command)) (t : TrainNo) where
  waits_many : (rs : List RouteNo) (waits : List (List Wait)) → AreWaitsOf d routes (of_plan routes plan) plan t rs waits → length waits ≡ length rs
  waits_many [] [] a = refl
  waits_many [] (own ∷ waits) a = absurd a
  waits_many (r ∷ rs) [] a = absurd a
  waits_many (r ∷ rs) (own ∷ waits) a = ap suc (waits_many rs waits a.1)

  waits_at : (rs : List RouteNo) (waits : List (List Wait)) → AreWaitsOf d routes (of_plan routes plan) plan t rs waits → (g : ℕ) (r : RouteNo) (own : List Wait) → slice_get rs g ≡ Some r → slice_get waits g ≡ Some own
      → AreWaits d routes (of_plan routes plan) plan (record { train = t; route = r }) own
  waits_at [] [] a g r own e f = cc
  waits_at [] (v ∷ vs) a g r own e f = absurd a
  waits_at (q ∷ qs) [] a g r own e f = absurd a
  waits_at (q ∷ qs) (v ∷ vs) a zero r own e f =
      let route : q ≡ r = cc in
      let same : v ≡ own = cc in
      subst (λ x. AreWaits d routes (of_plan routes plan) plan (record { train = t; route = x }) own) route (subst (AreWaits d routes (of_plan routes plan) plan (record { train = t; route = q })) same a.0)
  waits_at (q ∷ qs) (v ∷ vs) a (suc g) r own e f = waits_at qs vs a.1 g r own e f

  -- the waits of one command more
  pub waits_more : (rs : List RouteNo) (waits : List (List Wait)) (r : RouteNo) (own : List Wait) → AreWaitsOf d routes (of_plan routes plan) plan t rs waits → AreWaits d routes (of_plan routes plan) plan (record { train = t; route = r }) own
      → AreWaitsOf d routes (of_plan routes plan) plan t (rs ++ r ∷ []) (waits ++ own ∷ [])
  waits_more [] [] r own a w = (w, tt)
  waits_more [] (v ∷ vs) r own a w = absurd a
  waits_more (q ∷ qs) [] r own a w = absurd a
  waits_more (q ∷ qs) (v ∷ vs) r own a w = (a.0, waits_more qs vs r own a.1 w)

  waits_known : (rs : List RouteNo) (waits : List (List Wait)) → AreWaitsOf d routes (of_plan routes plan) plan t rs waits → (own : List Wait) (w : Wait) → In own waits → In w own → IsWait d routes (of_plan routes plan) w
  waits_known [] [] a own w m k = absurd m
  waits_known [] (v ∷ vs) a own w m k = absurd a
  waits_known (q ∷ qs) [] a own w m k = absurd a
  waits_known (q ∷ qs) (v ∷ vs) a own w (inl e) k = a.0.known w (subst (In w) (sym e) k)
  waits_known (q ∷ qs) (v ∷ vs) a own w (inr m) k = waits_known qs vs a.1 own w m k

  -- those of the whole path
  pub waits_tell : IsOrderly plan → (waits : List (List Wait)) → AreWaitsOf d routes (of_plan routes plan) plan t (path plan t) waits → GiveWhatIsReady d routes (of_plan routes plan) t waits
  waits_tell orderly waits are = record {
    waits_a_route = waits_many (path plan t) waits are;
    next = λ k r own here there.
        (let c : Command = record { train = t; route = r } in
        let w = waits_at (path plan t) waits are _ r own here there in
        w.over (pasts_at d routes (of_plan routes plan) k) ∙ sym (ready_when_free d routes plan orderly w.before w.step w.later w.split c w.given k here));
    shown = λ own w m i k s histories shows. over_shown d routes (of_plan routes plan) k s histories shows w (waits_known (path plan t) waits are own w m i);
  }

-- a well-formed plan is orderly
pub orderly : (i : Interlocking) (plan : List (List Command)) → IsWellFormed i.design.station i.routes 256 plan → IsOrderly plan
orderly i plan formed = record {
  one = and_right (nat_le (length plan) 256) (list_all one_each plan) (and_left (nat_le (length plan) 256 && list_all one_each plan) (list_all (λ t. is_path (train_of i.design.station t) (path_routes i.routes plan t)) (trains i.design.station)) formed.formed);
  once = path_differs i.design.station (admitted i.design.station i.design.admitted) 256 plan (subst (λ rs. IsWellFormed i.design.station rs 256 plan) i.table formed);
}
