-- A train's clock, and the next end of a hold by it.
use Rattle.std.proofs.Common.{◌≡◌, ℕ, zero, suc, ◌+◌, ◌-◌, ◌≤◌, ◌<◌, ◌⊎◌, inl, inr, true, if◌then◌else◌, nat_le, min, List, All, Option, None, Some, option_map, refl, sym, ap, subst, ◌∙◌, arith, leb-true, le-leb}
use Rattle.rail_base.specs.declared.station.Station.{Station}
use Rattle.rail_base.specs.declared.station.NodeNo.{NodeNo}
use Rattle.rail_base.specs.declared.station.TrainNo.{TrainNo}
use Rattle.rail_base.specs.declared.route.Route.{Route}
use Rattle.rail_base.specs.declared.state.Event.{Event}
use Rattle.rail_base.specs.declared.state.PathNode.{PathNode}
use Rattle.rail_base.specs.Members.{In}
use Rattle.rail_base.specs.Routes.{IsRoute}
use Rattle.rail_base.proofs.Members.{below_or_not}
use Rattle.rail_laws.proofs.Standing.{at_in, not_le}
use Rattle.rail_spec.specs.Dispatches.{Dispatch}
use Rattle.rail_spec.specs.Visits.{passed, path_nodes_of_train}
use Rattle.rail_course.specs.declared.journey.Hold.{Hold}
use Rattle.rail_course.specs.Clocks.{own_ticks, IsConcernedFirst}
use Rattle.rail_course.specs.Holds.{holds_of_train}
use Rattle.rail_course.specs.Marks.{pass_mark}
use Rattle.rail_course.specs.Tracks.{AreLaid}
use Rattle.rail_course.proofs.Arriving.{mark_of_hold, node_of_hold}
use Rattle.rail_course.proofs.Holding.{grants_of_hold}
use Rattle.rail_course.proofs.Lasting.{happened_at_clock}
use Rattle.quiet_spec.specs.Quiet.{EndsNoHold, IsNotReached}
use Rattle.dispatch_run.specs.Drifts.{followed_ticks}
use Rattle.dispatch_run.specs.FollowedTrains.{follows}

module _ (dispatch : Dispatch) (t : TrainNo) where
  -- ---- the clock of who is followed

  -- it goes on in the ticks in which the train is followed
  pub clock_goes : (until : Option ℕ) → ((k : ℕ) → dispatch.concerns k t ≡ follows until k) → (k n : ℕ) → own_ticks dispatch (k + n) t ≡ own_ticks dispatch k t + followed_ticks until k n
  clock_goes None h k zero = let z : k + 0 ≡ k = omega arith in ap (λ m. own_ticks dispatch m t) z ∙ omega arith
  clock_goes None h k (suc n) =
      let z : k + suc n ≡ suc (k + n) = omega arith in
      let before = clock_goes None h k n in
      ap (λ m. own_ticks dispatch m t) z
      ∙ ap (λ b. if b then suc (own_ticks dispatch (k + n) t) else own_ticks dispatch (k + n) t) (h (suc (k + n))) ∙ omega arith
  clock_goes (Some last) h k zero = let z : k + 0 ≡ k = omega arith in ap (λ m. own_ticks dispatch m t) z ∙ omega arith
  clock_goes (Some last) h k (suc n) =
      let z : k + suc n ≡ suc (k + n) = omega arith in
      ap (λ m. own_ticks dispatch m t) z
      ∙ ap (λ b. if b then suc (own_ticks dispatch (k + n) t) else own_ticks dispatch (k + n) t) (h (suc (k + n)))
      ∙ go (clock_goes (Some last) h k n) (below_or_not (k + n) last)
    where
      go : own_ticks dispatch (k + n) t ≡ own_ticks dispatch k t + min n (last - k) → (k + n < last) ⊎ (last ≤ k + n)
          → (if nat_le (suc (k + n)) last then suc (own_ticks dispatch (k + n) t) else own_ticks dispatch (k + n) t) ≡ own_ticks dispatch k t + min (suc n) (last - k)
      go before (inl less) = ap (λ b. if b then suc (own_ticks dispatch (k + n) t) else own_ticks dispatch (k + n) t) (le-leb (suc (k + n)) last less) ∙ omega arith
      go before (inr past) = ap (λ b. if b then suc (own_ticks dispatch (k + n) t) else own_ticks dispatch (k + n) t) (not_le (suc (k + n)) last (omega arith)) ∙ omega arith

  -- so it shows in how many ticks the train is followed
  pub clock_is : (until : Option ℕ) → ((k : ℕ) → dispatch.concerns k t ≡ follows until k) → (k : ℕ) → own_ticks dispatch k t ≡ followed_ticks until 0 k
  clock_is until h k =
      let z : 0 + k ≡ k = omega arith in
      ap (λ m. own_ticks dispatch m t) (sym z) ∙ clock_goes until h 0 k ∙ omega arith

  -- its first ticks are those in which it is followed
  pub concerned_first : (until : Option ℕ) → ((k : ℕ) → dispatch.concerns k t ≡ follows until k) → IsConcernedFirst dispatch t
  concerned_first until h k some now = h k ∙ go until (sym (h (suc k)) ∙ now)
    where
      go : (u : Option ℕ) → follows u (suc k) ≡ true → follows u k ≡ true
      go None e = refl
      go (Some last) e = let l = leb-true (suc k) last e in le-leb k last (omega arith)

module _ (d : Station) (routes : List Route) (laid : AreLaid d routes) (dispatch : Dispatch) (t : TrainNo) (named : All (IsRoute routes) (dispatch.path t)) where
  -- the place from which on a section is held is that of a node of the path
  pub at_node : (P : ℕ → Type 0) → ((q : PathNode) → In q (path_nodes_of_train d routes dispatch t) → P q.event.place) → (h : Hold) → In h (holds_of_train d routes dispatch t) → P h.event.event.place
  at_node P nodes h m =
      let n = node_of_hold d routes laid dispatch t named h m in
      subst (λ (e : Event). P e.place) n.event (nodes n.path_node (at_in (path_nodes_of_train d routes dispatch t) h.node n.path_node n.there).0)

  -- before the next end by the clock no hold ends
  pub ends_none : IsConcernedFirst dispatch t → (k m clock end : ℕ) (passes : List (NodeNo × Option ℕ)) (holds : List Hold) → passes ≡ passed d routes dispatch k t → holds ≡ holds_of_train d routes dispatch t
      → clock ≡ own_ticks dispatch k t → own_ticks dispatch m t < end
      → ((h : Hold) → In h holds → (a : ℕ) → pass_mark passes h.node ≡ Some a → (a + h.event.ticks ≤ clock) ⊎ (end ≤ a + h.event.ticks)) → EndsNoHold d routes dispatch k m t
  ends_none first k m clock end passes holds here are now short least_end h i a found =
      go (least_end h (subst (In h) (sym are) i) a (ap (λ ps. pass_mark ps h.node) here ∙ mark_of_hold d routes laid dispatch t named k h i ∙ found))
    where
      by_clock : own_ticks dispatch a t ≡ a
      by_clock =
          let same : Some (own_ticks dispatch a t) ≡ Some a =
          ap (option_map (λ j. own_ticks dispatch j t)) (sym found)
          ∙ happened_at_clock d routes dispatch t h.event.event (grants_of_hold d routes dispatch t h i) first k ∙ found in
          cc

      go : (a + h.event.ticks ≤ clock) ⊎ (end ≤ a + h.event.ticks) → IsNotReached (own_ticks dispatch k t) (own_ticks dispatch m t) (own_ticks dispatch a t + h.event.ticks)
      go (inl past) = let e = by_clock in inl (omega arith)
      go (inr later) = let e = by_clock in inr (omega arith)
