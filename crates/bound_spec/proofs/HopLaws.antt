-- The laws of hops, as they are said.
use Rattle.std.proofs.Common.{◌≡◌, ℕ, ◌+◌, ◌-◌, ◌≤◌, ◌<◌, max, true, List, ◌++◌, take, length, sum_by, refl, ap, ◌∙◌, arith, le_refl, take_all}
use Rattle.std.proofs.lemmas.List.{take-append-le}
use Rattle.rail_base.specs.declared.station.Station.{Station}
use Rattle.rail_base.specs.declared.station.TrainNo.{TrainNo}
use Rattle.rail_base.specs.declared.route.Route.{Route}
use Rattle.rail_base.specs.declared.plan.Command.{Command}
use Rattle.rail_base.specs.Admitted.{IsAdmitted}
use Rattle.rail_base.specs.declared.state.TrainEvent.{TrainEvent}
use Rattle.rail_spec.specs.Track.{routes_of}
use Rattle.rail_spec.specs.Plans.{length_mm, path, path_routes}
use Rattle.rail_spec.specs.Feasible.{IsWellFormed}
use Rattle.bound_spec.specs.Events.{Takes, has_come_by, granting, heading, reaching}
use Rattle.free_spec.specs.Legs.{Leg, HasLeg, least_ticks, least_ticks_waited}
use Rattle.free_spec.proofs.Following.{has_train}
use Rattle.bound_spec.proofs.Hops.{leg_hop, wait_hop}

module _ (d : Station) (adm : IsAdmitted d) (n : ℕ) (plan : List (List Command)) (well : IsWellFormed d (routes_of d) n plan) where
  pub between : (e f : TrainEvent) → e.ticks ≡ 0 → f.ticks ≡ 0 → e.train ≡ f.train → e.event.granted ≤ length (path plan e.train) → e.event.granted ≤ f.event.granted → e.event.place ≤ f.event.place → (before : List Route) (l : Leg) → HasLeg (routes_of d) plan e.train before l
      → (h x y k : ℕ) → max (sum_by length_mm (take (e.event.granted - 1) (path_routes (routes_of d) plan e.train))) (e.event.place - 1) ≤ sum_by length_mm before + x → sum_by length_mm before + y ≤ f.event.place → has_come_by d (routes_of d) plan f k ≡ true → Takes d (routes_of d) plan e f (least_ticks d e.train l h x y - 1) k
  between e f ends begins one high = leg_hop d adm n plan well.formed e f ends begins one (λ some. has_train d adm n plan well e.train (omega arith)) high

  pub waited : (e f : TrainEvent) → e.ticks ≡ 0 → f.ticks ≡ 0 → e.train ≡ f.train → 1 ≤ e.event.granted → e.event.granted ≤ length (path plan e.train) → e.event.place ≡ 0 → e.event.granted ≤ f.event.granted → e.event.place ≤ f.event.place → (before : List Route) (l : Leg) → HasLeg (routes_of d) plan e.train before l
      → (h x y k : ℕ) → sum_by length_mm (take (e.event.granted - 1) (path_routes (routes_of d) plan e.train)) ≤ sum_by length_mm before + x → sum_by length_mm before + y ≤ f.event.place → has_come_by d (routes_of d) plan f k ≡ true → Takes d (routes_of d) plan e f (least_ticks_waited d e.train l h x y - 1) k
  waited e f ends begins one some high = wait_hop d adm n plan well.formed e f ends begins one (has_train d adm n plan well e.train (omega arith)) some high

  pub run : (t : TrainNo) (before : List Route) (l : Leg) → HasLeg (routes_of d) plan t before l → length before < length (path plan t) → (h y j k : ℕ) → length before < j
      → let grant : TrainEvent = granting t (length before + 1) in let there : TrainEvent = reaching t j (sum_by length_mm before + y) in
      has_come_by d (routes_of d) plan there k ≡ true → Takes d (routes_of d) plan grant there (least_ticks_waited d t l h 0 y - 1) k
  run t before l has some h y j k later so =
      let number : length before + 1 - 1 ≡ length before = omega arith in
      let prefix : take (length before) (path_routes (routes_of d) plan t) ≡ before = ap (take (length before)) has.whole ∙ take-append-le (length before) before (l.routes ++ has.more) (le_refl _) ∙ take_all (length before) before (le_refl _) in
      let end : sum_by length_mm (take (length before + 1 - 1) (path_routes (routes_of d) plan t)) ≡ sum_by length_mm before = ap (λ i. sum_by length_mm (take i (path_routes (routes_of d) plan t))) number ∙ ap (sum_by length_mm) prefix in
      waited (granting t (length before + 1)) (reaching t j (sum_by length_mm before + y)) refl refl refl (omega arith) (omega arith) refl (omega arith) (omega arith) before l has h 0 y k (omega arith) (omega arith) so

  pub on : (t : TrainNo) (before : List Route) (l : Leg) → HasLeg (routes_of d) plan t before l → (h x y k : ℕ) → x ≤ y
      → let first : TrainEvent = heading t (sum_by length_mm before + x) in let there : TrainEvent = heading t (sum_by length_mm before + y) in
      has_come_by d (routes_of d) plan there k ≡ true → Takes d (routes_of d) plan first there (least_ticks d t l h (x - 1) y - 1) k
  on t before l has h x y k walk so =
      between (heading t (sum_by length_mm before + x)) (heading t (sum_by length_mm before + y)) refl refl refl (omega arith) (omega arith) (omega arith) before l has h (x - 1) y k (omega arith) (omega arith) so
