-- Releases and grants, and sums of hops.
use Rattle.std.proofs.Common.{◌≡◌, ℕ, zero, suc, ◌+◌, ◌-◌, ◌≤◌, true, if◌then◌else◌, nat_le, List, length, sum_by, refl, sym, ap, subst, ◌∙◌, arith, leb-true, le-leb}
use Rattle.rail_base.specs.declared.station.Station.{Station}
use Rattle.rail_base.specs.declared.station.SectionNo.{SectionNo}
use Rattle.rail_base.specs.declared.station.TrainNo.{TrainNo}
use Rattle.rail_base.specs.declared.route.Route.{Route}
use Rattle.rail_base.specs.declared.plan.Command.{Command}
use Rattle.rail_base.specs.declared.state.TrainState.{TrainState}
use Rattle.rail_base.specs.Admitted.{IsAdmitted}
use Rattle.rail_base.specs.Members.{In}
use Rattle.rail_base.specs.Stations.{train_length}
use Rattle.rail_spec.specs.Track.{routes_of}
use Rattle.rail_spec.specs.Plans.{route_at, length_mm, has_section, own_sections, sections, shared, own_shared, release_offset, preceding}
use Rattle.rail_spec.specs.Feasible.{IsWellFormed}
use Rattle.rail_spec.specs.Dispatches.{state_of, of_plan, routes_before, is_granted, release, release_of_own, release_of_overlap, state_at}
use Rattle.rail_base.specs.Routes.{held_sections}
use Rattle.rail_base.proofs.Lists.{in_append_left, in_filter_back}
use Rattle.rail_base.proofs.Members.{and_left, and_right, and_both, in_filter}
use Rattle.rail_base.proofs.Sharing.{own_goes_over}
use Rattle.rail_base.specs.declared.state.TrainEvent.{TrainEvent}
use Rattle.rail_laws.proofs.Running.{idle_at_first, come_up_to}
use Rattle.bound_spec.specs.Events.{Takes, has_come_by, granting, reaching}
use Rattle.free_spec.proofs.Heads.{grants_in}
use Rattle.bound_spec.proofs.Clearing.{cleared_before}
use Rattle.bound_spec.proofs.Coming.{come_now}

module _ (d : Station) (routes : List Route) (plan : List (List Command)) where
  abbrev state : ℕ → TrainNo → TrainState
  state k t = state_of (state_at d routes (of_plan routes plan) k) t

  pub clear : (e c : Command) (z : SectionNo) → In e (preceding routes plan c) → In z (own_shared (route_at routes e.route) (route_at routes c.route)) → (x k : ℕ)
      → x ≤ sum_by length_mm (routes_before d routes (of_plan routes plan) e) + release_offset (route_at routes e.route) z + train_length d e.train
      → let release : TrainEvent = reaching e.train (length (routes_before d routes (of_plan routes plan) e) + 1) x in let grant : TrainEvent = granting c.train (length (routes_before d routes (of_plan routes plan) c) + 1) in
      has_come_by d routes plan grant k ≡ true → Takes d routes plan release grant 1 k
  clear e c z pre there x zero near so =
      let l = leb-true _ _ (and_left (nat_le (length (routes_before d routes (of_plan routes plan) c) + 1) (state 0 c.train).granted) (nat_le 0 (state 0 c.train).x) (sym (come_now d routes plan (granting c.train (length (routes_before d routes (of_plan routes plan) c) + 1)) 0 refl) ∙ so)) in
      let s = ap (λ (s : TrainState). s.granted) (idle_at_first d routes (of_plan routes plan) c.train) in
      absurd (omega arith)
  clear e c z pre there x (suc k) near so =
      let l = leb-true _ _ (and_left (nat_le (length (routes_before d routes (of_plan routes plan) c) + 1) (state (suc k) c.train).granted) (nat_le 0 (state (suc k) c.train).x) (sym (come_now d routes plan (granting c.train (length (routes_before d routes (of_plan routes plan) c) + 1)) (suc k) refl) ∙ so)) in
      let granted : is_granted d routes (of_plan routes plan) (state_at d routes (of_plan routes plan) (suc k)) c ≡ true = le-leb (suc (length (routes_before d routes (of_plan routes plan) c))) (state (suc k) c.train).granted (omega arith) in
      let own = in_filter_back (has_section (route_at routes c.route)) (own_sections (route_at routes e.route)) z there in
      let both : In z (shared (route_at routes e.route) (route_at routes c.route)) = in_filter (has_section (route_at routes c.route)) (sections (route_at routes e.route)) z (in_append_left z (own_sections (route_at routes e.route)) (held_sections (route_at routes e.route)) own.0) own.1 in
      let over : release d routes (of_plan routes plan) e z ≡ release_of_own d routes (of_plan routes plan) e z = ap (λ b. if b then release_of_own d routes (of_plan routes plan) e z else release_of_overlap d routes (of_plan routes plan) e z) (own_goes_over (route_at routes e.route) z own.0) in
      let all = sym (ap (λ e. has_come_by d routes plan e k) over ∙ come_now d routes plan (release_of_own d routes (of_plan routes plan) e z) k refl) ∙ (cleared_before d routes (of_plan routes plan) k c granted).each e z pre both in
      let g = leb-true _ _ (and_left (is_granted d routes (of_plan routes plan) (state_at d routes (of_plan routes plan) k) e) _ all) in
      let y = leb-true _ _ (and_right (is_granted d routes (of_plan routes plan) (state_at d routes (of_plan routes plan) k) e) _ all) in
      let back : k ≡ suc k - 1 = omega arith in
      let release : TrainEvent = reaching e.train (length (routes_before d routes (of_plan routes plan) e) + 1) x in
      let now : has_come_by d routes plan release k ≡ true = come_now d routes plan release k refl ∙ and_both _ _ (le-leb (length (routes_before d routes (of_plan routes plan) e) + 1) (state k e.train).granted (omega arith)) (le-leb x (state k e.train).x (omega arith)) in
      record { not_before = omega arith; happened = subst (λ i. has_come_by d routes plan release i ≡ true) back now }

  pub add : (e f g : TrainEvent) (a b k : ℕ) → ((i : ℕ) → has_come_by d routes plan f i ≡ true → Takes d routes plan e f a i) → Takes d routes plan f g b k → Takes d routes plan e g (a + b) k
  add e f g a b k hop later =
      let first = hop (k - b) later.happened in
      let p = later.not_before in
      let q = first.not_before in
      let same : k - b - a ≡ k - (a + b) = omega arith in
      record { not_before = omega arith; happened = subst (λ i. has_come_by d routes plan e i ≡ true) same first.happened }

module _ (d : Station) (adm : IsAdmitted d) (n : ℕ) (plan : List (List Command)) (well : IsWellFormed d (routes_of d) n plan) where
  abbrev at : ℕ → TrainNo → TrainState
  at k t = state_of (state_at d (routes_of d) (of_plan (routes_of d) plan) k) t

  pub next : (t : TrainNo) (i j k : ℕ) → i ≤ j → let first : TrainEvent = granting t i in let second : TrainEvent = granting t j in
      has_come_by d (routes_of d) plan second k ≡ true → Takes d (routes_of d) plan first second (j - i) k
  next t i j k order so =
      let start = ap (λ (s : TrainState). s.granted) (idle_at_first d (routes_of d) (of_plan (routes_of d) plan) t) in
      let by = leb-true j (at k t).granted (and_left (nat_le j (at k t).granted) (nat_le 0 (at k t).x) (sym (come_now d (routes_of d) plan (granting t j) k refl) ∙ so)) in
      let g = grants_in d adm n plan well.formed t 0 k in
      let z : 0 + k ≡ k = omega arith in
      let gz = ap (λ i. (at i t).granted) z in
      let low : j - i ≤ k = omega arith in
      let h = grants_in d adm n plan well.formed t (k - (j - i)) (j - i) in
      let w : k - (j - i) + (j - i) ≡ k = omega arith in
      let hz = ap (λ i. (at i t).granted) w in
      record { not_before = low; happened = come_now d (routes_of d) plan (granting t i) (k - (j - i)) refl ∙ and_both _ _ (le-leb i (at (k - (j - i)) t).granted (omega arith)) (le-leb 0 (at (k - (j - i)) t).x (omega arith)) }

  pub fewer : (e f : TrainEvent) (a b k : ℕ) → a ≤ b → Takes d (routes_of d) plan e f b k → Takes d (routes_of d) plan e f a k
  fewer e f a b k less h =
      let p = h.not_before in
      record { not_before = omega arith; happened = come_up_to d (routes_of d) (of_plan (routes_of d) plan) (k - b) (k - a) e (omega arith) h.happened }
