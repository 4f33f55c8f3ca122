-- A chain of rides takes its ticks.
use Rattle.std.proofs.Common.{◌≡◌, ℕ, ◌+◌, ◌-◌, ◌≤◌, ◌<◌, inl, inr, Bool, true, false, List, [], ◌∷◌, ◌++◌, map, take, length, sum_by, slice_get, Some, refl, sym, ap, subst, ◌∙◌, arith, nat_le, leb-true, leb-false, le_refl, take_all, true≢false}
use Rattle.std.proofs.lemmas.List.{take-append-le, append_assoc, length-append, map-append}
use Rattle.std.proofs.lemmas.List.Sums.{sum_by-append, sum_by-cons}
use Rattle.rail_base.specs.declared.station.Station.{Station}
use Rattle.rail_base.specs.declared.station.SectionNo.{SectionNo}
use Rattle.rail_base.specs.declared.station.TrainNo.{TrainNo}
use Rattle.rail_base.specs.declared.route.Route.{Route}
use Rattle.rail_base.specs.declared.route.RouteNo.{RouteNo}
use Rattle.rail_base.specs.declared.route.Start.{Start}
use Rattle.rail_base.specs.declared.route.Start.TheVariants as start
use Rattle.rail_base.specs.declared.plan.Command.{Command}
use Rattle.rail_base.specs.declared.state.TrainState.{TrainState}
use Rattle.rail_base.specs.Admitted.{IsAdmitted}
use Rattle.rail_base.specs.Members.{In, all_neighbors}
use Rattle.rail_base.specs.Stations.{IsTrain, train_length}
use Rattle.rail_spec.specs.Track.{routes_of}
use Rattle.rail_spec.specs.Plans.{route_at, length_mm, own_shared, release_offset, path, path_routes, preceding, goes_on}
use Rattle.rail_spec.specs.Feasible.{IsWellFormed}
use Rattle.rail_spec.specs.Dispatches.{state_of, of_plan, routes_before, state_at}
use Rattle.rail_base.proofs.Members.{and_left, and_right}
use Rattle.rail_base.proofs.Lists.{length-map}
use Rattle.rail_laws.proofs.Admits.{sections_there}
use Rattle.cone_spec.specs.Validity.{from_boundary}
use Rattle.cone_spec.proofs.Prefixes.{not_to_boundary}
use Rattle.bound_spec.specs.Events.{Takes, has_come_by, granting, reaching}
use Rattle.free_spec.specs.Legs.{HasLeg, least_ticks_waited}
use Rattle.bound_spec.specs.Walks.{LieIn}
use Rattle.bound_spec.specs.Rides.{Ride, first_place, greatest_of, release_place, least_route, run_ticks, ride_ticks, release_ticks, chain_ticks, Rides, walk_of, first_of, first_command, last_command, granted_first, reaches, Chained, arrives, on_ticks, chain_ticks_from, passes, first_target, wait_ticks, waits_out}
use Rattle.free_spec.specs.Legs.{least_ticks}
use Rattle.free_spec.proofs.Moves.{takes}
use Rattle.free_spec.proofs.Waiting.{waited}
use Rattle.free_spec.proofs.Following.{has_train, whatever_follows}
use Rattle.bound_spec.proofs.Hops.{hop_by, at_start, not_granted, not_yet}
use Rattle.bound_spec.proofs.Walks.{path_goes, through_places}
use Rattle.bound_spec.proofs.Links.{clear, add, fewer}

-- ---- lists

get_after : {X : Type 0} (xs : List X) (y : X) (ys : List X) → slice_get (xs ++ y ∷ ys) (length xs) ≡ Some y
get_after [] y ys = refl
get_after (x ∷ xs) y ys = get_after xs y ys

take_prefix : {X : Type 0} (xs ys : List X) → take (length xs) (xs ++ ys) ≡ xs
take_prefix xs ys = take-append-le (length xs) xs ys (le_refl _) ∙ take_all (length xs) xs (le_refl _)

greatest_is : (f : SectionNo → ℕ) (zs : List SectionNo) (z : SectionNo) → In z zs → (y : SectionNo) × In y zs × (greatest_of f zs ≤ f y)
greatest_is f [] z m = absurd m
greatest_is f (a ∷ []) z m = (a, inl refl, omega arith)
greatest_is f (a ∷ b ∷ zs) z m = go (greatest_is f (b ∷ zs) b (inl refl)) (nat_le (f a) (greatest_of f (b ∷ zs))) refl
  where
    go : ((y : SectionNo) × In y (b ∷ zs) × (greatest_of f (b ∷ zs) ≤ f y)) → (c : Bool) → nat_le (f a) (greatest_of f (b ∷ zs)) ≡ c → (y : SectionNo) × In y (a ∷ b ∷ zs) × (greatest_of f (a ∷ b ∷ zs) ≤ f y)
    go (y, i, l) true e = let k = leb-true _ _ e in (y, inr i, omega arith)
    go (y, i, l) false e = let k = leb-false _ _ e in (a, inl refl, omega arith)

least_of_route : (f : Route → ℕ) (n : ℕ) (qs : List Route) (q : Route) → In q qs → least_route f n qs ≤ f q
least_of_route f n [] q m = absurd m
least_of_route f n (a ∷ qs) q (inl e) = let k = ap f e in omega arith
least_of_route f n (a ∷ qs) q (inr m) = let k = least_of_route f n qs q m in omega arith

starts_first : (bs : List Route) (w : Route) (rest ws : List Route) → all_neighbors (λ r q. goes_on r.finish q.start) (bs ++ w ∷ rest) ≡ true → from_boundary (w ∷ ws) ≡ true → bs ≡ []
starts_first [] w rest ws g h = refl
starts_first (b ∷ []) w rest ws g h = go w.start refl (and_left (goes_on b.finish w.start) _ g)
  where
    go : (s : Start) → w.start ≡ s → goes_on b.finish w.start ≡ true → b ∷ [] ≡ []
    go (start.Boundary n) e k = absurd (true≢false (sym k ∙ ap (goes_on b.finish) e ∙ not_to_boundary b.finish n))
    go (start.Signal n) e k = cc
starts_first (b ∷ c ∷ bs) w rest ws g h = let k = starts_first (c ∷ bs) w rest ws (and_right (goes_on b.finish c.start) _ g) h in cc

starts_there : (bs ws more : List Route) → all_neighbors (λ r q. goes_on r.finish q.start) (bs ++ (ws ++ more)) ≡ true → from_boundary ws ≡ true → bs ≡ []
starts_there bs [] more g h = absurd (true≢false (sym h))
starts_there bs (w ∷ ws) more g h = starts_first bs w (ws ++ more) ws g h

module _ (d : Station) (adm : IsAdmitted d) (n : ℕ) (plan : List (List Command)) (well : IsWellFormed d (routes_of d) n plan) (h : ℕ) where
  abbrev at : ℕ → TrainNo → TrainState
  at k t = state_of (state_at d (routes_of d) (of_plan (routes_of d) plan) k) t

  -- the routes before a command in a path
  before_is : (t : TrainNo) (xs : List RouteNo) (r : RouteNo) (ys : List RouteNo) → path plan t ≡ xs ++ (r ∷ ys) → routes_before d (routes_of d) (of_plan (routes_of d) plan) (record { train = t; route = r }) ≡ map (route_at (routes_of d)) xs
  before_is t xs r ys e =
      let long : length (path plan t) ≡ length xs + length (r ∷ ys) = ap length e ∙ length-append xs (r ∷ ys) in
      let named = has_train d adm n plan well t (omega arith) in
      let once = (sections_there d adm n plan well.formed).once t (length xs) r named (ap (λ ps. slice_get ps (length xs)) e ∙ get_after xs r ys) in
      ap (map (route_at (routes_of d))) (once ∙ ap (take (length xs)) e ∙ take_prefix xs (r ∷ ys))

  module _ (r : Ride) (i : Rides d (routes_of d) plan r) where
    abbrev f : RouteNo → Route
    f p = route_at (routes_of d) p

    abbrev walk : List Route
    walk = walk_of d (routes_of d) plan r i

    abbrev before_routes : List Route
    before_routes = map f i.before

    count : length (path plan r.train) ≡ length i.before + (length i.prefix + length (i.last ∷ i.more))
    count = ap length i.whole ∙ length-append i.before (i.prefix ++ i.last ∷ i.more) ∙ ap (λ m. length i.before + m) (length-append i.prefix (i.last ∷ i.more))

    named : IsTrain d r.train
    named = let c = count in has_train d adm n plan well r.train (omega arith)

    split : path_routes (routes_of d) plan r.train ≡ before_routes ++ (walk ++ map f i.more)
    split =
        ap (map f) (i.whole ∙ ap (λ zs. i.before ++ zs) (sym (append_assoc i.prefix (i.last ∷ []) i.more)))
        ∙ map-append f i.before ((i.prefix ++ i.last ∷ []) ++ i.more) ∙ ap (λ zs. before_routes ++ zs) (map-append f (i.prefix ++ i.last ∷ []) i.more)

    has_walk : HasLeg (routes_of d) plan r.train before_routes (record { routes = walk; closed = false; rest = from_boundary walk })
    has_walk = record {
      more = map f i.more;
      whole = split;
      shut = λ e. absurd (true≢false (sym e));
      begins = λ e. starts_there before_routes walk (map f i.more) (path_goes d adm n plan well r.train (before_routes ++ (walk ++ map f i.more)) split) e;
    }

    end_is : sum_by length_mm (take (length i.before + 1 - 1) (path_routes (routes_of d) plan r.train)) ≡ sum_by length_mm before_routes
    end_is =
        let l = length-map f i.before in
        let e : length i.before + 1 - 1 ≡ length before_routes = omega arith in
        ap (λ m. sum_by length_mm (take m (path_routes (routes_of d) plan r.train))) e ∙ ap (λ zs. sum_by length_mm (take (length before_routes) zs)) split ∙ ap (sum_by length_mm) (take_prefix before_routes (walk ++ map f i.more))

    -- from the grant of its first route to a place
    run_takes : (y k : ℕ) → has_come_by d (routes_of d) plan (reaches d (routes_of d) plan r i y) k ≡ true → Takes d (routes_of d) plan (granted_first d (routes_of d) plan r i) (reaches d (routes_of d) plan r i y) (run_ticks d (routes_of d) h r.train walk y) k
    run_takes y k so =
        let c = count in
        let e = end_is in
        hop_by d adm n plan well.formed (granted_first d (routes_of d) plan r i) (reaches d (routes_of d) plan r i y) refl refl refl (omega arith) (omega arith) (λ a. (at a r.train).granted < length i.before + 1)
        (let s = (at_start d adm n plan well.formed r.train).0 in omega arith) (λ a no. not_granted d adm n plan well.formed (granted_first d (routes_of d) plan r i) a refl refl no) _
        (λ a b short there. whatever_follows d adm n plan well r.train before_routes walk (from_boundary walk) has_walk (λ l. least_ticks_waited d r.train l h 0 y) b
        (λ l own. waited d adm n plan well.formed r.train before_routes l own (length i.before + 1) a 0 y named (omega arith) short (omega arith) h b there)) k so

    -- from one place to another
    on_takes : (x y k : ℕ) → x ≤ y → has_come_by d (routes_of d) plan (reaches d (routes_of d) plan r i y) k ≡ true → Takes d (routes_of d) plan (passes d (routes_of d) plan r i x) (reaches d (routes_of d) plan r i y) (on_ticks d (routes_of d) h r.train walk x y) k
    on_takes x y k order so =
        let c = count in
        let e = end_is in
        hop_by d adm n plan well.formed (passes d (routes_of d) plan r i x) (reaches d (routes_of d) plan r i y) refl refl refl (omega arith) (omega arith) (λ a. (at a r.train).x ≤ sum_by length_mm before_routes + (x - 1))
        (let s = (at_start d adm n plan well.formed r.train).1 in omega arith) (λ a no. let w = not_yet d adm n plan well.formed (passes d (routes_of d) plan r i x) a refl (λ some. named) (omega arith) no in omega arith) _
        (λ a b near there. whatever_follows d adm n plan well r.train before_routes walk (from_boundary walk) has_walk (λ l. least_ticks d r.train l h (x - 1) y) b
        (λ l own. takes d adm n plan well.formed r.train before_routes l own h a b (x - 1) y near there)) k so

    pub ride_takes : (target : List Route → ℕ) (k : ℕ) → has_come_by d (routes_of d) plan (reaches d (routes_of d) plan r i (target walk)) k ≡ true
        → Takes d (routes_of d) plan (granted_first d (routes_of d) plan r i) (reaches d (routes_of d) plan r i (target walk)) (ride_ticks d (routes_of d) h r target) k
    ride_takes target k so =
        fewer d adm n plan well (granted_first d (routes_of d) plan r i) (reaches d (routes_of d) plan r i (target walk)) (ride_ticks d (routes_of d) h r target) (run_ticks d (routes_of d) h r.train walk (target walk)) k
        (through_places d adm n plan well r.train before_routes walk (map f i.more) split r.places i.lies (λ rs. run_ticks d (routes_of d) h r.train rs (target rs)) h _ (le_refl _)) (run_takes (target walk) k so)

    -- to where it has released what the next waits for
    module _ (s : Ride) (j : Rides d (routes_of d) plan s) where
      abbrev next : Route
      next = f (first_of d (routes_of d) plan j.prefix j.last)

      abbrev place : ℕ
      place = release_place d r.train walk next

      pub next_in : In next (first_place s)
      next_in = go j.prefix s.places j.lies
        where
          go : (prefix : List RouteNo) (ps : List (List Route)) → LieIn (map f (prefix ++ j.last ∷ [])) ps → In (f (first_of d (routes_of d) plan prefix j.last)) (first_place (record { train = s.train; places = ps }))
          go [] (p ∷ ps) lie = lie.0
          go [] [] lie = absurd lie
          go (q ∷ prefix) (p ∷ ps) lie = lie.0
          go (q ∷ prefix) [] lie = absurd lie

      release_takes : (k : ℕ) → has_come_by d (routes_of d) plan (reaches d (routes_of d) plan r i place) k ≡ true → Takes d (routes_of d) plan (granted_first d (routes_of d) plan r i) (reaches d (routes_of d) plan r i place) (release_ticks d (routes_of d) h r s) k
      release_takes k so =
          fewer d adm n plan well (granted_first d (routes_of d) plan r i) (reaches d (routes_of d) plan r i place) (release_ticks d (routes_of d) h r s) (run_ticks d (routes_of d) h r.train walk place) k
          (through_places d adm n plan well r.train before_routes walk (map f i.more) split r.places i.lies (λ rs. least_route (λ q. run_ticks d (routes_of d) h r.train rs (release_place d r.train rs q)) h (first_place s)) h _
          (least_of_route (λ q. run_ticks d (routes_of d) h r.train walk (release_place d r.train walk q)) h (first_place s) next next_in))
          (run_takes place k so)

      place_is : (prefix : List RouteNo) → release_place d r.train (map f (prefix ++ i.last ∷ [])) next ≡ sum_by length_mm (map f prefix) + (greatest_of (release_offset (f i.last)) (own_shared (f i.last) next) + train_length d r.train)
      place_is [] = omega arith
      place_is (p ∷ []) = let s = sum_by-cons length_mm (f p) [] in omega arith
      place_is (p ∷ q ∷ ps) = let k = place_is (q ∷ ps) in let s = sum_by-cons length_mm (f p) (map f (q ∷ ps)) in omega arith

      first_is : (prefix : List RouteNo) (last : RouteNo) (more : List RouteNo) → (rest : List RouteNo) × (prefix ++ last ∷ more ≡ first_of d (routes_of d) plan prefix last ∷ rest)
      first_is [] last more = (more, refl)
      first_is (p ∷ prefix) last more = (prefix ++ last ∷ more, refl)

      link : In (last_command d (routes_of d) plan r i) (preceding (routes_of d) plan (first_command d (routes_of d) plan s j)) → (z : SectionNo) → In z (own_shared (f i.last) next) → (k : ℕ) → has_come_by d (routes_of d) plan (granted_first d (routes_of d) plan s j) k ≡ true
          → Takes d (routes_of d) plan (reaches d (routes_of d) plan r i place) (granted_first d (routes_of d) plan s j) 1 k
      link pre z m k so = go (greatest_is (release_offset (f i.last)) (own_shared (f i.last) next) z m)
        where
          e_before : routes_before d (routes_of d) (of_plan (routes_of d) plan) (last_command d (routes_of d) plan r i) ≡ map f (i.before ++ i.prefix)
          e_before = before_is r.train (i.before ++ i.prefix) i.last i.more (i.whole ∙ sym (append_assoc i.before i.prefix (i.last ∷ i.more)))

          c_before : routes_before d (routes_of d) (of_plan (routes_of d) plan) (first_command d (routes_of d) plan s j) ≡ map f j.before
          c_before = let w = first_is j.prefix j.last j.more in before_is s.train j.before (first_of d (routes_of d) plan j.prefix j.last) w.0 (j.whole ∙ ap (λ zs. j.before ++ zs) w.1)

          c_number : length (routes_before d (routes_of d) (of_plan (routes_of d) plan) (first_command d (routes_of d) plan s j)) + 1 ≡ length j.before + 1
          c_number = ap (λ zs. length zs + 1) c_before ∙ ap (λ m. m + 1) (length-map f j.before)

          e_number : length (routes_before d (routes_of d) (of_plan (routes_of d) plan) (last_command d (routes_of d) plan r i)) + 1 ≡ length i.before + length i.prefix + 1
          e_number = ap (λ zs. length zs + 1) e_before ∙ ap (λ m. m + 1) (length-map f (i.before ++ i.prefix) ∙ length-append i.before i.prefix)

          e_sum : sum_by length_mm (routes_before d (routes_of d) (of_plan (routes_of d) plan) (last_command d (routes_of d) plan r i)) ≡ sum_by length_mm before_routes + sum_by length_mm (map f i.prefix)
          e_sum = ap (sum_by length_mm) (e_before ∙ map-append f i.before i.prefix) ∙ sum_by-append length_mm before_routes (map f i.prefix)

          go : ((y : SectionNo) × In y (own_shared (f i.last) next) × (greatest_of (release_offset (f i.last)) (own_shared (f i.last) next) ≤ release_offset (f i.last) y)) → Takes d (routes_of d) plan (reaches d (routes_of d) plan r i place) (granted_first d (routes_of d) plan s j) 1 k
          go (y, my, most) =
              let e1 = e_sum in
              let e2 = place_is i.prefix in
              let so' = subst (λ (m : ℕ). has_come_by d (routes_of d) plan (granting s.train m) k ≡ true) (sym c_number) so in
              let h = clear d (routes_of d) plan (last_command d (routes_of d) plan r i) (first_command d (routes_of d) plan s j) y pre my (sum_by length_mm before_routes + place) k (omega arith) so' in
              subst (λ (m : ℕ). Takes d (routes_of d) plan (reaching r.train m (sum_by length_mm before_routes + place)) (granted_first d (routes_of d) plan s j) 1 k) e_number
              (subst (λ (m : ℕ). Takes d (routes_of d) plan (reaching r.train (length (routes_before d (routes_of d) (of_plan (routes_of d) plan) (last_command d (routes_of d) plan r i)) + 1) (sum_by length_mm before_routes + place)) (granting s.train m) 1 k) c_number h)

  pub chain_takes : (r : Ride) (i : Rides d (routes_of d) plan r) (ss : List Ride) (c : Chained d (routes_of d) plan r i ss) (target : List Route → ℕ) (k : ℕ) → has_come_by d (routes_of d) plan (arrives d (routes_of d) plan r i ss c target) k ≡ true
      → Takes d (routes_of d) plan (granted_first d (routes_of d) plan r i) (arrives d (routes_of d) plan r i ss c target) (chain_ticks d (routes_of d) h r ss target) k
  chain_takes r i [] c target k so = ride_takes r i target k so
  chain_takes r i (s ∷ ss) c target k so =
      let j = c.0 in
      let released = reaches d (routes_of d) plan r i (place r i s j) in
      let last = arrives d (routes_of d) plan s j ss c.3 target in
      add d (routes_of d) plan (granted_first d (routes_of d) plan r i) released last (release_ticks d (routes_of d) h r s) (1 + chain_ticks d (routes_of d) h s ss target) k (release_takes r i s j)
      (add d (routes_of d) plan released (granted_first d (routes_of d) plan s j) last 1 (chain_ticks d (routes_of d) h s ss target) k (link r i s j c.1 c.2.0 c.2.1) (chain_takes s j ss c.3 target k so))

  -- the same to the grant for which the last ride waits
  pub waits_take : (r : Ride) (i : Rides d (routes_of d) plan r) (ss : List Ride) (c : Chained d (routes_of d) plan r i ss) (k : ℕ) → has_come_by d (routes_of d) plan (waits_out d (routes_of d) plan r i ss c) k ≡ true
      → Takes d (routes_of d) plan (granted_first d (routes_of d) plan r i) (waits_out d (routes_of d) plan r i ss c) (wait_ticks d (routes_of d) h r ss) k
  waits_take r i [] c k so = let same : k ≡ k - 0 = omega arith in record { not_before = omega arith; happened = subst (λ i'. has_come_by d (routes_of d) plan (granted_first d (routes_of d) plan r i) i' ≡ true) same so }
  waits_take r i (s ∷ ss) c k so =
      let j = c.0 in
      let released = reaches d (routes_of d) plan r i (place r i s j) in
      let last = waits_out d (routes_of d) plan s j ss c.3 in
      add d (routes_of d) plan (granted_first d (routes_of d) plan r i) released last (release_ticks d (routes_of d) h r s) (1 + wait_ticks d (routes_of d) h s ss) k (release_takes r i s j)
      (add d (routes_of d) plan released (granted_first d (routes_of d) plan s j) last 1 (wait_ticks d (routes_of d) h s ss) k (link r i s j c.1 c.2.0 c.2.1) (waits_take s j ss c.3 k so))

  pub chain_takes_from : (origin : List Route → ℕ) (r : Ride) (i : Rides d (routes_of d) plan r) (ss : List Ride) (c : Chained d (routes_of d) plan r i ss) (target : List Route → ℕ) (k : ℕ) → origin (walk_of d (routes_of d) plan r i) ≤ first_target d (routes_of d) plan r i ss c target
      → has_come_by d (routes_of d) plan (arrives d (routes_of d) plan r i ss c target) k ≡ true
      → Takes d (routes_of d) plan (passes d (routes_of d) plan r i (origin (walk_of d (routes_of d) plan r i))) (arrives d (routes_of d) plan r i ss c target) (chain_ticks_from d (routes_of d) h origin r ss target) k
  chain_takes_from origin r i [] c target k order so =
      fewer d adm n plan well (passes d (routes_of d) plan r i (origin (walk r i))) (reaches d (routes_of d) plan r i (target (walk r i))) _ (on_ticks d (routes_of d) h r.train (walk r i) (origin (walk r i)) (target (walk r i))) k
      (through_places d adm n plan well r.train (before_routes r i) (walk r i) (map (route_at (routes_of d)) i.more) (split r i) r.places i.lies (λ rs. on_ticks d (routes_of d) h r.train rs (origin rs) (target rs)) h _ (le_refl _))
      (on_takes r i (origin (walk r i)) (target (walk r i)) k order so)
  chain_takes_from origin r i (s ∷ ss) c target k order so =
      let j = c.0 in
      let released = reaches d (routes_of d) plan r i (place r i s j) in
      let last = arrives d (routes_of d) plan s j ss c.3 target in
      let first = passes d (routes_of d) plan r i (origin (walk r i)) in
      add d (routes_of d) plan first released last _ (1 + chain_ticks d (routes_of d) h s ss target) k
      (λ m now. fewer d adm n plan well first released _ (on_ticks d (routes_of d) h r.train (walk r i) (origin (walk r i)) (place r i s j)) m
      (through_places d adm n plan well r.train (before_routes r i) (walk r i) (map (route_at (routes_of d)) i.more) (split r i) r.places i.lies (λ rs. least_route (λ q. on_ticks d (routes_of d) h r.train rs (origin rs) (release_place d r.train rs q)) h (first_place s)) h _
      (least_of_route (λ q. on_ticks d (routes_of d) h r.train (walk r i) (origin (walk r i)) (release_place d r.train (walk r i) q)) h (first_place s) (next r i s j) (next_in r i s j)))
      (on_takes r i (origin (walk r i)) (place r i s j) m order now))
      (add d (routes_of d) plan released (granted_first d (routes_of d) plan s j) last 1 (chain_ticks d (routes_of d) h s ss target) k (link r i s j c.1 c.2.0 c.2.1) (chain_takes s j ss c.3 target k so))
