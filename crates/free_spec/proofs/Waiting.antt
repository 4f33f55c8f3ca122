-- A train that waits for a grant gets no further than if it stood at the end of its track_end and gained its acceleration and its braking in each tick.
use Rattle.std.proofs.Common.{◌≡◌, ℕ, zero, suc, ◌+◌, ◌-◌, ◌*◌, ◌/◌, ◌≤◌, ◌<◌, ◌⊎◌, inl, inr, min, Bool, true, false, if◌then◌else◌, nat_le, List, take, length, sum_by, Option, refl, ap, subst, arith, leb-true, leb-false, le_refl, mul-le-mul}
use Rattle.std.proofs.lemmas.Nat.{le-div}
use Rattle.std.specs.List.{list_any}
use Rattle.rail_base.specs.declared.station.Station.{Station}
use Rattle.rail_base.specs.declared.station.TrainNo.{TrainNo}
use Rattle.rail_base.specs.declared.route.Route.{Route}
use Rattle.rail_base.specs.declared.plan.Command.{Command}
use Rattle.rail_base.specs.declared.state.TrainState.{TrainState}
use Rattle.rail_base.specs.Admitted.{IsAdmitted}
use Rattle.rail_base.specs.Stations.{IsTrain}
use Rattle.rail_spec.specs.Track.{routes_of}
use Rattle.rail_spec.specs.Plans.{path, path_routes, length_mm, exits, is_well_formed}
use Rattle.rail_spec.specs.Motion.{SpanSeen, keeps_limits, may_stop, can_brake, braking_distance}
use Rattle.rail_spec.specs.Dispatches.{state_of, rates, stretches, of_plan, state_at, track_end, authority}
use Rattle.rail_base.proofs.Members.{and_right}
use Rattle.rail_base.proofs.Lists.{length-map}
use Rattle.rail_spec.specs.Plans.{route_at}
use Rattle.rail_laws.proofs.MotionLaws.{permitted_brakes}
use Rattle.rail_laws.proofs.UnderWay.{IsSound, authority_some, travels}
use Rattle.rail_laws.proofs.Ahead.{permitted_as_far}
use Rattle.rail_laws.proofs.Authority.{authority_on_track}
use Rattle.rail_laws.proofs.Admits.{sound}
use Rattle.free_spec.proofs.Heads.{sum_prefix, not_past}
use Rattle.free_spec.proofs.Gains.{gained_by}
use Rattle.free_spec.specs.Free.{steps_from_stop}
use Rattle.free_spec.specs.Legs.{Leg, HasLeg, free_on, least_ticks_waited}
use Rattle.free_spec.proofs.Moves.{one_tick}

-- one move more
one_more : (b j v w distance : ℕ) → v ≤ w + b → 2 * (j * w) ≤ 2 * distance + b * (j * (j + 1)) → 2 * (suc j * v) ≤ 2 * (w + distance) + b * (suc j * (suc j + 1))
one_more b j v w distance h k =
    let l : suc j * v ≤ suc j * (w + b) = mul-le-mul (le_refl (suc j)) h in
    let e : suc j * (w + b) ≡ j * w + w + j * b + b = omega arith in
    let f : b * (suc j * (suc j + 1)) ≡ b * (j * (j + 1)) + 2 * (j * b) + 2 * b = omega arith in
    omega (arith, l, e, f, k)

-- what j ticks at a speed add, less the distance of braking
slows_by : (m b j u : ℕ) → 1 ≤ b → u ≤ m → 2 * (j * u) ≤ 2 * braking_distance m b u + b * (j * (j + 1))
slows_by m b zero u slows h = omega arith
slows_by m b (suc j) zero slows h = omega arith
slows_by zero b (suc j) (suc u) slows h = absurd (omega arith)
slows_by (suc m) b (suc j) (suc u) slows h = one_more b j (suc u) (suc u - b) (braking_distance m b (suc u - b)) (omega arith) (slows_by m b j (suc u - b) slows (omega arith))

slows_before : (b j v : ℕ) → 1 ≤ b → 2 * (j * v) ≤ 2 * ((v - b) + braking_distance (v - b) b (v - b)) + b * (j * (j + 1))
slows_before b zero v slows = omega arith
slows_before b (suc j) v slows = one_more b j v (v - b) (braking_distance (v - b) b (v - b)) (omega arith) (slows_by (v - b) b j (v - b) slows (le_refl _))

-- so many ticks after who can stop before the end at a speed
gets : (a b c x v distance end y : ℕ) → x + distance ≤ end → 2 * (c * v) ≤ 2 * distance + b * (c * (c + 1)) → 2 * y ≤ 2 * x + 2 * (c * v) + a * c * (c + 1) → 2 * y ≤ 2 * end + (a + b) * (c * (c + 1))
gets a b c x v distance end y near slow fast =
    let e : (a + b) * (c * (c + 1)) ≡ a * (c * (c + 1)) + b * (c * (c + 1)) = omega arith in
    let f : a * c * (c + 1) ≡ a * (c * (c + 1)) = omega arith in
    omega (arith, e, f, near, slow, fast)

half : (end k y : ℕ) → 2 * y ≤ 2 * end + k → y ≤ end + k / 2
half end k y h = let l = le-div (y - end) k 2 (omega arith) (omega arith) in omega arith

-- who can brake stops where it may
stops_there : (m b tail : ℕ) (ss : List SpanSeen) (end : Option ℕ) (x u : ℕ) → can_brake m b tail ss end x u ≡ true → may_stop end (x + u + braking_distance m b u) ≡ true
stops_there m b tail ss end x zero h = subst (λ y. may_stop end y ≡ true) (none m) h
  where
    none : (m : ℕ) → x ≡ x + 0 + braking_distance m b 0
    none zero = omega arith
    none (suc m) = omega arith
stops_there zero b tail ss end x (suc u) h = cc
stops_there (suc m) b tail ss end x (suc u) h =
    let later = stops_there m b tail ss end (x + suc u) (suc u - b) (and_right (keeps_limits ss (x - tail) (x + suc u) (suc u)) _ h) in
    let same : x + suc u + (suc u - b) + braking_distance m b (suc u - b) ≡ x + suc u + ((suc u - b) + braking_distance m b (suc u - b)) = omega arith in
    subst (λ y. may_stop end y ≡ true) same later

module _ (d : Station) (adm : IsAdmitted d) (n : ℕ) (plan : List (List Command)) (formed : is_well_formed d (routes_of d) n plan ≡ true) where
  abbrev at : ℕ → TrainNo → TrainState
  at k t = state_of (state_at d (routes_of d) (of_plan (routes_of d) plan) k) t

  abbrev given : TrainNo → ℕ → List Route
  given t g = take g (path_routes (routes_of d) plan t)

  is_sound : IsSound d (routes_of d) plan
  is_sound = sound d adm n plan formed

  abbrev pub end_of : TrainNo → ℕ → ℕ
  end_of t j = sum_by length_mm (take (j - 1) (path_routes (routes_of d) plan t))

  -- before its command of this number is granted a train stops before the end of the routes before
  can_stop : (t : TrainNo) (j k : ℕ) → IsTrain d t → j ≤ length (path_routes (routes_of d) plan t) → (at k t).granted < j
      → (at k t).x + (((at k t).v - (rates d t).brake) + braking_distance ((at k t).v - (rates d t).brake) (rates d t).brake ((at k t).v - (rates d t).brake)) ≤ end_of t j
  can_stop t j k named there short = go (zero_or (at k t).granted)
    where
      zero_or : (n : ℕ) → (n ≡ 0) ⊎ (1 ≤ n)
      zero_or zero = inl refl
      zero_or (suc n) = inr (omega arith)

      on : (b : Bool) → list_any exits (given t (at k t).granted) ≡ b → 1 ≤ (at k t).granted
          → (at k t).x + (((at k t).v - (rates d t).brake) + braking_distance ((at k t).v - (rates d t).brake) (rates d t).brake ((at k t).v - (rates d t).brake)) ≤ end_of t j
      on true e some = let all = is_sound.exit_last t (at k t).granted named e in absurd (omega arith)
      on false e some =
          let b = (rates d t).brake in
          let v = (at k t).v in
          let x = (at k t).x in
          let w = v - b in
          let distance = braking_distance w b w in
          let end = authority d (routes_of d) (of_plan (routes_of d) plan) t (at k t) in
          let on_track = permitted_as_far (rates d t) (stretches d (given t (at k t).granted)) end (track_end (given t (at k t).granted)) x v w (authority_on_track d (routes_of d) (of_plan (routes_of d) plan) is_sound t (at k t)) ((travels d (routes_of d) plan is_sound k t).braking some) in
          let brakes = permitted_brakes (rates d t) (stretches d (given t (at k t).granted)) (track_end (given t (at k t).granted)) x v w on_track in
          let stop = stops_there w b (rates d t).tail (stretches d (given t (at k t).granted)) (track_end (given t (at k t).granted)) x w brakes in
          let near : x + w + distance ≤ sum_by length_mm (given t (at k t).granted) = leb-true _ _ (subst (λ end. may_stop end (x + w + distance) ≡ true) (authority_some (given t (at k t).granted) e) stop) in
          let more = sum_prefix length_mm (at k t).granted (j - 1) (path_routes (routes_of d) plan t) (omega arith) in
          omega arith

      still : (x v b : ℕ) → x ≡ 0 → v ≡ 0 → x + ((v - b) + braking_distance (v - b) b (v - b)) ≤ end_of t j
      still x v b ex ev = let w : v - b ≡ 0 = omega arith in let f = ap (λ m. braking_distance m b m) w in omega arith

      go : ((at k t).granted ≡ 0) ⊎ (1 ≤ (at k t).granted) → (at k t).x + (((at k t).v - (rates d t).brake) + braking_distance ((at k t).v - (rates d t).brake) (rates d t).brake ((at k t).v - (rates d t).brake)) ≤ end_of t j
      go (inl none) = let w = (travels d (routes_of d) plan is_sound k t).waits none in still (at k t).x (at k t).v (rates d t).brake w.0 w.1
      go (inr some) = on (list_any exits (given t (at k t).granted)) refl some

  module _ (t : TrainNo) (before : List Route) (l : Leg) (has : HasLeg (routes_of d) plan t before l) (j i x0 y : ℕ) (named : IsTrain d t) (there : j ≤ length (path plan t)) (short : (at i t).granted < j) (near : end_of t j ≤ sum_by length_mm before + x0) where
    abbrev pub o : ℕ
    o = sum_by length_mm before

    abbrev pub both : ℕ
    both = (rates d t).accel + (rates d t).brake

    capped : (c : ℕ) → (at (i + c) t).x ≤ o + (x0 + both * (c * (c + 1)) / 2)
    capped c =
        let long : length (path_routes (routes_of d) plan t) ≡ length (path plan t) = length-map (route_at (routes_of d)) (path plan t) in
        let stop = can_stop t j i named (omega arith) short in
        let slow = slows_before (rates d t).brake c (at i t).v (adm.vehicle _ (adm.train t named).vehicle).slows in
        let fast = (gained_by d adm n plan formed t i (at i t).v (at i t).x (le_refl _) (le_refl _) c).x in
        let all = gets (rates d t).accel (rates d t).brake c (at i t).x (at i t).v _ (end_of t j) (at (i + c) t).x stop slow fast in
        let h = half (end_of t j) (both * (c * (c + 1))) (at (i + c) t).x all in
        omega arith

    from_tick : (h m c x : ℕ) → (at (i + m) t).x ≤ o + x → o + y ≤ (at (i + m + c) t).x → steps_from_stop (free_on d t l) both x0 m h x y ≤ c
    from_tick zero m c x at_m far = go (nat_le y x) refl c far
      where
        go : (b : Bool) → nat_le y x ≡ b → (c : ℕ) → o + y ≤ (at (i + m + c) t).x → (if b then 0 else 1) ≤ c
        go true e c far = omega arith
        go false e zero far = let q = leb-false y x e in let z : i + m + 0 ≡ i + m = omega arith in let g = ap (λ i. (at i t).x) z in absurd (omega arith)
        go false e (suc c) far = omega arith
    from_tick (suc h) m c x at_m far = go (nat_le y x) refl c far (λ b f. from_tick h (suc m) b (min (x + free_on d t l x) (x0 + both * (suc m * (suc m + 1)) / 2)) next f)
      where
        next : (at (i + suc m) t).x ≤ o + min (x + free_on d t l x) (x0 + both * (suc m * (suc m + 1)) / 2)
        next =
            let a = one_tick d adm n plan formed t before l has (i + m) x at_m in
            let z : suc (i + m) ≡ i + suc m = omega arith in
            let g = ap (λ i. (at i t).x) z in
            let b = capped (suc m) in
            omega arith

        go : (b : Bool) → nat_le y x ≡ b → (c : ℕ) → o + y ≤ (at (i + m + c) t).x
            → ((b : ℕ) → o + y ≤ (at (i + suc m + b) t).x → steps_from_stop (free_on d t l) both x0 (suc m) h (min (x + free_on d t l x) (x0 + both * (suc m * (suc m + 1)) / 2)) y ≤ b)
            → (if b then 0 else suc (steps_from_stop (free_on d t l) both x0 (suc m) h (min (x + free_on d t l x) (x0 + both * (suc m * (suc m + 1)) / 2)) y)) ≤ c
        go true e c far later = omega arith
        go false e zero far later = let q = leb-false y x e in let z : i + m + 0 ≡ i + m = omega arith in let g = ap (λ i. (at i t).x) z in absurd (omega arith)
        go false e (suc c) far later =
            let z : i + m + suc c ≡ i + suc m + c = omega arith in
            let g = ap (λ i. (at i t).x) z in
            let b = later c (omega arith) in
            omega arith

    -- from a tick before the grant to a place it takes so many ticks
    pub waited : (h c : ℕ) → o + y ≤ (at (i + c) t).x → least_ticks_waited d t l h x0 y ≤ c
    waited h c far =
        let long : length (path_routes (routes_of d) plan t) ≡ length (path plan t) = length-map (route_at (routes_of d)) (path plan t) in
        let at_i = not_past d adm n plan formed t j i named (omega arith) short in
        let z : i + 0 ≡ i = omega arith in
        let g = ap (λ i. (at i t).x) z in
        let z2 : i + 0 + c ≡ i + c = omega arith in
        let g2 = ap (λ i. (at i t).x) z2 in
        from_tick h 0 c x0 (omega arith) (omega arith)
