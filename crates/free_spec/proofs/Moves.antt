-- A tick moves a head at most as far as the free move.
use Rattle.std.proofs.Common.{◌≡◌, ℕ, zero, suc, ◌+◌, ◌-◌, ◌≤◌, ◌<◌, ◌⊎◌, inl, inr, max, Bool, true, false, not, ◌&&◌, ◌||◌, if◌then◌else◌, nat_le, nat_lt, List, [], ◌∷◌, ◌++◌, map, take, drop, length, sum_by, flat_map, Option, None, Some, refl, sym, ap, subst, ◌∙◌, arith, leb-true, leb-false, le-leb, take_all, le_refl}
use Rattle.std.proofs.lemmas.List.{take-append-drop}
use Rattle.std.proofs.lemmas.List.Sums.{sum_by-append, sum_by-cons}
use Rattle.std.specs.List.{list_any}
use Rattle.rail_base.specs.declared.station.Station.{Station}
use Rattle.rail_base.specs.declared.station.EdgeNo.{EdgeNo}
use Rattle.rail_base.specs.declared.station.TrainNo.{TrainNo}
use Rattle.rail_base.specs.declared.route.Route.{Route}
use Rattle.rail_base.specs.declared.plan.Command.{Command}
use Rattle.rail_base.specs.declared.state.TrainState.{TrainState}
use Rattle.rail_base.specs.Admitted.{IsAdmitted}
use Rattle.rail_base.specs.Stations.{length_of, IsTrain}
use Rattle.rail_spec.specs.Track.{edge_ends, routes_of}
use Rattle.rail_spec.specs.Plans.{path_routes, length_mm, exits, is_well_formed}
use Rattle.rail_spec.specs.Motion.{SpanSeen, limit_at, KeepsLimits, keeps_limits, may_stop, can_brake, permitted, next_speed}
use Rattle.rail_spec.specs.Dispatches.{state_of, rates, stretch, stretches, of_plan, granted_after, moved, track_end, with_granted, authority}
use Rattle.rail_spec.specs.Dispatches.{pasts_at, state_at}
use Rattle.rail_base.proofs.Members.{and_right, and_both}
use Rattle.rail_laws.proofs.MotionLaws.{farthest, keeps_limits_from, can_brake-stop, can_brake_keeps, can_brake_slower, permitted_reach, permitted_brakes, permitted_further, next_speed_permitted}
use Rattle.rail_laws.proofs.Exclusion.{by_tick}
use Rattle.rail_laws.proofs.UnderWay.{IsSound, Travels, authority_some, still, next_grants, travels, authority_farther}
use Rattle.rail_laws.proofs.Ahead.{permitted_as_far}
use Rattle.rail_laws.proofs.Authority.{authority_on_track}
use Rattle.rail_laws.proofs.Admits.{sound}
use Rattle.rail_laws.proofs.Running.{idle_at_first}
use Rattle.std.proofs.lemmas.List.{take-append-le}
use Rattle.std.proofs.lemmas.Grind.{flat_map-append}
use Rattle.rail_laws.proofs.UnderWay.{edge_ends-append}
use Rattle.std.proofs.lemmas.List.{map-append}
use Rattle.rail_laws.proofs.Moving.{greatest_above}
use Rattle.free_spec.proofs.Heads.{stretches_append}
use Rattle.free_spec.specs.Free.{climb, rise, behind, is_free}
use Rattle.free_spec.specs.Legs.{Leg, HasLeg, free_on, least_ticks}

-- ---- stretches

-- the stretches of edges that begin there
abbrev from : Station → ℕ → List EdgeNo → List SpanSeen
from d o es = map (stretch d) (edge_ends d o es)

-- past some edges the limit is that of the rest
skips : (d : Station) (top o : ℕ) (es : List EdgeNo) (ts : List SpanSeen) (p : ℕ) → o + sum_by (length_of d) es < p → limit_at top (from d o es ++ ts) p ≡ limit_at top ts p
skips d top o [] ts p past = refl
skips d top o (e ∷ es) ts p past = go (nat_le p (o + length_of d e)) refl (let s = sum_by-cons (length_of d) e es in skips d top (o + length_of d e) es ts p (omega arith))
  where
    go : (b : Bool) → nat_le p (o + length_of d e) ≡ b → limit_at top (from d (o + length_of d e) es ++ ts) p ≡ limit_at top ts p → (if b then (stretch d (e, o + length_of d e)).limit else limit_at top (from d (o + length_of d e) es ++ ts) p) ≡ limit_at top ts p
    go true q later = let l = leb-true p (o + length_of d e) q in let s = sum_by-cons (length_of d) e es in absurd (omega arith)
    go false q later = later

-- what the limit allows at a place of a longer walk it allows at the same place of the edges alone
shifted : (d : Station) (top o i j : ℕ) (es : List EdgeNo) (ts : List SpanSeen) (p q u : ℕ) → j ≡ o + i → q ≡ o + p → u ≤ top → u ≤ limit_at top (from d j es ++ ts) q → u ≤ limit_at top (from d i es) p
shifted d top o i j [] ts p q u ej eq fast h = fast
shifted d top o i j (e ∷ es) ts p q u ej eq fast h = go (nat_le p (i + length_of d e)) refl (nat_le q (j + length_of d e)) refl h (shifted d top o (i + length_of d e) (j + length_of d e) es ts p q u (omega arith) eq fast)
  where
    go : (b : Bool) → nat_le p (i + length_of d e) ≡ b → (c : Bool) → nat_le q (j + length_of d e) ≡ c → u ≤ (if c then (stretch d (e, j + length_of d e)).limit else limit_at top (from d (j + length_of d e) es ++ ts) q) → (u ≤ limit_at top (from d (j + length_of d e) es ++ ts) q → u ≤ limit_at top (from d (i + length_of d e) es) p) → u ≤ (if b then (stretch d (e, i + length_of d e)).limit else limit_at top (from d (i + length_of d e) es) p)
    go true eb true ec k later = k
    go true eb false ec k later = let l = leb-true p (i + length_of d e) eb in let m = leb-false q (j + length_of d e) ec in absurd (omega arith)
    go false eb true ec k later = let l = leb-false p (i + length_of d e) eb in let m = leb-true q (j + length_of d e) ec in absurd (omega arith)
    go false eb false ec k later = later k

reaches : (d : Station) (o x : ℕ) (es : List EdgeNo) → o ≤ x → o + sum_by (length_of d) es ≤ farthest x (from d o es)
reaches d o x [] h = omega arith
reaches d o x (e ∷ es) h = let s = sum_by-cons (length_of d) e es in let k = reaches d (o + length_of d e) (max x (o + length_of d e)) es (omega arith) in omega arith

-- ---- F1

-- who comes as far in a move from farther ahead can brake too
pub lands : (m b tail top : ℕ) (ss : List SpanSeen) (end : Option ℕ) (x u y w : ℕ) → 1 ≤ b → u ≤ top → x ≤ y → y + w ≡ x + u → can_brake m b tail ss end x u ≡ true → can_brake w b tail ss end y w ≡ true
lands m b tail top ss end x u y zero slows fast ahead same h = can_brake-stop m b tail ss end x u y (omega arith) h
lands m b tail top ss end x zero y (suc w) slows fast ahead same h = absurd (omega arith)
lands zero b tail top ss end x (suc u) y (suc w) slows fast ahead same h = cc
lands (suc m) b tail top ss end x (suc u) y (suc w) slows fast ahead same h =
    and_both _ _ (keeps_limits_from top ss (y - tail) (y + suc w) (suc w) (λ p l k. on (suc w) (omega arith) p (omega arith) (omega arith)))
    (can_brake_slower m w b tail top ss end (x + suc u) (y + suc w) (suc u - b) (suc w - b) slows (omega arith) (omega arith) (omega arith) (omega arith)
    (λ p l k. on (suc w - b) (omega arith) p (omega arith) k)
    (and_right (keeps_limits ss (x - tail) (x + suc u) (suc u)) _ h))
  where
    on : (v : ℕ) → v ≤ suc u → KeepsLimits top ss (x - tail) (x + suc u) v
    on v slow p l k = let t = can_brake_keeps (suc m) b tail top ss end x (suc u) fast h p l k in omega arith

-- who can brake on one way can on another whose places allow as much, so far from there
brakes_on : (m b tail top o : ℕ) (ss ts : List SpanSeen) (end other : Option ℕ) → ((p u : ℕ) → 0 < p → u ≤ top → u ≤ limit_at top ss (o + p) → u ≤ limit_at top ts p) → ((y : ℕ) → may_stop end (o + y) ≡ true → may_stop other y ≡ true)
    → (x z u : ℕ) → z ≡ o + x → u ≤ top → can_brake m b tail ss end z u ≡ true → can_brake m b tail ts other x u ≡ true
brakes_on m b tail top o ss ts end other limits ends x z zero at fast h = ends x (subst (λ y. may_stop end y ≡ true) at h)
brakes_on zero b tail top o ss ts end other limits ends x z (suc u) at fast h = cc
brakes_on (suc m) b tail top o ss ts end other limits ends x z (suc u) at fast h =
    and_both _ _ (keeps_limits_from top ts (x - tail) (x + suc u) (suc u)
    (λ p l k. limits p (suc u) (omega arith) fast (can_brake_keeps (suc m) b tail top ss end z (suc u) fast h (o + p) (omega arith) (omega arith))))
    (brakes_on m b tail top o ss ts end other limits ends (x + suc u) (z + suc u) (suc u - b) (omega arith) (omega arith) (and_right (keeps_limits ss (z - tail) (z + suc u) (suc u)) _ h))

-- ---- F2

-- who is no faster has come no further
pub climb_more : (n m a w u l : ℕ) → n ≤ m → w ≤ u → climb n a w l ≤ climb m a u l
climb_more zero m a w u l fewer slower = omega arith
climb_more (suc n) zero a w u l fewer slower = absurd (omega arith)
climb_more (suc n) (suc m) a w u l fewer slower = go (nat_lt l (w - a)) refl (nat_lt l (u - a)) refl (climb_more n m a (w - a) (u - a) l (omega arith) (omega arith))
  where
    go : (b : Bool) → nat_lt l (w - a) ≡ b → (c : Bool) → nat_lt l (u - a) ≡ c → climb n a (w - a) l ≤ climb m a (u - a) l
        → (if b then (w - a) + climb n a (w - a) l else 0) ≤ (if c then (u - a) + climb m a (u - a) l else 0)
    go true eb true ec h = omega arith
    go true eb false ec h = let i = leb-true (suc l) (w - a) eb in let j = leb-false (suc l) (u - a) ec in absurd (omega arith)
    go false eb c ec h = omega arith

-- who is not above l by more than one gain has come nowhere above it
pub climb_none : (n a u l : ℕ) → u ≤ l → climb n a u l ≤ 0
climb_none zero a u l h = omega arith
climb_none (suc n) a u l h = go (nat_lt l (u - a)) refl
  where
    go : (b : Bool) → nat_lt l (u - a) ≡ b → (if b then (u - a) + climb n a (u - a) l else 0) ≤ 0
    go true e = let i = leb-true (suc l) (u - a) e in absurd (omega arith)
    go false e = omega arith

-- the distance since a place, where the speed v was within l or gained on the way
held : (a l v u gap : ℕ) → u ≤ v + a → (v ≤ l) ⊎ ((n : ℕ) → v + climb n a v l ≤ gap) → (n : ℕ) → climb n a u l ≤ gap
held a l v u gap gain h zero = omega arith
held a l v u gap gain h (suc n) = go (nat_lt l (u - a)) refl h
  where
    go : (b : Bool) → nat_lt l (u - a) ≡ b → (v ≤ l) ⊎ ((n : ℕ) → v + climb n a v l ≤ gap) → (if b then (u - a) + climb n a (u - a) l else 0) ≤ gap
    go true e (inl slow) = let i = leb-true (suc l) (u - a) e in absurd (omega arith)
    go true e (inr far) = let k = far n in let m = climb_more n n a (u - a) v l (omega arith) (omega arith) in omega arith
    go false e k = omega arith

-- what holds at each place that the tail has left holds at the ends of the stretches
behind_from : (top a tail first : ℕ) (ss : List SpanSeen) (x u : ℕ) → ((p : ℕ) → first < p → p + tail ≤ x → rise a u (limit_at top ss p) ≤ x - (p + tail)) → behind a tail first ss x u ≡ true
behind_from top a tail first [] x u h = refl
behind_from top a tail first (s ∷ rest) x u h = and_both _ _ (here (nat_lt first s.end) refl (nat_le (s.end + tail) x) refl) (behind_from top a tail (max first s.end) rest x u (λ p l k. past p l k (nat_le p s.end) refl (h p (omega arith) k)))
  where
    at_end : (b : Bool) → nat_le s.end s.end ≡ b → b ≡ true → rise a u (if b then s.limit else limit_at top rest s.end) ≤ x - (s.end + tail) → rise a u s.limit ≤ x - (s.end + tail)
    at_end true e t k = k
    at_end false e t k = cc

    here : (b : Bool) → nat_lt first s.end ≡ b → (c : Bool) → nat_le (s.end + tail) x ≡ c → (not (b && c) || nat_le (rise a u s.limit) (x - (s.end + tail))) ≡ true
    here true eb true ec = le-leb _ _ (at_end (nat_le s.end s.end) refl (le-leb s.end s.end (omega arith)) (h s.end (leb-true (suc first) s.end eb) (leb-true (s.end + tail) x ec)))
    here true eb false ec = refl
    here false eb c ec = refl

    past : (p : ℕ) → max first s.end < p → p + tail ≤ x → (b : Bool) → nat_le p s.end ≡ b → rise a u (if b then s.limit else limit_at top rest p) ≤ x - (p + tail) → rise a u (limit_at top rest p) ≤ x - (p + tail)
    past p l k true e g = let i = leb-true p s.end e in absurd (omega arith)
    past p l k false e g = g

-- ---- a tick on the whole path

module _ (d : Station) (adm : IsAdmitted d) (n : ℕ) (plan : List (List Command)) (formed : is_well_formed d (routes_of d) n plan ≡ true) where
  abbrev routes_of_train : TrainNo → List Route
  routes_of_train t = path_routes (routes_of d) plan t

  abbrev given : TrainNo → ℕ → List Route
  given t g = take g (path_routes (routes_of d) plan t)

  abbrev at : ℕ → TrainNo → TrainState
  at k t = state_of (state_at d (routes_of d) (of_plan (routes_of d) plan) k) t

  is_sound : IsSound d (routes_of d) plan
  is_sound = sound d adm n plan formed

  -- what the granted routes permit the whole path permits
  on_path : (t : TrainNo) → IsTrain d t → (g x v u : ℕ) → permitted (rates d t) (stretches d (given t g)) (track_end (given t g)) x v u ≡ true → permitted (rates d t) (stretches d (routes_of_train t)) (track_end (routes_of_train t)) x v u ≡ true
  on_path t named g x v u h = go (list_any exits (given t g)) refl
    where
      go : (b : Bool) → list_any exits (given t g) ≡ b → permitted (rates d t) (stretches d (routes_of_train t)) (track_end (routes_of_train t)) x v u ≡ true
      go true e = subst (λ zs. permitted (rates d t) (stretches d zs) (track_end zs) x v u ≡ true) (take_all g (routes_of_train t) (is_sound.exit_last t g named e)) h
      go false e =
          let more : List Route = drop g (routes_of_train t) in
          let split : given t g ++ more ≡ routes_of_train t = take-append-drop g (routes_of_train t) in
          let covers : sum_by length_mm (given t g) ≤ farthest 0 (stretches d (given t g)) = let r = reaches d 0 0 (flat_map (λ r. r.edges) (given t g)) (omega arith) in let w = is_sound.whole t g in omega arith in
          let at_end = subst (λ end. permitted (rates d t) (stretches d (given t g)) end x v u ≡ true) (authority_some (given t g) e) h in
          let grown = permitted_further (rates d t) (sum_by length_mm (given t g)) (stretches d (given t g)) (from d (0 + sum_by (length_of d) (flat_map (λ r. r.edges) (given t g))) (flat_map (λ r. r.edges) more)) (track_end (given t g ++ more)) x v u covers (authority_farther (given t g) more) at_end in
          let joined = subst (λ ss. permitted (rates d t) ss (track_end (given t g ++ more)) x v u ≡ true) (sym (stretches_append d (given t g) more)) grown in
          subst (λ zs. permitted (rates d t) (stretches d zs) (track_end zs) x v u ≡ true) split joined

  -- a tick moves a head by a speed that the whole path permits, or leaves it as it is
  pub record Moves (t : TrainNo) (old new : TrainState) : Type 0 where
    pub move : new.x ≡ old.x + new.v
    pub may : permitted (rates d t) (stretches d (routes_of_train t)) (track_end (routes_of_train t)) old.x old.v new.v ≡ true
    pub slows : 1 ≤ (rates d t).brake
    pub gains : 1 ≤ (rates d t).accel

  abbrev pub Step : TrainNo → TrainState → TrainState → Type 0
  Step t old new = ((new.x ≡ old.x) × (new.v ≡ old.v)) ⊎ Moves t old new

  pub stepped : (k : ℕ) (t : TrainNo) → Step t (at k t) (at (suc k) t)
  stepped k t = by_tick d (routes_of d) plan (Step t) k t (inl (refl, refl)) (λ low high. one (low, high) (at k t) (granted_after d (routes_of d) (of_plan (routes_of d) plan) (pasts_at d (routes_of d) (of_plan (routes_of d) plan) k) t) (travels d (routes_of d) plan is_sound k t) (next_grants d (routes_of d) plan (pasts_at d (routes_of d) (of_plan (routes_of d) plan) k) t))
    where
      one : IsTrain d t → (old : TrainState) (g : ℕ) → Travels d (routes_of d) plan t old → (g ≡ old.granted) ⊎ (g ≡ old.granted + 1) → Step t old (moved d (routes_of d) (of_plan (routes_of d) plan) t old g)
      one named old zero h e = inl (refl, refl)
      one named old (suc g) h e =
          let now = still d (routes_of d) plan is_sound t named old g h e in
          let end = authority d (routes_of d) (of_plan (routes_of d) plan) t (with_granted (suc g) old) in
          let u = next_speed (rates d t) (stretches d (given t (suc g))) end old.x old.v in
          let may = next_speed_permitted (rates d t) (stretches d (given t (suc g))) end old.x old.v _ now in
          let on_track = permitted_as_far (rates d t) (stretches d (given t (suc g))) end (track_end (given t (suc g))) old.x old.v u (authority_on_track d (routes_of d) (of_plan (routes_of d) plan) is_sound t (with_granted (suc g) old)) may in
          inr (record { move = refl; may = on_path t named (suc g) old.x old.v u on_track; slows = (adm.vehicle _ (adm.train t named).vehicle).slows; gains = (adm.vehicle _ (adm.train t named).vehicle).gains })

  -- ---- the distance since a place

  -- a train past a place came over it at l at the most, or has gained its speed since
  abbrev Since : ℕ → ℕ → TrainNo → TrainState → Type 0
  Since p l t s = p ≤ s.x → (s.v ≤ l) ⊎ ((n : ℕ) → s.v + climb n (rates d t).accel s.v l ≤ s.x - p)

  gain : (t : TrainNo) (old new : TrainState) → Moves t old new → (new.v ≤ old.v + (rates d t).accel) × (new.v ≤ (rates d t).top)
  gain t old new m = let r = permitted_reach (rates d t) (stretches d (routes_of_train t)) (track_end (routes_of_train t)) old.x old.v new.v m.may in (omega arith, omega arith)

  gap_held : (p l : ℕ) (t : TrainNo) (old new : TrainState) → Moves t old new → Since p l t old → p ≤ old.x → (n : ℕ) → climb n (rates d t).accel new.v l ≤ old.x - p
  gap_held p l t old new m h past = held (rates d t).accel l old.v new.v (old.x - p) (gain t old new m).0 (h past)

  since : (p l : ℕ) (t : TrainNo) → ((old new : TrainState) → Moves t old new → old.x < p → p ≤ new.x → new.v ≤ l) → (k : ℕ) → Since p l t (at k t)
  since p l t cross zero = subst (Since p l t) (sym (idle_at_first d (routes_of d) (of_plan (routes_of d) plan) t)) (λ h. inl (omega arith))
  since p l t cross (suc k) = go (at k t) (at (suc k) t) (stepped k t) (since p l t cross k)
    where
      go : (old new : TrainState) → Step t old new → Since p l t old → Since p l t new
      go old new (inl same) h past = on (h (let e = same.0 in omega arith))
        where
          on : (old.v ≤ l) ⊎ ((n : ℕ) → old.v + climb n (rates d t).accel old.v l ≤ old.x - p) → (new.v ≤ l) ⊎ ((n : ℕ) → new.v + climb n (rates d t).accel new.v l ≤ new.x - p)
          on (inl slow) = inl (let e = same.1 in omega arith)
          on (inr far) = inr (λ n. let e = same.0 in let f = same.1 in let g = ap (λ v. climb n (rates d t).accel v l) f in let k = far n in omega arith)
      go old new (inr m) h past = by (nat_le p old.x) refl
        where
          by : (b : Bool) → nat_le p old.x ≡ b → (new.v ≤ l) ⊎ ((n : ℕ) → new.v + climb n (rates d t).accel new.v l ≤ new.x - p)
          by true e = inr (λ n. let i = leb-true p old.x e in let k = gap_held p l t old new m h i n in let f = m.move in omega arith)
          by false e = inl (cross old new m (leb-false p old.x e) past)

  -- ---- legs

  module _ (t : TrainNo) (before : List Route) (l : Leg) (has : HasLeg (routes_of d) plan t before l) where
    abbrev pub o : ℕ
    o = sum_by length_mm before

    abbrev top : ℕ
    top = (rates d t).top

    abbrev leg : List SpanSeen
    leg = stretches d l.routes

    abbrev path_end : Option ℕ
    path_end = track_end (routes_of_train t)

    abbrev leg_end : Option ℕ
    leg_end = if l.closed then Some (sum_by length_mm l.routes) else None

    edges_before : o ≡ sum_by (length_of d) (flat_map (λ r. r.edges) before)
    edges_before =
        let prefix : take (length before) (routes_of_train t) ≡ before = ap (take (length before)) has.whole ∙ take-append-le (length before) before (l.routes ++ has.more) (le_refl _) ∙ take_all (length before) before (le_refl _) in
        let w = is_sound.whole t (length before) in
        sym (ap (sum_by length_mm) prefix) ∙ sym w ∙ ap (λ rs. sum_by (length_of d) (flat_map (λ r. r.edges) rs)) prefix

    -- what the path allows at a place of the leg the leg allows there
    limits : (p u : ℕ) → 0 < p → u ≤ top → u ≤ limit_at top (stretches d (routes_of_train t)) (o + p) → u ≤ limit_at top leg p
    limits p u some fast h =
        let es = flat_map (λ r. r.edges) before in
        let start : ℕ = 0 + sum_by (length_of d) es in
        let same = edges_before in
        let ts = from d (start + sum_by (length_of d) (flat_map (λ r. r.edges) l.routes)) (flat_map (λ r. r.edges) has.more) in
        let e1 : stretches d (routes_of_train t) ≡ from d 0 es ++ from d start (flat_map (λ r. r.edges) (l.routes ++ has.more)) = ap (stretches d) has.whole ∙ stretches_append d before (l.routes ++ has.more) in
        let e2 : from d start (flat_map (λ r. r.edges) (l.routes ++ has.more)) ≡ from d start (flat_map (λ r. r.edges) l.routes) ++ ts =
        ap (from d start) (flat_map-append (λ r. r.edges) l.routes has.more)
        ∙ ap (map (stretch d)) (edge_ends-append d start (flat_map (λ r. r.edges) l.routes) (flat_map (λ r. r.edges) has.more))
        ∙ map-append (stretch d) (edge_ends d start (flat_map (λ r. r.edges) l.routes)) (edge_ends d (start + sum_by (length_of d) (flat_map (λ r. r.edges) l.routes)) (flat_map (λ r. r.edges) has.more)) in
        let at1 : u ≤ limit_at top (from d 0 es ++ from d start (flat_map (λ r. r.edges) (l.routes ++ has.more))) (o + p) = subst (λ ss. u ≤ limit_at top ss (o + p)) e1 h in
        let at2 : u ≤ limit_at top (from d start (flat_map (λ r. r.edges) (l.routes ++ has.more))) (o + p) = subst (λ z. u ≤ z) (skips d top 0 es (from d start (flat_map (λ r. r.edges) (l.routes ++ has.more))) (o + p) (omega arith)) at1 in
        let at3 : u ≤ limit_at top (from d start (flat_map (λ r. r.edges) l.routes) ++ ts) (o + p) = subst (λ ss. u ≤ limit_at top ss (o + p)) e2 at2 in
        shifted d top o 0 start (flat_map (λ r. r.edges) l.routes) ts p (o + p) u (omega arith) refl fast at3

    ends : (y : ℕ) → may_stop path_end (o + y) ≡ true → may_stop leg_end y ≡ true
    ends y h = go l.closed refl
      where
        go : (b : Bool) → l.closed ≡ b → may_stop (if b then Some (sum_by length_mm l.routes) else None) y ≡ true
        go false e = refl
        go true e =
            let s = has.shut e in
            let i = leb-true (o + y) (sum_by length_mm (routes_of_train t)) (subst (λ end. may_stop end (o + y) ≡ true) (authority_some (routes_of_train t) s.1) h) in
            let w = ap (sum_by length_mm) has.whole in
            let a = sum_by-append length_mm before (l.routes ++ has.more) in
            let m = sum_by-append length_mm l.routes has.more in
            let none : sum_by length_mm has.more ≡ 0 = ap (sum_by length_mm) s.0 in
            le-leb y (sum_by length_mm l.routes) (omega arith)

    abbrev tail : ℕ
    tail = (rates d t).tail

    -- the move in which the tail leaves a place keeps the limit there
    crossed : (p : ℕ) → 0 < p → (old new : TrainState) → Moves t old new → old.x < o + (p + tail) → o + (p + tail) ≤ new.x → new.v ≤ limit_at top leg p
    crossed p some old new m past near =
        let f = m.move in
        limits p new.v some (gain t old new m).1
        (can_brake_keeps new.v (rates d t).brake tail top (stretches d (routes_of_train t)) path_end old.x new.v (gain t old new m).1
        (permitted_brakes (rates d t) (stretches d (routes_of_train t)) path_end old.x old.v new.v m.may) (o + p) (omega arith) (omega arith))

    -- a move further than x by w is free
    move_free : (x k w : ℕ) → (at k t).x ≤ o + x → o + x + w ≡ (at (suc k) t).x → 1 ≤ w → Moves t (at k t) (at (suc k) t) → is_free (rates d t) leg leg_end l.rest x w ≡ true
    move_free x k w near sum some m = and_both _ _ (and_both _ _ brakes limits_behind) start
      where
        u : ℕ
        u = (at (suc k) t).v

        a : ℕ
        a = (rates d t).accel

        slower : w ≤ u
        slower = let f = m.move in omega arith

        brakes : can_brake w (rates d t).brake (rates d t).tail leg leg_end x w ≡ true
        brakes =
            let f = m.move in
            let fast = (gain t (at k t) (at (suc k) t) m).1 in
            brakes_on w (rates d t).brake (rates d t).tail top o (stretches d (routes_of_train t)) leg path_end leg_end limits ends x (o + x) w refl (let s = slower in omega arith)
            (lands u (rates d t).brake (rates d t).tail top (stretches d (routes_of_train t)) path_end (at k t).x u (o + x) w m.slows fast near (omega arith)
            (permitted_brakes (rates d t) (stretches d (routes_of_train t)) path_end (at k t).x (at k t).v u m.may))

        limits_behind : behind a tail 0 leg x w ≡ true
        limits_behind = behind_from top a tail 0 leg x w at_place
          where
            at_place : (p : ℕ) → 0 < p → p + tail ≤ x → rise a w (limit_at top leg p) ≤ x - (p + tail)
            at_place p some on = go (nat_le (o + (p + tail)) (at k t).x) refl
              where
                go : (b : Bool) → nat_le (o + (p + tail)) (at k t).x ≡ b → rise a w (limit_at top leg p) ≤ x - (p + tail)
                go true e =
                    let i = leb-true (o + (p + tail)) (at k t).x e in
                    let h = gap_held (o + (p + tail)) (limit_at top leg p) t (at k t) (at (suc k) t) m (since (o + (p + tail)) (limit_at top leg p) t (crossed p some) k) i w in
                    let c = climb_more w w a w u (limit_at top leg p) (le_refl w) slower in
                    omega arith
                go false e =
                    let i = leb-false (o + (p + tail)) (at k t).x e in
                    let s = slower in
                    let v = crossed p some (at k t) (at (suc k) t) m i (omega arith) in
                    let c = climb_none w a w (limit_at top leg p) (omega arith) in
                    omega arith

        start : (not l.rest || nat_le (rise a w 0) x) ≡ true
        start = go l.rest refl
          where
            go : (b : Bool) → l.rest ≡ b → (not b || nat_le (rise a w 0) x) ≡ true
            go false e = refl
            go true e =
                let none : o ≡ 0 = ap (sum_by length_mm) (has.begins e) in
                let h = gap_held 0 0 t (at k t) (at (suc k) t) m (since 0 0 t (λ old new m past near. absurd (omega arith)) k) (omega arith) w in
                let c = climb_more w w a w u 0 (le_refl w) slower in
                le-leb _ _ (omega arith)

    pub one_tick : (k x : ℕ) → (at k t).x ≤ o + x → (at (suc k) t).x ≤ o + (x + free_on d t l x)
    one_tick k x near = go (stepped k t)
      where
        go : Step t (at k t) (at (suc k) t) → (at (suc k) t).x ≤ o + (x + free_on d t l x)
        go (inl same) = let e = same.0 in omega arith
        go (inr m) = further (nat_le (at (suc k) t).x (o + x)) refl
          where
            further : (b : Bool) → nat_le (at (suc k) t).x (o + x) ≡ b → (at (suc k) t).x ≤ o + (x + free_on d t l x)
            further true e = let i = leb-true _ _ e in omega arith
            further false e =
                let i = leb-false _ _ e in
                let w = (at (suc k) t).x - (o + x) in
                let fast = (gain t (at k t) (at (suc k) t) m).1 in
                let f = m.move in
                let test = move_free x k w near (omega arith) (omega arith) m in
                let found = greatest_above (is_free (rates d t) leg leg_end l.rest x) top w (omega arith) test in
                omega arith

    -- who comes from one place to another needs so many ticks
    pub takes : (h k c x y : ℕ) → (at k t).x ≤ o + x → o + y ≤ (at (k + c) t).x → least_ticks d t l h x y ≤ c
    takes zero k c x y near far = go (nat_le y x) refl c far
      where
        go : (b : Bool) → nat_le y x ≡ b → (c : ℕ) → o + y ≤ (at (k + c) t).x → (if b then 0 else 1) ≤ c
        go true e c far = omega arith
        go false e zero far = let i = leb-false y x e in let z : k + 0 ≡ k = omega arith in let g = ap (λ i. (at i t).x) z in absurd (omega arith)
        go false e (suc c) far = omega arith
    takes (suc h) k c x y near far = go (nat_le y x) refl c far (λ b f. takes h (suc k) b (x + free_on d t l x) y (one_tick k x near) f)
      where
        go : (b : Bool) → nat_le y x ≡ b → (c : ℕ) → o + y ≤ (at (k + c) t).x → ((b : ℕ) → o + y ≤ (at (suc k + b) t).x → least_ticks d t l h (x + free_on d t l x) y ≤ b) → (if b then 0 else suc (least_ticks d t l h (x + free_on d t l x) y)) ≤ c
        go true e c far later = omega arith
        go false e zero far later = let i = leb-false y x e in let z : k + 0 ≡ k = omega arith in let g = ap (λ i. (at i t).x) z in absurd (omega arith)
        go false e (suc c) far later =
            let z : k + suc c ≡ suc k + c = omega arith in
            let g = ap (λ i. (at i t).x) z in
            let b = later c (omega arith) in
            omega arith
