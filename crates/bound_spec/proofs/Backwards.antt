-- A train that comes to the last place of a leg has come through its places.
use Rattle.std.proofs.Common.{◌≡◌, ℕ, ◌≤◌, ◌⊎◌, inl, inr, Bool, true, false, not, ◌&&◌, ◌||◌, nat_le, List, [], ◌∷◌, ◌++◌, map, length, refl, sym, ap, subst, ◌∙◌, arith, leb-true, true≢false, append-nil}
use Rattle.std.specs.List.{list_any, list_all}
use Rattle.std.proofs.lemmas.List.{append_assoc, map-append, length-append}
use Rattle.rail_base.specs.declared.station.Station.{Station}
use Rattle.rail_base.specs.declared.station.NodeNo.{NodeNo}
use Rattle.rail_base.specs.declared.station.TrainNo.{TrainNo}
use Rattle.rail_base.specs.declared.route.Route.{Route}
use Rattle.rail_base.specs.declared.route.RouteNo.{RouteNo}
use Rattle.rail_base.specs.declared.route.Start.{Start}
use Rattle.rail_base.specs.declared.route.Start.TheVariants as start
use Rattle.rail_base.specs.declared.route.Finish.{Finish}
use Rattle.rail_base.specs.declared.route.Finish.TheVariants as finish
use Rattle.rail_base.specs.declared.plan.Command.{Command}
use Rattle.rail_base.specs.Admitted.{IsAdmitted}
use Rattle.rail_base.specs.Members.{In, all_pairs, all_neighbors}
use Rattle.rail_base.specs.Numbering.{one_to}
use Rattle.rail_base.specs.Stations.{train_of, first_visit}
use Rattle.rail_spec.specs.Track.{routes_of}
use Rattle.rail_spec.specs.Plans.{route_at, path, path_routes, commands, is_start, goes_on, end_at_one_signal, begins_in, starts_in, route_numbers}
use Rattle.rail_spec.specs.Feasible.{IsWellFormed, is_of}
use Rattle.rail_base.proofs.Members.{and_left, and_right, either, is_false, list_all_at, list_any_from}
use Rattle.rail_base.proofs.Lists.{in_map, in_count}
use Rattle.rail_laws.proofs.Standing.{in_path}
use Rattle.rail_laws.proofs.Admits.{formed_path}
use Rattle.cone_spec.specs.Cones.{has_route}
use Rattle.cone_spec.specs.Validity.{from_boundary}
use Rattle.cone_spec.proofs.Prefixes.{not_to_boundary, both_end_there, not_both}
use Rattle.cone_spec.proofs.Naming.{has_route_in}
use Rattle.free_spec.proofs.Following.{neighbors_after, has_train}
use Rattle.bound_spec.specs.declared.Place.{Place}
use Rattle.bound_spec.specs.declared.Place.TheVariants as place
use Rattle.bound_spec.specs.declared.Leg.{Leg}
use Rattle.bound_spec.specs.Walks.{LieIn}
use Rattle.bound_spec.specs.Rides.{Rides, first_of}
use Rattle.bound_spec.specs.Certificates.{routes_of_place, named_at, kept_out, first_of_places, last_of_places, first_of_leg, last_of_leg, ride_of}
use Rattle.bound_spec.specs.Validity.{covers, comes_before, goes_on_to, is_first_route, ends_at_signal, is_empty}

-- ---- lists

pub in_middle : {X : Type 0} (xs : List X) (y : X) (zs : List X) → In y (xs ++ y ∷ zs)
in_middle [] y zs = inl refl
in_middle (x ∷ xs) y zs = inr (in_middle xs y zs)

-- the last of a list, if it has any
last_or_none : {X : Type 0} (xs : List X) → (xs ≡ []) ⊎ ((ys : List X) × (y : X) × (xs ≡ ys ++ y ∷ []))
last_or_none [] = inl refl
last_or_none {X} (x ∷ xs) = go (last_or_none xs)
  where
    go : (xs ≡ []) ⊎ ((ys : List X) × (y : X) × (xs ≡ ys ++ y ∷ [])) → (x ∷ xs ≡ []) ⊎ ((ys : List X) × (y : X) × (x ∷ xs ≡ ys ++ y ∷ []))
    go (inl e) = inr ([], x, ap (λ zs. x ∷ zs) e)
    go (inr (ys, y, e)) = inr (x ∷ ys, y, ap (λ zs. x ∷ zs) e)

first_or : List RouteNo → RouteNo → RouteNo
first_or [] r = r
first_or (p ∷ ps) r = p

module _ (d : Station) (adm : IsAdmitted d) (n : ℕ) (plan : List (List Command)) (well : IsWellFormed d (routes_of d) n plan) where
  abbrev f : RouteNo → Route
  f p = route_at (routes_of d) p

  -- ---- routes of a path

  -- a route of a path is numbered
  pub is_numbered_route : (t : TrainNo) (r : RouteNo) → In r (path plan t) → (1 ≤ r.0) × (r.0 ≤ length (routes_of d))
  is_numbered_route t r m =
      let named = list_all_at (is_of d (routes_of d)) (commands plan) (record { train = t; route = r }) well.named (in_path t plan r m) in
      let three = nat_le 1 t.0 && nat_le t.0 (length d.trains) && nat_le 1 r.0 in
      (leb-true 1 r.0 (and_right (nat_le 1 t.0 && nat_le t.0 (length d.trains)) (nat_le 1 r.0) (and_left three _ named)), leb-true r.0 (length (routes_of d)) (and_right three _ named))

  pub numbered : (t : TrainNo) (r : RouteNo) → In r (path plan t) → In r (route_numbers (routes_of d))
  numbered t r m = let k = is_numbered_route t r m in let low = k.0 in let high = k.1 in in_map (λ i. record { 0 = i }) (one_to (length (routes_of d))) r.0 (in_count 1 (length (routes_of d)) r.0 low (omega arith))

  -- what a place covers is one of its routes or is kept out
  pub covered_at : (test : RouteNo → Bool) (p : Place) (t : TrainNo) (r : RouteNo) → covers d (routes_of d) test p ≡ true → In r (path plan t) → test r ≡ true → In r (routes_of_place p) ⊎ In r (kept_out p)
  covered_at test p t r all m passes = go (either (not (test r) || has_route (routes_of_place p) r) (has_route (kept_out p) r) (list_all_at (λ r. not (test r) || has_route (routes_of_place p) r || has_route (kept_out p) r) (route_numbers (routes_of d)) r all (numbered t r m)))
    where
      on : (not (test r) ≡ true) ⊎ (has_route (routes_of_place p) r ≡ true) → In r (routes_of_place p) ⊎ In r (kept_out p)
      on (inl no_test) = absurd (true≢false (sym passes ∙ is_false (test r) no_test))
      on (inr here) = inl (has_route_in (routes_of_place p) r here)

      go : ((not (test r) || has_route (routes_of_place p) r) ≡ true) ⊎ (has_route (kept_out p) r ≡ true) → In r (routes_of_place p) ⊎ In r (kept_out p)
      go (inl h) = on (either (not (test r)) _ h)
      go (inr out) = inr (has_route_in (kept_out p) r out)

  record Formed (t : TrainNo) : Type 0 where
    begins : begins_in (first_visit (train_of d t)) (path_routes (routes_of d) plan t) ≡ true
    goes : all_neighbors (λ r q. goes_on r.finish q.start) (path_routes (routes_of d) plan t) ≡ true
    ends : all_pairs (λ r q. not (end_at_one_signal r.finish q.finish)) (path_routes (routes_of d) plan t) ≡ true

  formed : (t : TrainNo) → 1 ≤ length (path plan t) → Formed t
  formed t some =
      let all = formed_path d adm n plan well.formed t (has_train d adm n plan well t some) in
      let xyz = and_left _ (all_pairs (λ r q. not (end_at_one_signal r.finish q.finish)) (path_routes (routes_of d) plan t)) all in
      let xy = and_left _ (all_pairs (λ r q. not (is_start r.start q.start)) (path_routes (routes_of d) plan t)) xyz in
      record {
        begins = and_left (begins_in (first_visit (train_of d t)) (path_routes (routes_of d) plan t)) _ xy;
        goes = and_right (begins_in (first_visit (train_of d t)) (path_routes (routes_of d) plan t)) _ xy;
        ends = and_right _ (all_pairs (λ r q. not (end_at_one_signal r.finish q.finish)) (path_routes (routes_of d) plan t)) all;
      }

  -- of a path no two routes end at one signal
  same_end : (ps : List RouteNo) → all_pairs (λ r q. not (end_at_one_signal r.finish q.finish)) (map f ps) ≡ true → (r g : RouteNo) → In r ps → In g ps → end_at_one_signal (f r).finish (f g).finish ≡ true → end_at_one_signal (f g).finish (f r).finish ≡ true → r ≡ g
  same_end [] all r g m k x y = absurd m
  same_end (p ∷ ps) all r g (inl e) (inl e2) x y = sym e ∙ e2
  same_end (p ∷ ps) all r g (inl e) (inr k) x y =
      let apart = list_all_at (λ q. not (end_at_one_signal (f p).finish q.finish)) (map f ps) (f g) (and_left (list_all (λ q. not (end_at_one_signal (f p).finish q.finish)) (map f ps)) _ all) (in_map f ps g k) in
      absurd (not_both (end_at_one_signal (f p).finish (f g).finish) apart (ap (λ z. end_at_one_signal (f z).finish (f g).finish) e ∙ x))
  same_end (p ∷ ps) all r g (inr m) (inl e) x y =
      let apart = list_all_at (λ q. not (end_at_one_signal (f p).finish q.finish)) (map f ps) (f r) (and_left (list_all (λ q. not (end_at_one_signal (f p).finish q.finish)) (map f ps)) _ all) (in_map f ps r m) in
      absurd (not_both (end_at_one_signal (f p).finish (f r).finish) apart (ap (λ z. end_at_one_signal (f z).finish (f r).finish) e ∙ y))
  same_end (p ∷ ps) all r g (inr m) (inr k) x y = same_end ps (and_right (list_all (λ q. not (end_at_one_signal (f p).finish q.finish)) (map f ps)) _ all) r g m k x y

  -- where a path begins is a boundary
  at_boundary : (set : List NodeNo) (r : Route) → starts_in set r.start ≡ true → from_boundary (r ∷ []) ≡ true
  at_boundary set r h = go r.start refl h
    where
      go : (s : Start) → r.start ≡ s → starts_in set s ≡ true → from_boundary (r ∷ []) ≡ true
      go (start.Boundary m) e h = cc
      go (start.Signal m) e h = absurd (true≢false (sym h))

  to_signal : (r q : Route) → goes_on r.finish q.start ≡ true → from_boundary (q ∷ []) ≡ false
  to_signal r q h = go q.start refl
    where
      go : (s : Start) → q.start ≡ s → from_boundary (q ∷ []) ≡ false
      go (start.Boundary m) e = absurd (true≢false (sym h ∙ ap (goes_on r.finish) e ∙ not_to_boundary r.finish m))
      go (start.Signal m) e = cc

  -- two routes next to each other in a path
  goes_after : (t : TrainNo) (ys : List RouteNo) (y x : RouteNo) (rest : List RouteNo) → path plan t ≡ ys ++ y ∷ x ∷ rest → goes_on (f y).finish (f x).start ≡ true
  goes_after t ys y x rest whole =
      let some : 1 ≤ length (path plan t) = let l = ap length whole in let m = length-append ys (y ∷ x ∷ rest) in omega arith in
      let g = subst (λ rs. all_neighbors (λ r q. goes_on r.finish q.start) rs ≡ true) (ap (map f) whole ∙ map-append f ys (y ∷ x ∷ rest)) (formed t some).goes in
      and_left (goes_on (f y).finish (f x).start) _ (neighbors_after (λ r q. goes_on r.finish q.start) (map f ys) (f y ∷ f x ∷ map f rest) g)

  -- a route of a path that starts at a signal follows another
  pub record Follows (t : TrainNo) (before : List RouteNo) (x : RouteNo) : Type 0 where
    pub earlier : List RouteNo
    pub last : RouteNo
    pub split : before ≡ earlier ++ last ∷ []
    pub goes : goes_on_to d (routes_of d) last x ≡ true
    pub member : In last (path plan t)

  pub follows : (t : TrainNo) (before : List RouteNo) (x : RouteNo) (rest : List RouteNo) → path plan t ≡ before ++ x ∷ rest → is_first_route d (routes_of d) x ≡ false → Follows t before x
  follows t before x rest whole inner = go (last_or_none before)
    where
      some : 1 ≤ length (path plan t)
      some = let l = ap length whole in let m = length-append before (x ∷ rest) in omega arith

      go : (before ≡ []) ⊎ ((ys : List RouteNo) × (y : RouteNo) × (before ≡ ys ++ y ∷ [])) → Follows t before x
      go (inl none) =
          let whole_now : path plan t ≡ x ∷ rest = whole ∙ ap (λ zs. zs ++ x ∷ rest) none in
          let b = subst (λ ps. begins_in (first_visit (train_of d t)) (map f ps) ≡ true) whole_now (formed t some).begins in
          absurd (true≢false (sym (at_boundary (first_visit (train_of d t)) (f x) b) ∙ inner))
      go (inr (ys, y, e)) =
          let whole_now : path plan t ≡ ys ++ y ∷ x ∷ rest = whole ∙ ap (λ zs. zs ++ x ∷ rest) e ∙ append_assoc ys (y ∷ []) (x ∷ rest) in
          record { earlier = ys; last = y; split = e; goes = goes_after t ys y x rest whole_now; member = subst (In y) (sym whole_now) (in_middle ys y (x ∷ rest)) }

  -- a route of a path that follows another starts at a signal, and where that one ends
  pub inner_route : (t : TrainNo) (before : List RouteNo) (x : RouteNo) (rest : List RouteNo) → path plan t ≡ before ++ x ∷ rest → 1 ≤ length before → is_first_route d (routes_of d) x ≡ false
  inner_route t before x rest whole some = go (last_or_none before)
    where
      go : (before ≡ []) ⊎ ((ys : List RouteNo) × (y : RouteNo) × (before ≡ ys ++ y ∷ [])) → is_first_route d (routes_of d) x ≡ false
      go (inl none) = let l = ap length none in absurd (omega arith)
      go (inr (ys, y, e)) = to_signal (f y) (f x) (goes_after t ys y x rest (whole ∙ ap (λ zs. zs ++ x ∷ rest) e ∙ append_assoc ys (y ∷ []) (x ∷ rest)))

  pub ends_inside : (t : TrainNo) (before : List RouteNo) (x y : RouteNo) (rest : List RouteNo) → path plan t ≡ before ++ x ∷ y ∷ rest → ends_at_signal (f x).finish ≡ true
  ends_inside t before x y rest whole = go (f x).finish (goes_after t before x y rest whole)
    where
      go : (e : Finish) → goes_on e (f y).start ≡ true → ends_at_signal e ≡ true
      go (finish.Signal s) h = refl
      go (finish.Exit m) h = absurd (true≢false (sym h))
      go (finish.DeadEnd m) h = absurd (true≢false (sym h))

  -- ---- places

  module _ (t : TrainNo) where
    -- the train uses the routes that the place names, and none that it keeps out
    pub record Keeps (p : Place) : Type 0 where
      pub uses : (r : RouteNo) → In r (named_at p) → In r (path plan t)
      pub avoids : (r : RouteNo) → In r (kept_out p) → In r (path plan t) → ⊥

    -- before a route of the second place the train uses one of the first
    pub comes_from : (p q : Place) → Keeps p → comes_before d (routes_of d) p q ≡ true → (before : List RouteNo) (x : RouteNo) (rest : List RouteNo) → path plan t ≡ before ++ x ∷ rest → In x (routes_of_place q)
        → (w : Follows t before x) × In w.last (routes_of_place p)
    comes_from (place.Named r) q keeps h before x rest whole m =
        let on = list_all_at (goes_on_to d (routes_of d) r) (routes_of_place q) x h m in
        let w = follows t before x rest whole (to_signal (f r) (f x) on) in
        let some : 1 ≤ length (path plan t) = let l = ap length whole in let k = length-append before (x ∷ rest) in omega arith in
        let same = same_end (path plan t) (formed t some).ends r w.last (keeps.uses r (inl refl)) w.member (both_end_there (f r).finish (f w.last).finish (f x).start on w.goes) (both_end_there (f w.last).finish (f r).finish (f x).start w.goes on) in
        (w, inl same)
    comes_from (place.Among rs without) q keeps h before x rest whole m =
        let inner = list_all_at (λ s. not (is_first_route d (routes_of d) s)) (routes_of_place q) x (and_left _ (covers d (routes_of d) (λ r. list_any (goes_on_to d (routes_of d) r) (routes_of_place q)) (place.Among rs without)) h) m in
        let w = follows t before x rest whole (is_false (is_first_route d (routes_of d) x) inner) in
        let leads = list_any_from (goes_on_to d (routes_of d) w.last) (routes_of_place q) x m w.goes in
        (w, among w.last w.member (covered_at (λ r. list_any (goes_on_to d (routes_of d) r) (routes_of_place q)) (place.Among rs without) t w.last (and_right (list_all (λ s. not (is_first_route d (routes_of d) s)) (routes_of_place q)) _ h) w.member leads))
      where
        among : (g : RouteNo) → In g (path plan t) → In g rs ⊎ In g without → In g rs
        among g here (inl i) = i
        among g here (inr o) = absurd (keeps.avoids g o here)

    -- a walk through the places to a route of the last
    pub record Through (ps : List Place) (a : List RouteNo) (r : RouteNo) : Type 0 where
      pub before : List RouteNo
      pub prefix : List RouteNo
      pub split : a ≡ before ++ prefix
      pub lies : LieIn (prefix ++ r ∷ []) (map routes_of_place ps)

    first_lies : (prefix : List RouteNo) (r : RouteNo) (q : Place) (ps : List Place) → LieIn (prefix ++ r ∷ []) (map routes_of_place (q ∷ ps)) → In (first_of d (routes_of d) plan prefix r) (routes_of_place q)
    first_lies [] r q ps l = l.0
    first_lies (p ∷ prefix) r q ps l = l.0

    pub first_splits : (prefix : List RouteNo) (r : RouteNo) (more : List RouteNo) → (rest : List RouteNo) × (prefix ++ r ∷ more ≡ first_of d (routes_of d) plan prefix r ∷ rest)
    first_splits [] r more = (more, refl)
    first_splits (p ∷ prefix) r more = (prefix ++ r ∷ more, refl)

    pub through : (p : Place) (ps : List Place) → ((q : Place) → In q (p ∷ ps) → Keeps q) → all_neighbors (comes_before d (routes_of d)) (p ∷ ps) ≡ true → (a : List RouteNo) (r : RouteNo) (more : List RouteNo) → path plan t ≡ a ++ r ∷ more → In r (routes_of_place (last_of_places (p ∷ ps))) → Through (p ∷ ps) a r
    through p [] keeps next a r more whole m = record { before = a; prefix = []; split = sym (append-nil a); lies = (m, tt) }
    through p (q ∷ ps) keeps next a r more whole m =
        let later = through q ps (λ x i. keeps x (inr i)) (and_right (comes_before d (routes_of d) p q) _ next) a r more whole m in
        let s = first_splits later.prefix r more in
        let whole_now : path plan t ≡ later.before ++ first_of d (routes_of d) plan later.prefix r ∷ s.0 = whole ∙ ap (λ zs. zs ++ r ∷ more) later.split ∙ append_assoc later.before later.prefix (r ∷ more) ∙ ap (λ zs. later.before ++ zs) s.1 in
        let c = comes_from p q (keeps p (inl refl)) (and_left (comes_before d (routes_of d) p q) _ next) later.before (first_of d (routes_of d) plan later.prefix r) s.0 whole_now (first_lies later.prefix r q ps later.lies) in
        record {
          before = c.0.earlier;
          prefix = c.0.last ∷ later.prefix;
          split = later.split ∙ ap (λ zs. zs ++ later.prefix) c.0.split ∙ append_assoc c.0.earlier (c.0.last ∷ []) later.prefix;
          lies = (c.1, later.lies);
        }

  -- ---- legs

  lies_mapped : (xs : List RouteNo) (ps : List Place) → LieIn xs (map routes_of_place ps) → LieIn (map f xs) (map (λ p. map f (routes_of_place p)) ps)
  lies_mapped [] [] l = tt
  lies_mapped [] (p ∷ ps) l = absurd l
  lies_mapped (x ∷ xs) [] l = absurd l
  lies_mapped (x ∷ xs) (p ∷ ps) l = (in_map f (routes_of_place p) x l.0, lies_mapped xs ps l.1)

  -- the path of a leg's train has the leg's ride, that ends with the route behind these
  pub record Ridden (l : Leg) (a : List RouteNo) (r : RouteNo) : Type 0 where
    pub ride : Rides d (routes_of d) plan (ride_of (routes_of d) l)
    pub split : a ≡ ride.before ++ ride.prefix
    pub ends : ride.last ≡ r
    pub first : In (first_of d (routes_of d) plan ride.prefix ride.last) (routes_of_place (first_of_leg l))

  pub ridden : (l : Leg) → is_empty l.places ≡ false → ((p : Place) → In p l.places → Keeps l.train p) → all_neighbors (comes_before d (routes_of d)) l.places ≡ true
      → (a : List RouteNo) (r : RouteNo) (more : List RouteNo) → path plan l.train ≡ a ++ r ∷ more → In r (routes_of_place (last_of_leg l)) → Ridden l a r
  ridden l some keeps next a r more whole m = go l.places refl
    where
      go : (ps : List Place) → l.places ≡ ps → Ridden l a r
      go [] e = absurd (true≢false (ap is_empty (sym e) ∙ some))
      go (p ∷ ps) e =
          let w = through l.train p ps (λ q i. keeps q (subst (In q) (sym e) i)) (subst (λ ps. all_neighbors (comes_before d (routes_of d)) ps ≡ true) e next) a r more whole (subst (λ ps. In r (routes_of_place (last_of_places ps))) e m) in
          let lies : LieIn (map f (w.prefix ++ r ∷ [])) (map (λ p. map f (routes_of_place p)) l.places) = subst (λ ps. LieIn (map f (w.prefix ++ r ∷ [])) (map (λ p. map f (routes_of_place p)) ps)) (sym e) (lies_mapped (w.prefix ++ r ∷ []) (p ∷ ps) w.lies) in
          record {
            ride = record { before = w.before; prefix = w.prefix; last = r; more = more; whole = whole ∙ ap (λ zs. zs ++ r ∷ more) w.split ∙ append_assoc w.before w.prefix (r ∷ more); lies = lies };
            split = w.split;
            ends = refl;
            first = subst (λ ps. In (first_of d (routes_of d) plan w.prefix r) (routes_of_place (first_of_places ps))) (sym e) (first_lies l.train w.prefix r p ps w.lies);
          }
