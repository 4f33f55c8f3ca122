-- What the parts of a certificate say is what its clause says.
use Rattle.std.proofs.Common.{◌≡◌, ◌⊎◌, inl, inr, Bool, true, false, not, ◌&&◌, ◌||◌, if◌then◌else◌, List, [], ◌∷◌, ◌++◌, map, filter, flat_map, Option, None, Some, refl, sym, ap, subst, eq-eqb, true≢false}
use Rattle.std.specs.List.{list_any}
use Rattle.rail_base.specs.declared.station.Station.{Station}
use Rattle.rail_base.specs.declared.station.TrainNo.{TrainNo}
use Rattle.rail_base.specs.declared.route.Route.{Route}
use Rattle.rail_base.specs.declared.route.RouteNo.{RouteNo}
use Rattle.rail_base.specs.declared.plan.Command.{Command}
use Rattle.rail_base.specs.Stations.{train_of, first_visit}
use Rattle.rail_base.proofs.Members.{In, and_left, and_right, and_both, either, or_left, or_right, in_filter, list_any_from, list_any_gives, is_false}
use Rattle.rail_base.proofs.Lists.{in_append, in_append_left, in_append_right, in_filter_back, in_map, in_map_back, in_flat_map, in_flat_map_back}
use Rattle.rail_spec.specs.Plans.{route_at, is_train, is_command, contend, starts_in, commands_of, route_numbers, all_commands}
use Rattle.rail_laws.proofs.Given.{same_train}
use Rattle.clause_spec.specs.Variables.{pairs}
use Rattle.clause_spec.proofs.Places.{command_of, pair_of, pair_from}
use Rattle.cone_spec.specs.Cones as cone
use Rattle.cone_spec.specs.Cones.{has_route, is_free, has_pair, named}
use Rattle.cone_spec.specs.Clauses as words
use Rattle.cone_spec.specs.Clauses.{Used, Before, Literal, is_closed, goes_further, clause_of_cone}
use Rattle.cone_spec.proofs.Naming.{has_route_in, in_has_route}
use Rattle.cone_spec.proofs.Saying.{is_command_same, is_command_self}
use Rattle.bound_spec.specs.declared.Origin.{Origin}
use Rattle.bound_spec.specs.declared.Origin.TheVariants as origin
use Rattle.bound_spec.specs.declared.Place.{Place}
use Rattle.bound_spec.specs.declared.Place.TheVariants as place
use Rattle.bound_spec.specs.declared.Leg.{Leg}
use Rattle.bound_spec.specs.declared.Bound.{Bound}
use Rattle.bound_spec.specs.Certificates.{VisitOf, routes_of_place, named_at, kept_out, first_of_leg, last_of_leg, visit_from, cone_of}
use Rattle.bound_spec.specs.Clauses.{any_next, stands_in, is_at, meet_named, are_where_they_meet, joins, may_join, begins_at_once, is_named, is_past_cone, is_kept_out, is_before, is_kept_behind, used_literals, before_literals, clause_of_bound}
use Rattle.bound_spec.specs.Validity.{names_design}
use Rattle.bound_clause.specs.Said.{used_by, not_used_by, said_of_place, said_of_leg, said_of_legs, said_of_pair, said_after, said_between, said_of_meetings, said_before, said_of_start, said_at, said_of_origin, said_literals}
use Rattle.bound_clause.proofs.Numbering.{mirrored}
use Rattle.bound_clause.proofs.Fitting.{train_fits, place_fits, numbered_in, numbered_out, command_in, first_command, last_command, leg_fits}

-- ---- literals that are there where a test passes

abbrev used_literal : Command → Bool → Literal
used_literal c negated = record { fact = Used c; negated = negated }

abbrev before : Command → Command → Bool → Literal
before e c negated = record { fact = Before e c; negated = negated }

in_if : {X : Type 0} (x : Bool) (l : X) → x ≡ true → In l (if x then l ∷ [] else [])
in_if true l e = inl refl
in_if false l e = absurd (true≢false (sym e))

one_if : {X : Type 0} (x : Bool) (l m : X) → In l (if x then m ∷ [] else []) → (x ≡ true) × (m ≡ l)
one_if true l m (inl e) = (refl, e)
one_if true l m (inr e) = absurd e
one_if false l m e = absurd e

in_then : {X : Type 0} (x : Bool) (l : X) (ls : List X) → x ≡ true → In l ls → In l (if x then ls else [])
in_then true l ls e m = m
in_then false l ls e m = absurd (true≢false (sym e))

if_then : {X : Type 0} (x : Bool) (l : X) (ls : List X) → In l (if x then ls else []) → (x ≡ true) × In l ls
if_then true l ls m = (refl, m)
if_then false l ls m = absurd m

if_first : {X : Type 0} (x y : Bool) (l m : X) → x ≡ true → In l (if x then l ∷ [] else if y then m ∷ [] else [])
if_first true y l m e = inl refl
if_first false y l m e = absurd (true≢false (sym e))

if_second : {X : Type 0} (x y : Bool) (l m : X) → x ≡ false → y ≡ true → In m (if x then l ∷ [] else if y then m ∷ [] else [])
if_second true y l m e f = absurd (true≢false e)
if_second false true l m e f = inl refl
if_second false false l m e f = absurd (true≢false (sym f))

-- the one of two that is there
either_if : {X : Type 0} (x y : Bool) (k l m : X) → In k (if x then l ∷ [] else if y then m ∷ [] else []) → ((x ≡ true) × (l ≡ k)) ⊎ ((x ≡ false) × (y ≡ true) × (m ≡ k))
either_if true y k l m (inl e) = inl (refl, e)
either_if true y k l m (inr e) = absurd e
either_if false true k l m (inl e) = inr (refl, refl, e)
either_if false true k l m (inr e) = absurd e
either_if false false k l m e = absurd e

-- ---- two legs next to each other

module _ (l : Literal) where
  abbrev IsMeeting : List Leg → Type 0
  IsMeeting ls = (x : Leg) × (y : Leg) × In x ls × In y ls × In l (said_between x y) × ((test : Leg → Leg → Bool) → test x y ≡ true → any_next test ls ≡ true)

  meeting_of : (ls : List Leg) → In l (said_of_meetings ls) → IsMeeting ls
  meeting_of [] i = absurd i
  meeting_of (x ∷ []) i = absurd i
  meeting_of (x ∷ y ∷ ls) i = go (in_append l (said_between x y) (said_of_meetings (y ∷ ls)) i) (meeting_of (y ∷ ls))
    where
      go : In l (said_between x y) ⊎ In l (said_of_meetings (y ∷ ls)) → (In l (said_of_meetings (y ∷ ls)) → IsMeeting (y ∷ ls)) → IsMeeting (x ∷ y ∷ ls)
      go (inl j) later = (x, y, inl refl, inr (inl refl), j, λ test h. or_left (test x y) _ h)
      go (inr j) later = let f = later j in (f.0, f.1, inr f.2, inr f.3, f.4, λ test h. or_right (test x y) _ (f.5 test h))

  any_meeting : (test : Leg → Leg → Bool) (ls : List Leg) → any_next test ls ≡ true → (x : Leg) × (y : Leg) × (test x y ≡ true) × (In l (said_between x y) → In l (said_of_meetings ls))
  any_meeting test [] h = absurd (true≢false (sym h))
  any_meeting test (x ∷ []) h = absurd (true≢false (sym h))
  any_meeting test (x ∷ y ∷ ls) h = go (either (test x y) (any_next test (y ∷ ls)) h) (any_meeting test (y ∷ ls))
    where
      go : (test x y ≡ true) ⊎ (any_next test (y ∷ ls) ≡ true) → (any_next test (y ∷ ls) ≡ true → (x : Leg) × (y' : Leg) × (test x y' ≡ true) × (In l (said_between x y') → In l (said_of_meetings (y ∷ ls)))) → (x' : Leg) × (y' : Leg) × (test x' y' ≡ true) × (In l (said_between x' y') → In l (said_of_meetings (x ∷ y ∷ ls)))
      go (inl e) later = (x, y, e, λ i. in_append_left l (said_between x y) (said_of_meetings (y ∷ ls)) i)
      go (inr e) later = let f = later e in (f.0, f.1, f.2, λ i. in_append_right l (said_between x y) (said_of_meetings (y ∷ ls)) (f.3 i))

-- the literal of two commands with which two legs meet
in_between : (e c : Command) (x y : Leg) → are_where_they_meet e c x y ≡ true → In (said_of_pair (meet_named x y) e c) (said_between x y)
in_between e c x y at =
    let on_x = and_left (is_at x (last_of_leg x) e) _ at in
    let on_y = and_right (is_at x (last_of_leg x) e) _ at in
    let t = same_train x.train e.train (and_left (is_train x.train e.train) _ on_x) in
    let u = same_train y.train c.train (and_left (is_train y.train c.train) _ on_y) in
    let r = has_route_in (routes_of_place (last_of_leg x)) e.route (and_right (is_train x.train e.train) _ on_x) in
    let q = has_route_in (routes_of_place (first_of_leg y)) c.route (and_right (is_train y.train c.train) _ on_y) in
    let there : In (said_of_pair (meet_named x y) (record { train = x.train; route = e.route }) (record { train = y.train; route = c.route })) (said_between x y) =
    in_flat_map (λ (r : RouteNo). said_after (meet_named x y) (record { train = x.train; route = r }) y) (routes_of_place (last_of_leg x)) e.route _ r
    (in_map (λ (q : RouteNo). said_of_pair (meet_named x y) (record { train = x.train; route = e.route }) (record { train = y.train; route = q })) (routes_of_place (first_of_leg y)) c.route q) in
    subst (λ (u : TrainNo). In (said_of_pair (meet_named x y) e (record { train = u; route = c.route })) (said_between x y)) u
    (subst (λ (t : TrainNo). In (said_of_pair (meet_named x y) (record { train = t; route = e.route }) (record { train = y.train; route = c.route })) (said_between x y)) t there)

module _ (d : Station) (routes : List Route) (b : Bound) where
  -- ---- literals of the clause

  abbrev used_part : List Literal
  used_part = flat_map (used_literals d routes b) (all_commands d routes)

  abbrev before_of : Command → List Literal
  before_of e = flat_map (before_literals d routes b e) (all_commands d routes)

  abbrev before_part : List Literal
  before_part = flat_map before_of (all_commands d routes)

  pub put_named : (c : Command) → In c (all_commands d routes) → is_named d routes b c ≡ true → In (used_literal c true) (clause_of_bound d routes b)
  put_named c m h = in_append_left (used_literal c true) used_part before_part (in_flat_map (used_literals d routes b) (all_commands d routes) c (used_literal c true) m
      (in_append_left (used_literal c true) (if is_named d routes b c then used_literal c true ∷ [] else []) (if is_kept_out d routes b c then used_literal c false ∷ [] else []) (in_if (is_named d routes b c) (used_literal c true) h)))

  pub put_out : (c : Command) → In c (all_commands d routes) → is_kept_out d routes b c ≡ true → In (used_literal c false) (clause_of_bound d routes b)
  put_out c m h = in_append_left (used_literal c false) used_part before_part (in_flat_map (used_literals d routes b) (all_commands d routes) c (used_literal c false) m
      (in_append_right (used_literal c false) (if is_named d routes b c then used_literal c true ∷ [] else []) (if is_kept_out d routes b c then used_literal c false ∷ [] else []) (in_if (is_kept_out d routes b c) (used_literal c false) h)))

  pub put_before : (e c : Command) → In e (all_commands d routes) → In c (all_commands d routes) → is_before d routes b e c ≡ true → In (before e c true) (clause_of_bound d routes b)
  put_before e c i m h = in_append_right (before e c true) used_part before_part (in_flat_map before_of (all_commands d routes) e (before e c true) i (in_flat_map (before_literals d routes b e) (all_commands d routes) c (before e c true) m
      (in_append_left (before e c true) (if is_before d routes b e c then before e c true ∷ [] else []) (if is_kept_behind d routes b e c then before e c false ∷ [] else []) (in_if (is_before d routes b e c) (before e c true) h))))

  pub put_behind : (e c : Command) → In e (all_commands d routes) → In c (all_commands d routes) → is_kept_behind d routes b e c ≡ true → In (before e c false) (clause_of_bound d routes b)
  put_behind e c i m h = in_append_right (before e c false) used_part before_part (in_flat_map before_of (all_commands d routes) e (before e c false) i (in_flat_map (before_literals d routes b e) (all_commands d routes) c (before e c false) m
      (in_append_right (before e c false) (if is_before d routes b e c then before e c true ∷ [] else []) (if is_kept_behind d routes b e c then before e c false ∷ [] else []) (in_if (is_kept_behind d routes b e c) (before e c false) h))))

  -- ---- each literal that is said is one of the clause

  abbrev clause : List Literal
  clause = clause_of_bound d routes b

  abbrev further : Command → Bool
  further c = goes_further (map (route_at routes) (named (cone_of b) c.train).path) (route_at routes c.route)

  of_cone : (l : Literal) → In l (clause_of_cone d routes (cone_of b)) → In l clause
  of_cone l i = go (in_append l (flat_map (words.used_literals d routes (cone_of b)) (all_commands d routes)) (flat_map (λ e. flat_map (words.before_literals d routes (cone_of b) e) (all_commands d routes)) (all_commands d routes)) i)
    where
      one_used : (c : Command) → In c (all_commands d routes) → ((cone.is_named (cone_of b) c ≡ true) × (used_literal c true ≡ l)) ⊎ ((cone.is_named (cone_of b) c ≡ false) × ((is_closed d routes (cone_of b) c.train && further c) ≡ true) × (used_literal c false ≡ l)) → In l clause
      one_used c m (inl (h, e)) = subst (λ l. In l clause) e (put_named c m (or_right (list_any (stands_in named_at c) b.legs) _ h))
      one_used c m (inr (h, k, e)) = subst (λ l. In l clause) e (put_out c m (or_right (list_any (stands_in kept_out c) b.legs) _
          (and_both _ _ (and_both _ _ (ap not h) (and_left (is_closed d routes (cone_of b) c.train) _ k)) (and_right (is_closed d routes (cone_of b) c.train) _ k))))

      one_before : (e c : Command) → In e (all_commands d routes) → In c (all_commands d routes) → ((has_pair (cone_of b) e c ≡ true) × (before e c true ≡ l)) ⊎ ((has_pair (cone_of b) e c ≡ false) × ((is_free (cone_of b) c && contend routes e c) ≡ true) × (before e c false ≡ l)) → In l clause
      one_before e c i m (inl (h, s)) = subst (λ l. In l clause) s (put_before e c i m (or_right (any_next (joins e c) b.legs) _ h))
      one_before e c i m (inr (h, k, s)) = subst (λ l. In l clause) s (put_behind e c i m (or_right _ _
          (and_both _ _ (and_both _ _ (ap not h) (and_left (is_free (cone_of b) c) _ k)) (and_right (is_free (cone_of b) c) _ k))))

      go : In l (flat_map (words.used_literals d routes (cone_of b)) (all_commands d routes)) ⊎ In l (flat_map (λ e. flat_map (words.before_literals d routes (cone_of b) e) (all_commands d routes)) (all_commands d routes)) → In l clause
      go (inl j) = let c = in_flat_map_back (words.used_literals d routes (cone_of b)) (all_commands d routes) l j in one_used c.0 c.1 (either_if (cone.is_named (cone_of b) c.0) (is_closed d routes (cone_of b) c.0.train && further c.0) l (used_literal c.0 true) (used_literal c.0 false) c.2)
      go (inr j) =
          let e = in_flat_map_back (λ e. flat_map (words.before_literals d routes (cone_of b) e) (all_commands d routes)) (all_commands d routes) l j in
          let c = in_flat_map_back (words.before_literals d routes (cone_of b) e.0) (all_commands d routes) l e.2 in
          one_before e.0 c.0 e.1 c.1 (either_if (has_pair (cone_of b) e.0 c.0) (is_free (cone_of b) c.0 && contend routes e.0 c.0) l (before e.0 c.0 true) (before e.0 c.0 false) c.2)

  stands : (at : Place → List RouteNo) (g : Leg) → In g b.legs → (p : Place) → In p g.places → (r : RouteNo) → In r (at p) → list_any (stands_in at (record { train = g.train; route = r })) b.legs ≡ true
  stands at g i p j r k = list_any_from (stands_in at (record { train = g.train; route = r })) b.legs g i
      (and_both (is_train g.train g.train) (list_any (λ p. has_route (at p) r) g.places) (eq-eqb g.train.0 g.train.0 refl) (list_any_from (λ p. has_route (at p) r) g.places p j (in_has_route (at p) r k)))

  module _ (names : names_design d routes b ≡ true) where
    of_place : (l : Literal) (g : Leg) → In g b.legs → (p : Place) → In p g.places → In l (said_of_place g.train p) → In l clause
    of_place l g i (place.Named r) j (inl s) =
        let fits = leg_fits d routes b names g i in
        subst (λ l. In l clause) s (put_named (record { train = g.train; route = r }) (command_in d routes g.train r (train_fits d routes g fits) (numbered_in d routes (place.Named r) r (place_fits d routes g (place.Named r) fits j) (inl refl)))
        (or_left (list_any (stands_in named_at (record { train = g.train; route = r })) b.legs) _ (stands named_at g i (place.Named r) j r (inl refl))))
    of_place l g i (place.Named r) j (inr s) = absurd s
    of_place l g i (place.Among rs without) j k =
        let fits = leg_fits d routes b names g i in
        let r = in_map_back (used_by g.train) without l k in
        subst (λ l. In l clause) r.2 (put_out (record { train = g.train; route = r.0 }) (command_in d routes g.train r.0 (train_fits d routes g fits) (numbered_out d routes (place.Among rs without) r.0 (place_fits d routes g (place.Among rs without) fits j) r.1))
        (or_left (list_any (stands_in kept_out (record { train = g.train; route = r.0 })) b.legs) _ (stands kept_out g i (place.Among rs without) j r.0 r.1)))

    of_legs : (l : Literal) → In l (said_of_legs b) → In l clause
    of_legs l i =
        let g = in_flat_map_back said_of_leg b.legs l i in
        let p = in_flat_map_back (said_of_place g.0.train) g.0.places l g.2 in
        of_place l g.0 g.1 p.0 p.1 p.2

    of_meetings : (l : Literal) → In l (said_of_meetings b.legs) → In l clause
    of_meetings l i =
        let f = meeting_of l b.legs i in
        let x = f.0 in
        let y = f.1 in
        let r = in_flat_map_back (λ (r : RouteNo). said_after (meet_named x y) (record { train = x.train; route = r }) y) (routes_of_place (last_of_leg x)) l f.4 in
        let q = in_map_back (λ (q : RouteNo). said_of_pair (meet_named x y) (record { train = x.train; route = r.0 }) (record { train = y.train; route = q })) (routes_of_place (first_of_leg y)) l r.2 in
        of_pair l x y f.5 (record { train = x.train; route = r.0 }) (record { train = y.train; route = q.0 })
        (last_command d routes x r.0 (leg_fits d routes b names x f.2) r.1) (first_command d routes y q.0 (leg_fits d routes b names y f.3) q.1)
        (and_both _ _ (and_both _ _ (eq-eqb x.train.0 x.train.0 refl) (in_has_route (routes_of_place (last_of_leg x)) r.0 r.1)) (and_both _ _ (eq-eqb y.train.0 y.train.0 refl) (in_has_route (routes_of_place (first_of_leg y)) q.0 q.1))) q.2
      where
        of_pair : (l : Literal) (x y : Leg) → ((test : Leg → Leg → Bool) → test x y ≡ true → any_next test b.legs ≡ true) → (e c : Command) → In e (all_commands d routes) → In c (all_commands d routes) → are_where_they_meet e c x y ≡ true → said_of_pair (meet_named x y) e c ≡ l → In l clause
        of_pair l x y next e c i m at s = go (meet_named x y) refl s
          where
            go : (n : Bool) → meet_named x y ≡ n → said_of_pair n e c ≡ l → In l clause
            go true h s = subst (λ l. In l clause) s (put_before e c i m (or_left (any_next (joins e c) b.legs) _ (next (joins e c) (and_both _ _ h at))))
            go false h s = subst (λ l. In l clause) s (put_behind c e m i (or_left _ _ (or_left (any_next (may_join e c) b.legs) _ (next (may_join e c) (and_both _ _ (ap not h) at)))))

    of_origin : (l : Literal) → In l (said_of_origin d routes b) → In l clause
    of_origin l i = go b.origin refl (visit_from d b.requirement) refl i
      where
        start : (v : VisitOf) → b.origin ≡ origin.FirstTick → visit_from d b.requirement ≡ Some v → (c : Command) → In c (commands_of routes v.train) → (starts_in (first_visit (train_of d c.train)) (route_at routes c.route).start ≡ true) × In l (said_before (pairs d routes) c) → In l clause
        start v eo ev c m (begins, j) =
            let r = in_map_back (λ (r : RouteNo). record { train = v.train; route = r }) (route_numbers routes) c m in
            let p = in_map_back (λ (p : Command × Command). before p.1 c false) (filter (λ (p : Command × Command). is_command p.0 c) (pairs d routes)) l j in
            let k = in_filter_back (λ (p : Command × Command). is_command p.0 c) (pairs d routes) p.0 p.1 in
            let there : In (c, p.0.1) (pairs d routes) = subst (λ (x : Command). In (x, p.0.1) (pairs d routes)) (is_command_same p.0.0 c k.1) k.0 in
            let both = pair_of d routes (p.0.1, c) (mirrored d routes c p.0.1 there) in
            let at : begins_at_once d routes b origin.FirstTick (Some v) c ≡ true = and_both _ _ (eq-eqb v.train.0 c.train.0 (ap (λ (c : Command). c.train.0) r.2)) begins in
            let at_once : begins_at_once d routes b b.origin (visit_from d b.requirement) c ≡ true = subst (λ o. begins_at_once d routes b o (visit_from d b.requirement) c ≡ true) (sym eo) (subst (λ v. begins_at_once d routes b origin.FirstTick v c ≡ true) (sym ev) at) in
            subst (λ l. In l clause) p.2 (put_behind p.0.1 c both.one both.other (or_left _ _ (or_right (any_next (may_join c p.0.1) b.legs) _ (and_both _ _ at_once both.contend))))

        go : (o : Origin) → b.origin ≡ o → (v : Option VisitOf) → visit_from d b.requirement ≡ v → In l (said_at d routes o v) → In l clause
        go origin.FirstTick eo (Some v) ev i =
            let c = in_flat_map_back (said_of_start d routes) (commands_of routes v.train) l i in
            start v eo ev c.0 c.1 (if_then (starts_in (first_visit (train_of d c.0.train)) (route_at routes c.0.route).start) l (said_before (pairs d routes) c.0) c.2)
        go origin.FirstTick eo None ev i = absurd i
        go origin.Visit eo v ev i = absurd i
        go origin.Start eo v ev i = absurd i
        go (origin.Cone k c) eo v ev i = absurd i

    pub said_in : (l : Literal) → In l (said_literals d routes b) → In l clause
    said_in l i = go (in_append l (clause_of_cone d routes (cone_of b) ++ said_of_legs b ++ said_of_meetings b.legs) (said_of_origin d routes b) i)
      where
        two : In l (clause_of_cone d routes (cone_of b)) ⊎ In l (said_of_legs b) → In l clause
        two (inl j) = of_cone l j
        two (inr j) = of_legs l j

        three : In l (clause_of_cone d routes (cone_of b) ++ said_of_legs b) ⊎ In l (said_of_meetings b.legs) → In l clause
        three (inl j) = two (in_append l (clause_of_cone d routes (cone_of b)) (said_of_legs b) j)
        three (inr j) = of_meetings l j

        go : In l (clause_of_cone d routes (cone_of b) ++ said_of_legs b ++ said_of_meetings b.legs) ⊎ In l (said_of_origin d routes b) → In l clause
        go (inl j) = three (in_append l (clause_of_cone d routes (cone_of b) ++ said_of_legs b) (said_of_meetings b.legs) j)
        go (inr j) = of_origin l j

  -- ---- and each literal of the clause is said

  abbrev of_said : Literal → Type 0
  of_said l = In l (said_literals d routes b)

  said_by_cone : (l : Literal) → In l (clause_of_cone d routes (cone_of b)) → of_said l
  said_by_cone l i = in_append_left l (clause_of_cone d routes (cone_of b) ++ said_of_legs b ++ said_of_meetings b.legs) (said_of_origin d routes b) (in_append_left l (clause_of_cone d routes (cone_of b) ++ said_of_legs b) (said_of_meetings b.legs) (in_append_left l (clause_of_cone d routes (cone_of b)) (said_of_legs b) i))

  said_by_legs : (l : Literal) → In l (said_of_legs b) → of_said l
  said_by_legs l i = in_append_left l (clause_of_cone d routes (cone_of b) ++ said_of_legs b ++ said_of_meetings b.legs) (said_of_origin d routes b) (in_append_left l (clause_of_cone d routes (cone_of b) ++ said_of_legs b) (said_of_meetings b.legs) (in_append_right l (clause_of_cone d routes (cone_of b)) (said_of_legs b) i))

  said_by_meetings : (l : Literal) → In l (said_of_meetings b.legs) → of_said l
  said_by_meetings l i = in_append_left l (clause_of_cone d routes (cone_of b) ++ said_of_legs b ++ said_of_meetings b.legs) (said_of_origin d routes b) (in_append_right l (clause_of_cone d routes (cone_of b) ++ said_of_legs b) (said_of_meetings b.legs) i)

  said_by_origin : (l : Literal) → In l (said_of_origin d routes b) → of_said l
  said_by_origin l i = in_append_right l (clause_of_cone d routes (cone_of b) ++ said_of_legs b ++ said_of_meetings b.legs) (said_of_origin d routes b) i

  abbrev cone_used : List Literal
  cone_used = flat_map (words.used_literals d routes (cone_of b)) (all_commands d routes)

  abbrev cone_before_of : Command → List Literal
  cone_before_of e = flat_map (words.before_literals d routes (cone_of b) e) (all_commands d routes)

  abbrev cone_before : List Literal
  cone_before = flat_map cone_before_of (all_commands d routes)

  by_cone_used : (c : Command) (l : Literal) → In c (all_commands d routes) → In l (words.used_literals d routes (cone_of b) c) → of_said l
  by_cone_used c l m i = said_by_cone l (in_append_left l cone_used cone_before (in_flat_map (words.used_literals d routes (cone_of b)) (all_commands d routes) c l m i))

  by_cone_before : (e c : Command) (l : Literal) → In e (all_commands d routes) → In c (all_commands d routes) → In l (words.before_literals d routes (cone_of b) e c) → of_said l
  by_cone_before e c l n m i = said_by_cone l (in_append_right l cone_used cone_before (in_flat_map cone_before_of (all_commands d routes) e l n (in_flat_map (words.before_literals d routes (cone_of b) e) (all_commands d routes) c l m i)))

  -- what a leg says of a command that stands in it
  by_leg : (at : Place → List RouteNo) (negated : Bool) (c : Command) → ((t : TrainNo) (p : Place) → In c.route (at p) → In (used_literal (record { train = t; route = c.route }) negated) (said_of_place t p)) → list_any (stands_in at c) b.legs ≡ true → of_said (used_literal c negated)
  by_leg at negated c place h =
      let g = list_any_gives (stands_in at c) b.legs h in
      let t = same_train g.0.train c.train (and_left (is_train g.0.train c.train) _ g.2) in
      let p = list_any_gives (λ p. has_route (at p) c.route) g.0.places (and_right (is_train g.0.train c.train) _ g.2) in
      let here = place g.0.train p.0 (has_route_in (at p.0) c.route p.2) in
      let there : In (used_literal (record { train = g.0.train; route = c.route }) negated) (said_of_legs b) =
      in_flat_map said_of_leg b.legs g.0 _ g.1 (in_flat_map (said_of_place g.0.train) g.0.places p.0 _ p.1 here) in
      said_by_legs (used_literal c negated) (subst (λ (t : TrainNo). In (used_literal (record { train = t; route = c.route }) negated) (said_of_legs b)) t there)

  said_named : (c : Command) → In c (all_commands d routes) → is_named d routes b c ≡ true → of_said (used_literal c true)
  said_named c m h = go (either (list_any (stands_in named_at c) b.legs) (cone.is_named (cone_of b) c) h)
    where
      at_place : (t : TrainNo) (p : Place) → In c.route (named_at p) → In (used_literal (record { train = t; route = c.route }) true) (said_of_place t p)
      at_place t (place.Named r) (inl e) = inl (ap (λ (r : RouteNo). not_used_by t r) e)
      at_place t (place.Named r) (inr e) = absurd e
      at_place t (place.Among rs without) e = absurd e

      go : (list_any (stands_in named_at c) b.legs ≡ true) ⊎ (cone.is_named (cone_of b) c ≡ true) → of_said (used_literal c true)
      go (inl k) = by_leg named_at true c at_place k
      go (inr k) = by_cone_used c (used_literal c true) m (if_first (cone.is_named (cone_of b) c) (is_closed d routes (cone_of b) c.train && further c) (used_literal c true) (used_literal c false) k)

  said_out : (c : Command) → In c (all_commands d routes) → is_kept_out d routes b c ≡ true → of_said (used_literal c false)
  said_out c m h = go (either (list_any (stands_in kept_out c) b.legs) (is_past_cone d routes b c) h)
    where
      at_place : (t : TrainNo) (p : Place) → In c.route (kept_out p) → In (used_literal (record { train = t; route = c.route }) false) (said_of_place t p)
      at_place t (place.Named r) e = absurd e
      at_place t (place.Among rs without) e = in_map (used_by t) without c.route e

      go : (list_any (stands_in kept_out c) b.legs ≡ true) ⊎ (is_past_cone d routes b c ≡ true) → of_said (used_literal c false)
      go (inl k) = by_leg kept_out false c at_place k
      go (inr k) =
          let closed = and_left (not (cone.is_named (cone_of b) c) && is_closed d routes (cone_of b) c.train) (further c) k in
          by_cone_used c (used_literal c false) m (if_second (cone.is_named (cone_of b) c) (is_closed d routes (cone_of b) c.train && further c) (used_literal c true) (used_literal c false)
          (is_false (cone.is_named (cone_of b) c) (and_left (not (cone.is_named (cone_of b) c)) _ closed))
          (and_both _ _ (and_right (not (cone.is_named (cone_of b) c)) _ closed) (and_right (not (cone.is_named (cone_of b) c) && is_closed d routes (cone_of b) c.train) (further c) k)))

  said_earlier : (e c : Command) → In e (all_commands d routes) → In c (all_commands d routes) → is_before d routes b e c ≡ true → of_said (before e c true)
  said_earlier e c i m h = go (either (any_next (joins e c) b.legs) (has_pair (cone_of b) e c) h)
    where
      go : (any_next (joins e c) b.legs ≡ true) ⊎ (has_pair (cone_of b) e c ≡ true) → of_said (before e c true)
      go (inl j) =
          let f = any_meeting (before e c true) (joins e c) b.legs j in
          let named = and_left (meet_named f.0 f.1) _ f.2 in
          said_by_meetings (before e c true) (f.3 (subst (λ n. In (said_of_pair n e c) (said_between f.0 f.1)) named (in_between e c f.0 f.1 (and_right (meet_named f.0 f.1) _ f.2))))
      go (inr k) = by_cone_before e c (before e c true) i m (if_first (has_pair (cone_of b) e c) (is_free (cone_of b) c && contend routes e c) (before e c true) (before e c false) k)

  said_begins : (e c : Command) → In e (all_commands d routes) → In c (all_commands d routes) → contend routes e c ≡ true → (o : Origin) (v : Option VisitOf) → begins_at_once d routes b o v c ≡ true → In (before e c false) (said_at d routes o v)
  said_begins e c i m k origin.FirstTick (Some v) h =
      let t = same_train v.train c.train (and_left (is_train v.train c.train) _ h) in
      let here : In (record { train = v.train; route = c.route }) (commands_of routes v.train) = in_map (λ (r : RouteNo). record { train = v.train; route = r }) (route_numbers routes) c.route (command_of d routes c m).route in
      let there : In c (commands_of routes v.train) = subst (λ (t : TrainNo). In (record { train = t; route = c.route }) (commands_of routes v.train)) t here in
      let pair = mirrored d routes e c (pair_from d routes e c i m k) in
      in_flat_map (said_of_start d routes) (commands_of routes v.train) c (before e c false) there
      (in_then (starts_in (first_visit (train_of d c.train)) (route_at routes c.route).start) (before e c false) (said_before (pairs d routes) c) (and_right (is_train v.train c.train) _ h)
      (in_map (λ (p : Command × Command). before p.1 c false) (filter (λ (p : Command × Command). is_command p.0 c) (pairs d routes)) (c, e) (in_filter (λ (p : Command × Command). is_command p.0 c) (pairs d routes) (c, e) pair (is_command_self c))))
  said_begins e c i m k origin.FirstTick None h = absurd (true≢false (sym h))
  said_begins e c i m k origin.Visit v h = absurd (true≢false (sym h))
  said_begins e c i m k origin.Start v h = absurd (true≢false (sym h))
  said_begins e c i m k (origin.Cone t k') v h = absurd (true≢false (sym h))

  said_behind : (e c : Command) → In e (all_commands d routes) → In c (all_commands d routes) → is_kept_behind d routes b e c ≡ true → of_said (before e c false)
  said_behind e c i m h = go (either _ (not (has_pair (cone_of b) e c) && is_free (cone_of b) c && contend routes e c) h)
    where
      two : (any_next (may_join c e) b.legs ≡ true) ⊎ ((begins_at_once d routes b b.origin (visit_from d b.requirement) c && contend routes e c) ≡ true) → of_said (before e c false)
      two (inl j) =
          let f = any_meeting (before e c false) (may_join c e) b.legs j in
          let named = is_false (meet_named f.0 f.1) (and_left (not (meet_named f.0 f.1)) _ f.2) in
          said_by_meetings (before e c false) (f.3 (subst (λ n. In (said_of_pair n c e) (said_between f.0 f.1)) named (in_between c e f.0 f.1 (and_right (not (meet_named f.0 f.1)) _ f.2))))
      two (inr k) = said_by_origin (before e c false) (said_begins e c i m (and_right (begins_at_once d routes b b.origin (visit_from d b.requirement) c) _ k) b.origin (visit_from d b.requirement) (and_left (begins_at_once d routes b b.origin (visit_from d b.requirement) c) _ k))

      go : ((any_next (may_join c e) b.legs || (begins_at_once d routes b b.origin (visit_from d b.requirement) c && contend routes e c)) ≡ true) ⊎ ((not (has_pair (cone_of b) e c) && is_free (cone_of b) c && contend routes e c) ≡ true) → of_said (before e c false)
      go (inl k) = two (either (any_next (may_join c e) b.legs) _ k)
      go (inr k) =
          let free = and_left (not (has_pair (cone_of b) e c) && is_free (cone_of b) c) (contend routes e c) k in
          by_cone_before e c (before e c false) i m (if_second (has_pair (cone_of b) e c) (is_free (cone_of b) c && contend routes e c) (before e c true) (before e c false)
          (is_false (has_pair (cone_of b) e c) (and_left (not (has_pair (cone_of b) e c)) _ free))
          (and_both _ _ (and_right (not (has_pair (cone_of b) e c)) _ free) (and_right (not (has_pair (cone_of b) e c) && is_free (cone_of b) c) (contend routes e c) k)))

  pub in_said : (l : Literal) → In l clause → In l (said_literals d routes b)
  in_said l i = go (in_append l used_part before_part i)
    where
      of_used : (c : Command) → In c (all_commands d routes) → In l (if is_named d routes b c then used_literal c true ∷ [] else []) ⊎ In l (if is_kept_out d routes b c then used_literal c false ∷ [] else []) → of_said l
      of_used c m (inl j) = let o = one_if (is_named d routes b c) l (used_literal c true) j in subst of_said o.1 (said_named c m o.0)
      of_used c m (inr j) = let o = one_if (is_kept_out d routes b c) l (used_literal c false) j in subst of_said o.1 (said_out c m o.0)

      of_before : (e c : Command) → In e (all_commands d routes) → In c (all_commands d routes) → In l (if is_before d routes b e c then before e c true ∷ [] else []) ⊎ In l (if is_kept_behind d routes b e c then before e c false ∷ [] else []) → of_said l
      of_before e c n m (inl j) = let o = one_if (is_before d routes b e c) l (before e c true) j in subst of_said o.1 (said_earlier e c n m o.0)
      of_before e c n m (inr j) = let o = one_if (is_kept_behind d routes b e c) l (before e c false) j in subst of_said o.1 (said_behind e c n m o.0)

      go : In l used_part ⊎ In l before_part → of_said l
      go (inl j) = let c = in_flat_map_back (used_literals d routes b) (all_commands d routes) l j in of_used c.0 c.1 (in_append l (if is_named d routes b c.0 then used_literal c.0 true ∷ [] else []) (if is_kept_out d routes b c.0 then used_literal c.0 false ∷ [] else []) c.2)
      go (inr j) =
          let e = in_flat_map_back before_of (all_commands d routes) l j in
          let c = in_flat_map_back (before_literals d routes b e.0) (all_commands d routes) l e.2 in
          of_before e.0 c.0 e.1 c.1 (in_append l (if is_before d routes b e.0 c.0 then before e.0 c.0 true ∷ [] else []) (if is_kept_behind d routes b e.0 c.0 then before e.0 c.0 false ∷ [] else []) c.2)
