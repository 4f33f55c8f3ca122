-- A plan of which all that the sentences about a bound say is so makes each literal of the bound's clause false.
use Rattle.std.proofs.Common.{◌≡◌, ◌⊎◌, inl, inr, Bool, true, false, not, ◌&&◌, ◌||◌, if◌then◌else◌, true≢false, List, [], ◌∷◌, ◌++◌, flat_map, map, refl, sym, ap, subst, ◌∙◌, eqb-true}
use Rattle.std.specs.List.{list_all, list_any}
use Rattle.rail_base.specs.declared.station.Station.{Station}
use Rattle.rail_base.specs.declared.station.TrainNo.{TrainNo}
use Rattle.rail_base.specs.declared.route.Route.{Route}
use Rattle.rail_base.specs.declared.route.RouteNo.{RouteNo}
use Rattle.rail_base.specs.declared.plan.Command.{Command}
use Rattle.rail_base.specs.Members.{In}
use Rattle.rail_base.proofs.Members.{and_left, and_right, either, false_unless, is_false, list_any_gives}
use Rattle.rail_spec.specs.Plans.{route_at, contend, has_command, is_train, all_commands}
use Rattle.rail_spec.specs.Track.{routes_of}
use Rattle.cone_spec.specs.Cones as cone
use Rattle.cone_spec.specs.Cones.{has_route, is_free, has_pair}
use Rattle.cone_spec.specs.Clauses.{Used, Before, Literal, holds_of, is_true_of, is_false_of, is_closed, goes_further}
use Rattle.cone_spec.proofs.Naming.{has_route_in}
use Rattle.bound_spec.specs.declared.Bound.{Bound}
use Rattle.bound_spec.specs.declared.Evidence.TheVariants as evidence
use Rattle.bound_spec.specs.declared.Leg.{Leg}
use Rattle.bound_spec.specs.declared.Place.{Place}
use Rattle.bound_spec.specs.declared.Place.TheVariants as place
use Rattle.bound_spec.specs.Certificates.{routes_of_place, named_at, kept_out, first_of_leg, last_of_leg, visit_from, cone_of}
use Rattle.bound_spec.specs.Clauses.{any_next, stands_in, is_at, meet_named, are_where_they_meet, joins, may_join, begins_at_once, is_named, is_past_cone, is_kept_out, is_before, is_kept_behind, used_literals, before_literals, clause_of_bound}
use Rattle.bound_spec.proofs.Certified.{true_of_feasible}
use Rattle.cone_words.specs.So.{of_train, ConeIsSo}
use Rattle.cone_words.proofs.So.{all_flat, all_both, not_so, so, given, ended, turned, behind, cones_deny}
use Rattle.evidence_words.specs.So.{Takes, WaitsFor, EachNext, BoundIsSo, SentencesDeny}

-- ---- who is where

same_train : (t u : TrainNo) → is_train t u ≡ true → t ≡ u
same_train t u h = ap (λ n. record { 0 = n }) (eqb-true t.0 u.0 h)

-- the command of a train that is named by another one's number
at_train : (t : TrainNo) (c : Command) → is_train t c.train ≡ true → of_train t c.route ≡ c
at_train t c h = ap (λ (u : TrainNo). of_train u c.route) (same_train t c.train h)

-- the leg that names it, at a place
record StandsAt (routes_at : Place → List RouteNo) (c : Command) (legs : List Leg) : Type 0 where
  leg : Leg
  leg_there : In leg legs
  own : of_train leg.train c.route ≡ c
  at : Place
  at_there : In at leg.places
  route : In c.route (routes_at at)

stands_at : (routes_at : Place → List RouteNo) (c : Command) (legs : List Leg) → list_any (stands_in routes_at c) legs ≡ true → StandsAt routes_at c legs
stands_at routes_at c legs h = go (list_any_gives (stands_in routes_at c) legs h)
  where
    inner : (l : Leg) → In l legs → is_train l.train c.train ≡ true → ((p : Place) × In p l.places × (has_route (routes_at p) c.route ≡ true)) → StandsAt routes_at c legs
    inner l m t (p, n, r) = record { leg = l; leg_there = m; own = at_train l.train c t; at = p; at_there = n; route = has_route_in (routes_at p) c.route r }

    go : (l : Leg) × In l legs × (stands_in routes_at c l ≡ true) → StandsAt routes_at c legs
    go (l, m, t) = inner l m (and_left (is_train l.train c.train) _ t) (list_any_gives (λ p. has_route (routes_at p) c.route) l.places (and_right (is_train l.train c.train) _ t))

-- two commands where two legs meet, each by its train's route
record Meet (e c : Command) (l m : Leg) : Type 0 where
  first : In e.route (routes_of_place (last_of_leg l))
  first_own : of_train l.train e.route ≡ e
  second : In c.route (routes_of_place (first_of_leg m))
  second_own : of_train m.train c.route ≡ c

meets_at : (e c : Command) (l m : Leg) → are_where_they_meet e c l m ≡ true → Meet e c l m
meets_at e c l m h =
    let a = and_left (is_at l (last_of_leg l) e) _ h in
    let b = and_right (is_at l (last_of_leg l) e) _ h in
    record {
      first = has_route_in (routes_of_place (last_of_leg l)) e.route (and_right (is_train l.train e.train) _ a);
      first_own = at_train l.train e (and_left (is_train l.train e.train) _ a);
      second = has_route_in (routes_of_place (first_of_leg m)) c.route (and_right (is_train m.train c.train) _ b);
      second_own = at_train m.train c (and_left (is_train m.train c.train) _ b);
    }

module _ (plan : List (List Command)) where
  -- the last command of a leg goes before the first of the next
  joined : (e c : Command) (legs : List Leg) → EachNext (WaitsFor plan) legs → any_next (joins e c) legs ≡ true → holds_of plan (Before e c) ≡ true
  joined e c [] w h = absurd (cc)
  joined e c (l ∷ []) w h = absurd (cc)
  joined e c (l ∷ m ∷ ls) w h = go (either (joins e c l m) (any_next (joins e c) (m ∷ ls)) h) (joined e c (m ∷ ls) w.1)
    where
      go : (joins e c l m ≡ true) ⊎ (any_next (joins e c) (m ∷ ls) ≡ true) → (any_next (joins e c) (m ∷ ls) ≡ true → holds_of plan (Before e c) ≡ true) → holds_of plan (Before e c) ≡ true
      go (inl t) later =
          let named = and_left (meet_named l m) _ t in
          let at = meets_at e c l m (and_right (meet_named l m) _ t) in
          subst (λ (x : Command). holds_of plan (Before x c) ≡ true) at.first_own
          (subst (λ (y : Command). holds_of plan (Before (of_train l.train e.route) y) ≡ true) at.second_own ((w.0 e.route c.route at.first at.second).0 named))
      go (inr t) later = later t

  -- the first command of a leg does not go before what may be the last of the leg before
  not_joined : (e c : Command) (legs : List Leg) → EachNext (WaitsFor plan) legs → any_next (may_join c e) legs ≡ true → holds_of plan (Before e c) ≡ true → ⊥
  not_joined e c [] w h there = absurd (cc)
  not_joined e c (l ∷ []) w h there = absurd (cc)
  not_joined e c (l ∷ m ∷ ls) w h there = go (either (may_join c e l m) (any_next (may_join c e) (m ∷ ls)) h) (λ t. not_joined e c (m ∷ ls) w.1 t there)
    where
      go : (may_join c e l m ≡ true) ⊎ (any_next (may_join c e) (m ∷ ls) ≡ true) → (any_next (may_join c e) (m ∷ ls) ≡ true → ⊥) → ⊥
      go (inl t) later =
          let unnamed = is_false (meet_named l m) (and_left (not (meet_named l m)) _ t) in
          let at = meets_at c e l m (and_right (not (meet_named l m)) _ t) in
          (w.0 c.route e.route at.first at.second).1 unnamed
          (subst (λ (x : Command). holds_of plan (Before x (of_train l.train c.route)) ≡ true) (sym at.second_own)
          (subst (λ (y : Command). holds_of plan (Before e y) ≡ true) (sym at.first_own) there))
      go (inr t) later = later t

module _ (d : Station) (routes : List Route) (b : Bound) (plan : List (List Command)) (is : BoundIsSo d routes b plan) where
  -- ---- what the sentences say of commands

  named_given : (c : Command) → is_named d routes b c ≡ true → has_command plan c ≡ true
  named_given c h = go (either (list_any (stands_in named_at c) b.legs) (cone.is_named (cone_of b) c) h)
    where
      at_place : (t : TrainNo) (p : Place) → In c.route (named_at p) → Takes plan t p → has_command plan (of_train t c.route) ≡ true
      at_place t (place.Named r) (inl e) takes = subst (λ (q : RouteNo). has_command plan (of_train t q) ≡ true) e takes
      at_place t (place.Named r) (inr n) takes = absurd n
      at_place t (place.Among rs without) n takes = absurd n

      go : (list_any (stands_in named_at c) b.legs ≡ true) ⊎ (cone.is_named (cone_of b) c ≡ true) → has_command plan c ≡ true
      go (inl t) =
          let s = stands_at named_at c b.legs t in
          subst (λ (x : Command). has_command plan x ≡ true) s.own (at_place s.leg.train s.at s.route (is.takes s.leg s.leg_there s.at s.at_there))
      go (inr t) = given d routes (cone_of b) plan is.cone c t

  kept_away : (c : Command) → is_kept_out d routes b c ≡ true → has_command plan c ≡ false
  kept_away c h = go (either (list_any (stands_in kept_out c) b.legs) (is_past_cone d routes b c) h)
    where
      at_place : (t : TrainNo) (p : Place) → In c.route (kept_out p) → Takes plan t p → has_command plan (of_train t c.route) ≡ true → ⊥
      at_place t (place.Named r) n takes there = absurd n
      at_place t (place.Among rs without) n takes there = takes c.route n there

      go : (list_any (stands_in kept_out c) b.legs ≡ true) ⊎ (is_past_cone d routes b c ≡ true) → has_command plan c ≡ false
      go (inl t) =
          let s = stands_at kept_out c b.legs t in
          false_unless (has_command plan c) (λ there. at_place s.leg.train s.at s.route (is.takes s.leg s.leg_there s.at s.at_there)
          (subst (λ (x : Command). has_command plan x ≡ true) (sym s.own) there))
      go (inr t) =
          let past = and_right (not (cone.is_named (cone_of b) c) && is_closed d routes (cone_of b) c.train) _ t in
          let both = and_left (not (cone.is_named (cone_of b) c) && is_closed d routes (cone_of b) c.train) _ t in
          ended d routes (cone_of b) plan is.cone c (and_right (not (cone.is_named (cone_of b) c)) _ both) past

  before_goes : (e c : Command) → is_before d routes b e c ≡ true → holds_of plan (Before e c) ≡ true
  before_goes e c h = go (either (any_next (joins e c) b.legs) (has_pair (cone_of b) e c) h)
    where
      go : (any_next (joins e c) b.legs ≡ true) ⊎ (has_pair (cone_of b) e c ≡ true) → holds_of plan (Before e c) ≡ true
      go (inl t) = joined plan e c b.legs is.waits t
      go (inr t) = turned d routes (cone_of b) plan is.cone e c t

  behind_stays : (e c : Command) → is_kept_behind d routes b e c ≡ true → holds_of plan (Before e c) ≡ false
  behind_stays e c h =
      go (either (any_next (may_join c e) b.legs || (begins_at_once d routes b b.origin (visit_from d b.requirement) c && contend routes e c)) _ h)
    where
      first : (any_next (may_join c e) b.legs ≡ true) ⊎ ((begins_at_once d routes b b.origin (visit_from d b.requirement) c && contend routes e c) ≡ true) → holds_of plan (Before e c) ≡ false
      first (inl t) = false_unless (holds_of plan (Before e c)) (λ there. not_joined plan e c b.legs is.waits t there)
      first (inr t) = false_unless (holds_of plan (Before e c)) (λ there. is.begins c (and_left (begins_at_once d routes b b.origin (visit_from d b.requirement) c) _ t) e (and_right (begins_at_once d routes b b.origin (visit_from d b.requirement) c) _ t) there)

      go : ((any_next (may_join c e) b.legs || (begins_at_once d routes b b.origin (visit_from d b.requirement) c && contend routes e c)) ≡ true)
          ⊎ ((not (has_pair (cone_of b) e c) && is_free (cone_of b) c && contend routes e c) ≡ true) → holds_of plan (Before e c) ≡ false
      go (inl t) = first (either (any_next (may_join c e) b.legs) _ t)
      go (inr t) =
          let two = and_left (not (has_pair (cone_of b) e c) && is_free (cone_of b) c) _ t in
          behind d routes (cone_of b) plan is.cone e c (is_false (has_pair (cone_of b) e c) (and_left (not (has_pair (cone_of b) e c)) _ two)) (and_right (not (has_pair (cone_of b) e c)) _ two) (and_right (not (has_pair (cone_of b) e c) && is_free (cone_of b) c) _ t)

  -- ---- the clause

  abbrev fails : Literal → Bool
  fails l = not (is_true_of plan l)

  used_fail : (c : Command) → list_all fails (used_literals d routes b c) ≡ true
  used_fail c =
      all_both fails (if is_named d routes b c then record { fact = Used c; negated = true } ∷ [] else []) (if is_kept_out d routes b c then record { fact = Used c; negated = false } ∷ [] else [])
      (one (is_named d routes b c) refl) (two (is_kept_out d routes b c) refl)
    where
      one : (x : Bool) → is_named d routes b c ≡ x → list_all fails (if x then record { fact = Used c; negated = true } ∷ [] else []) ≡ true
      one true e = not_so (has_command plan c) (named_given c e)
      one false e = refl

      two : (x : Bool) → is_kept_out d routes b c ≡ x → list_all fails (if x then record { fact = Used c; negated = false } ∷ [] else []) ≡ true
      two true e = so (has_command plan c) (kept_away c e)
      two false e = refl

  before_fail : (e c : Command) → list_all fails (before_literals d routes b e c) ≡ true
  before_fail e c =
      all_both fails (if is_before d routes b e c then record { fact = Before e c; negated = true } ∷ [] else []) (if is_kept_behind d routes b e c then record { fact = Before e c; negated = false } ∷ [] else [])
      (one (is_before d routes b e c) refl) (two (is_kept_behind d routes b e c) refl)
    where
      one : (x : Bool) → is_before d routes b e c ≡ x → list_all fails (if x then record { fact = Before e c; negated = true } ∷ [] else []) ≡ true
      one true s = not_so (holds_of plan (Before e c)) (before_goes e c s)
      one false s = refl

      two : (x : Bool) → is_kept_behind d routes b e c ≡ x → list_all fails (if x then record { fact = Before e c; negated = false } ∷ [] else []) ≡ true
      two true s = so (holds_of plan (Before e c)) (behind_stays e c s)
      two false s = refl

  all_fail : is_false_of plan (clause_of_bound d routes b) ≡ true
  all_fail =
      let commands = all_commands d routes in
      all_both fails (flat_map (used_literals d routes b) commands) _ (all_flat fails (used_literals d routes b) commands used_fail)
      (all_flat fails (λ e. flat_map (before_literals d routes b e) commands) commands (λ e. all_flat fails (before_literals d routes b e) commands (before_fail e)))

pub sentences_deny : SentencesDeny
sentences_deny d admitted n plan feasible (evidence.Cone k) valid is = cones_deny d admitted n plan feasible k valid is
sentences_deny d admitted n plan feasible (evidence.Bound b) valid is =
    true≢false (sym (all_fail d (routes_of d) b plan is) ∙ true_of_feasible d admitted n b plan valid feasible)
