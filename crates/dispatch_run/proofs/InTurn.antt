-- What is come to in turn is marked in turn, and marks are as the definitions have them.
use Rattle.std.proofs.Common.{◌≡◌, ℕ, zero, suc, ◌+◌, ◌-◌, ◌≤◌, ◌<◌, ◌⊎◌, inl, inr, Bool, true, false, ◌&&◌, List, map, length, get_or, Option, None, Some, refl, sym, ap, ◌∙◌, subst, arith, is_some, nat_le, nat_lt, leb-true, le-leb, ltb-true}
use Rattle.std.specs.List.{enumerate_from}
use Rattle.std.proofs.lemmas.List.{ext_get_or, get_or-map}
use Rattle.std.proofs.lemmas.List.FromFn.{get_or-enumerate_from, length-enumerate_from}
use Rattle.rail_base.specs.declared.station.Station.{Station}
use Rattle.rail_base.specs.declared.station.NodeNo.{NodeNo}
use Rattle.rail_base.specs.declared.station.SectionNo.{SectionNo}
use Rattle.rail_base.specs.declared.station.TrainNo.{TrainNo}
use Rattle.rail_base.specs.declared.route.Route.{Route}
use Rattle.rail_base.specs.declared.route.RouteNo.{RouteNo}
use Rattle.rail_base.specs.declared.state.PathNode.{PathNode}
use Rattle.rail_base.specs.declared.state.TrainState.{TrainState}
use Rattle.rail_base.specs.declared.history.TrainHistory.{TrainHistory}
use Rattle.rail_base.specs.Numbering.{or_this, least}
use Rattle.rail_base.proofs.Contained.{in_at}
use Rattle.rail_base.proofs.Lists.{length-map}
use Rattle.rail_base.proofs.Members.{and_left, and_right, and_both, below_or_not, false_unless, map-map}
use Rattle.rail_base.specs.Events.{has_happened}
use Rattle.rail_base.specs.declared.state.Event.{Event}
use Rattle.rail_spec.specs.Visits.{pass_tick, path_nodes_of_train, happened_by}
use Rattle.rail_spec.specs.Dispatches.{Dispatch, state_of, state_at}
use Rattle.quiet_spec.specs.Histories.{grant_tick, granted, train_history}
use Rattle.rail_course.specs.declared.journey.Release.{Release}
use Rattle.rail_course.specs.declared.milestones.Milestone.{Milestone}
use Rattle.rail_course.specs.Milestones.{AreMilestones, ComeInTurn}
use Rattle.rail_course.specs.Releases.{releases_of_train}
use Rattle.rail_course.specs.Marks.{mark_grants}
use Rattle.dispatch_run.specs.Settled.{AreGrantedInTurn, ArePassedInTurn, AreReleasedInTurn}
use Rattle.quiet_spec.proofs.Staying.{release, released_is}
use Rattle.dispatch_run.proofs.Settling.{MayBeMarked}

-- ---- one mark

again : (o : Option ℕ) (b : Bool) (tick : ℕ) → or_this (or_this o b tick) b tick ≡ or_this o b tick
again (Some k) b tick = refl
again None true tick = refl
again None false tick = refl

keeps : (o : Option ℕ) (b : Bool) (tick : ℕ) → is_some o ≡ true → or_this o b tick ≡ o
keeps (Some k) b tick h = refl
keeps None b tick h = absurd cc

comes_not : (o : Option ℕ) (b : Bool) (tick : ℕ) → b ≡ false → or_this o b tick ≡ o
comes_not (Some k) b tick h = refl
comes_not None true tick h = absurd cc
comes_not None false tick h = refl

came_earlier : (o : Option ℕ) (b : Bool) (tick k : ℕ) → or_this o b tick ≡ Some k → k < tick → is_some o ≡ true
came_earlier (Some j) b tick k e less = refl
came_earlier None true tick k e less = absurd (let same : tick ≡ k = ap (unwrap_or_zero) e in omega arith)
  where
    unwrap_or_zero : Option ℕ → ℕ
    unwrap_or_zero (Some n) = n
    unwrap_or_zero None = 0
came_earlier None false tick k e less = absurd cc

behind_is_false : (a : Bool) (place x : ℕ) → x < place → (a && nat_le place x) ≡ false
behind_is_false a place x less = false_unless (a && nat_le place x) (λ h. let l = leb-true place x (and_right a (nat_le place x) h) in absurd (omega arith))

-- ---- nodes

abbrev pub pass_made : TrainState → ℕ → PathNode → NodeNo × Option ℕ → NodeNo × Option ℕ
pass_made s tick n p = (n.node, or_this p.1 (has_happened s n.event) tick)

abbrev pub no_node : PathNode
no_node = record { node = record { 0 = 0 }; event = record { granted = 0; place = 0 } }

abbrev pub no_pass : NodeNo × Option ℕ
no_pass = (record { 0 = 0 }, None)

same_pass : (n : NodeNo) (o : Option ℕ) (p : NodeNo × Option ℕ) → p.0 ≡ n → o ≡ p.1 → (n, o) ≡ p
same_pass n o (m, q) a b = cc

pub passes_may_be_marked : (s : TrainState) (tick : ℕ) (path_nodes : List PathNode) (passes : List (NodeNo × Option ℕ)) (ms : List Milestone)
    → AreMilestones (map (λ (n : PathNode). n.event.place) path_nodes) ms → ArePassedInTurn path_nodes passes
    → MayBeMarked (pass_made s tick) (λ (n : PathNode). n.event.place) (λ (p : NodeNo × Option ℕ). p.1) path_nodes passes no_node no_pass ms tick s.x
passes_may_be_marked s tick path_nodes passes ms are turn = record {
  as_many = as_many;
  are = are;
  twice = λ i l. ap (λ o. ((get_or path_nodes i no_node).node, o)) (again (get_or passes i no_pass).1 (has_happened s (get_or path_nodes i no_node).event) tick);
  kept = λ i l h. same_pass _ _ (get_or passes i no_pass) (name i l) (keeps (get_or passes i no_pass).1 (has_happened s (get_or path_nodes i no_node).event) tick h);
  ahead = λ i l h. same_pass _ _ (get_or passes i no_pass) (name i l)
      (comes_not (get_or passes i no_pass).1 (has_happened s (get_or path_nodes i no_node).event) tick (behind_is_false (nat_le (get_or path_nodes i no_node).event.granted s.granted) (get_or path_nodes i no_node).event.place s.x h));
  earlier = λ i k l e less. came_earlier (get_or passes i no_pass).1 (has_happened s (get_or path_nodes i no_node).event) tick k e less;
  in_turn = λ i j l m less h. turn.in_turn i j no_node no_pass l m less h;
}
  where
    as_many : length path_nodes ≡ length passes
    as_many = sym (length-map (λ (n : PathNode). n.node) path_nodes) ∙ ap length (sym turn.named) ∙ length-map (λ (p : NodeNo × Option ℕ). p.0) passes

    name : (i : ℕ) → i < length path_nodes → (get_or passes i no_pass).0 ≡ (get_or path_nodes i no_node).node
    name i l =
        sym (get_or-map (λ (p : NodeNo × Option ℕ). p.0) passes i no_pass (record { 0 = 0 }) (let a = as_many in omega arith))
        ∙ ap (λ ns. get_or ns i (record { 0 = 0 })) turn.named ∙ get_or-map (λ (n : PathNode). n.node) path_nodes i no_node (record { 0 = 0 }) l

-- ---- releases

abbrev pub release_made : TrainState → ℕ → Release → RouteNo × SectionNo × Option ℕ → RouteNo × SectionNo × Option ℕ
release_made s tick r e = (r.route, r.section, or_this e.2 (has_happened s r.event) tick)

abbrev pub no_release : Release
no_release = record { route = record { 0 = 0 }; section = record { 0 = 0 }; event = record { granted = 0; place = 0 } }

abbrev pub no_entry : RouteNo × SectionNo × Option ℕ
no_entry = (record { 0 = 0 }, record { 0 = 0 }, None)

same_entry : (r : RouteNo) (z : SectionNo) (o : Option ℕ) (e : RouteNo × SectionNo × Option ℕ) → e.0 ≡ r → e.1 ≡ z → o ≡ e.2 → (r, z, o) ≡ e
same_entry r z o (a, b, p) c d is = cc

pub releases_may_be_marked : (s : TrainState) (tick : ℕ) (releases : List Release) (entries : List (RouteNo × SectionNo × Option ℕ)) (ms : List Milestone)
    → AreMilestones (map (λ (r : Release). r.event.place) releases) ms → AreReleasedInTurn releases entries
    → MayBeMarked (release_made s tick) (λ (r : Release). r.event.place) (λ (e : RouteNo × SectionNo × Option ℕ). e.2) releases entries no_release no_entry ms tick s.x
releases_may_be_marked s tick releases entries ms are turn = record {
  as_many = as_many;
  are = are;
  twice = λ i l. ap (λ o. ((get_or releases i no_release).route, (get_or releases i no_release).section, o)) (again (get_or entries i no_entry).2 (has_happened s (get_or releases i no_release).event) tick);
  kept = λ i l h. same_entry _ _ _ (get_or entries i no_entry) (ap (λ (p : RouteNo × SectionNo). p.0) (name i l)) (ap (λ (p : RouteNo × SectionNo). p.1) (name i l)) (keeps (get_or entries i no_entry).2 (has_happened s (get_or releases i no_release).event) tick h);
  ahead = λ i l h. same_entry _ _ _ (get_or entries i no_entry) (ap (λ (p : RouteNo × SectionNo). p.0) (name i l)) (ap (λ (p : RouteNo × SectionNo). p.1) (name i l))
      (comes_not (get_or entries i no_entry).2 (has_happened s (get_or releases i no_release).event) tick (behind_is_false (nat_le (get_or releases i no_release).event.granted s.granted) (get_or releases i no_release).event.place s.x h));
  earlier = λ i k l e less. came_earlier (get_or entries i no_entry).2 (has_happened s (get_or releases i no_release).event) tick k e less;
  in_turn = λ i j l m less h. turn.in_turn i j no_release no_entry l m less h;
}
  where
    of_entry : RouteNo × SectionNo × Option ℕ → RouteNo × SectionNo
    of_entry e = (e.0, e.1)

    of_release : Release → RouteNo × SectionNo
    of_release r = (r.route, r.section)

    none : RouteNo × SectionNo
    none = (record { 0 = 0 }, record { 0 = 0 })

    as_many : length releases ≡ length entries
    as_many = sym (length-map of_release releases) ∙ ap length (sym turn.named) ∙ length-map of_entry entries

    name : (i : ℕ) → i < length releases → of_entry (get_or entries i no_entry) ≡ of_release (get_or releases i no_release)
    name i l =
        sym (get_or-map of_entry entries i no_entry none (let a = as_many in omega arith))
        ∙ ap (λ ns. get_or ns i none) turn.named ∙ get_or-map of_release releases i no_release none l

-- ---- grants

-- where the last of so many has its tick, no grant gets one
pub grants_stay : (granted tick : ℕ) (grants : List (RouteNo × Option ℕ)) → AreGrantedInTurn grants → granted ≤ length grants → ((d : RouteNo × Option ℕ) → 1 ≤ granted → is_some (get_or grants (granted - 1) d).1 ≡ true)
    → grants ≡ mark_grants granted tick grants
grants_stay granted tick grants turn within last = ext_get_or no_grant grants (mark_grants granted tick grants) (sym (length-map one (enumerate_from 0 grants) ∙ length-enumerate_from 0 grants))
    (λ i l. same i l (below_or_not i granted) ∙ sym (get_or-map one (enumerate_from 0 grants) i (0, no_grant) no_grant (let n = length-enumerate_from 0 grants in omega arith) ∙ ap one (get_or-enumerate_from 0 grants i (0, no_grant) l)))
  where
    no_grant : RouteNo × Option ℕ
    no_grant = (record { 0 = 0 }, None)

    one : ℕ × (RouteNo × Option ℕ) → RouteNo × Option ℕ
    one p = (p.1.0, or_this p.1.1 (nat_lt p.0 granted) tick)

    same : (i : ℕ) → i < length grants → (i < granted) ⊎ (granted ≤ i) → get_or grants i no_grant ≡ one (0 + i, get_or grants i no_grant)
    same i l (inl before) = sym (ap (λ o. ((get_or grants i no_grant).0, o)) (keeps (get_or grants i no_grant).1 (nat_lt (0 + i) granted) tick (turn i (granted - 1) no_grant (omega arith) (omega arith) (last no_grant (omega arith)))))
    same i l (inr past) = sym (ap (λ o. ((get_or grants i no_grant).0, o)) (comes_not (get_or grants i no_grant).1 (nat_lt (0 + i) granted) tick (false_unless (nat_lt (0 + i) granted) (λ h. let less = ltb-true (0 + i) granted h in absurd (omega arith)))))

-- ---- a history is marked in turn

-- what passes whenever another does has passed by then
comes_too : (p q : ℕ → Bool) (k : ℕ) → ((m : ℕ) → p m ≡ true → q m ≡ true) → is_some (least p k) ≡ true → is_some (least q k) ≡ true
comes_too p q zero too h = absurd cc
comes_too p q (suc k) too h = go (least p k) (least q k) (p (suc k)) (q (suc k)) (comes_too p q k too) (too (suc k)) h
  where
    go : (a b : Option ℕ) (s t : Bool) → (is_some a ≡ true → is_some b ≡ true) → (s ≡ true → t ≡ true) → is_some (or_this a s (suc k)) ≡ true → is_some (or_this b t (suc k)) ≡ true
    go a (Some m) s t before now h = refl
    go a None s true before now h = refl
    go (Some n) None s false before now h = before h
    go None None true false before now h = absurd (let e = now refl in cc)
    go None None false false before now h = h

module _ (d : Station) (routes : List Route) (dispatch : Dispatch) (t : TrainNo) (k : ℕ) (old : TrainHistory) (was : old ≡ train_history d routes dispatch k t) where
  abbrev at : ℕ → TrainState
  at m = state_of (state_at d routes dispatch m) t

  -- what is nearer has come where something behind it has
  sooner : (x y : Event) → x.place < y.place → x.granted ≤ y.granted → is_some (least (happened_by d routes dispatch t y) k) ≡ true → is_some (least (happened_by d routes dispatch t x) k) ≡ true
  sooner x y less in_turn h = comes_too (happened_by d routes dispatch t y) (happened_by d routes dispatch t x) k
      (λ n e.
      let c = leb-true y.granted (at n).granted (and_left (nat_le y.granted (at n).granted) (nat_le y.place (at n).x) e) in
      let o = leb-true y.place (at n).x (and_right (nat_le y.granted (at n).granted) (nat_le y.place (at n).x) e) in
      and_both _ _ (le-leb x.granted (at n).granted (omega arith)) (le-leb x.place (at n).x (omega arith)))
      h

  pub passed_in_turn : (path_nodes : List PathNode) → path_nodes ≡ path_nodes_of_train d routes dispatch t → ComeInTurn (λ (n : PathNode). n.event.place) (λ (n : PathNode). n.event.granted) path_nodes
      → (passes : List (NodeNo × Option ℕ)) → passes ≡ old.passes → ArePassedInTurn path_nodes passes
  passed_in_turn path_nodes here come passes are = record {
    named = ap (map (λ (p : NodeNo × Option ℕ). p.0)) all ∙ map-map (λ (p : NodeNo × Option ℕ). p.0) pass path_nodes;
    in_turn = λ i j dx dy l m less h.
        subst (λ ps. is_some (get_or ps i dy).1 ≡ true) (sym all) (subst (λ (p : NodeNo × Option ℕ). is_some p.1 ≡ true) (sym (get_or-map pass path_nodes i dx dy l))
        (sooner (get_or path_nodes i dx).event (get_or path_nodes j dx).event less (come (get_or path_nodes i dx) (get_or path_nodes j dx) (in_at path_nodes i dx l) (in_at path_nodes j dx m) less)
        (subst (λ (p : NodeNo × Option ℕ). is_some p.1 ≡ true) (get_or-map pass path_nodes j dx dy m) (subst (λ ps. is_some (get_or ps j dy).1 ≡ true) all h))));
  }
    where
      pass : PathNode → NodeNo × Option ℕ
      pass n = (n.node, pass_tick d routes dispatch k t n)

      all : passes ≡ map pass path_nodes
      all = are ∙ ap (λ (h : TrainHistory). h.passes) was ∙ ap (map pass) (sym here)

  pub released_in_turn : (releases : List Release) → releases ≡ releases_of_train d routes dispatch t → ComeInTurn (λ (r : Release). r.event.place) (λ (r : Release). r.event.granted) releases
      → (entries : List (RouteNo × SectionNo × Option ℕ)) → entries ≡ old.releases → AreReleasedInTurn releases entries
  released_in_turn releases here come entries are = record {
    named = ap (map of_entry) all ∙ map-map of_entry (release d routes dispatch t k) releases;
    in_turn = λ i j dx dy l m less h.
        subst (λ es. is_some (get_or es i dy).2 ≡ true) (sym all) (subst (λ (e : RouteNo × SectionNo × Option ℕ). is_some e.2 ≡ true) (sym (get_or-map (release d routes dispatch t k) releases i dx dy l))
        (sooner (get_or releases i dx).event (get_or releases j dx).event less (come (get_or releases i dx) (get_or releases j dx) (in_at releases i dx l) (in_at releases j dx m) less)
        (subst (λ (e : RouteNo × SectionNo × Option ℕ). is_some e.2 ≡ true) (get_or-map (release d routes dispatch t k) releases j dx dy m) (subst (λ es. is_some (get_or es j dy).2 ≡ true) all h))));
  }
    where
      of_entry : RouteNo × SectionNo × Option ℕ → RouteNo × SectionNo
      of_entry e = (e.0, e.1)

      all : entries ≡ map (release d routes dispatch t k) releases
      all = are ∙ ap (λ (h : TrainHistory). h.releases) was ∙ sym (released_is d routes dispatch t k) ∙ ap (map (release d routes dispatch t k)) (sym here)

  pub granted_in_turn : (grants : List (RouteNo × Option ℕ)) → grants ≡ old.grants → AreGrantedInTurn grants
  granted_in_turn grants are i j other low less h =
      subst (λ gs. is_some (get_or gs i other).1 ≡ true) (sym all) (subst (λ (g : RouteNo × Option ℕ). is_some g.1 ≡ true) (sym (at_place i (let n = many in omega arith)))
      (comes_too (λ n. nat_le (1 + j) (at n).granted) (λ n. nat_le (1 + i) (at n).granted) k (λ n e. let l = leb-true (1 + j) (at n).granted e in le-leb (1 + i) (at n).granted (omega arith))
      (subst (λ (g : RouteNo × Option ℕ). is_some g.1 ≡ true) (at_place j (let n = many in omega arith)) (subst (λ gs. is_some (get_or gs j other).1 ≡ true) all h))))
    where
      one : ℕ × RouteNo → RouteNo × Option ℕ
      one n = (n.1, grant_tick d routes dispatch k t n.0)

      all : grants ≡ map one (enumerate_from 1 (dispatch.path t))
      all = are ∙ ap (λ (h : TrainHistory). h.grants) was

      many : length grants ≡ length (dispatch.path t)
      many = ap length all ∙ length-map one (enumerate_from 1 (dispatch.path t)) ∙ length-enumerate_from 1 (dispatch.path t)

      at_place : (i : ℕ) → i < length (dispatch.path t) → get_or (map one (enumerate_from 1 (dispatch.path t))) i other ≡ one (1 + i, get_or (dispatch.path t) i other.0)
      at_place i l = get_or-map one (enumerate_from 1 (dispatch.path t)) i (0, other.0) other (let n = length-enumerate_from 1 (dispatch.path t) in omega arith) ∙ ap one (get_or-enumerate_from 1 (dispatch.path t) i (0, other.0) l)
