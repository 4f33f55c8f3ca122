-- The sections of a route, each of which stands once in it.
use Rattle.std.proofs.Common.{◌≡◌, ℕ, suc, ◌+◌, ◌≤◌, ◌<◌, inl, inr, Bool, true, false, cond, ◌==◌, List, [], ◌∷◌, ◌++◌, map, flat_map, filter, find, drop, get_or, fold, max, length, sum_by, Option, None, Some, unwrap_or, ℤ, nat_abs, refl, sym, ap, subst, ◌∙◌, append_assoc, arith, eq-eqb, eqb-true}
use Rattle.std.proofs.lemmas.List.{drop_more}
use Rattle.rail_base.specs.declared.station.Station.{Station}
use Rattle.rail_base.specs.declared.station.EdgeNo.{EdgeNo}
use Rattle.rail_base.specs.declared.station.SectionNo.{SectionNo}
use Rattle.rail_base.specs.declared.route.Route.{Route}
use Rattle.rail_base.specs.declared.route.RouteNo.{RouteNo}
use Rattle.rail_base.specs.declared.route.OverlapSection.{OverlapSection}
use Rattle.rail_base.specs.declared.route.Finish.{Finish}
use Rattle.rail_base.specs.declared.route.Finish.TheVariants as finish
use Rattle.rail_base.specs.declared.station.Overlap.{Overlap}
use Rattle.rail_base.specs.declared.plan.Command.{Command}
use Rattle.rail_base.specs.declared.state.Event.{Event}
use Rattle.rail_base.specs.declared.state.TrainEvent.{TrainEvent}
use Rattle.rail_base.specs.Admitted.{IsAdmitted}
use Rattle.rail_base.specs.Members.{In, Pairs}
use Rattle.rail_base.specs.Routes.{no_route, route_at, goes_over, held_sections, hold_ms, length_mm, release_offset}
use Rattle.rail_base.specs.Stations.{no_overlap, section_of, train_length, whole_ticks}
use Rattle.rail_base.proofs.Admitting.{admitted}
use Rattle.rail_base.proofs.Contained.{in_at}
use Rattle.rail_base.proofs.Members.{false_unless}
use Rattle.rail_base.proofs.Lists.{in_map, in_map_back}
use Rattle.rail_spec.specs.Track.{end_overlap, first_occurrences, routes_of}
use Rattle.rail_spec.specs.Dispatches.{Dispatch, release, routes_before}
use Rattle.rail_laws.proofs.Admits.{entry_is}
use Rattle.rail_laws.proofs.RouteLaws.{route_is, walk_edges}
use Rattle.rail_laws.proofs.AsEdges.{first_in, told}
use Rattle.rail_laws.proofs.Beside.{beside}
use Rattle.rail_laws.proofs.Verdicts.{found_in}
use Rattle.interlocking.specs.declared.railway.Interlocking.{Interlocking}
use Rattle.rail_course.specs.declared.journey.Release.{Release}
use Rattle.rail_course.specs.declared.journey.Hold.{Hold}
use Rattle.rail_course.specs.Holds.{hold_for}
use Rattle.rail_course.specs.Releases.{release_for}
use Rattle.rail_course.proofs.Granting.{laid_out}
use Rattle.rail_base.proofs.Sharing.{own_goes_over}
use Rattle.rail_course.proofs.Holding.{release_is_held, release_is_own}

-- each part has a section of its own
abbrev pub Once : List (SectionNo × ℤ) → Type 0
Once ps = Pairs (λ (y z : SectionNo × ℤ). y.0 ≡ z.0 → ⊥) ps

abbrev pub is_of : SectionNo → SectionNo × ℤ → Bool
is_of z p = p.0.0 == z.0

same_section : (y z : SectionNo) → (y.0 == z.0) ≡ true → y ≡ z
same_section y z e = ap (λ n. record { 0 = n }) (eqb-true y.0 z.0 e)

none_of : (ps : List (SectionNo × ℤ)) (z : SectionNo) → ((q : SectionNo × ℤ) → In q ps → z ≡ q.0 → ⊥) → filter (is_of z) ps ≡ []
none_of [] z h = refl
none_of (q ∷ qs) z h =
    let other : is_of z q ≡ false = false_unless (is_of z q) (λ e. h q (inl refl) (sym (same_section q.0 z e))) in
    ap (λ b. cond b (q ∷ filter (is_of z) qs) (filter (is_of z) qs)) other ∙ none_of qs z (λ x m. h x (inr m))

-- of such parts those of one's section are that one
pub alone : (ps : List (SectionNo × ℤ)) → Once ps → (p : SectionNo × ℤ) → In p ps → filter (is_of p.0) ps ≡ p ∷ []
alone [] once p m = absurd m
alone (q ∷ qs) once p (inl e) =
    let here : is_of p.0 q ≡ true = eq-eqb q.0.0 p.0.0 (ap (λ (x : SectionNo × ℤ). x.0.0) e) in
    ap (λ b. cond b (q ∷ filter (is_of p.0) qs) (filter (is_of p.0) qs)) here
    ∙ ap (λ xs. q ∷ xs) (none_of qs p.0 (λ x m s. once.0 x m (ap (λ (y : SectionNo × ℤ). y.0) e ∙ s)))
    ∙ ap (λ x. x ∷ []) e
alone (q ∷ qs) once p (inr m) =
    let other : is_of p.0 q ≡ false = false_unless (is_of p.0 q) (λ e. once.0 p m (same_section q.0 p.0 e)) in
    ap (λ b. cond b (q ∷ filter (is_of p.0) qs) (filter (is_of p.0) qs)) other ∙ alone qs once.1 p m

module _ (i : Interlocking) where
  abbrev station : Station
  station = i.design.station

  adm : IsAdmitted station
  adm = admitted station i.design.admitted

  pub parts_once : (r : RouteNo) → Once (route_at i.routes r).sections
  parts_once r = subst (λ rs. Once (route_at rs r).sections) (sym i.table) (entry_is (λ (q : Route). Once q.sections) no_route (routes_of station) r.0 tt (λ q m. (told station adm q m).each_once))

  -- so a route has released a section at the offset that stands beside it
  pub offset_is : (r : RouteNo) (p : SectionNo × ℤ) → In p (route_at i.routes r).sections → release_offset (route_at i.routes r) p.0 ≡ nat_abs p.1
  offset_is r p m =
      ap (λ ps. fold max 0 (map (λ (q : SectionNo × ℤ). nat_abs q.1) ps)) (alone (route_at i.routes r).sections (parts_once r) p m) ∙ (let e : max 0 (nat_abs p.1) ≡ nat_abs p.1 = omega arith in e)

  -- its sections are those of the station
  pub sections_within : (r : RouteNo) (p : SectionNo × ℤ) → In p (route_at i.routes r).sections → (1 ≤ p.0.0) × (p.0.0 ≤ length station.sections)
  sections_within r = subst (λ rs. (p : SectionNo × ℤ) → In p (route_at rs r).sections → (1 ≤ p.0.0) × (p.0.0 ≤ length station.sections)) (sym i.table)
      (entry_is (λ (q : Route). (p : SectionNo × ℤ) → In p q.sections → (1 ≤ p.0.0) × (p.0.0 ≤ length station.sections)) no_route (routes_of station) r.0 (λ p m. absurd m) of_route)
    where
      of_route : (q : Route) → In q (routes_of station) → (p : SectionNo × ℤ) → In p q.sections → (1 ≤ p.0.0) × (p.0.0 ≤ length station.sections)
      of_route q m p k =
          let first : In p.0 (first_occurrences (map (section_of station) q.edges)) = subst (In p.0) (told station adm q m).sections_are (in_map (λ (x : SectionNo × ℤ). x.0) q.sections p k) in
          at (in_map_back (section_of station) q.edges p.0 (first_in (map (section_of station) q.edges) p.0 first))
        where
          at : ((e : EdgeNo) × In e q.edges × (section_of station e ≡ p.0)) → (1 ≤ p.0.0) × (p.0.0 ≤ length station.sections)
          at (e, n, same) =
              let l = (route_is station adm q m).elementary in
              subst (λ (z : SectionNo). (1 ≤ z.0) × (z.0 ≤ length station.sections)) same (adm.edge e (walk_edges station l.end q.edges l.walk e n)).section

  -- what stands beside a section, by its place in the route
  pub part_offset : (r : RouteNo) (parts : List (SectionNo × ℤ)) (k n : ℕ) (other : SectionNo × ℤ) → parts ≡ (route_at i.routes r).sections → k < length parts → n ≡ nat_abs (get_or parts k other).1 → n ≡ release_offset (route_at i.routes r) (get_or parts k other).0
  part_offset r parts k n other same less is =
      is ∙ sym ((subst (λ ps. k < length ps → release_offset (route_at i.routes r) (get_or ps k other).0 ≡ nat_abs (get_or ps k other).1) (sym same) (λ l. offset_is r (get_or (route_at i.routes r).sections k other) (in_at (route_at i.routes r).sections k other l))) less)

  pub part_small : (r : RouteNo) (parts : List (SectionNo × ℤ)) (k n : ℕ) (other : SectionNo × ℤ) → parts ≡ (route_at i.routes r).sections → k < length parts → n ≡ nat_abs (get_or parts k other).1 → n ≤ length_mm (route_at i.routes r)
  part_small r parts k n other same less is =
      let at = part_offset r parts k n other same less is in
      let within = ((laid_out i).each r).releases (get_or parts k other).0 in
      omega (arith, at, within)

  -- the route goes over it
  pub part_own : (r : RouteNo) (parts : List (SectionNo × ℤ)) (k : ℕ) (other : SectionNo × ℤ) → parts ≡ (route_at i.routes r).sections → k < length parts → goes_over (route_at i.routes r) (get_or parts k other).0 ≡ true
  part_own r parts k other same less = (subst (λ ps. k < length ps → goes_over (route_at i.routes r) (get_or ps k other).0 ≡ true) (sym same)
      (λ l. own_goes_over (route_at i.routes r) (get_or (route_at i.routes r).sections k other).0 (in_map (λ (p : SectionNo × ℤ). p.0) (route_at i.routes r).sections (get_or (route_at i.routes r).sections k other) (in_at (route_at i.routes r).sections k other l)))) less

  -- ---- the sections of the overlap at its end

  pub held_beside : (r : RouteNo) (parts : List OverlapSection) (k : ℕ) (other : OverlapSection) → parts ≡ (route_at i.routes r).overlaps → k < length parts → goes_over (route_at i.routes r) (get_or parts k other).section ≡ false
  held_beside r parts k other same less = (subst (λ ps. k < length ps → goes_over (route_at i.routes r) (get_or ps k other).section ≡ false) (sym same)
      (λ l. ((laid_out i).each r).beside (get_or (route_at i.routes r).overlaps k other).section (in_map (λ (p : OverlapSection). p.section) (route_at i.routes r).overlaps (get_or (route_at i.routes r).overlaps k other) (in_at (route_at i.routes r).overlaps k other l)))) less

  -- they are those of the station
  pub held_within : (r : RouteNo) (z : SectionNo) → In z (held_sections (route_at i.routes r)) → (1 ≤ z.0) × (z.0 ≤ length station.sections)
  held_within r = subst (λ rs. (z : SectionNo) → In z (held_sections (route_at rs r)) → (1 ≤ z.0) × (z.0 ≤ length station.sections)) (sym i.table)
      (entry_is (λ (q : Route). (z : SectionNo) → In z (held_sections q) → (1 ≤ z.0) × (z.0 ≤ length station.sections)) no_route (routes_of station) r.0 (λ z m. absurd m) of_route)
    where
      at_end : (f : Finish) (z : SectionNo) → In z (end_overlap station f).sections → (1 ≤ z.0) × (z.0 ≤ length station.sections)
      at_end (finish.Exit n) z m = absurd m
      at_end (finish.DeadEnd n) z m = absurd m
      at_end (finish.Signal s) z m = go (find (λ (o : Overlap). o.signal.0 == s.0) station.overlaps) (λ q e. found_in (λ (o : Overlap). o.signal.0 == s.0) station.overlaps q e) m
        where
          go : (o : Option Overlap) → ((q : Overlap) → o ≡ Some q → In q station.overlaps) → In z (unwrap_or o no_overlap).sections → (1 ≤ z.0) × (z.0 ≤ length station.sections)
          go None there k = absurd k
          go (Some q) there k = (adm.overlap q (there q refl)).there z k

      of_route : (q : Route) → In q (routes_of station) → (z : SectionNo) → In z (held_sections q) → (1 ≤ z.0) × (z.0 ≤ length station.sections)
      of_route q m z k = at (in_map_back (λ (p : OverlapSection). p.section) q.overlaps z k)
        where
          at : ((p : OverlapSection) × In p q.overlaps × (p.section ≡ z)) → (1 ≤ z.0) × (z.0 ≤ length station.sections)
          at (p, n, same) = subst (λ (y : SectionNo). (1 ≤ y.0) × (y.0 ≤ length station.sections)) same (at_end q.finish p.section ((beside station adm q m).listed p n))

-- ---- releases and holds that are gathered

module _ (d : Station) (routes : List Route) (p : Dispatch) (c : Command) (z : SectionNo) where
  abbrev event : ℕ → ℕ → Event
  event m a = record { granted = m; place = a }

  event_is : (m n a b : ℕ) → m ≡ n → a ≡ b → event m a ≡ event n b
  event_is m n a b e f = cc

  pub same_release : (m a : ℕ) → goes_over (route_at routes c.route) z ≡ true → m ≡ suc (length (routes_before d routes p c)) → a ≡ sum_by length_mm (routes_before d routes p c) + release_offset (route_at routes c.route) z + train_length d c.train
      → ◌≡◌ {A = Release} (record { route = c.route; section = z; event = record { granted = m; place = a } }) (release_for d routes p c z)
  same_release m a own many far =
      ap (λ (e : Event). let r : Release = record { route = c.route; section = z; event = e } in r) (event_is m _ a _ many far ∙ sym (ap (λ (e : TrainEvent). e.event) (release_is_own d routes p c z own)))

  abbrev train_event : Event → ℕ → TrainEvent
  train_event e n = record { train = c.train; event = e; ticks = n }

  pub same_hold : (m a n spans : ℕ) → goes_over (route_at routes c.route) z ≡ false → m ≡ suc (length (routes_before d routes p c)) → a ≡ sum_by length_mm (routes_before d routes p c) + length_mm (route_at routes c.route) → n ≡ whole_ticks d (hold_ms (route_at routes c.route) z)
      → spans ≡ length (flat_map (λ (r : Route). r.edges) (routes_before d routes p c)) + length (route_at routes c.route).edges
      → ◌≡◌ {A = Hold} (record { route = c.route; section = z; event = record { train = c.train; event = record { granted = m; place = a }; ticks = n }; node = spans }) (hold_for d routes p c z)
  same_hold m a n spans held many far long wide =
      ap (λ (e : Event). let h : Hold = record { route = c.route; section = z; event = train_event e n; node = spans } in h) (event_is m _ a _ many far)
      ∙ ap (λ k. let h : Hold = record { route = c.route; section = z; event = train_event (event (suc (length (routes_before d routes p c))) (sum_by length_mm (routes_before d routes p c) + length_mm (route_at routes c.route))) k; node = spans } in h) long
      ∙ ap (λ (e : TrainEvent). let h : Hold = record { route = c.route; section = z; event = e; node = spans } in h) (sym (release_is_held d routes p c z held))
      ∙ ap (λ k. let h : Hold = record { route = c.route; section = z; event = release d routes p c z; node = k } in h) wide

-- one more of what is made of each
pub grown : {X Y : Type 0} (g : Y → X) (old new : List X) (x : X) (ys : List Y) (k : ℕ) (other : Y) (all : List X) → k < length ys → new ≡ old ++ x ∷ [] → x ≡ g (get_or ys k other) → old ++ map g (drop k ys) ≡ all → new ++ map g (drop (k + 1) ys) ≡ all
grown g old new x ys k other all less made is left =
    ap (λ zs. zs ++ map g (drop (k + 1) ys)) made ∙ append_assoc old (x ∷ []) (map g (drop (k + 1) ys)) ∙ ap (λ y. old ++ (y ∷ map g (drop (k + 1) ys))) is
    ∙ ap (λ zs. old ++ map g zs) (sym (drop_more ys k other less)) ∙ left
