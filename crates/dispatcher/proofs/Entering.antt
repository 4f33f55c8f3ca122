-- What a command leaves in the queues of sections, and what it puts into them.
use Rattle.std.proofs.Common.{◌≡◌, ◌⊎◌, inl, inr, ℕ, ◌+◌, ◌<◌, Bool, true, false, cond, ◌&&◌, ◌||◌, ◌==◌, if◌then◌else◌, List, [], ◌∷◌, ◌++◌, flat_map, filter, take, get_or, length, All, ℤ, refl, sym, ap, ap₂, subst, ◌∙◌, append_assoc}
use Rattle.std.specs.List.{list_any, enumerate_from}
use Rattle.std.proofs.lemmas.List.{append-nil}
use Rattle.std.proofs.lemmas.List.Concat.{flat_map-append}
use Rattle.std.proofs.lemmas.List.Folds.{list_all-append}
use Rattle.rail_base.specs.declared.station.SectionNo.{SectionNo}
use Rattle.rail_base.specs.declared.route.OverlapSection.{OverlapSection}
use Rattle.rail_base.specs.declared.route.Route.{Route}
use Rattle.rail_base.specs.declared.route.RouteNo.{RouteNo}
use Rattle.rail_base.specs.declared.plan.Command.{Command}
use Rattle.rail_base.specs.Members.{In}
use Rattle.rail_base.specs.Routes.{route_at, has_section, own_sections, held_sections, sections}
use Rattle.rail_base.proofs.Lists.{in_append, in_map_back}
use Rattle.rail_base.proofs.Sharing.{list_any-append, list_any-map}
use Rattle.rail_spec.specs.Plans.{is_train}
use Rattle.interlocking.specs.declared.railway.Interlocking.{Interlocking}
use Rattle.rail_course.specs.declared.itineraries.Itineraries.{Itineraries}
use Rattle.rail_course.specs.declared.waits.Wait.{Wait}
use Rattle.rail_course.specs.Itineraries.{going_in, hold_waits_in, own_waits_in}
use Rattle.rail_course.specs.Waits.{holds_before, wait_for_held, wait_for_own}
use Rattle.rail_course.proofs.Granting.{all_from_in}
use Rattle.rail_course.proofs.Holding.{in_enumerated}
use Rattle.rail_course.proofs.Parting.{held_within, sections_within}
use Rattle.rail_laws.proofs.Standing.{at_in}
use Rattle.dispatcher.specs.Queues.{IsWithin, are_of, on_section}
use Rattle.dispatcher.specs.Turned.{of_train}
use Rattle.dispatcher.specs.Waits.{for_section, waits_at}
use Rattle.dispatcher.proofs.Gathering.{filter_more, filter-filter, filter-same}
use Rattle.dispatcher.proofs.Standing.{none_at}

-- ---- what is left

-- a route has a section where it is among its sections
pub has_is : (r : Route) (z : SectionNo) → list_any (λ y. y.0 == z.0) (sections r) ≡ has_section r z
has_is r z =
    list_any-append (λ y. y.0 == z.0) (own_sections r) (held_sections r)
    ∙ ap₂ (λ a b. a || b) (list_any-map (λ (y : SectionNo). y.0 == z.0) (λ (p : SectionNo × ℤ). p.0) r.sections) (list_any-map (λ (y : SectionNo). y.0 == z.0) (λ (p : OverlapSection). p.section) r.overlaps)

and_true : (a : Bool) → (a && true) ≡ a
and_true true = refl
and_true false = refl

-- one command more leaves what it doesn't follow
pub left_by_more : (routes : List Route) (z : SectionNo) (step : List Command) (j : ℕ) (c : Command) → j < length step → (new old first : List Wait) → new ≡ (if has_section (route_at routes (get_or step j c).route) z then of_train (get_or step j c).train old else old)
    → old ≡ filter (λ w. are_of w.event.train (on_section routes z (take j step))) first → new ≡ filter (λ w. are_of w.event.train (on_section routes z (take (j + 1) step))) first
left_by_more routes z step j c less new old first e before = e ∙ go (has_section (route_at routes x.route) z) refl
  where
    x : Command
    x = get_or step j c

    on : Command → Bool
    on y = has_section (route_at routes y.route) z

    kept : List Command
    kept = filter on (take j step)

    more : (b : Bool) → on x ≡ b → filter on (take (j + 1) step) ≡ kept ++ cond b (x ∷ []) []
    more b h = filter_more on step j c less ∙ ap (λ a. kept ++ cond a (x ∷ []) []) h

    one : (w : Wait) → are_of w.event.train (kept ++ x ∷ []) ≡ (are_of w.event.train kept && is_train w.event.train x.train)
    one w = list_all-append (λ f. is_train w.event.train f.train) kept (x ∷ []) ∙ ap (λ b. are_of w.event.train kept && b) (and_true (is_train w.event.train x.train))

    go : (b : Bool) → on x ≡ b → (if b then of_train x.train old else old) ≡ filter (λ w. are_of w.event.train (filter on (take (j + 1) step))) first
    go true h =
        ap (of_train x.train) before
        ∙ filter-filter (λ (w : Wait). is_train w.event.train x.train) (λ (w : Wait). are_of w.event.train kept) first
        ∙ filter-same (λ (w : Wait). are_of w.event.train kept && is_train w.event.train x.train) (λ (w : Wait). are_of w.event.train (filter on (take (j + 1) step))) first
        (λ w. sym (one w) ∙ ap (are_of w.event.train) (sym (more true h)))
    go false h = before ∙ ap (λ cs. filter (λ (w : Wait). are_of w.event.train cs) first) (sym (append-nil kept) ∙ sym (more false h))

-- ---- what is put

pub put_more : (i : Itineraries) (z : SectionNo) (step : List Command) (j : ℕ) (c : Command) → j < length step → (own held : List (SectionNo × Wait)) → own ≡ own_waits_in i (get_or step j c) → held ≡ hold_waits_in i (get_or step j c) → (new mid old first : List Wait)
    → mid ≡ old ++ for_section z own → new ≡ mid ++ for_section z held → old ≡ first ++ flat_map (waits_at i z) (on_section i.interlocking.now.routes z (take j step)) → new ≡ first ++ flat_map (waits_at i z) (on_section i.interlocking.now.routes z (take (j + 1) step))
put_more i z step j c less own held own_is held_is new mid old first one two before =
    two ∙ ap (λ ws. ws ++ for_section z held) (one ∙ ap (λ ws. ws ++ for_section z own) before)
    ∙ ap₂ (λ a b. ((first ++ flat_map (waits_at i z) kept) ++ for_section z a) ++ for_section z b) own_is held_is
    ∙ append_assoc (first ++ flat_map (waits_at i z) kept) (for_section z (own_waits_in i x)) (for_section z (hold_waits_in i x))
    ∙ append_assoc first (flat_map (waits_at i z) kept) (waits_at i z x)
    ∙ ap (λ ws. first ++ ws) (go (on x) refl)
  where
    x : Command
    x = get_or step j c

    on : Command → Bool
    on y = has_section (route_at i.interlocking.now.routes y.route) z

    kept : List Command
    kept = filter on (take j step)

    go : (b : Bool) → on x ≡ b → flat_map (waits_at i z) kept ++ waits_at i z x ≡ flat_map (waits_at i z) (filter on (take (j + 1) step))
    go true h =
        ap (λ ws. flat_map (waits_at i z) kept ++ ws) (sym (append-nil (waits_at i z x)))
        ∙ sym (flat_map-append (waits_at i z) kept (x ∷ [])) ∙ ap (flat_map (waits_at i z)) (sym (filter_more on step j c less ∙ ap (λ a. kept ++ cond a (x ∷ []) []) h))
    go false h =
        ap (λ ws. flat_map (waits_at i z) kept ++ ws) (none_at i z x h) ∙ append-nil (flat_map (waits_at i z) kept)
        ∙ ap (flat_map (waits_at i z)) (sym (append-nil kept) ∙ sym (filter_more on step j c less ∙ ap (λ a. kept ++ cond a (x ∷ []) []) h))

-- ---- sections that the station has

module _ (i : Interlocking) (n : ℕ) (many : n ≡ length i.design.station.sections) (r : RouteNo) where
  own_within : (z : SectionNo) → In z (own_sections (route_at i.routes r)) → IsWithin n z
  own_within z m = go (in_map_back (λ (p : SectionNo × ℤ). p.0) (route_at i.routes r).sections z m)
    where
      go : ((p : SectionNo × ℤ) × In p (route_at i.routes r).sections × (p.0 ≡ z)) → IsWithin n z
      go (p, k, e) = subst (IsWithin n) e (subst (λ k. IsWithin k p.0) (sym many) (sections_within i r p k))

  beside_within : (z : SectionNo) → In z (held_sections (route_at i.routes r)) → IsWithin n z
  beside_within z m = subst (λ k. IsWithin k z) (sym many) (held_within i r z m)

  -- so are those of a route
  pub all_within : (zs : List SectionNo) → zs ≡ sections (route_at i.routes r) → All (IsWithin n) zs
  all_within zs is = all_from_in (IsWithin n) zs (λ z m. go z (in_append z (own_sections (route_at i.routes r)) (held_sections (route_at i.routes r)) (subst (In z) is m)))
    where
      go : (z : SectionNo) → In z (own_sections (route_at i.routes r)) ⊎ In z (held_sections (route_at i.routes r)) → IsWithin n z
      go z (inl k) = own_within z k
      go z (inr k) = beside_within z k

-- and those of its waits
pub own_waits_within : (i : Itineraries) (n : ℕ) → n ≡ length i.interlocking.now.design.station.sections → (c : Command) (ws : List (SectionNo × Wait)) → ws ≡ own_waits_in i c → All (λ (w : SectionNo × Wait). IsWithin n w.0) ws
own_waits_within i n many c ws is = all_from_in (λ (w : SectionNo × Wait). IsWithin n w.0) ws (λ w m. go w (in_map_back (wait_for_own i.interlocking.now.design.station i.interlocking.now.routes (going_in i) c) (own_sections (route_at i.interlocking.now.routes c.route)) w (subst (In w) is m)))
  where
    go : (w : SectionNo × Wait) → ((y : SectionNo) × In y (own_sections (route_at i.interlocking.now.routes c.route)) × (wait_for_own i.interlocking.now.design.station i.interlocking.now.routes (going_in i) c y ≡ w)) → IsWithin n w.0
    go w (y, k, e) = subst (λ (v : SectionNo × Wait). IsWithin n v.0) e (own_within i.interlocking.now n many c.route y k)

pub hold_waits_within : (i : Itineraries) (n : ℕ) → n ≡ length i.interlocking.now.design.station.sections → (c : Command) (ws : List (SectionNo × Wait)) → ws ≡ hold_waits_in i c → All (λ (w : SectionNo × Wait). IsWithin n w.0) ws
hold_waits_within i n many c ws is = all_from_in (λ (w : SectionNo × Wait). IsWithin n w.0) ws (λ w m. go w (in_map_back (wait_for_held i.interlocking.now.design.station i.interlocking.now.routes (going_in i) c) numbers w (subst (In w) is m)))
  where
    numbers : List (ℕ × SectionNo)
    numbers = enumerate_from (holds_before i.interlocking.now.design.station i.interlocking.now.routes (going_in i) c) (held_sections (route_at i.interlocking.now.routes c.route))

    go : (w : SectionNo × Wait) → ((y : ℕ × SectionNo) × In y numbers × (wait_for_held i.interlocking.now.design.station i.interlocking.now.routes (going_in i) c y ≡ w)) → IsWithin n w.0
    go w (y, k, e) =
        let f = in_enumerated (holds_before i.interlocking.now.design.station i.interlocking.now.routes (going_in i) c) (held_sections (route_at i.interlocking.now.routes c.route)) y k in
        subst (λ (v : SectionNo × Wait). IsWithin n v.0) e (beside_within i.interlocking.now n many c.route y.1 (at_in (held_sections (route_at i.interlocking.now.routes c.route)) f.place y.1 f.there).0)
