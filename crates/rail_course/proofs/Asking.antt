-- The waits for the releases and the holds of a command.
use Rattle.std.proofs.Common.{◌≡◌, ◌⊎◌, inl, inr, ℕ, ◌+◌, ◌<◌, ◌&&◌, List, [], ◌∷◌, ◌++◌, map, drop, get_or, length, None, Some, refl, sym, ap, ap₂, subst, ◌∙◌, append_assoc}
use Rattle.std.specs.List.{enumerate_from}
use Rattle.std.proofs.lemmas.List.{drop_more}
use Rattle.rail_base.specs.declared.station.Station.{Station}
use Rattle.rail_base.specs.declared.station.SectionNo.{SectionNo}
use Rattle.rail_base.specs.declared.station.TrainNo.{TrainNo}
use Rattle.rail_base.specs.declared.route.Route.{Route}
use Rattle.rail_base.specs.declared.plan.Command.{Command}
use Rattle.rail_base.specs.declared.state.TrainEvent.{TrainEvent}
use Rattle.rail_base.specs.Members.{In}
use Rattle.rail_base.specs.Routes.{route_at, own_sections, held_sections}
use Rattle.rail_base.proofs.Lists.{in_map_back}
use Rattle.rail_spec.specs.Dispatches.{Dispatch, has_cleared}
use Rattle.rail_course.specs.declared.journey.Hold.{Hold}
use Rattle.rail_course.specs.declared.journey.Release.{Release}
use Rattle.rail_course.specs.declared.waits.Wait.{Wait}
use Rattle.rail_course.specs.Holds.{hold_for, holds_of_route}
use Rattle.rail_course.specs.Releases.{release_for, releases_of_route}
use Rattle.rail_course.specs.Waits.{AddsWaits, IsWait, own_waits, hold_waits, wait_for_own, wait_for_held}
use Rattle.rail_base.proofs.Sharing.{own_goes_over}
use Rattle.rail_course.proofs.Holding.{own_known, held_known, release_is_own}
use Rattle.rail_course.proofs.Merging.{and_more, as_more}
use Rattle.rail_course.proofs.Waiting.{both_over, kept}

-- the wait for a train to release a section
abbrev pub wait_of_release : TrainNo → Release → SectionNo × Wait
wait_of_release t r = (r.section, record { event = record { train = t; event = r.event; ticks = 0 }; hold = None })

-- the wait for the end of a hold of this number
abbrev pub wait_of_hold : ℕ × Hold → SectionNo × Wait
wait_of_hold n = (n.1.section, record { event = n.1.event; hold = Some n.0 })

-- one more of what is made of each with its number
pub grown_by : {X Y : Type 0} (g : ℕ × Y → X) (old new : List X) (x : X) (ys : List Y) (k n m : ℕ) (other : Y) (all : List X) → k < length ys → new ≡ old ++ x ∷ [] → x ≡ g (n, get_or ys k other) → m ≡ n + 1
    → old ++ map g (enumerate_from n (drop k ys)) ≡ all → new ++ map g (enumerate_from m (drop (k + 1) ys)) ≡ all
grown_by g old new x ys k n m other all less made is next left =
    ap (λ i. new ++ map g (enumerate_from i (drop (k + 1) ys))) next
    ∙ ap (λ zs. zs ++ map g (enumerate_from (n + 1) (drop (k + 1) ys))) made ∙ append_assoc old (x ∷ []) (map g (enumerate_from (n + 1) (drop (k + 1) ys)))
    ∙ ap (λ y. old ++ (y ∷ map g (enumerate_from (n + 1) (drop (k + 1) ys)))) is
    ∙ ap (λ zs. old ++ map g (enumerate_from n zs)) (sym (drop_more ys k other less)) ∙ left

module _ (d : Station) (routes : List Route) (p : Dispatch) where
  of_releases : (c : Command) (zs : List SectionNo) → ((z : SectionNo) → In z zs → In z (own_sections (route_at routes c.route))) → map (wait_of_release c.train) (map (release_for d routes p c) zs) ≡ map (wait_for_own d routes p c) zs
  of_releases c [] own = refl
  of_releases c (z ∷ zs) own =
      let is = release_is_own d routes p c z (own_goes_over (route_at routes c.route) z (own z (inl refl))) in
      let here : wait_of_release c.train (release_for d routes p c z) ≡ wait_for_own d routes p c z =
      ap (λ (e : TrainEvent). wait_of_release c.train (record { route = c.route; section = z; event = e.event })) is
      ∙ ap (λ (e : TrainEvent). (z, let w : Wait = record { event = e; hold = None } in w)) (sym is) in
      ap₂ (λ w ws. w ∷ ws) here (of_releases c zs (λ y m. own y (inr m)))

  pub own_are : (c : Command) (rs : List Release) → rs ≡ releases_of_route d routes p c.train c.route → map (wait_of_release c.train) rs ≡ own_waits d routes p c
  own_are c rs same = ap (map (wait_of_release c.train)) same ∙ of_releases c (own_sections (route_at routes c.route)) (λ z m. m)

  of_holds : (c : Command) (n : ℕ) (zs : List SectionNo) → map wait_of_hold (enumerate_from n (map (hold_for d routes p c) zs)) ≡ map (wait_for_held d routes p c) (enumerate_from n zs)
  of_holds c n [] = refl
  of_holds c n (z ∷ zs) = ap (λ ws. wait_for_held d routes p c (n, z) ∷ ws) (of_holds c (n + 1) zs)

  pub held_are : (c : Command) (n : ℕ) (hs : List Hold) → hs ≡ holds_of_route d routes p c.train c.route → map wait_of_hold (enumerate_from n hs) ≡ map (wait_for_held d routes p c) (enumerate_from n (held_sections (route_at routes c.route)))
  held_are c n hs same = ap (λ xs. map wait_of_hold (enumerate_from n xs)) same ∙ of_holds c n (held_sections (route_at routes c.route))

  -- ---- the waits of one command for another

  pub all_shared : (c e : Command) (own held : List (SectionNo × Wait)) → own ≡ own_waits d routes p e → held ≡ hold_waits d routes p e → (old mid new : List Wait)
      → AddsWaits old mid (λ ps. kept d routes p ps (route_at routes c.route) own) (λ w. In w (map (λ x. x.1) own)) → AddsWaits mid new (λ ps. kept d routes p ps (route_at routes c.route) held) (λ w. In w (map (λ x. x.1) held))
      → AddsWaits old new (λ ps. has_cleared d routes p ps c e) (IsWait d routes p)
  all_shared c e own held own_is held_is old mid new first second =
      as_more old new (λ ps. kept d routes p ps q own && kept d routes p ps q held) (λ ps. has_cleared d routes p ps c e) (λ w. In w (map (λ x. x.1) own) ⊎ In w (map (λ x. x.1) held)) (IsWait d routes p)
      (λ ps. ap₂ (λ a b. kept d routes p ps q a && kept d routes p ps q b) own_is held_is ∙ both_over d routes p ps c e)
      (λ w m. known w m)
      (and_more old mid new (λ ps. kept d routes p ps q own) (λ ps. kept d routes p ps q held) (λ w. In w (map (λ x. x.1) own)) (λ w. In w (map (λ x. x.1) held)) first second)
    where
      q : Route
      q = route_at routes c.route

      known : (w : Wait) → In w (map (λ x. x.1) own) ⊎ In w (map (λ x. x.1) held) → IsWait d routes p w
      known w (inl m) = at (in_map_back (λ (x : SectionNo × Wait). x.1) own w m)
        where
          at : ((x : SectionNo × Wait) × In x own × (x.1 ≡ w)) → IsWait d routes p w
          at (x, k, s) = subst (IsWait d routes p) s (own_known d routes p e x (subst (In x) own_is k))
      known w (inr m) = at (in_map_back (λ (x : SectionNo × Wait). x.1) held w m)
        where
          at : ((x : SectionNo × Wait) × In x held × (x.1 ≡ w)) → IsWait d routes p w
          at (x, k, s) = subst (IsWait d routes p) s (held_known d routes p e x (subst (In x) held_is k))
