-- A command holds the sections of its overlap until their time is up, so that no other train is there.
use Rattle.std.proofs.Common.{◌≡◌, ℕ, Bool, true, false, not, ◌||◌, if◌then◌else◌, ◌==◌, List, refl, sym, ap, subst, ◌∙◌, eqb-true, eq-eqb, true≢false}
use Rattle.rail_base.specs.declared.station.Station.{Station}
use Rattle.rail_base.specs.declared.station.SectionNo.{SectionNo}
use Rattle.rail_base.specs.declared.route.Route.{Route}
use Rattle.rail_base.specs.declared.route.RouteNo.{RouteNo}
use Rattle.rail_base.specs.declared.route.OverlapSection.{OverlapSection}
use Rattle.rail_base.specs.declared.plan.Command.{Command}
use Rattle.rail_base.specs.Admitted.{IsAdmitted}
use Rattle.rail_base.specs.Members.{In}
use Rattle.rail_base.specs.Routes.{overlaps}
use Rattle.rail_base.proofs.Members.{and_both, list_any_from, list_any_gives}
use Rattle.rail_spec.specs.Track.{routes_of}
use Rattle.rail_spec.specs.Plans.{no_route, route_at, goes_over, has_section, commands, is_well_formed}
use Rattle.rail_spec.specs.Dispatches.{has_come, has_released, of_plan, pasts_at, release_of_own, release_of_overlap}
use Rattle.rail_spec.specs.Safety.{holds}
use Rattle.rail_laws.specs.Overlaps.{KeepsFree, OverlapsStayFree}
use Rattle.rail_laws.proofs.Admits.{entry_is, sections_there, sound}
use Rattle.rail_laws.proofs.Beside.{beside}
use Rattle.rail_laws.proofs.Exclusion.{holds_apart}
use Rattle.rail_laws.proofs.Standing.{stands_holds, stands_named}

not_so : (b : Bool) → (b ≡ true → ⊥) → b ≡ false
not_so true h = absurd (h refl)
not_so false h = refl

module _ (d : Station) (adm : IsAdmitted d) where
  -- no route goes over its overlap
  not_over : (r : RouteNo) (z : SectionNo) → overlaps (route_at (routes_of d) r) z ≡ true → goes_over (route_at (routes_of d) r) z ≡ false
  not_over r z = entry_is (λ (q : Route). overlaps q z ≡ true → goes_over q z ≡ false) no_route (routes_of d) r.0 (λ h. absurd (true≢false (sym h))) each
    where
      each : (q : Route) → In q (routes_of d) → overlaps q z ≡ true → goes_over q z ≡ false
      each q m h = go (list_any_gives (λ (p : OverlapSection). p.section.0 == z.0) q.overlaps h)
        where
          go : ((p : OverlapSection) × In p q.overlaps × ((p.section.0 == z.0) ≡ true)) → goes_over q z ≡ false
          go (p, i, e) =
              let same : p.section ≡ z = ap (λ n. record { 0 = n }) (eqb-true p.section.0 z.0 e) in
              subst (λ y. goes_over q y ≡ false) same ((beside d adm q m).not_own p i)

  module _ (n : ℕ) (plan : List (List Command)) (formed : is_well_formed d (routes_of d) n plan ≡ true) where
    command_holds : (k : ℕ) (c : Command) (z : SectionNo) → In c (commands plan) → overlaps (route_at (routes_of d) c.route) z ≡ true → KeepsFree d (routes_of d) plan k c z → holds d (routes_of d) plan k c.train z ≡ true
    command_holds k c z m over keeps =
        let beyond = not_over c.route z over in
        let on : has_section (route_at (routes_of d) c.route) z ≡ true = ap (λ b. b || overlaps (route_at (routes_of d) c.route) z) beyond ∙ over in
        let held : has_released d (routes_of d) (of_plan (routes_of d) plan) (pasts_at d (routes_of d) (of_plan (routes_of d) plan) k) c z ≡ false =
        ap (λ b. has_come (pasts_at d (routes_of d) (of_plan (routes_of d) plan) k) (if b then release_of_own d (routes_of d) (of_plan (routes_of d) plan) c z else release_of_overlap d (routes_of d) (of_plan (routes_of d) plan) c z)) beyond ∙ keeps.1 in
        list_any_from _ (commands plan) c m (and_both _ _ (and_both _ _ (and_both _ _ (eq-eqb c.train.0 c.train.0 refl) on) keeps.0) (ap not held))

    pub stay_free : OverlapsStayFree d (routes_of d) plan
    stay_free can k c z m over keeps u apart = (not_so _ none, not_so _ (λ h. none (stands_holds d (routes_of d) plan (sound d adm n plan formed) (sections_there d adm n plan formed) k u z (stands_named d (routes_of d) plan k u z h) h)))
      where
        none : holds d (routes_of d) plan k u z ≡ true → ⊥
        none h = holds_apart d (routes_of d) plan can k u c.train z apart h (command_holds k c z m over keeps)
