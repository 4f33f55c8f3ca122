-- No command of a step takes a section of a command that none contends with.
use Rattle.std.proofs.Common.{◌≡◌, ℕ, ℤ, ◌<◌, true, false, not, List, map, length, get_or, sym, subst, ◌∙◌, true≢false}
use Rattle.std.specs.List.{list_any}
use Rattle.rail_base.specs.declared.station.SectionNo.{SectionNo}
use Rattle.rail_base.specs.declared.route.Route.{Route}
use Rattle.rail_base.specs.declared.route.OverlapSection.{OverlapSection}
use Rattle.rail_base.specs.declared.plan.Command.{Command}
use Rattle.rail_base.specs.Members.{In}
use Rattle.rail_base.proofs.Contained.{in_at}
use Rattle.rail_base.proofs.Lists.{in_append_left, in_append_right, in_map}
use Rattle.rail_base.proofs.Members.{and_both, and_left, and_right, false_unless, list_any_from, list_any_gives}
use Rattle.rail_spec.specs.Plans.{contend, is_train, route_at, own_sections, sections, has_section, share}
use Rattle.rail_plan.specs.Holds.{takes}
use Rattle.rail_plan.proofs.Standing.{shares_it}

module _ (routes : List Route) (step : List Command) (c : Command) where
  none_takes : (z : SectionNo) → In z (sections (route_at routes c.route)) → list_any (λ other. contend routes other c) step ≡ false → list_any (takes routes c.train z) step ≡ false
  none_takes z m none = false_unless (list_any (takes routes c.train z) step) (λ h. go (list_any_gives (takes routes c.train z) step h))
    where
      go : (e : Command) × In e step × (takes routes c.train z e ≡ true) → ⊥
      go (e, k, h) =
          let other = and_left (not (is_train e.train c.train)) (has_section (route_at routes e.route) z) h in
          let has = and_right (not (is_train e.train c.train)) (has_section (route_at routes e.route) z) h in
          let shared = shares_it (route_at routes e.route) (route_at routes c.route) z has m in
          true≢false (sym (list_any_from (λ other. contend routes other c) step e k (and_both (not (is_train e.train c.train)) (share (route_at routes e.route) (route_at routes c.route)) other shared)) ∙ none)

  -- the section of a part by its place in the route
  pub none_taken : (parts : List (SectionNo × ℤ)) (i : ℕ) (other : SectionNo × ℤ) → parts ≡ (route_at routes c.route).sections → i < length parts → list_any (λ other. contend routes other c) step ≡ false → list_any (takes routes c.train (get_or parts i other).0) step ≡ false
  none_taken parts i other same less =
      let z = (get_or parts i other).0 in
      none_takes z (in_append_left z (own_sections (route_at routes c.route)) (map (λ (p : OverlapSection). p.section) (route_at routes c.route).overlaps)
      (in_map (λ (p : SectionNo × ℤ). p.0) (route_at routes c.route).sections (get_or parts i other) (subst (In (get_or parts i other)) same (in_at parts i other less))))

  -- and that of a part of the overlap
  pub none_taken_beside : (parts : List OverlapSection) (i : ℕ) (other : OverlapSection) → parts ≡ (route_at routes c.route).overlaps → i < length parts → list_any (λ other. contend routes other c) step ≡ false → list_any (takes routes c.train (get_or parts i other).section) step ≡ false
  none_taken_beside parts i other same less =
      let z = (get_or parts i other).section in
      none_takes z (in_append_right z (own_sections (route_at routes c.route)) (map (λ (p : OverlapSection). p.section) (route_at routes c.route).overlaps)
      (in_map (λ (p : OverlapSection). p.section) (route_at routes c.route).overlaps (get_or parts i other) (subst (In (get_or parts i other)) same (in_at parts i other less))))
