-- A cone of no train says nothing.
use Rattle.std.proofs.Common.{◌≡◌, Bool, true, false, ◌&&◌, ◌⊎◌, inl, inr, ap, if◌then◌else◌, List, [], ◌∷◌, ◌++◌, flat_map, refl, ap₂, ◌∙◌}
use Rattle.rail_base.specs.declared.station.Station.{Station}
use Rattle.rail_base.specs.declared.route.Route.{Route}
use Rattle.rail_base.specs.declared.plan.Command.{Command}
use Rattle.rail_base.specs.declared.plan.Violation.{Violation}
use Rattle.rail_spec.specs.Plans.{all_commands}
use Rattle.cone_spec.specs.declared.Cone.{Cone}
use Rattle.bound_spec.specs.declared.Origin.{Origin}
use Rattle.bound_spec.specs.declared.Origin.TheVariants as origin
use Rattle.bound_spec.specs.declared.Requirement.{Requirement}
use Rattle.bound_spec.specs.Certificates.{cone_at, violation_of}
use Rattle.cone_spec.specs.Clauses.{Used, Literal, is_closed, used_literals, before_literals, clause_of_cone}

nothing : {X Y : Type 0} (f : X → List Y) (xs : List X) → ((x : X) → f x ≡ []) → flat_map f xs ≡ []
nothing f [] h = refl
nothing f (x ∷ xs) h = ap₂ (λ ys zs. ys ++ zs) (h x) (nothing f xs h)

module _ (d : Station) (routes : List Route) (v : Violation) where
  abbrev empty : Cone
  empty = record { trains = []; pairs = []; violation = v }

  unused : (c : Command) → used_literals d routes empty c ≡ []
  unused c = go (is_closed d routes empty c.train)
    where
      go : (b : Bool) → ◌≡◌ {A = List Literal} (if b && false then record { fact = Used c; negated = false } ∷ [] else []) []
      go true = refl
      go false = refl

  pub no_cone : clause_of_cone d routes empty ≡ []
  no_cone = ap₂ (λ ys zs. ys ++ zs) (nothing (used_literals d routes empty) (all_commands d routes) unused)
      (nothing (λ e. flat_map (before_literals d routes empty e) (all_commands d routes)) (all_commands d routes) (λ e. nothing (before_literals d routes empty e) (all_commands d routes) (λ c. refl)))

-- nor does an origin that names no cone
pub no_cone_at : (d : Station) (routes : List Route) (q : Requirement) (o : Origin) → (o ≡ origin.Visit) ⊎ ((o ≡ origin.Start) ⊎ (o ≡ origin.FirstTick)) → clause_of_cone d routes (cone_at q o) ≡ []
no_cone_at d routes q o (inl e) = ap (λ o. clause_of_cone d routes (cone_at q o)) e ∙ no_cone d routes (violation_of q)
no_cone_at d routes q o (inr (inl e)) = ap (λ o. clause_of_cone d routes (cone_at q o)) e ∙ no_cone d routes (violation_of q)
no_cone_at d routes q o (inr (inr e)) = ap (λ o. clause_of_cone d routes (cone_at q o)) e ∙ no_cone d routes (violation_of q)
