-- The sections that two routes share, one at a time.
use Rattle.std.proofs.Common.{◌≡◌, ℕ, ◌≤◌, max, true, false, if◌then◌else◌, List, [], ◌∷◌, map, filter, ℤ, ap, arith}
use Rattle.rail_base.specs.declared.station.SectionNo.{SectionNo}
use Rattle.rail_base.specs.declared.route.Route.{Route}
use Rattle.rail_base.specs.Routes.{has_section}
use Rattle.bound_spec.specs.Rides.{greatest_of}

-- those of the parts that the other route has
abbrev pub shared_of : Route → List (SectionNo × ℤ) → List SectionNo
shared_of q parts = filter (has_section q) (map (λ z. z.0) parts)

pub shared_too : (q : Route) (f : SectionNo → ℕ) (p : SectionNo × ℤ) (parts : List (SectionNo × ℤ)) → has_section q p.0 ≡ true → greatest_of f (shared_of q (p ∷ parts)) ≡ max (f p.0) (greatest_of f (shared_of q parts))
shared_too q f p parts h = ap (λ b. greatest_of f (if b then p.0 ∷ shared_of q parts else shared_of q parts)) h

pub shared_not : (q : Route) (f : SectionNo → ℕ) (p : SectionNo × ℤ) (parts : List (SectionNo × ℤ)) → has_section q p.0 ≡ false → greatest_of f (shared_of q (p ∷ parts)) ≡ greatest_of f (shared_of q parts)
shared_not q f p parts h = ap (λ b. greatest_of f (if b then p.0 ∷ shared_of q parts else shared_of q parts)) h

pub greatest_most : (f : SectionNo → ℕ) (m : ℕ) (zs : List SectionNo) → ((z : SectionNo) → f z ≤ m) → greatest_of f zs ≤ m
greatest_most f m [] h = omega arith
greatest_most f m (z ∷ zs) h = let a = h z in let b = greatest_most f m zs h in omega arith
