-- A number that no route has stands for a route that shares nothing.
use Rattle.std.proofs.Common.{ℕ, zero, suc, ◌≤◌, ◌≡◌, refl, false, Bool, true, ◌&&◌, List, [], ◌∷◌, length, ap, ◌∙◌, sym, arith}
use Rattle.std.specs.List.{list_any}
use Rattle.rail_base.specs.declared.station.SectionNo.{SectionNo}
use Rattle.rail_base.specs.declared.route.Route.{Route}
use Rattle.rail_base.specs.declared.route.RouteNo.{RouteNo}
use Rattle.rail_base.specs.Numbering.{entry}
use Rattle.rail_base.specs.Routes.{IsRoute, has_section, no_route, route_at, sections, share}

-- the entry of a number that none has is the other
entry_other : {X : Type 0} (other : X) (xs : List X) (n : ℕ) → ((1 ≤ n) × (n ≤ length xs) → ⊥)
    → entry other xs n ≡ other
entry_other other xs zero none = refl
entry_other other [] (suc n) none = refl
entry_other other (x ∷ xs) (suc zero) none = absurd (none (omega arith, omega arith))
entry_other other (x ∷ xs) (suc (suc n)) none =
    entry_other other xs (suc n) (λ k. let l = k.1 in none (omega arith, omega arith))

-- nothing is shared with a route that has no section
share_none : (zs : List SectionNo) → list_any (has_section no_route) zs ≡ false
share_none [] = refl
share_none (z ∷ zs) = share_none zs

-- the first is no route, or the second
pub apart-first : (routes : List Route) (one other : RouteNo) → (IsRoute routes one → ⊥)
    → false ≡ share (route_at routes one) (route_at routes other)
apart-first routes one other none =
    sym (ap (λ (r : Route). share r (route_at routes other)) (entry_other no_route routes one.0 none))

pub apart-second : (routes : List Route) (one other : RouteNo) → (IsRoute routes other → ⊥)
    → false ≡ share (route_at routes one) (route_at routes other)
apart-second routes one other none =
    let first = route_at routes one in
    sym (ap (λ (r : Route). share first r) (entry_other no_route routes other.0 none) ∙ share_none (sections first))

-- commands whose routes share nothing do not contend over an own section
pub apart-over : (differ shares over : Bool) → false ≡ shares → false ≡ (differ && shares && over)
apart-over true shares over none = ap (λ b. b && over) none
apart-over false shares over none = refl
