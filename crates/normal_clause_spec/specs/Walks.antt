-- To which routes chains lead, said by single steps.
use Rattle.std.specs.Prelude.{◌≡◌, ◌↔◌, ℕ, zero, suc, true, List, [], ◌∷◌}
use Rattle.rail_base.specs.declared.route.Route.{Route}
use Rattle.rail_base.specs.declared.route.RouteNo.{RouteNo}
use Rattle.rail_base.specs.Members.{In}
use Rattle.rail_base.specs.Routes.{IsRoute}
use Rattle.clause_spec.specs.Clauses.{onward}
use Rattle.normal_clause_spec.specs.Clauses.{leads_to}

-- so many steps lead from the one route to the other, each to a route that goes on and starts where none of some routes does
abbrev pub Reaches : List Route → List RouteNo → ℕ → RouteNo → RouteNo → Type 0
Reaches routes apart zero r w = r ≡ w
Reaches routes apart (suc k) r w = (q : RouteNo) × In q (onward routes apart r) × Reaches routes apart k q w

-- a chain leads from a route to another exactly where steps do that come to no route with the start of the first
abbrev pub LeadsBySteps : List Route → Type 0
LeadsBySteps routes = (v w : RouteNo) → IsRoute routes v
    → (leads_to routes v w ≡ true) ↔ ((k : ℕ) × Reaches routes (v ∷ []) k v w)
