use Rattle.std.proofs.Common.{◌≡◌, nat_lt, ◌-◌, drop}
use Rattle.rail_base.specs.declared.route.RouteNo.{RouteNo}
use Rattle.rail_base.specs.Members.{all_neighbors}
use Rattle.bound_design.proofs.lists.are_increasing.Given as goal

-- those so far stand in order
abbrev pub invariant-loop-index : goal.invariant-loop-index
invariant-loop-index l = all_neighbors (λ (a b : RouteNo). nat_lt a.0 b.0) (drop (l.index - 1) l.routes) ≡ all_neighbors (λ (a b : RouteNo). nat_lt a.0 b.0) l.routes
