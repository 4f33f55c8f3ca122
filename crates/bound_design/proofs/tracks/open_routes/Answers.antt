use Rattle.std.proofs.Common.{Bool, List, false, ◌||◌, not, ap, ap₂, ◌∙◌}
use Rattle.rail_base.specs.Numbering.{entry}
use Rattle.rail_spec.specs.Plans.{route_at, route_numbers}
use Rattle.bound_design.proofs.LegRoutes.{all_same}
use Rattle.bound_design.proofs.tracks.open_routes.Goals as goal

pub returns : goal.returns
returns c = λ test.
    let routes = c.args.interlocking.now.routes in
    c.in_ok-open.ensures test ∙ all_same _ _ (route_numbers routes) (λ r m.
    ap₂ (λ a b. not (test (route_at routes r)) || a || b)
    (ap (λ (marks : List Bool). entry false marks r.0) c.as_slice.ensures.value ∙ c.in_ok-own.ensures r)
    (ap (λ (marks : List Bool). entry false marks r.0) c.as_slice-2.ensures.value ∙ c.in_ok-kept.ensures r))
