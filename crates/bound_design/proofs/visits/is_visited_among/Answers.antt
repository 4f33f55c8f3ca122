use Rattle.std.proofs.Common.{List, Bor, not, ap, ◌∙◌}
use Rattle.std.specs.List.{list_all}
use Rattle.rail_base.specs.declared.route.Route.{Route}
use Rattle.bound_design.proofs.visits.is_visited_among.Goals as goal
use Rattle.rail_spec.specs.Places.{may_visit}

pub returns : goal.returns
returns c =
    let v = c.args.visit.now in
    c.is_missed.ensures
    ∙ (ap (λ (rs : List (Bor Route)). list_all (λ r. not (may_visit v.number v.list.now r.now)) rs) c.as_slice.ensures.value
    ∙ c.in_ok-open.ensures (λ r. may_visit v.number v.list.now r))
