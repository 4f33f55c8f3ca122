use Rattle.std.proofs.Common.{List, length, sym, subst, ◌∙◌, All}
use Rattle.std.specs.List.{list_all}
use Rattle.rail_base.specs.declared.route.RouteNo.{RouteNo}
use Rattle.rail_base.specs.Admission.{is_from}
use Rattle.rail_base.specs.Routes.{IsRoute}
use Rattle.rail_base.proofs.Members.{and_left, and_right}
use Rattle.cone_form.proofs.Ranges.{all_routes}
use Rattle.cone_form.proofs.trains.train_in_design.Goals as goal

pub is_walk-requires : goal.is_walk-requires
is_walk-requires c =
    let named = sym c.names_fit.ensures ∙ c.if-not-names_fit.false in
    subst (λ (path : List RouteNo). All (IsRoute c.args.interlocking.now.routes) path) (sym c.as_slice.ensures)
    (all_routes c.args.interlocking.now.routes c.args.entry.now.path (and_right (is_from 1 (length c.args.interlocking.now.design.station.trains) c.args.entry.now.train.0) (list_all (λ (r : RouteNo). is_from 1 (length c.args.interlocking.now.routes) r.0) c.args.entry.now.path) (and_left _ _ named)))
