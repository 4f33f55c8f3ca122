use Rattle.std.proofs.Common.{◌≡◌, Bool, ◌&&◌, nat_le, length, List, ap, ◌∙◌}
use Rattle.std.specs.List.{list_all}
use Rattle.rail_base.specs.declared.route.RouteNo.{RouteNo}
use Rattle.rail_base.specs.Admission.{is_from}
use Rattle.rail_base.specs.Stations.{horizon}
use Rattle.cone_form.proofs.Walks.{and_then, and_else}
use Rattle.cone_form.proofs.trains.names_fit.Goals.{then-is_one_of, else-is_one_of}
use Rattle.cone_form.proofs.trains.names_fit.Goals as goal

pub returns-then-are_routes : goal.returns-then-are_routes
returns-then-are_routes c =
    let first : Bool = is_from 1 (length c.args.interlocking.now.design.station.trains) c.args.entry.now.train.0 in
    let second : Bool = list_all (λ (r : RouteNo). is_from 1 (length c.args.interlocking.now.routes) r.0) c.args.entry.now.path in
    let is : c.is_one_of.result ≡ first = c.is_one_of.ensures ∙ ap (λ n. is_from 1 n c.args.entry.now.train.0) c.len.ensures in
    let both : c.if-is_one_of.value ≡ (first && second) = elim c.if-is_one_of.branch [
      | then-is_one_of w ↦ w.value-is ∙ and_then is w.if-is_one_of.true (w.are_routes.ensures ∙ ap (λ (rs : List RouteNo). list_all (λ (r : RouteNo). is_from 1 (length c.args.interlocking.now.routes) r.0) rs) w.as_slice.ensures)
      | else-is_one_of w ↦ w.value-is ∙ and_else second is w.if-is_one_of.false
    ] in
    and_then both c.if-are_routes.true (ap (nat_le c.args.entry.now.horizon) c.horizon.ensures.value)

pub returns-else-are_routes : goal.returns-else-are_routes
returns-else-are_routes c =
    let first : Bool = is_from 1 (length c.args.interlocking.now.design.station.trains) c.args.entry.now.train.0 in
    let second : Bool = list_all (λ (r : RouteNo). is_from 1 (length c.args.interlocking.now.routes) r.0) c.args.entry.now.path in
    let is : c.is_one_of.result ≡ first = c.is_one_of.ensures ∙ ap (λ n. is_from 1 n c.args.entry.now.train.0) c.len.ensures in
    let both : c.if-is_one_of.value ≡ (first && second) = elim c.if-is_one_of.branch [
      | then-is_one_of w ↦ w.value-is ∙ and_then is w.if-is_one_of.true (w.are_routes.ensures ∙ ap (λ (rs : List RouteNo). list_all (λ (r : RouteNo). is_from 1 (length c.args.interlocking.now.routes) r.0) rs) w.as_slice.ensures)
      | else-is_one_of w ↦ w.value-is ∙ and_else second is w.if-is_one_of.false
    ] in
    and_else (nat_le c.args.entry.now.horizon (horizon c.args.interlocking.now.design.station)) both c.if-are_routes.false
