use Rattle.std.proofs.Common.{List, refl, ap, ap₂, ◌∙◌}
use Rattle.cone_words.proofs.Joining.{then_as}
use Rattle.rail_base.specs.declared.route.RouteNo.{RouteNo}
use Rattle.rail_base.specs.Names.{train_name}
use Rattle.cone_words.specs.Routes.{any_route_text}
use Rattle.evidence_words.specs.Bounds.{meeting_text, only}
use Rattle.evidence_words.proofs.legs.Chain.wait_text.Goals as goal

pub returns : goal.returns
returns c =
    let i = c.args.self.now.interlocking.now in
    let d = i.design.station in
    let t1 = c.in_ok-text.ensures.items ∙ (c.train_name.ensures ∙ ap (train_name d) c.first_train.ensures) in
    let t2 = then_as _ _ _ _ _ t1 c.in_ok-extend_from_slice.ensures.items refl in
    let t3 = then_as _ _ _ _ _ t2 c.in_ok-put_any_route.ensures (ap (any_route_text d i.routes) c.first_routes-first.ensures) in
    let t4 = then_as _ _ _ _ _ t3 c.in_ok-extend_from_slice-2.ensures.items refl in
    let t5 = then_as _ _ _ _ _ t4 c.in_ok-put_moment.ensures refl in
    let t6 = then_as _ _ _ _ _ t5 c.in_ok-extend_from_slice-3.ensures.items refl in
    let t7 = then_as _ _ _ _ _ t6 c.in_ok-extend_from_slice-4.ensures.items c.train_name-2.ensures in
    let t8 = then_as _ _ _ _ _ t7 c.in_ok-extend_from_slice-5.ensures.items refl in
    then_as _ _ _ _ _ t8 c.in_ok-put_meeting.ensures (ap₂ (λ (l f : List RouteNo). meeting_text d i.routes (only l) (only f)) c.last_routes.ensures c.first_routes-first.ensures)
