use Rattle.std.proofs.Common.{get_or, List, map, refl, ap, subst, ◌∙◌}
use Rattle.std.proofs.lemmas.List.{drop_more}
use Rattle.rail_base.specs.declared.route.RouteNo.{RouteNo}
use Rattle.rail_base.specs.Members.{In}
use Rattle.cone_form.proofs.Orders.{member_at}
use Rattle.cone_form.proofs.Walks.{drop_end}
use Rattle.bound_clause.specs.Left.{gathered, together}
use Rattle.bound_clause.specs.Said.{said_of_pair}
use Rattle.bound_clause.specs.Spoken.{left}
use Rattle.bound_clause.proofs.Putting.{put_next, put_end}
use Rattle.bound_clause.proofs.numbered.NumberedBound.push_after.Goals as goal

none : RouteNo
none = record { 0 = 0 }

pub loop-number-init : goal.loop-number-init
loop-number-init c = refl

pub push_meeting-requires : goal.push_meeting-requires
unfolding none
push_meeting-requires c =
    let member = subst (In (get_or c.first_routes-number-items.result.now c.loop-number.number-index none)) c.first_routes-number-items.ensures (member_at c.first_routes-number-items.result.now c.loop-number.number-index none c.loop-number-test.true) in
    c.requires (get_or c.first_routes-number-items.result.now c.loop-number.number-index none) member

pub loop-number-preserved : goal.loop-number-preserved
unfolding none
loop-number-preserved c = put_next c.args.self.now (λ (q : RouteNo). said_of_pair c.args.named c.args.last (record { train = c.args.next.now.train; route = q })) (gathered c.loop-number.clause) (gathered c.push_meeting.new.clause) _ _ _ _ (drop_more c.first_routes-number-items.result.now c.loop-number.number-index none c.loop-number-test.true)
    c.in_ok-push_meeting.ensures c.loop-number.invariant

pub returns : goal.returns
returns c = put_end c.args.self.now (λ (q : RouteNo). said_of_pair c.args.named c.args.last (record { train = c.args.next.now.train; route = q })) (gathered c.loop-number.clause) _ _ (drop_end c.first_routes-number-items.result.now c.loop-number.number-index c.loop-number-test.false) c.loop-number.invariant
    ∙ ap (λ (qs : List RouteNo). together (gathered c.args.clause.now) (left c.args.self.now (map (λ q. said_of_pair c.args.named c.args.last (record { train = c.args.next.now.train; route = q })) qs))) c.first_routes-number-items.ensures
