use Rattle.std.proofs.Common.{get_or, Bool, List, flat_map, refl, ap₂, subst, ◌∙◌}
use Rattle.std.proofs.lemmas.List.{drop_more}
use Rattle.rail_base.specs.declared.route.RouteNo.{RouteNo}
use Rattle.rail_base.specs.Members.{In}
use Rattle.cone_form.proofs.Orders.{member_at}
use Rattle.cone_form.proofs.Walks.{drop_end}
use Rattle.bound_clause.specs.Left.{gathered, together}
use Rattle.bound_clause.specs.Said.{said_after}
use Rattle.bound_clause.specs.Spoken.{left}
use Rattle.bound_clause.proofs.Putting.{parts_next, parts_end}
use Rattle.bound_clause.proofs.numbered.NumberedBound.push_between.Goals as goal

none : RouteNo
none = record { 0 = 0 }

pub loop-number-init : goal.loop-number-init
loop-number-init c = refl

pub push_after-requires : goal.push_after-requires
unfolding none
push_after-requires c =
    let member = subst (In (get_or c.last_routes-number-items.result.now c.loop-number.number-index none)) c.last_routes-number-items.ensures (member_at c.last_routes-number-items.result.now c.loop-number.number-index none c.loop-number-test.true) in
    c.requires (get_or c.last_routes-number-items.result.now c.loop-number.number-index none) member

pub loop-number-preserved : goal.loop-number-preserved
unfolding none
loop-number-preserved c = parts_next c.args.self.now (λ (r : RouteNo). said_after c.meet_named-named.result (record { train = c.args.leg.now.train; route = r }) c.args.next.now) (gathered c.loop-number.clause) (gathered c.push_after.new.clause) _ _ _ _ (drop_more c.last_routes-number-items.result.now c.loop-number.number-index none c.loop-number-test.true)
    c.in_ok-push_after.ensures c.loop-number.invariant

pub returns : goal.returns
returns c = parts_end c.args.self.now (λ (r : RouteNo). said_after c.meet_named-named.result (record { train = c.args.leg.now.train; route = r }) c.args.next.now) (gathered c.loop-number.clause) _ _ (drop_end c.last_routes-number-items.result.now c.loop-number.number-index c.loop-number-test.false) c.loop-number.invariant
    ∙ ap₂ (λ (rs : List RouteNo) (named : Bool). together (gathered c.args.clause.now) (left c.args.self.now (flat_map (λ r. said_after named (record { train = c.args.leg.now.train; route = r }) c.args.next.now) rs))) c.last_routes-number-items.ensures c.meet_named-named.ensures
