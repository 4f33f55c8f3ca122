use Rattle.std.proofs.Common.{refl}
use Rattle.std.proofs.lemmas.List.{drop_more}
use Rattle.rail_base.specs.declared.route.RouteNo.{RouteNo}
use Rattle.cone_form.proofs.Walks.{drop_end}
use Rattle.bound_clause.specs.Left.{gathered}
use Rattle.bound_clause.specs.Said.{used_by}
use Rattle.bound_clause.proofs.Putting.{put_next, put_end}
use Rattle.bound_clause.proofs.numbered.NumberedBound.push_used.Goals as goal

none : RouteNo
none = record { 0 = 0 }

pub loop-number-init : goal.loop-number-init
loop-number-init c = refl

pub loop-number-preserved : goal.loop-number-preserved
unfolding none
loop-number-preserved c = put_next c.args.self.now (used_by c.args.train) (gathered c.loop-number.clause) (gathered c.say_used.new.clause) _ _ _ _ (drop_more c.args.routes.now c.loop-number.number-index none c.loop-number-test.true) c.in_ok-say_used.ensures c.loop-number.invariant

pub returns : goal.returns
returns c = put_end c.args.self.now (used_by c.args.train) (gathered c.loop-number.clause) _ _ (drop_end c.args.routes.now c.loop-number.number-index c.loop-number-test.false) c.loop-number.invariant
