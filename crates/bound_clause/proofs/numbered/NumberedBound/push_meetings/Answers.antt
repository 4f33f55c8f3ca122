use Rattle.std.proofs.Common.{◌-◌, ◌<◌, List, length, get_or, refl, ap, subst, ◌∙◌}
use Rattle.bound_spec.specs.declared.Leg.{Leg}
use Rattle.bound_clause.specs.Left.{gathered, together}
use Rattle.bound_clause.specs.Said.{said_of_meetings}
use Rattle.bound_clause.specs.Spoken.{left, routes_in, station_of}
use Rattle.bound_clause.proofs.Fitting.{meets_at}
use Rattle.bound_clause.proofs.Putting.{meetings_next, meetings_end}
use Rattle.bound_clause.proofs.numbered.NumberedBound.push_meetings.Goals as goal

pub loop-index-init : goal.loop-index-init
loop-index-init c = refl

pub push_between-requires : goal.push_between-requires
push_between-requires c =
    let self = c.args.self.now in
    let legs = c.as_slice-legs.ensures in
    meets_at (station_of self) (routes_in self) self.bound.now self.known c.loop-index.index c.index-legs-index.result c.index-legs-index-in-loop-index.result c.loop-index.auto.index (subst (λ (ls : List Leg). c.loop-index.index < length ls) legs c.loop-index-test.true)
    (c.index-legs-index.is ∙ ap (λ ls. get_or ls (c.loop-index.index - 1) c.index-legs-index.result) legs) (c.index-legs-index-in-loop-index.is ∙ ap (λ ls. get_or ls c.loop-index.index c.index-legs-index-in-loop-index.result) legs)

pub loop-index-preserved : goal.loop-index-preserved
loop-index-preserved c = meetings_next c.args.self.now c.as_slice-legs.result.now c.loop-index.index c.index-legs-index.result c.index-legs-index-in-loop-index.result c.loop-index.auto.index c.loop-index-test.true c.index-legs-index.is c.index-legs-index-in-loop-index.is (gathered c.loop-index.clause) (gathered c.push_between.new.clause) _ c.in_ok-push_between.ensures c.loop-index.invariant

pub returns : goal.returns
returns c =
    meetings_end c.args.self.now c.as_slice-legs.result.now c.loop-index.index c.loop-index.auto.index c.loop-index-test.false (gathered c.loop-index.clause) _ c.loop-index.invariant
    ∙ ap (λ ls. together (gathered c.args.clause.now) (left c.args.self.now (said_of_meetings ls))) c.as_slice-legs.ensures
