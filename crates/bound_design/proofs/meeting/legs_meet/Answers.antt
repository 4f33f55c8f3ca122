use Rattle.std.proofs.Common.{◌-◌, sym, ap, ap₂, ◌∙◌, arith}
use Rattle.cone_form.proofs.Walks.{neighbors_end, neighbors_next}
use Rattle.bound_design.specs.Named.{contend_where_they_meet_in, leg_fits}
use Rattle.bound_design.proofs.Earlier.{passes_at}
use Rattle.bound_design.proofs.meeting.legs_meet.Goals as goal

pub returns : goal.returns
returns c = neighbors_end (contend_where_they_meet_in c.args.interlocking.now) c.args.legs.now c.loop-index.index c.loop-index-test.false c.loop-index.invariant

pub contend_where_they_meet-requires-clause-leg : goal.contend_where_they_meet-requires-clause-leg
contend_where_they_meet-requires-clause-leg c =
    let i = c.args.interlocking.now in
    let first = c.loop-index.auto.index in
    let inside = c.loop-index-test.true in
    ap (leg_fits i) c.index-legs-index.is ∙ passes_at (leg_fits i) c.args.legs.now (c.loop-index.index - 1) c.index-legs-index.result c.requires (omega arith)

pub contend_where_they_meet-requires-clause-next : goal.contend_where_they_meet-requires-clause-next
contend_where_they_meet-requires-clause-next c =
    let i = c.args.interlocking.now in
    ap (leg_fits i) c.index-legs-index-in-loop-index.is ∙ passes_at (leg_fits i) c.args.legs.now c.loop-index.index c.index-legs-index-in-loop-index.result c.requires c.loop-index-test.true

pub loop-index-preserved : goal.loop-index-preserved
loop-index-preserved c =
    let i = c.args.interlocking.now in
    neighbors_next (contend_where_they_meet_in i) c.args.legs.now c.loop-index.index c.index-legs-index.result c.index-legs-index-in-loop-index.result c.loop-index.auto.index c.loop-index-test.true
    (sym (ap₂ (contend_where_they_meet_in i) c.index-legs-index.is c.index-legs-index-in-loop-index.is) ∙ (sym c.contend_where_they_meet.ensures ∙ c.if-not-contend_where_they_meet.false)) c.loop-index.invariant
