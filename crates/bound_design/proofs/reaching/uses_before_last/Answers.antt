use Rattle.std.proofs.Common.{◌-◌, sym, ap, ◌∙◌, arith}
use Rattle.bound_spec.specs.declared.Leg.{Leg}
use Rattle.cone_form.proofs.Walks.{neighbors_stop, neighbors_next, neighbors_end}
use Rattle.bound_design.specs.Named.{leg_fits}
use Rattle.bound_design.specs.Covered.{is_used_last}
use Rattle.bound_design.proofs.Earlier.{before_last, passes_at}
use Rattle.bound_design.proofs.reaching.uses_before_last.Goals as goal

pub returns : goal.returns
returns c =
    let i = c.args.interlocking.now in
    neighbors_end (λ (a b : Leg). is_used_last i a) c.args.legs.now c.loop-index.index c.loop-index-test.false c.loop-index.invariant
    ∙ before_last (is_used_last i) c.args.legs.now

pub is_used_last-requires : goal.is_used_last-requires
is_used_last-requires c =
    let i = c.args.interlocking.now in
    let first = c.loop-index.auto.index in
    let inside = c.loop-index-test.true in
    ap (leg_fits i) c.index-legs-index.is ∙ passes_at (leg_fits i) c.args.legs.now (c.loop-index.index - 1) c.index-legs-index.result c.requires (omega arith)

pub returns-then-not-branch : goal.returns-then-not-branch
returns-then-not-branch c =
    let i = c.args.interlocking.now in
    let legs = c.args.legs.now in
    neighbors_stop (λ (a b : Leg). is_used_last i a) legs c.loop-index.index c.index-legs-index.result c.index-legs-index.result c.loop-index.auto.index c.loop-index-test.true
    (sym (ap (is_used_last i) c.index-legs-index.is) ∙ (sym c.in_ok-is_used_last.ensures ∙ c.if-not-branch.true)) c.loop-index.invariant
    ∙ before_last (is_used_last i) legs

pub loop-index-preserved : goal.loop-index-preserved
loop-index-preserved c =
    let i = c.args.interlocking.now in
    neighbors_next (λ (a b : Leg). is_used_last i a) c.args.legs.now c.loop-index.index c.index-legs-index.result c.index-legs-index.result c.loop-index.auto.index c.loop-index-test.true
    (sym (ap (is_used_last i) c.index-legs-index.is) ∙ (sym c.in_ok-is_used_last.ensures ∙ c.if-not-branch.false)) c.loop-index.invariant
