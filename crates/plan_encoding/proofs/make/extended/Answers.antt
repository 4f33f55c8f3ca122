use Rattle.std.proofs.Common.{◌≤◌, ℕ, sym, subst, arith}
use Rattle.std.specs.Prelude.{IfErr, IfOk}
use Rattle.clause_spec.specs.declared.question.BaseKind.{BaseKind}
use Rattle.clause_spec.specs.declared.question.BaseKind.TheVariants.{Live}
use Rattle.plan_encoding.specs.Bases.{IsBaseOf, IsRefused}
use Rattle.plan_encoding.proofs.OfKinds.{plain_back, sorted_of, sorted_refused}
use Rattle.plan_encoding.proofs.Sequences.{if_err, if_ok}
use Rattle.plan_encoding.proofs.make.extended.Goals as goal

pub with_turns-requires : goal.with_turns-requires
with_turns-requires c =
    let i = c.args.interlocking.now in
    let b = c.args.base in
    let s = c.steps-steps.ensures in
    let l = c.steps-steps.result.at_least_one in
    record { base = plain_back i.design.station i.routes b.numbering.steps (omega arith) b.numbering.commands c.requires.base.numbering.commands b c.requires.base }

pub returns-in-Sorted-clause-base : goal.returns-in-Sorted-clause-base
returns-in-Sorted-clause-base c =
    let i = c.args.interlocking.now in
    let b = c.args.base in
    let s = c.steps-steps.ensures in
    let l = c.steps-steps.result.at_least_one in
    let some : 1 ≤ b.numbering.steps = omega arith in
    subst (λ (kind : BaseKind). IfOk c.with_turns.result (IsBaseOf kind i.design.station i.routes b.numbering.steps)) (sym c.in-Sorted.is)
    (if_ok c.with_turns.result (sorted_of i.design.station i.routes b.numbering.steps some b.numbering.commands c.requires.base.numbering.commands) c.with_turns.ensures.base)

pub returns-in-Sorted-clause-fault : goal.returns-in-Sorted-clause-fault
returns-in-Sorted-clause-fault c =
    let i = c.args.interlocking.now in
    let b = c.args.base in
    let s = c.steps-steps.ensures in
    let l = c.steps-steps.result.at_least_one in
    let some : 1 ≤ b.numbering.steps = omega arith in
    subst (λ (kind : BaseKind). IfErr c.with_turns.result (IsRefused kind i.design.station i.routes b.numbering.steps)) (sym c.in-Sorted.is)
    (if_err c.with_turns.result (sorted_refused i.design.station i.routes b.numbering.steps some b.numbering.commands c.requires.base.numbering.commands) c.with_turns.ensures.fault)

pub returns-in-Live-clause-base : goal.returns-in-Live-clause-base
returns-in-Live-clause-base c =
    let i = c.args.interlocking.now in
    subst (λ (kind : BaseKind). IfOk c.live_base.result (IsBaseOf kind i.design.station i.routes c.args.base.numbering.steps)) (sym c.in-Live.is)
    (subst (λ (n : ℕ). IfOk c.live_base.result (IsBaseOf (Live c.in-Live.turns) i.design.station i.routes n)) c.steps-steps.ensures c.live_base.ensures.base)

pub returns-in-Live-clause-fault : goal.returns-in-Live-clause-fault
returns-in-Live-clause-fault c =
    let i = c.args.interlocking.now in
    subst (λ (kind : BaseKind). IfErr c.live_base.result (IsRefused kind i.design.station i.routes c.args.base.numbering.steps)) (sym c.in-Live.is)
    (subst (λ (n : ℕ). IfErr c.live_base.result (IsRefused (Live c.in-Live.turns) i.design.station i.routes n)) c.steps-steps.ensures c.live_base.ensures.fault)
