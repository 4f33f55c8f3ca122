use Rattle.std.proofs.Common.{◌≡◌, ℕ, subst, ◌∙◌}
use Rattle.clause_spec.specs.declared.question.BaseKind.TheVariants.{Live}
use Rattle.live_clause_spec.specs.Live.{is_live}
use Rattle.live_clause_spec.specs.Variables.{live_commands}
use Rattle.command_set.specs.Commands.{is_among}
use Rattle.plan_encoding.specs.declared.numbering.Base.{Base}
use Rattle.plan_encoding.specs.declared.sink.BaseFault.{BaseFault}
use Rattle.plan_encoding.specs.Bases.{AreRefused, IsOver, IsRefused, plain_base, turns_base}
use Rattle.plan_encoding.proofs.Behind.{turns_refused}
use Rattle.plan_encoding.proofs.Emission.{handed_on}
use Rattle.plan_encoding.proofs.OfKinds.{left_of, left_refused, own_set}
use Rattle.plan_encoding.proofs.Sequences.{if_err, if_ok}
use Rattle.plan_encoding.proofs.make.live_base.Goals as goal

pub plain_over-requires : goal.plain_over-requires
plain_over-requires c = c.in_ok-commands.ensures.are

pub with_turns-requires : goal.with_turns-requires
with_turns-requires c =
    let i = c.args.interlocking.now in
    record { base = own_set i.design.station i.routes c.args.steps.count c.in_ok-commands.commands plain_base c.in_ok-base.base c.in_ok-base.ensures.base }

pub returns-in_err-base-clause-fault : goal.returns-in_err-base-clause-fault
returns-in_err-base-clause-fault c =
    let i = c.args.interlocking.now in
    let n = c.args.steps.count in
    let cs = c.in_ok-commands.commands in
    let e = c.in_err-base.field-0.0 in
    handed_on (IsRefused (Live c.args.turns) i.design.station i.routes n) c.from_residual-in_err-base.result e c.from_residual-in_err-base.ensures.1
    (left_refused i.design.station i.routes n c.args.steps.at_least_one c.args.turns (is_live i.design.station i.routes) cs c.in_ok-commands.ensures.value e
    (turns_refused c.args.turns (is_among cs) i.design.station i.routes n e c.in_err-base.ensures.fault))

pub returns-clause-base : goal.returns-clause-base
returns-clause-base c =
    let d = c.args.interlocking.now.design.station in
    let routes = c.args.interlocking.now.routes in
    let n = c.args.steps.count in
    let made = c.in_ok-base.ensures.base in
    let cs = c.in_ok-base.base.numbering.commands in
    let same : cs ≡ live_commands (is_live d routes) d routes = made.base.numbering.commands ∙ (made.commands ∙ c.in_ok-commands.ensures.value) in
    if_ok c.with_turns.result
    (λ (b : Base) o. left_of d routes n c.args.steps.at_least_one c.args.turns (is_live d routes) cs same b (subst (λ (m : ℕ). IsOver cs (turns_base c.args.turns) d routes m b) made.base.numbering.steps o))
    c.with_turns.ensures.base

pub returns-clause-fault : goal.returns-clause-fault
returns-clause-fault c =
    let d = c.args.interlocking.now.design.station in
    let routes = c.args.interlocking.now.routes in
    let n = c.args.steps.count in
    let made = c.in_ok-base.ensures.base in
    let cs = c.in_ok-base.base.numbering.commands in
    let same : cs ≡ live_commands (is_live d routes) d routes = made.base.numbering.commands ∙ (made.commands ∙ c.in_ok-commands.ensures.value) in
    if_err c.with_turns.result
    (λ (e : BaseFault) h. left_refused d routes n c.args.steps.at_least_one c.args.turns (is_live d routes) cs same e (subst (λ (m : ℕ). AreRefused (turns_base c.args.turns (is_among cs) d routes m) e) made.base.numbering.steps h))
    c.with_turns.ensures.fault
