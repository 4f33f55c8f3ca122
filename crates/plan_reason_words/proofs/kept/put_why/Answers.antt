use Rattle.std.proofs.Common.{◌≡◌, codes, OnOk, ◌==◌, if◌then◌else◌, false, sym, ap, ap₂, subst, ◌∙◌}
use Rattle.std.proofs.lemmas.Bool.{ne_eqb}
use Rattle.rail_text.specs.Added.{AddsText}
use Rattle.rail_spec.specs.Plans.{step_of}
use Rattle.plan_faults.specs.Kept.{wanted_mm, lacking_mm}
use Rattle.plan_reason_words.specs.Kept.{missing_text}
use Rattle.plan_reason_words.proofs.kept.put_why.Goals as goal

pub returns : goal.returns
returns c =
    let d = c.args.interlocking.now.design.station in
    let routes = c.args.interlocking.now.routes in
    let plan = c.args.plan.now.steps in
    let wanted = wanted_mm d routes c.args.first c.args.section in
    let lacking = lacking_mm d routes plan c.args.first c.args.last c.args.section in
    let unequal : (step_of plan c.args.first == step_of plan c.args.last) ≡ false = sym (ap₂ (λ a b. a == b) c.step_of.ensures c.step_of-step.ensures) ∙ ne_eqb c.step_of.result c.step_of-step.result c.if-step_of-step.false in
    let told =
    ap (λ w. missing_text w c.in_ok-lacking.lacking c.step_of-step.result) c.wanted_mm-wanted.ensures
    ∙ ap (λ l. missing_text wanted l c.step_of-step.result) c.in_ok-lacking.ensures
    ∙ ap (missing_text wanted lacking) c.step_of-step.ensures
    ∙ sym (ap (λ b. if b then codes ", and two trains can't be given a section in one step" else missing_text wanted lacking (step_of plan c.args.last)) unequal) in
    subst (λ more. OnOk c.put_missing.result (AddsText c.args.text.now c.put_missing.new.text more)) told c.put_missing.ensures
