use Rattle.std.proofs.Common.{◌+◌, sym, ap₂, ◌∙◌}
use Rattle.cone_form.proofs.Walks.{rest_is}
use Rattle.bound_design.specs.Named.{few_choices_before}
use Rattle.bound_design.proofs.Counting.{few_stop, few_next, few_end}
use Rattle.bound_design.proofs.choices.are_few_choices.Goals as goal

pub returns-then-not-is_few : goal.returns-then-not-is_few
returns-then-not-is_few c = λ d routes.
    let legs = c.args.legs.now in
    let i = c.loop-index.index in
    let same = ap₂ few_choices_before c.index-legs-index.is (rest_is legs (i + 1)) in
    few_stop d routes legs i c.index-legs-index.result c.loop-index-test.true (sym same ∙ (sym c.is_few.ensures ∙ c.if-not-is_few.true)) (c.loop-index.invariant d routes)

pub loop-index-preserved : goal.loop-index-preserved
loop-index-preserved c = λ d routes.
    let legs = c.args.legs.now in
    let i = c.loop-index.index in
    let same = ap₂ few_choices_before c.index-legs-index.is (rest_is legs (i + 1)) in
    few_next d routes legs i c.index-legs-index.result c.loop-index-test.true (sym same ∙ (sym c.is_few.ensures ∙ c.if-not-is_few.false)) (c.loop-index.invariant d routes)

pub returns : goal.returns
returns c = λ d routes. few_end d routes c.args.legs.now c.loop-index.index c.loop-index-test.false (c.loop-index.invariant d routes)
