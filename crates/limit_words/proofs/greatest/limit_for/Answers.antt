use Rattle.std.proofs.Common.{◌≤◌, subst, arith}
use Rattle.limit_words.specs.Counts.{Exceeds}
use Rattle.limit_words.specs.Counted.{IsCounted, IsFewCount}
use Rattle.limit_words.proofs.Limiting.{first_is_less, no_steps, one_step, steps_by_two}
use Rattle.limit_words.proofs.greatest.limit_for.Goals as goal

pub returns-in_default : goal.returns-in_default
returns-in_default c =
    let i = c.args.interlocking.now in
    let many : Exceeds c.args.kind i.design.station i.routes 1 = subst (IsCounted c.args.kind i.design.station i.routes 1) c.in_default.is c.in_ok-first.ensures in
    no_steps c.args.kind i.design.station i.routes c.args.steps c.requires.at_least_one many

pub returns-in_default-2 : goal.returns-in_default-2
returns-in_default-2 c =
    let i = c.args.interlocking.now in
    let one : IsFewCount c.args.kind i.design.station i.routes 1 c.in-Some.first = subst (IsCounted c.args.kind i.design.station i.routes 1) c.in-Some.is c.in_ok-first.ensures in
    let many : Exceeds c.args.kind i.design.station i.routes 2 = subst (IsCounted c.args.kind i.design.station i.routes 2) c.in_default-2.is c.in_ok-second.ensures in
    let low = c.requires.at_least_one in
    let other = c.if-steps-eq1.false in
    let two : 2 ≤ c.args.steps = omega arith in
    one_step c.args.kind i.design.station i.routes c.args.steps two one.few many

pub overflow_sub-second : goal.overflow_sub-second
overflow_sub-second c =
    let i = c.args.interlocking.now in
    let one : IsFewCount c.args.kind i.design.station i.routes 1 c.in-Some.first = subst (IsCounted c.args.kind i.design.station i.routes 1) c.in-Some.is c.in_ok-first.ensures in
    let two : IsFewCount c.args.kind i.design.station i.routes 2 c.in-Some-2.second = subst (IsCounted c.args.kind i.design.station i.routes 2) c.in-Some-2.is c.in_ok-second.ensures in
    let first = one.is in
    let second = two.is in
    let less = first_is_less c.args.kind i.design.station i.routes in
    omega arith

pub returns : goal.returns
returns c =
    let i = c.args.interlocking.now in
    let one : IsFewCount c.args.kind i.design.station i.routes 1 c.in-Some.first = subst (IsCounted c.args.kind i.design.station i.routes 1) c.in-Some.is c.in_ok-first.ensures in
    let two : IsFewCount c.args.kind i.design.station i.routes 2 c.in-Some-2.second = subst (IsCounted c.args.kind i.design.station i.routes 2) c.in-Some-2.is c.in_ok-second.ensures in
    steps_by_two c.args.kind i.design.station i.routes c.args.steps c.in-Some.first c.in-Some-2.second c.even_limit.result c.requires.at_least_one one two c.even_limit.ensures
