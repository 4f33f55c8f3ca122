use Rattle.std.proofs.Common.{◌≡◌, suc, ◌+◌, ◌-◌, ◌≤◌, true, false, ◌||◌, is_some, None, Some, min, ap, ap₂, sym, subst, ◌∙◌, arith}
use Rattle.rail_base.proofs.Admitting.{admitted}
use Rattle.rail_base.specs.Stations.{horizon}
use Rattle.rail_base.specs.declared.history.Verdict.TheVariants.{Met, Failed}
use Rattle.rail_spec.specs.Dispatches.{of_plan, state_at}
use Rattle.rail_spec.specs.Histories.{history_at}
use Rattle.rail_spec.specs.Requirements.{is_decided, is_done, violation_at}
use Rattle.rail_require.specs.Ticks.{HasNumbers}
use Rattle.rail_require.proofs.Numbered.{plans_have_numbers}
use Rattle.rail_require.proofs.Verdicting.{cost_is, failed_is, met_is, undecided_is, undecided_to}
use Rattle.tick_sim.specs.Running.{states_in}
use Rattle.tick_sim.proofs.verdicts.verdict_by_ticks.Goals as goal

pub next_states-requires : goal.next_states-requires
next_states-requires c =
    let test = c.loop-tick-test.true in
    let least = c.min-last.ensures in
    let high = c.horizon.ensures.at_most_86400 in
    record { reached = (c.loop-tick.tick - 1, record { at_most_86400 = omega arith; is = c.as_slice.ensures.value ∙ c.loop-tick.invariant.states; told = c.as_slice-in-loop-tick.ensures ∙ c.loop-tick.invariant.history }) }

pub next_histories-requires-clause-now : goal.next_histories-requires-clause-now
next_histories-requires-clause-now c =
    let r = c.args.run.now in
    let test = c.loop-tick-test.true in
    let least = c.min-last.ensures in
    let high = c.horizon.ensures.at_most_86400 in
    let first = c.loop-tick.invariant.first in
    let next : suc (c.loop-tick.tick - 1) ≡ c.loop-tick.tick = omega arith in
    record {
      at_least_one = first;
      is = c.as_slice-in-loop-tick-2.ensures.value
          ∙ c.in_ok-states-2.ensures (c.loop-tick.tick - 1) (record { at_most_86400 = omega arith; is = c.as_slice.ensures.value ∙ c.loop-tick.invariant.states; told = c.as_slice-in-loop-tick.ensures ∙ c.loop-tick.invariant.history })
          ∙ ap (states_in r) next;
    }

pub first_violation-requires : goal.first_violation-requires
first_violation-requires c =
    let d = c.args.run.now.interlocking.now.design.station in
    let routes = c.args.run.now.interlocking.now.routes in
    let plan = c.args.run.now.plan.now.steps in
    subst HasNumbers (sym c.in_ok-history-2.ensures) (plans_have_numbers d routes plan (admitted d c.args.run.now.interlocking.now.design.admitted) 256 (omega arith) c.args.run.now.formed.formed c.loop-tick.tick)

pub returns-in-Some : goal.returns-in-Some
returns-in-Some c =
    let d = c.args.run.now.interlocking.now.design.station in
    let routes = c.args.run.now.interlocking.now.routes in
    let plan = c.args.run.now.plan.now.steps in
    let k = c.loop-tick.tick in
    let first = c.loop-tick.invariant.first in
    let least = c.min-last.ensures in
    let last = c.horizon.ensures.value in
    let test = c.loop-tick-test.true in
    let high : k ≤ horizon d = omega arith in
    let within : k ≤ c.args.ticks = omega arith in
    let told = c.in_ok-history-2.ensures in
    let found : c.first_violation.result ≡ violation_at d routes plan k = c.first_violation.ensures.run routes plan first told in
    let fails : violation_at d routes plan k ≡ Some c.in-Some.violation = sym found ∙ c.in-Some.is in
    let passes : is_decided d routes plan k ≡ true = ap (λ o. is_some o || is_done d routes plan k) fails in
    let cost = cost_is d routes plan k c.requires.paths first high passes c.loop-tick.invariant.before in
    ap (λ h. Failed h k c.in-Some.violation) told ∙ failed_is d routes plan c.args.ticks k c.in-Some.violation c.requires.paths cost within fails

pub returns-then-is_done : goal.returns-then-is_done
returns-then-is_done c =
    let d = c.args.run.now.interlocking.now.design.station in
    let routes = c.args.run.now.interlocking.now.routes in
    let plan = c.args.run.now.plan.now.steps in
    let k = c.loop-tick.tick in
    let first = c.loop-tick.invariant.first in
    let least = c.min-last.ensures in
    let last = c.horizon.ensures.value in
    let test = c.loop-tick-test.true in
    let high : k ≤ horizon d = omega arith in
    let within : k ≤ c.args.ticks = omega arith in
    let told = c.in_ok-history-2.ensures in
    let found : c.first_violation.result ≡ violation_at d routes plan k = c.first_violation.ensures.run routes plan first told in
    let fine : violation_at d routes plan k ≡ None = sym found ∙ c.in_default.is in
    let done : is_done d routes plan k ≡ true = sym (c.is_done.ensures.run d routes plan k first told) ∙ c.if-is_done.true in
    let passes : is_decided d routes plan k ≡ true = ap₂ (λ o b. is_some o || b) fine done in
    let cost = cost_is d routes plan k c.requires.paths first high passes c.loop-tick.invariant.before in
    ap (λ h. Met h k) told ∙ met_is d routes plan c.args.ticks k c.requires.paths cost within fine

pub loop-tick-preserved : goal.loop-tick-preserved
loop-tick-preserved c =
    let d = c.args.run.now.interlocking.now.design.station in
    let routes = c.args.run.now.interlocking.now.routes in
    let plan = c.args.run.now.plan.now.steps in
    let k = c.loop-tick.tick in
    let first = c.loop-tick.invariant.first in
    let told = c.in_ok-history-2.ensures in
    let found : c.first_violation.result ≡ violation_at d routes plan k = c.first_violation.ensures.run routes plan first told in
    let fine : violation_at d routes plan k ≡ None = sym found ∙ c.in_default.is in
    let done : is_done d routes plan k ≡ false = sym (c.is_done.ensures.run d routes plan k first told) ∙ c.if-is_done.false in
    let here : is_decided d routes plan k ≡ false = ap₂ (λ o b. is_some o || b) fine done in
    let back : k ≡ k + 1 - 1 = omega arith in
    let next : suc (k - 1) ≡ k + 1 - 1 = omega arith in
    let test = c.loop-tick-test.true in
    let least = c.min-last.ensures in
    let high = c.horizon.ensures.at_most_86400 in
    record {
      first = omega arith;
      states = c.in_ok-states-2.ensures (k - 1) (record { at_most_86400 = omega arith; is = c.as_slice.ensures.value ∙ c.loop-tick.invariant.states; told = c.as_slice-in-loop-tick.ensures ∙ c.loop-tick.invariant.history }) ∙ ap (state_at d routes (of_plan routes plan)) next;
      history = told ∙ ap (history_at d routes plan) back;
      before = λ i low high. undecided_to d routes plan k i here c.loop-tick.invariant.before low high;
    }

pub returns : goal.returns
returns c =
    let d = c.args.run.now.interlocking.now.design.station in
    let routes = c.args.run.now.interlocking.now.routes in
    let plan = c.args.run.now.plan.now.steps in
    let k = c.loop-tick.tick in
    let test = c.loop-tick-test.false in
    let last : c.min-last.result ≡ min c.args.ticks (horizon d) = c.min-last.ensures ∙ ap (min c.args.ticks) c.horizon.ensures.value in
    undecided_is d routes plan (admitted d c.args.run.now.interlocking.now.design.admitted) c.args.ticks c.min-last.result c.requires.paths last (λ i low high. c.loop-tick.invariant.before i low (omega arith))
