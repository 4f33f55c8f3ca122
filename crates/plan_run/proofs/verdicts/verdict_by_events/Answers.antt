use Rattle.std.proofs.Common.{◌≡◌, ℕ, ◌-◌, ◌≤◌, ◌<◌, true, false, ◌||◌, is_some, None, Some, min, ap, ap₂, sym, subst, ◌∙◌, arith}
use Rattle.rail_base.proofs.Admitting.{admitted}
use Rattle.rail_base.specs.Stations.{horizon}
use Rattle.rail_base.specs.declared.history.Verdict.TheVariants.{Met, Failed}
use Rattle.rail_spec.specs.Histories.{history_at}
use Rattle.rail_spec.specs.Requirements.{is_decided, is_done, violation_at}
use Rattle.rail_require.specs.Ticks.{HasNumbers}
use Rattle.rail_require.specs.Violations.{violation_in}
use Rattle.rail_require.proofs.Agreeing.{violation_told}
use Rattle.rail_require.proofs.Numbered.{plans_have_numbers}
use Rattle.rail_require.proofs.Verdicting.{cost_is, failed_is, met_is, undecided_is, undecided_to}
use Rattle.quiet_spec.specs.Histories as any
use Rattle.plan_run.specs.Due.{IsNotDue}
use Rattle.plan_run.proofs.Deciding.{undecided_before, undue_less}
use Rattle.plan_run.proofs.Failing.{another_tick, due_as_before, nothing_now}
use Rattle.plan_run.proofs.verdicts.verdict_by_events.Goals as goal

pub loop-progress-init : goal.loop-progress-init
loop-progress-init g c = record {
  within = (let first = c.in_ok-progress.ensures.tick in omega arith);
  is = c.in_ok-progress.ensures.is;
  before = λ k low high. absurd (let first = c.in_ok-progress.ensures.tick in omega arith);
  stays = λ none. absurd (another_tick c.in_ok-progress.progress 0 none c.in_ok-progress.ensures.tick);
}

pub violation_now-requires : goal.violation_now-requires
violation_now-requires g c =
    let d = c.args.traffic.now.interlocking.now.design.station in
    let routes = c.args.traffic.now.interlocking.now.routes in
    let plan = c.args.plan.now.steps in
    let planned = c.requires.0 in
    let new = c.in_ok-progress-2.progress in
    let tick = new.tick in
    let found = c.in_ok-progress-2.ensures in
    let now_told : new.histories.items ≡ history_at d routes plan tick = found.is.recorded ∙ ap (λ p. any.history_at d routes p tick) planned.same in
    let old = c.loop-progress.progress in
    let k = old.tick in
    let invariant = c.loop-progress.invariant in
    let due = c.due_after-due.ensures in
    let old_told : old.histories.items ≡ history_at d routes plan k = invariant.is.recorded ∙ ap (λ p. any.history_at d routes p k) planned.same in
    let quiet : (m : ℕ) → k ≤ m → m < tick → history_at d routes plan m ≡ history_at d routes plan k = (λ m low less. sym (ap (λ p. any.history_at d routes p m) planned.same) ∙ found.quiet m low less ∙ old_told) in
    let far : c.min-last.result ≤ horizon d = (let bound = c.horizon.ensures.value in let least = c.min-last.ensures in omega arith) in
    record {
      numbers = subst HasNumbers (sym now_told) (plans_have_numbers d routes plan (admitted d c.args.traffic.now.interlocking.now.design.admitted) 256 (omega arith) planned.formed.formed tick);
      else_none = λ none. nothing_now d routes plan old.histories.items new k c.min-last.result c.due_after-due.result found.after found.within old_told now_told
          quiet found.is.visited due none far;
    }

pub loop-progress-preserved : goal.loop-progress-preserved
loop-progress-preserved g c =
    let d = c.args.traffic.now.interlocking.now.design.station in
    let routes = c.args.traffic.now.interlocking.now.routes in
    let plan = c.args.plan.now.steps in
    let planned = c.requires.0 in
    let paths = c.requires.1 in
    let new = c.in_ok-progress-2.progress in
    let tick = new.tick in
    let found = c.in_ok-progress-2.ensures in
    let now_told : new.histories.items ≡ history_at d routes plan tick = found.is.recorded ∙ ap (λ p. any.history_at d routes p tick) planned.same in
    let old = c.loop-progress.progress in
    let k = old.tick in
    let invariant = c.loop-progress.invariant in
    let due = c.due_after-due.ensures in
    let old_told : old.histories.items ≡ history_at d routes plan k = invariant.is.recorded ∙ ap (λ p. any.history_at d routes p k) planned.same in
    let quiet : (m : ℕ) → k ≤ m → m < tick → history_at d routes plan m ≡ history_at d routes plan k = (λ m low less. sym (ap (λ p. any.history_at d routes p m) planned.same) ∙ found.quiet m low less ∙ old_told) in
    let first : 1 ≤ tick = (let a = found.after in omega arith) in
    let bound = c.horizon.ensures.value in
    let least = c.min-last.ensures in
    let high : tick ≤ horizon d = (let w = found.within in let v = due.within in omega arith) in
    let within : tick ≤ c.args.ticks = (let w = found.within in let v = due.within in omega arith) in
    let shorter : tick - 1 - k ≤ c.due_after-due.result - 1 - k = (let w = found.within in omega arith) in
    let open_before = undecided_before d routes plan (admitted d c.args.traffic.now.interlocking.now.design.admitted) k tick found.after found.at_0 high
    (λ w m. subst (λ h. IsNotDue d h k (tick - 1 - k) w) old_told (undue_less d old.histories.items k (c.due_after-due.result - 1 - k) (tick - 1 - k) w shorter (due.undue w m)))
    quiet invariant.before in
    let fails : c.violation_now.result ≡ violation_at d routes plan tick = c.violation_now.ensures ∙ ap (λ h. violation_in d h tick) now_told ∙ violation_told d routes plan (admitted d c.args.traffic.now.interlocking.now.design.admitted) tick first in
    let fine : violation_at d routes plan tick ≡ None = sym fails ∙ c.in_default.is in
    let done : is_done d routes plan tick ≡ false = sym (c.are_done.ensures.run d routes plan tick first (c.as_slice.ensures.value ∙ now_told)) ∙ c.if-are_done.false in
    let here : is_decided d routes plan tick ≡ false = ap₂ (λ o b. is_some o || b) fine done in
    record {
      within = (let w = found.within in let v = due.within in omega arith);
      is = found.is;
      before = λ i low within. undecided_to d routes plan tick i here open_before low (omega arith);
      stays = λ none. due_as_before d routes plan old.histories.items new k c.min-last.result c.due_after-due.result found.after found.within old_told now_told
          quiet found.is.visited due none;
    }

pub returns-in-Some : goal.returns-in-Some
returns-in-Some g c =
    let d = c.args.traffic.now.interlocking.now.design.station in
    let routes = c.args.traffic.now.interlocking.now.routes in
    let plan = c.args.plan.now.steps in
    let planned = c.requires.0 in
    let paths = c.requires.1 in
    let new = c.in_ok-progress-2.progress in
    let tick = new.tick in
    let found = c.in_ok-progress-2.ensures in
    let now_told : new.histories.items ≡ history_at d routes plan tick = found.is.recorded ∙ ap (λ p. any.history_at d routes p tick) planned.same in
    let old = c.loop-progress.progress in
    let k = old.tick in
    let invariant = c.loop-progress.invariant in
    let due = c.due_after-due.ensures in
    let old_told : old.histories.items ≡ history_at d routes plan k = invariant.is.recorded ∙ ap (λ p. any.history_at d routes p k) planned.same in
    let quiet : (m : ℕ) → k ≤ m → m < tick → history_at d routes plan m ≡ history_at d routes plan k = (λ m low less. sym (ap (λ p. any.history_at d routes p m) planned.same) ∙ found.quiet m low less ∙ old_told) in
    let first : 1 ≤ tick = (let a = found.after in omega arith) in
    let bound = c.horizon.ensures.value in
    let least = c.min-last.ensures in
    let high : tick ≤ horizon d = (let w = found.within in let v = due.within in omega arith) in
    let within : tick ≤ c.args.ticks = (let w = found.within in let v = due.within in omega arith) in
    let shorter : tick - 1 - k ≤ c.due_after-due.result - 1 - k = (let w = found.within in omega arith) in
    let open_before = undecided_before d routes plan (admitted d c.args.traffic.now.interlocking.now.design.admitted) k tick found.after found.at_0 high
    (λ w m. subst (λ h. IsNotDue d h k (tick - 1 - k) w) old_told (undue_less d old.histories.items k (c.due_after-due.result - 1 - k) (tick - 1 - k) w shorter (due.undue w m)))
    quiet invariant.before in
    let fails : c.violation_now.result ≡ violation_at d routes plan tick = c.violation_now.ensures ∙ ap (λ h. violation_in d h tick) now_told ∙ violation_told d routes plan (admitted d c.args.traffic.now.interlocking.now.design.admitted) tick first in
    let failed : violation_at d routes plan tick ≡ Some c.in-Some.violation = sym fails ∙ c.in-Some.is in
    let passes : is_decided d routes plan tick ≡ true = ap (λ o. is_some o || is_done d routes plan tick) failed in
    let cost = cost_is d routes plan tick paths first high passes open_before in
    ap (λ h. Failed h tick c.in-Some.violation) (c.from_vec.ensures ∙ now_told) ∙ failed_is d routes plan c.args.ticks tick c.in-Some.violation paths cost within failed

pub returns-then-are_done : goal.returns-then-are_done
returns-then-are_done g c =
    let d = c.args.traffic.now.interlocking.now.design.station in
    let routes = c.args.traffic.now.interlocking.now.routes in
    let plan = c.args.plan.now.steps in
    let planned = c.requires.0 in
    let paths = c.requires.1 in
    let new = c.in_ok-progress-2.progress in
    let tick = new.tick in
    let found = c.in_ok-progress-2.ensures in
    let now_told : new.histories.items ≡ history_at d routes plan tick = found.is.recorded ∙ ap (λ p. any.history_at d routes p tick) planned.same in
    let old = c.loop-progress.progress in
    let k = old.tick in
    let invariant = c.loop-progress.invariant in
    let due = c.due_after-due.ensures in
    let old_told : old.histories.items ≡ history_at d routes plan k = invariant.is.recorded ∙ ap (λ p. any.history_at d routes p k) planned.same in
    let quiet : (m : ℕ) → k ≤ m → m < tick → history_at d routes plan m ≡ history_at d routes plan k = (λ m low less. sym (ap (λ p. any.history_at d routes p m) planned.same) ∙ found.quiet m low less ∙ old_told) in
    let first : 1 ≤ tick = (let a = found.after in omega arith) in
    let bound = c.horizon.ensures.value in
    let least = c.min-last.ensures in
    let high : tick ≤ horizon d = (let w = found.within in let v = due.within in omega arith) in
    let within : tick ≤ c.args.ticks = (let w = found.within in let v = due.within in omega arith) in
    let shorter : tick - 1 - k ≤ c.due_after-due.result - 1 - k = (let w = found.within in omega arith) in
    let open_before = undecided_before d routes plan (admitted d c.args.traffic.now.interlocking.now.design.admitted) k tick found.after found.at_0 high
    (λ w m. subst (λ h. IsNotDue d h k (tick - 1 - k) w) old_told (undue_less d old.histories.items k (c.due_after-due.result - 1 - k) (tick - 1 - k) w shorter (due.undue w m)))
    quiet invariant.before in
    let fails : c.violation_now.result ≡ violation_at d routes plan tick = c.violation_now.ensures ∙ ap (λ h. violation_in d h tick) now_told ∙ violation_told d routes plan (admitted d c.args.traffic.now.interlocking.now.design.admitted) tick first in
    let fine : violation_at d routes plan tick ≡ None = sym fails ∙ c.in_default.is in
    let done : is_done d routes plan tick ≡ true = sym (c.are_done.ensures.run d routes plan tick first (c.as_slice.ensures.value ∙ now_told)) ∙ c.if-are_done.true in
    let passes : is_decided d routes plan tick ≡ true = ap₂ (λ o b. is_some o || b) fine done in
    let cost = cost_is d routes plan tick paths first high passes open_before in
    ap (λ h. Met h tick) (c.from_vec-then-are_done.ensures ∙ now_told) ∙ met_is d routes plan c.args.ticks tick paths cost within fine

pub returns : goal.returns
returns g c =
    let d = c.args.traffic.now.interlocking.now.design.station in
    let routes = c.args.traffic.now.interlocking.now.routes in
    let plan = c.args.plan.now.steps in
    let planned = c.requires.0 in
    let paths = c.requires.1 in
    let test = c.loop-progress-test.false in
    let last : c.min-last.result ≡ min c.args.ticks (horizon d) = c.min-last.ensures ∙ ap (min c.args.ticks) c.horizon.ensures.value in
    undecided_is d routes plan (admitted d c.args.traffic.now.interlocking.now.design.admitted) c.args.ticks c.min-last.result paths last (λ i low high. c.loop-progress.invariant.before i low (omega arith))
