use Rattle.std.proofs.Common.{◌≡◌, ℕ, ◌-◌, ◌≤◌, ◌<◌, false}
use Rattle.rail_spec.specs.Dispatches.{of_plan, state_at}
use Rattle.rail_spec.specs.Histories.{history_at}
use Rattle.rail_spec.specs.Requirements.{is_decided}
use Rattle.tick_sim.proofs.verdicts.verdict_by_ticks.Given as goal

abbrev pub invariant-loop-tick : goal.invariant-loop-tick
invariant-loop-tick l = record {
  first : 1 ≤ l.tick;
  states : l.states.items ≡ state_at l.run.interlocking.now.design.station l.run.interlocking.now.routes (of_plan l.run.interlocking.now.routes l.run.plan.now.steps) (l.tick - 1);
  history : l.history ≡ history_at l.run.interlocking.now.design.station l.run.interlocking.now.routes l.run.plan.now.steps (l.tick - 1);
  before : (k : ℕ) → 1 ≤ k → k < l.tick → is_decided l.run.interlocking.now.design.station l.run.interlocking.now.routes l.run.plan.now.steps k ≡ false;
}
