use Rattle.std.proofs.Common.{◌≡◌, ◌⊎◌, ℕ, ◌+◌, ◌≤◌, Some, refl, ◌∙◌, arith}
use Rattle.rail_course.specs.declared.journey.Hold.{Hold}
use Rattle.rail_course.specs.Marks.{pass_mark}
use Rattle.dispatch_run.proofs.Looping.{gone_at, gone_all, nearer}
use Rattle.dispatch_run.proofs.holds.next_hold_end.Goals as goal

abbrev no_hold : Hold
no_hold = record { route = record { 0 = 0 }; section = record { 0 = 0 }; event = record { train = record { 0 = 0 }; event = record { granted = 0; place = 0 }; ticks = 0 }; node = 0 }

pub loop-hold-preserved : goal.loop-hold-preserved
loop-hold-preserved c =
    let l = c.loop-hold in
    let within = l.invariant.within in
    let sooner = c.sooner_end-end.ensures.within in
    record {
      ahead = c.sooner_end-end.ensures.ahead;
      within = omega arith;
      least = gone_at (λ (h : Hold). (a : ℕ) → pass_mark c.args.passes.now h.node ≡ Some a → (a + h.event.ticks ≤ c.args.clock) ⊎ (l.end ≤ a + h.event.ticks))
          (λ (h : Hold). (a : ℕ) → pass_mark c.args.passes.now h.node ≡ Some a → (a + h.event.ticks ≤ c.args.clock) ⊎ (c.sooner_end-end.result ≤ a + h.event.ticks)) c.args.holds.now l.hold-index (l.hold-index + 1) no_hold c.loop-hold-test.true refl
          (λ h before a mark. nearer c.args.clock l.end c.sooner_end-end.result (a + h.event.ticks) sooner (before a mark)) (λ a mark. c.sooner_end-end.ensures.least a (c.pass_mark.ensures ∙ mark)) l.invariant.least;
    }

pub returns-clause-least : goal.returns-clause-least
returns-clause-least c = gone_all (λ (h : Hold). (a : ℕ) → pass_mark c.args.passes.now h.node ≡ Some a → (a + h.event.ticks ≤ c.args.clock) ⊎ (c.loop-hold.end ≤ a + h.event.ticks)) c.args.holds.now c.loop-hold.hold-index c.loop-hold-test.false c.loop-hold.invariant.least
