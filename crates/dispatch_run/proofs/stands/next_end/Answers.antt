use Rattle.std.proofs.Common.{◌⊎◌, inl, inr, ◌+◌, ◌≤◌, refl, arith}
use Rattle.rail_course.specs.declared.dwells.Dwell.{Dwell}
use Rattle.dispatch_run.proofs.Looping.{gone_at, gone_all, nearer}
use Rattle.dispatch_run.proofs.stands.next_end.Goals.{then-stood-dwell, else-stood-dwell}
use Rattle.dispatch_run.proofs.stands.next_end.Goals as goal

pub loop-dwell-preserved : goal.loop-dwell-preserved
loop-dwell-preserved c =
    let l = c.loop-dwell in
    let ws = c.args.dwells.now in
    let none : Dwell = record { ticks = 0; until = 0 } in
    elim c.if-stood-dwell.branch [
      | then-stood-dwell w ↦ (
          let less = w.if-stood-dwell in
          let is = w.min-end.ensures in
          let end = w.end-is in
          let ahead = l.invariant.ahead in
          let within = l.invariant.within in
          record {
            ahead = omega arith;
            within = omega arith;
            least = gone_at (λ (v : Dwell). (v.until ≤ c.args.stood) ⊎ (l.end ≤ v.until)) (λ (v : Dwell). (v.until ≤ c.args.stood) ⊎ (c.if-stood-dwell.end ≤ v.until)) ws l.dwell-index (l.dwell-index + 1) none c.loop-dwell-test.true refl
                (λ v h. nearer c.args.stood l.end c.if-stood-dwell.end v.until (omega arith) h) (inr (omega arith)) l.invariant.least;
          })
      | else-stood-dwell w ↦ (
          let more = w.if-stood-dwell in
          let end = w.end-is in
          let ahead = l.invariant.ahead in
          let within = l.invariant.within in
          record {
            ahead = omega arith;
            within = omega arith;
            least = gone_at (λ (v : Dwell). (v.until ≤ c.args.stood) ⊎ (l.end ≤ v.until)) (λ (v : Dwell). (v.until ≤ c.args.stood) ⊎ (c.if-stood-dwell.end ≤ v.until)) ws l.dwell-index (l.dwell-index + 1) none c.loop-dwell-test.true refl
                (λ v h. nearer c.args.stood l.end c.if-stood-dwell.end v.until (omega arith) h) (inl (omega arith)) l.invariant.least;
          })
    ]

pub returns-clause-least : goal.returns-clause-least
returns-clause-least c = gone_all (λ (w : Dwell). (w.until ≤ c.args.stood) ⊎ (c.loop-dwell.end ≤ w.until)) c.args.dwells.now c.loop-dwell.dwell-index c.loop-dwell-test.false c.loop-dwell.invariant.least
