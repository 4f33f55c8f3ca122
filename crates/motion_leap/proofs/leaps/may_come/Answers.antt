use Rattle.std.proofs.Common.{◌≡◌, ◌-◌, true, nat_abs, subst, sym, ◌∙◌, ap}
use Rattle.rail_motion.specs.Track.{stretches_of}
use Rattle.rail_motion.proofs.Rising.{keeps_limits_past}
use Rattle.rail_spec.specs.Motion.{keeps_limits}
use Rattle.motion_leap.proofs.leaps.may_come.Goals as goal

pub returns-then-keeps_limits-clause-limits : goal.returns-then-keeps_limits-clause-limits
returns-then-keeps_limits-clause-limits c =
    let spans = c.args.ahead.now.spans.now in
    let from : c.saturating_sub-from.result ≡ c.args.from - nat_abs c.args.motor.now.tail = c.saturating_sub-from.ensures ∙ ap (λ tail. c.args.from - tail) c.tail.ensures.length in
    let tested = c.keeps_limits.ensures ∙ ap (λ past. keeps_limits (stretches_of past) c.saturating_sub-from.result c.args.place c.args.speed) c.spans_past.ensures in
    let kept = keeps_limits_past spans c.saturating_sub-from.result c.args.place c.args.speed (sym tested ∙ c.if-keeps_limits.true) in
    λ brakes. subst (λ start. keeps_limits (stretches_of spans) start c.args.place c.args.speed ≡ true) from kept
