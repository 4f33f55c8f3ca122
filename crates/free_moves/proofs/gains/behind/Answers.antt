use Rattle.std.proofs.Common.{◌<◌, sym, ap, ◌∙◌, subst}
use Rattle.rail_motion.specs.Track.{stretches_of}
use Rattle.free_moves.proofs.Gaining.{allowed_at, seen_from_tail, rest_past}
use Rattle.free_moves.proofs.gains.behind.Goals as goal

pub loop-span-init : goal.loop-span-init
loop-span-init c =
    let ss = stretches_of c.args.spans.now in
    seen_from_tail c.args.accel c.args.tail 0 ss c.args.place c.args.speed ∙ ap (λ n. allowed_at c.args.accel 0 ss n c.args.speed) (sym c.saturating_sub-left.ensures)

pub returns-then-left-end_of : goal.returns-then-left-end_of
returns-then-left-end_of c =
    sym (c.loop-span.invariant ∙ rest_past c.args.accel c.loop-span.from c.args.spans.now c.loop-span.span-index c.saturating_sub-left.result c.args.speed c.span-item.result c.requires.rising c.span-item.is (subst (λ n. c.saturating_sub-left.result < n) c.end_of.ensures c.if-left-end_of.true))
