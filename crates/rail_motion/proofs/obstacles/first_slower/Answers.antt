use Rattle.std.proofs.Common.{drop, ◌<◌, ◌≤◌, ◌+◌, nat_abs, ◌∙◌, sym, subst, ap, arith, ltb-true, le_refl}
use Rattle.std.proofs.lemmas.Int.{ints}
use Rattle.rail_motion.specs.Track.{stretches_of}
use Rattle.rail_motion.specs.Braking.{faster_distance}
use Rattle.rail_motion.proofs.Points.{keeps_spans, can_brake_by_spans, keeps_spans_past}
use Rattle.rail_motion.proofs.Skipping.{ends_past_from, skip, rest_from}
use Rattle.rail_motion.proofs.Obstructing.{not_forbidden, obstructed, some_is}
use Rattle.rail_motion.proofs.obstacles.first_slower.Goals as goal

pub loop-next-init : goal.loop-next-init
loop-next-init c = record {
  within = omega arith;
  near = (let same = c.saturating_sub-start.ensures in omega arith);
  ahead = λ j d low within. (let past = ltb-true _ _ (c.requires.past j d within) in let same = c.saturating_sub-start.ensures in omega arith);
  left = rw c.saturating_sub-start.ensures (can_brake_by_spans c.args.speed c.args.brake c.args.tail (stretches_of c.args.spans.now) c.args.place c.args.speed c.requires.brake (omega arith));
  kept = λ w h. rw c.saturating_sub-start.ensures (sym (can_brake_by_spans w c.args.brake c.args.tail (stretches_of c.args.spans.now) c.args.place w c.requires.brake (le_refl w)) ∙ h);
}

pub loop-next-preserved : goal.loop-next-preserved
loop-next-preserved c =
    let spans = c.args.spans.now in
    let i = c.loop-next.next in
    let m = c.min-next.result in
    let u = c.args.speed in
    let b = c.args.brake in
    let x = c.args.place in
    let start = c.loop-next.start in
    let span = c.index-spans-next.result in
    let last = c.index-spans-next-in-loop-next.result in
    let range = span.slower_in_range in
    let sum = c.saturating_add.ensures in
    let least = c.min-next.ensures in
    let invariant = c.loop-next.invariant in
    let past : start < nat_abs span.end = subst (λ s. start < nat_abs s.end) (sym c.index-spans-next.is) (invariant.ahead i span (omega arith) c.loop-next-test.true) in
    let kept : nat_abs span.limit < u → x + faster_distance u b (nat_abs span.limit) u ≤ start = not_forbidden b x u start c.past-obstacle.result span c.past-obstacle.ensures.start c.past-obstacle.ensures.end c.past-obstacle.ensures.limit past (sym c.forbids.ensures ∙ c.if-forbids.false) in
    record {
      within = omega arith;
      near = (let end = last.end_range in let same = c.end-start.ensures in omega (arith, ints));
      ahead = λ j d from within. ends_past_from u b spans x u c.requires.rising m last c.index-spans-next-in-loop-next.is c.end-start.result c.end-start.ensures (omega arith) j d from within;
      kept = λ w h. rw c.end-start.ensures (rest_from w b spans x w c.requires.rising i m start last c.index-spans-next-in-loop-next.is (omega arith) (omega arith) invariant.ahead (invariant.kept w h));
      left = invariant.left ∙ skip u b spans x u c.requires.rising i m start span last (λ j d low high inside. c.hop.ensures.none j d low (omega arith) inside) c.index-spans-next.is c.index-spans-next-in-loop-next.is (omega arith) (omega arith) invariant.ahead kept ∙ ap (λ e. keeps_spans u b (stretches_of (drop m spans)) e x u) (sym c.end-start.ensures);
    }

pub returns-then-forbids-clause-none : goal.returns-then-forbids-clause-none
returns-then-forbids-clause-none c =
    sym (obstructed c.args.speed c.args.brake c.args.tail c.args.place c.loop-next.next c.loop-next.start c.args.spans.now c.past-obstacle.result _ c.index-spans-next.is (omega arith)
    c.past-obstacle.ensures.start c.past-obstacle.ensures.end c.past-obstacle.ensures.limit (c.loop-next.invariant.kept c.args.speed) (sym c.forbids.ensures ∙ c.if-forbids.true))

pub returns-then-forbids-clause-some : goal.returns-then-forbids-clause-some
returns-then-forbids-clause-some c = some_is _ _ (record {
  forbidden = λ moves. sym c.forbids.ensures ∙ c.if-forbids.true;
  obstructs = λ w h. obstructed w c.args.brake c.args.tail c.args.place c.loop-next.next c.loop-next.start c.args.spans.now c.past-obstacle.result _ c.index-spans-next.is (omega arith)
      c.past-obstacle.ensures.start c.past-obstacle.ensures.end c.past-obstacle.ensures.limit (c.loop-next.invariant.kept w) h;
})

pub returns-else-start-stop-clause-none : goal.returns-else-start-stop-clause-none
returns-else-start-stop-clause-none c =
    sym (c.loop-next.invariant.left ∙ keeps_spans_past c.args.speed c.args.brake _ c.loop-next.start c.args.place c.args.speed (omega arith))
