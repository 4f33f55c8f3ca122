use Rattle.std.proofs.Common.{◌-◌, ◌<◌, ◌∙◌, ap, ap₂, nat_abs, length, arith}
use Rattle.rail_motion.specs.Track.{stretch_of, IsSlowestOfBlock}
use Rattle.rail_motion.proofs.Marking.{least_of_slowest, length_of-set, none_slower_still, one_more, rising_alike, set_stretch, slowest_kept}
use Rattle.rail_motion.proofs.least.mark_least.Goals as goal

pub overflow_sub-slowest : goal.overflow_sub-slowest
overflow_sub-slowest c = (let some = c.loop-left-test.true in let next = c.loop-left.invariant.next (c.loop-left.left - 1) (omega arith) in let after = next.after in omega arith)

pub with_least_in-requires : goal.with_least_in-requires
with_least_in-requires c = (let some = c.loop-left-test.true in let next = c.loop-left.invariant.next (c.loop-left.left - 1) (omega arith) in let after = next.after in omega arith)

pub slowest_before-slowest-requires-clause-slowest : goal.slowest_before-slowest-requires-clause-slowest
slowest_before-slowest-requires-clause-slowest c =
    let spans = c.loop-left.spans in
    let i = c.loop-left.left - 1 in
    let some = c.loop-left-test.true in
    slowest_kept spans i c.with_least_in.result c.index-spans-left.result (let within = c.loop-left.invariant.within in omega arith)
    (c.with_least_in.ensures.limit ∙ ap (λ s. s.limit) c.index-spans-left.is) i c.loop-left.slowest (c.loop-left.invariant.next i (omega arith))

pub loop-left-preserved : goal.loop-left-preserved
loop-left-preserved c =
    let spans = c.loop-left.spans in
    let i = c.loop-left.left - 1 in
    let span = c.index-spans-left.result in
    let s = c.with_least_in.result in
    let some = c.loop-left-test.true in
    let invariant = c.loop-left.invariant in
    let same = c.with_least_in.ensures in
    let here : i < length spans = (let within = invariant.within in omega arith) in
    let limit = same.limit ∙ ap (λ s. s.limit) c.index-spans-left.is in
    let next = invariant.next i (omega arith) in
    record {
      within = (let count = length_of-set spans i s in omega arith);
      next = c.slowest_before-slowest.ensures;
      track = set_stretch spans i s span here (ap₂ (λ e l. record { end = nat_abs e; limit = nat_abs l }) same.end same.limit ∙ ap stretch_of c.index-spans-left.is) ∙ invariant.track;
      none_slower = λ none. none_slower_still spans i s span here limit (same.slower_in ∙ ap (λ s. s.slower_in) c.index-spans-left.is) (invariant.none_slower none);
      marked = one_more IsSlowestOfBlock (λ s. s.least_in) spans i s here (slowest_kept spans i s span here limit) c.loop-left.slowest next.after next same.least_in (λ j d after inside. invariant.marked j d (omega arith) inside);
    }

pub returns-clause-least : goal.returns-clause-least
returns-clause-least c = least_of_slowest c.loop-left.spans (λ i d within. c.loop-left.invariant.marked i d (omega arith) within)

pub returns-clause-rising : goal.returns-clause-rising
returns-clause-rising c = rising_alike c.loop-left.spans c.args.spans.now c.loop-left.invariant.track
