use Rattle.std.proofs.Common.{◌-◌, ◌∙◌, arith, ap, ap₂, nat_abs}
use Rattle.rail_motion.specs.Track.{stretch_of, IsNextSlower}
use Rattle.rail_motion.proofs.Marking.{set_stretch, length_of-set, one_more, rising_alike, slower_kept}
use Rattle.rail_motion.proofs.slower.mark_slower.Goals as goal

pub loop-left-preserved : goal.loop-left-preserved
loop-left-preserved c =
    let spans = c.loop-left.spans in
    let i = c.loop-left.left - 1 in
    let span = c.index-spans-left.result in
    let some = c.loop-left-test.true in
    let invariant = c.loop-left.invariant in
    let same = c.with_slower_in.ensures in
    record {
      within = (let count = length_of-set spans i c.with_slower_in.result in omega arith);
      track = set_stretch spans i c.with_slower_in.result span (omega arith) (ap₂ (λ e l. record { end = nat_abs e; limit = nat_abs l }) same.end same.limit ∙ ap stretch_of c.index-spans-left.is) ∙ invariant.track;
      marked = one_more IsNextSlower (λ s. s.slower_in) spans i c.with_slower_in.result (omega arith) (slower_kept spans i c.with_slower_in.result span (omega arith) (same.limit ∙ ap (λ s. s.limit) c.index-spans-left.is)) c.next_slower-next.result (let a = c.next_slower-next.ensures.after in omega arith) c.next_slower-next.ensures same.slower_in (λ j d after inside. invariant.marked j d (omega arith) inside);
    }

pub returns-clause-rising : goal.returns-clause-rising
returns-clause-rising c = rising_alike c.loop-left.spans c.args.spans.now c.loop-left.invariant.track
