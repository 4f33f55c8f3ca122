use Rattle.std.proofs.Common.{◌≤ℤ◌, ◌+◌, slice_index_or, arith}
use Rattle.std.proofs.lemmas.Int.{ints}
use Rattle.rail_motion.specs.Track.{IsNextSlower}
use Rattle.rail_motion.proofs.Marking.{further}
use Rattle.rail_motion.proofs.slower.next_slower.Goals as goal

pub loop-next-preserved : goal.loop-next-preserved
loop-next-preserved c =
    let spans = c.args.spans.now in
    let n = c.loop-next.next in
    let m = n + (slice_index_or spans n c.index-spans-next-in-loop-next.result).slower_in in
    let invariant = c.loop-next.invariant in
    let next : IsNextSlower spans n m = c.requires.marked n c.index-spans-next-in-loop-next.result (let after = invariant.after in omega arith) c.loop-next-test.true in
    let past = next.after in
    let a = c.index-spans-index.result.limit_range.at_least in
    let b = c.index-spans-next.result.limit_range.at_least in
    let here = c.limit.ensures in
    let there = c.limit-in-loop-next.ensures in
    let test = c.if-limit.true in
    let less : c.index-spans-index.result.limit ≤ℤ c.index-spans-next.result.limit = omega (arith, ints) in
    record {
      after = (let a = invariant.after in omega arith);
      within = next.within;
      none = further spans c.args.index n m c.index-spans-index.result c.index-spans-next.result c.index-spans-index.is c.index-spans-next.is less invariant.after c.loop-next-test.true next invariant.none;
    }
