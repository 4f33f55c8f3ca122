use Rattle.std.proofs.Common.{◌+◌, sym, ap, arith}
use Rattle.std.specs.List.{list_any}
use Rattle.rail_base.specs.Numbering.{count_from}
use Rattle.train_ways.specs.Reached.{is_over}
use Rattle.train_ways.proofs.Listing.{any_done, any_here, any_next}
use Rattle.train_ways.proofs.reached.is_live.Goals as goal

pub loop-pair-init : goal.loop-pair-init
loop-pair-init c = ap (λ n. list_any (is_over c.args.found.now c.args.left.now) (count_from c.args.first n)) (omega arith)

pub returns-then-is_over : goal.returns-then-is_over
returns-then-is_over c = any_here (is_over c.args.found.now c.args.left.now) c.loop-pair.pair (c.args.first + c.args.width) _ c.loop-pair-test.true (sym c.if-is_over.ensures) c.loop-pair.invariant

pub loop-pair-preserved : goal.loop-pair-preserved
loop-pair-preserved c = any_next (is_over c.args.found.now c.args.left.now) c.loop-pair.pair (c.args.first + c.args.width) _ c.loop-pair-test.true (sym c.if-is_over.ensures) c.loop-pair.invariant

pub returns : goal.returns
returns c = any_done (is_over c.args.found.now c.args.left.now) c.loop-pair.pair (c.args.first + c.args.width) _ c.loop-pair-test.false c.loop-pair.invariant
