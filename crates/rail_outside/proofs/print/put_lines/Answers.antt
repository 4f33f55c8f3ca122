use Rattle.std.proofs.Common.{◌≡◌, arith}
use Rattle.std.proofs.lemmas.Result.{err_from_is_err_and}
use Rattle.rail_outside.specs.declared.sink.SinkFault.TheVariants.{Failed, Memory}
use Rattle.rail_outside.proofs.Printing.{puts_more, written_more, puts_at_fault, written_at_failure, written_at_want, leaves_at_failure, leaves_at_want}
use Rattle.rail_outside.proofs.print.put_lines.Goals as goal

pub loop-line-preserved : goal.loop-line-preserved
loop-line-preserved g c = record {
  puts = puts_more c.args.lines.now c.loop-line.line-index c.line-item.result c.loop-line-test.true c.line-item.is _ _ _ c.loop-line.invariant.puts (rw (← c.as_slice.ensures.value) c.in_ok-put.ensures.pieces);
  written = written_more c.args.lines.now c.loop-line.line-index c.line-item.result c.loop-line-test.true c.line-item.is _ _ _ c.loop-line.invariant.written (rw (← c.as_slice.ensures.value) c.in_ok-put.ensures.leaves);
  never_falls = omega arith;
}

pub returns-in_err-put-clause-puts : goal.returns-in_err-put-clause-puts
returns-in_err-put-clause-puts g c =
    puts_at_fault c.args.lines.now c.loop-line.line-index c.line-item.result c.loop-line-test.true c.line-item.is c.in_err-put.field-0.0 _ _ _ c.loop-line.invariant.puts (rw (← c.as_slice.ensures.value) c.in_err-put.ensures.pieces)

pub returns-in_err-put-clause-failed : goal.returns-in_err-put-clause-failed
returns-in_err-put-clause-failed g c = λ e.
    let p = err_from_is_err_and c.from_residual.result c.from_residual.ensures.1 in
    let same : c.in_err-put.field-0.0 ≡ Failed = cc (p.1, p.2) in
    written_at_failure c.args.lines.now c.loop-line.line-index c.line-item.result c.loop-line-test.true c.line-item.is _ _ _ c.loop-line.invariant.written (leaves_at_failure c.in_err-put.field-0.0 _ _ c.as_slice.result.now _ c.as_slice.ensures.value same c.in_err-put.ensures.leaves)

pub returns-in_err-put-clause-memory : goal.returns-in_err-put-clause-memory
returns-in_err-put-clause-memory g c = λ e.
    let p = err_from_is_err_and c.from_residual.result c.from_residual.ensures.1 in
    let same : c.in_err-put.field-0.0 ≡ Memory = cc (p.1, p.2) in
    written_at_want c.args.lines.now c.loop-line.line-index c.line-item.result c.loop-line-test.true c.line-item.is _ _ _ c.loop-line.invariant.written (leaves_at_want c.in_err-put.field-0.0 _ _ _ same c.in_err-put.ensures.leaves)
