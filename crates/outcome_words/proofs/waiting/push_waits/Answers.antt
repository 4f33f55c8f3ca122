use Rattle.std.proofs.Common.{◌≡◌, ◌++◌, ◌+◌, ap, sym, ◌∙◌, get_or, Some, None, option_map}
use Rattle.std.specs.List.{enumerate_from, filter_map}
use Rattle.std.proofs.lemmas.List.FromFn.{length-enumerate_from}
use Rattle.rail_outside.specs.Lines.{lines_of}
use Rattle.timetable.proofs.Lines.{numbered, all_numbered, none_told, one_told}
use Rattle.outcome_words.specs.Runs.{of_shown}
use Rattle.outcome_words.specs.Waits.{wait_line, wait_text}
use Rattle.outcome_words.proofs.waiting.push_waits.Goals as goal
use Rattle.outcome_words.proofs.waiting.push_waits.Goals.{in-Some+in_ok-line+in_ok-push, in_default}

pub loop-index-preserved : goal.loop-index-preserved
loop-index-preserved c =
    let run = c.args.run.now in
    let t = c.args.train in
    let h = c.args.history.now in
    let grants = c.as_slice-grant-items.result.now in
    let tell = of_shown run wait_line t h in
    let i = c.loop-index.index in
    let old = lines_of c.args.lines.now.items in
    let vs = c.loop-index.lines in
    let grant = get_or grants i (record { 0 = 0 }, None) in
    let at = numbered grants i (record { 0 = 0 }, None) c.loop-index-test.true in
    elim c.match-wait_of.branch [
      | in-Some+in_ok-line+in_ok-push w ↦
          let line = w.in_ok-line.line in
          let told : tell (i + 1, grant) ≡ Some line.items = ap (option_map (wait_text run.interlocking.now.design.station run.interlocking.now.routes t)) (sym c.wait_of.ensures ∙ w.in-Some.is) ∙ ap Some (sym w.in_ok-line.ensures) in
          rw (w.lines-is, w.in_ok-push.ensures.items) (one_told (enumerate_from 1 grants) i _ (i + 1, grant) (rw length-enumerate_from c.loop-index-test.true) at tell old vs.items line c.loop-index.invariant told)
      | in_default w ↦
          let told : tell (i + 1, grant) ≡ None = ap (option_map (wait_text run.interlocking.now.design.station run.interlocking.now.routes t)) (sym c.wait_of.ensures ∙ w.in_default.is) in
          rw (w.lines-is) (none_told (enumerate_from 1 grants) i _ (i + 1, grant) (rw length-enumerate_from c.loop-index-test.true) at tell old (lines_of vs.items) c.loop-index.invariant told)
    ]

pub returns : goal.returns
returns c =
    let tell = of_shown c.args.run.now wait_line c.args.train c.args.history.now in
    c.loop-index.invariant ∙ ap (λ t. lines_of c.args.lines.now.items ++ filter_map tell t) (all_numbered c.as_slice-grant-items.result.now c.loop-index.index c.loop-index-test.false ∙ ap (enumerate_from 1) c.as_slice-grant-items.ensures)
