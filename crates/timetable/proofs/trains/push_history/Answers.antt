use Rattle.std.proofs.Common.{◌≡◌, ◌++◌, ◌+◌, ℕ, ap, sym, ◌∙◌, get_or}
use Rattle.std.specs.List.{enumerate_from, flat_map}
use Rattle.std.proofs.lemmas.List.FromFn.{length-enumerate_from}
use Rattle.rail_base.specs.declared.history.TrainHistory.{TrainHistory}
use Rattle.timetable.specs.Lines.{lines_of}
use Rattle.timetable.specs.Timetable.{train_lines}
use Rattle.timetable.proofs.Lines.{numbered, all_numbered, all_told}
use Rattle.timetable.proofs.trains.push_history.Goals as goal

pub loop-index-preserved : goal.loop-index-preserved
loop-index-preserved c =
    let d = c.args.design.now.station in
    let history = c.args.history.now in
    let i = c.loop-index.index in
    let train = c.index-history-index.result in
    let at : get_or (enumerate_from 1 history) i (0, train) ≡ (i + 1, train) = numbered history i train c.loop-index-test.true ∙ ap (λ (t : TrainHistory). (i + 1, t)) (sym c.index-history-index.is) in
    let tell = λ (t : ℕ × TrainHistory). train_lines d (record { 0 = t.0 }) t.1 in
    all_told (enumerate_from 1 history) i (0, train) (i + 1, train) (rw length-enumerate_from c.loop-index-test.true) at tell
    (lines_of c.args.lines.now.items) (lines_of c.loop-index.lines.items) _ c.loop-index.invariant c.in_ok-push_train.ensures

pub returns : goal.returns
returns c =
    let tell = λ (t : ℕ × TrainHistory). train_lines c.args.design.now.station (record { 0 = t.0 }) t.1 in
    c.loop-index.invariant ∙ ap (λ t. lines_of c.args.lines.now.items ++ flat_map tell t) (all_numbered c.args.history.now c.loop-index.index c.loop-index-test.false)
