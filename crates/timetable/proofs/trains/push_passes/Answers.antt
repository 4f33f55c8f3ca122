use Rattle.std.proofs.Common.{◌≡◌, ap, refl, sym, ◌∙◌, get_or, Some, None, option_map}
use Rattle.timetable.specs.Lines.{lines_of, pass_line}
use Rattle.timetable.specs.Timetable.{pass_line_of}
use Rattle.timetable.proofs.Lines.{none_told, one_told}
use Rattle.timetable.proofs.trains.push_passes.Goals as goal
use Rattle.timetable.proofs.trains.push_passes.Goals.{in-Some+in_ok-pass_line+in_ok-push, in_default}

pub loop-node-preserved : goal.loop-node-preserved
loop-node-preserved c =
    let d = c.args.design.now.station in
    let passes = c.args.passes.now in
    let i = c.loop-node.node-index in
    let tell = pass_line_of d in
    let old = lines_of c.args.lines.now.items in
    let vs = c.loop-node.lines in
    elim c.match-tick.branch [
      | in-Some+in_ok-pass_line+in_ok-push w ↦
          let pass = get_or passes i (record { 0 = 0 }, None) in
          let line = w.in_ok-pass_line.field-0 in
          let told : tell pass ≡ Some line.items = ap (option_map (pass_line d pass.0)) w.in-Some.is ∙ ap Some (sym w.in_ok-pass_line.ensures) in
          rw (w.lines-is, w.in_ok-push.ensures.items) (one_told passes i (record { 0 = 0 }, None) pass c.loop-node-test.true refl tell old vs.items line c.loop-node.invariant told)
      | in_default w ↦
          let pass = get_or passes i (record { 0 = 0 }, None) in
          let told : tell pass ≡ None = ap (option_map (pass_line d pass.0)) w.in_default.is in
          rw (w.lines-is) (none_told passes i (record { 0 = 0 }, None) pass c.loop-node-test.true refl tell old (lines_of vs.items) c.loop-node.invariant told)
    ]
