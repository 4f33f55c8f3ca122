use Rattle.std.proofs.Common.{◌≡◌, ◌++◌, ◌+◌, ℕ, ap, sym, ◌∙◌, get_or, Some, None, option_map}
use Rattle.std.specs.List.{enumerate_from, filter_map}
use Rattle.std.proofs.lemmas.List.FromFn.{length-enumerate_from}
use Rattle.rail_base.specs.declared.station.NodeNo.{NodeNo}
use Rattle.timetable.specs.Lines.{lines_of, visit_line}
use Rattle.timetable.specs.Timetable.{visit_line_of}
use Rattle.timetable.proofs.Lines.{numbered, all_numbered, none_told, one_told}
use Rattle.timetable.proofs.trains.push_visits.Goals as goal
use Rattle.timetable.proofs.trains.push_visits.Goals.{in-Some+in_ok-visit_line+in_ok-push, in_default}

pub loop-index-preserved : goal.loop-index-preserved
loop-index-preserved c =
    let d = c.args.design.now.station in
    let visits = c.args.visits.now in
    let i = c.loop-index.index in
    let old = lines_of c.args.lines.now.items in
    let vs = c.loop-index.lines in
    let visit = get_or visits i None in
    let at = numbered visits i None c.loop-index-test.true in
    elim c.match-visit.branch [
      | in-Some+in_ok-visit_line+in_ok-push w ↦
          let line = w.in_ok-visit_line.field-0 in
          let told : visit_line_of d (i + 1, visit) ≡ Some line.items = ap (option_map (λ (made : NodeNo × ℕ). visit_line d (i + 1) made.0 made.1)) w.in-Some.is ∙ ap Some (sym w.in_ok-visit_line.ensures) in
          rw (w.lines-is, w.in_ok-push.ensures.items) (one_told (enumerate_from 1 visits) i _ (i + 1, visit) (rw length-enumerate_from c.loop-index-test.true) at (visit_line_of d) old vs.items line c.loop-index.invariant told)
      | in_default w ↦
          let told : visit_line_of d (i + 1, visit) ≡ None = ap (option_map (λ (made : NodeNo × ℕ). visit_line d (i + 1) made.0 made.1)) w.in_default.is in
          rw (w.lines-is) (none_told (enumerate_from 1 visits) i _ (i + 1, visit) (rw length-enumerate_from c.loop-index-test.true) at (visit_line_of d) old (lines_of vs.items) c.loop-index.invariant told)
    ]

pub returns : goal.returns
returns c = c.loop-index.invariant ∙ ap (λ t. lines_of c.args.lines.now.items ++ filter_map (visit_line_of c.args.design.now.station) t) (all_numbered c.args.visits.now c.loop-index.index c.loop-index-test.false)
