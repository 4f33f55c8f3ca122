use Rattle.std.proofs.Common.{◌≡◌, ◌++◌, ◌+◌, ℕ, ap, ◌∙◌, get_or, length, Some, None, option_map, arith}
use Rattle.std.specs.List.{enumerate_from, filter_map}
use Rattle.std.proofs.lemmas.List.FromFn.{length-enumerate_from}
use Rattle.drawing.specs.Drawing.{words_in}
use Rattle.rail_base.specs.declared.station.NodeNo.{NodeNo}
use Rattle.timetable.proofs.Lines.{numbered, all_numbered}
use Rattle.run_drawing.specs.Requirements.{visit_text}
use Rattle.run_drawing.specs.Words.{visit_line_of}
use Rattle.run_drawing.proofs.Telling.{none_told, one_told}
use Rattle.run_drawing.proofs.visits.put_visits.Goals as goal
use Rattle.run_drawing.proofs.visits.put_visits.Goals.{in-Some+in_ok-put_visit, in_default}

pub loop-index-preserved : goal.loop-index-preserved
loop-index-preserved c =
    let name = c.args.name.now in
    let visits = c.args.visits.now in
    let i = c.loop-index.index in
    let visit = get_or visits i None in
    let at = numbered visits i None c.loop-index-test.true in
    elim c.match-visit.branch [
      | in-Some+in_ok-put_visit w ↦
          let reply_for : visit_line_of name (i + 1, visit) ≡ Some (visit_text name (i + 1)) = ap (option_map (λ (made : NodeNo × ℕ). visit_text name (i + 1))) w.in-Some.is in
          record {
            words = rw (w.picture-is) (one_told (visit_line_of name) (enumerate_from 1 visits) i _ (i + 1, visit) (rw length-enumerate_from c.loop-index-test.true) at (words_in c.args.picture.now) (words_in c.loop-index.picture) _ (visit_text name (i + 1)) c.loop-index.invariant.words reply_for w.in_ok-put_visit.ensures.words);
            size = omega (arith, ap length w.picture-is, w.in_ok-put_visit.ensures.size, c.loop-index.invariant.size);
          }
      | in_default w ↦
          let reply_for : visit_line_of name (i + 1, visit) ≡ None = ap (option_map (λ (made : NodeNo × ℕ). visit_text name (i + 1))) w.in_default.is in
          record {
            words = rw (w.picture-is) (none_told (visit_line_of name) (enumerate_from 1 visits) i _ (i + 1, visit) (rw length-enumerate_from c.loop-index-test.true) at (words_in c.args.picture.now) (words_in c.loop-index.picture) c.loop-index.invariant.words reply_for);
            size = omega (arith, ap length w.picture-is, c.loop-index.invariant.size);
          }
    ]

pub returns-clause-words : goal.returns-clause-words
returns-clause-words c = c.loop-index.invariant.words ∙ ap (λ t. words_in c.args.picture.now ++ filter_map (visit_line_of c.args.name.now) t) (all_numbered c.args.visits.now c.loop-index.index c.loop-index-test.false)
