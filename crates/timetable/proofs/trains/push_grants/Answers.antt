use Rattle.std.proofs.Common.{◌≡◌, ◌++◌, ◌+◌, ap, sym, ◌∙◌, get_or, Some, None, option_map}
use Rattle.std.specs.List.{enumerate_from, filter_map}
use Rattle.std.proofs.lemmas.List.FromFn.{length-enumerate_from}
use Rattle.timetable.specs.Lines.{lines_of, grant_line}
use Rattle.timetable.specs.Timetable.{grant_line_of}
use Rattle.timetable.proofs.Lines.{numbered, all_numbered, none_told, one_told}
use Rattle.timetable.proofs.trains.push_grants.Goals as goal
use Rattle.timetable.proofs.trains.push_grants.Goals.{in-Some+in_ok-grant_line+in_ok-push, in_default}

pub loop-index-preserved : goal.loop-index-preserved
loop-index-preserved c =
    let grants = c.args.grants.now in
    let i = c.loop-index.index in
    let old = lines_of c.args.lines.now.items in
    let vs = c.loop-index.lines in
    let grant = get_or grants i (record { 0 = 0 }, None) in
    let at = numbered grants i (record { 0 = 0 }, None) c.loop-index-test.true in
    elim c.match-tick.branch [
      | in-Some+in_ok-grant_line+in_ok-push w ↦
          let line = w.in_ok-grant_line.field-0 in
          let told : grant_line_of (i + 1, grant) ≡ Some line.items = ap (option_map (grant_line (i + 1) grant.0)) w.in-Some.is ∙ ap Some (sym w.in_ok-grant_line.ensures) in
          rw (w.lines-is, w.in_ok-push.ensures.items) (one_told (enumerate_from 1 grants) i _ (i + 1, grant) (rw length-enumerate_from c.loop-index-test.true) at grant_line_of old vs.items line c.loop-index.invariant told)
      | in_default w ↦
          let told : grant_line_of (i + 1, grant) ≡ None = ap (option_map (grant_line (i + 1) grant.0)) w.in_default.is in
          rw (w.lines-is) (none_told (enumerate_from 1 grants) i _ (i + 1, grant) (rw length-enumerate_from c.loop-index-test.true) at grant_line_of old (lines_of vs.items) c.loop-index.invariant told)
    ]

pub returns : goal.returns
returns c = c.loop-index.invariant ∙ ap (λ t. lines_of c.args.lines.now.items ++ filter_map grant_line_of t) (all_numbered c.args.grants.now c.loop-index.index c.loop-index-test.false)
