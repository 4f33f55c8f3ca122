use Rattle.std.proofs.Common.{◌≡◌, ◌++◌, ◌+◌, ◌<◌, ℕ, ap, sym, ◌∙◌, length, Some, None, option_map, option_and_then, arith, subst}
use Rattle.std.specs.List.{enumerate_from, filter_map, zip}
use Rattle.std.proofs.lemmas.Iterator.{YieldsList-from_slice, YieldsList-from_zip}
use Rattle.std.proofs.lemmas.Iterator.Consumers.{YieldsList-from_enumerate, YieldsList-turn, YieldsList-end}
use Rattle.std.proofs.lemmas.List.{length_push, take_all}
use Rattle.std.proofs.lemmas.List.FromFn.{length-enumerate_from}
use Rattle.rail_base.specs.declared.station.NodeNo.{NodeNo}
use Rattle.timetable.specs.Lines.{lines_of, dwell_line}
use Rattle.timetable.specs.Timetable.{dwell_line_of}
use Rattle.timetable.proofs.Lines.{at_hand, none_told, one_told}
use Rattle.timetable.proofs.trains.push_dwells.Goals as goal

pub loop-index-preserved-in_ok-push : goal.loop-index-preserved-in_ok-push
loop-index-preserved-in_ok-push c =
    let d = c.args.design.now.station in
    let pairs = zip c.args.visits.now c.args.dwells.now in
    let xs = c.loop-index.yielded in
    let visit = c.in-Some.visit.now in
    let dwell = c.in-Some.dwell.now in
    let n = c.in-Some.index in
    let road = YieldsList-from_enumerate {s = c.into_iter-index-iterator.result} (YieldsList-from_zip (YieldsList-from_slice c.args.visits.now (cc)) (YieldsList-from_slice c.args.dwells.now (cc))) (cc) in
    let turn = YieldsList-turn road xs c.loop-index.index-iterator c.loop-index.yielded_by c.next.result c.next.new.self (n, (c.in-Some.visit, c.in-Some.dwell)) c.in-Some.is c.next.ensures.steps in
    let within : length xs < length pairs = subst (λ k. length xs < k) (length-enumerate_from 0 pairs) turn.0 in
    let at = at_hand pairs (length xs) n (visit, dwell) within turn.1 in
    let more = length_push xs (n, (c.in-Some.visit, c.in-Some.dwell)) in
    let told : dwell_line_of d (n + 1, (visit, dwell)) ≡ Some c.in_ok-dwell_line.field-0.items =
    ap (option_and_then (λ (made : NodeNo × ℕ). option_map (dwell_line d (n + 1) made.0) dwell)) c.in-Some-visit.is
    ∙ ap (option_map (dwell_line d (n + 1) _)) c.in-Some-dwell.is ∙ ap Some (sym c.in_ok-dwell_line.ensures) in
    rw (more, c.in_ok-push.ensures.items) (one_told (enumerate_from 1 pairs) (length xs) _ (n + 1, (visit, dwell)) (rw length-enumerate_from within) at (dwell_line_of d) (lines_of c.args.lines.now.items) c.loop-index.lines.items c.in_ok-dwell_line.field-0 c.loop-index.invariant told)

pub loop-index-preserved-in_default-dwell : goal.loop-index-preserved-in_default-dwell
loop-index-preserved-in_default-dwell c =
    let d = c.args.design.now.station in
    let pairs = zip c.args.visits.now c.args.dwells.now in
    let xs = c.loop-index.yielded in
    let visit = c.in-Some.visit.now in
    let dwell = c.in-Some.dwell.now in
    let n = c.in-Some.index in
    let road = YieldsList-from_enumerate {s = c.into_iter-index-iterator.result} (YieldsList-from_zip (YieldsList-from_slice c.args.visits.now (cc)) (YieldsList-from_slice c.args.dwells.now (cc))) (cc) in
    let turn = YieldsList-turn road xs c.loop-index.index-iterator c.loop-index.yielded_by c.next.result c.next.new.self (n, (c.in-Some.visit, c.in-Some.dwell)) c.in-Some.is c.next.ensures.steps in
    let within : length xs < length pairs = subst (λ k. length xs < k) (length-enumerate_from 0 pairs) turn.0 in
    let at = at_hand pairs (length xs) n (visit, dwell) within turn.1 in
    let more = length_push xs (n, (c.in-Some.visit, c.in-Some.dwell)) in
    let told : dwell_line_of d (n + 1, (visit, dwell)) ≡ None =
    ap (option_and_then (λ (made : NodeNo × ℕ). option_map (dwell_line d (n + 1) made.0) dwell)) c.in-Some-visit.is
    ∙ ap (option_map (dwell_line d (n + 1) _)) c.in_default-dwell.is in
    rw more (none_told (enumerate_from 1 pairs) (length xs) _ (n + 1, (visit, dwell)) (rw length-enumerate_from within) at (dwell_line_of d) (lines_of c.args.lines.now.items) (lines_of c.loop-index.lines.items) c.loop-index.invariant told)

pub loop-index-preserved : goal.loop-index-preserved
loop-index-preserved c =
    let d = c.args.design.now.station in
    let pairs = zip c.args.visits.now c.args.dwells.now in
    let xs = c.loop-index.yielded in
    let visit = c.in-Some.visit.now in
    let dwell = c.in-Some.dwell.now in
    let n = c.in-Some.index in
    let road = YieldsList-from_enumerate {s = c.into_iter-index-iterator.result} (YieldsList-from_zip (YieldsList-from_slice c.args.visits.now (cc)) (YieldsList-from_slice c.args.dwells.now (cc))) (cc) in
    let turn = YieldsList-turn road xs c.loop-index.index-iterator c.loop-index.yielded_by c.next.result c.next.new.self (n, (c.in-Some.visit, c.in-Some.dwell)) c.in-Some.is c.next.ensures.steps in
    let within : length xs < length pairs = subst (λ k. length xs < k) (length-enumerate_from 0 pairs) turn.0 in
    let at = at_hand pairs (length xs) n (visit, dwell) within turn.1 in
    let more = length_push xs (n, (c.in-Some.visit, c.in-Some.dwell)) in
    let told : dwell_line_of d (n + 1, (visit, dwell)) ≡ None =
    ap (option_and_then (λ (made : NodeNo × ℕ). option_map (dwell_line d (n + 1) made.0) dwell)) c.in_default.is in
    rw more (none_told (enumerate_from 1 pairs) (length xs) _ (n + 1, (visit, dwell)) (rw length-enumerate_from within) at (dwell_line_of d) (lines_of c.args.lines.now.items) (lines_of c.loop-index.lines.items) c.loop-index.invariant told)

pub returns : goal.returns
returns c =
    let pairs = zip c.args.visits.now c.args.dwells.now in
    let xs = c.loop-index.yielded in
    let road = YieldsList-from_enumerate {s = c.into_iter-index-iterator.result} (YieldsList-from_zip (YieldsList-from_slice c.args.visits.now (cc)) (YieldsList-from_slice c.args.dwells.now (cc))) (cc) in
    let end = YieldsList-end road xs c.loop-index.index-iterator c.loop-index.yielded_by c.next.result c.next.new.self c.in-None.is c.next.ensures.steps in
    let all : length (enumerate_from 1 pairs) ≡ length xs = length-enumerate_from 1 pairs ∙ sym (end.1 ∙ length-enumerate_from 0 pairs) in
    c.loop-index.invariant ∙ ap (λ t. lines_of c.args.lines.now.items ++ filter_map (dwell_line_of c.args.design.now.station) t) (take_all (length xs) (enumerate_from 1 pairs) (omega (arith, all)))
