use Rattle.std.proofs.Common.{◌≡◌, ◌++◌, ◌+◌, ◌<◌, ℕ, ap, sym, ◌∙◌, length, Some, None, option_map, arith, subst}
use Rattle.std.specs.List.{enumerate_from, filter_map, zip}
use Rattle.std.proofs.lemmas.Iterator.{YieldsList-from_slice, YieldsList-from_zip}
use Rattle.std.proofs.lemmas.Iterator.Consumers.{YieldsList-at, YieldsList-from_enumerate, YieldsList-turn, YieldsList-end}
use Rattle.std.proofs.lemmas.List.{length_push, take_all}
use Rattle.std.proofs.lemmas.List.FromFn.{length-enumerate_from}
use Rattle.rail_outside.specs.Lines.{lines_of}
use Rattle.timetable.proofs.Lines.{at_hand, none_told, one_told}
use Rattle.outcome_words.specs.Stands.{stand_line, stand_of, stand_text}
use Rattle.outcome_words.proofs.stands.push_stands.Goals as goal

pub loop-index-preserved-in-Continue-branch-2 : goal.loop-index-preserved-in-Continue-branch-2
loop-index-preserved-in-Continue-branch-2 c =
    let d = c.args.design.now.station in
    let h = c.args.history.now in
    let pairs = zip h.visits h.dwells in
    let tell = stand_line d c.args.last c.args.train in
    let old = lines_of c.args.lines.now.items in
    let xs = c.loop-index.yielded in
    let n = c.in-Some.index in
    let visit = c.in-Some.visit.now in
    let dwell = c.in-Some.dwell.now in
    let road = YieldsList-at c.into_iter-index-iterator.ensures.into_iter_gives (YieldsList-from_enumerate (YieldsList-at c.enumerate-index-items.ensures.source (YieldsList-from_zip (YieldsList-at c.zip.ensures.first (YieldsList-from_slice h.visits (c.iter.ensures.rest ∙ c.as_slice-visits.ensures)))
    (YieldsList-from_slice h.dwells (c.zip.ensures.second.0 ∙ c.as_slice-dwells.ensures)))) c.enumerate-index-items.ensures.count) in
    let turn = YieldsList-turn road xs c.loop-index.index-iterator c.loop-index.yielded_by c.next.result c.next.new.self (n, (c.in-Some.visit, c.in-Some.dwell)) c.in-Some.is c.next.ensures.steps in
    let within : length xs < length pairs = subst (λ k. length xs < k) (length-enumerate_from 0 pairs) turn.0 in
    let at = at_hand pairs (length xs) n (visit, dwell) within turn.1 in
    let more = length_push xs (n, (c.in-Some.visit, c.in-Some.dwell)) in
    let stand = ap (λ (ms : ℕ). stand_of c.args.last ms visit dwell) (sym c.dwell_of-ms.ensures) ∙ sym c.stand_of.ensures in
    let line = c.in_ok-line.line in
    let told : tell (n + 1, (visit, dwell)) ≡ Some line.items = ap (option_map (stand_text d c.args.train)) (stand ∙ c.in-Some-stand_of.is) ∙ ap Some (sym c.in_ok-line.ensures) in
    rw (more, c.in_ok-push.ensures.items) (one_told (enumerate_from 1 pairs) (length xs) _ (n + 1, (visit, dwell)) (rw length-enumerate_from within) at tell old c.loop-index.lines.items line c.loop-index.invariant told)

pub loop-index-preserved : goal.loop-index-preserved
loop-index-preserved c =
    let d = c.args.design.now.station in
    let h = c.args.history.now in
    let pairs = zip h.visits h.dwells in
    let tell = stand_line d c.args.last c.args.train in
    let old = lines_of c.args.lines.now.items in
    let xs = c.loop-index.yielded in
    let n = c.in-Some.index in
    let visit = c.in-Some.visit.now in
    let dwell = c.in-Some.dwell.now in
    let road = YieldsList-at c.into_iter-index-iterator.ensures.into_iter_gives (YieldsList-from_enumerate (YieldsList-at c.enumerate-index-items.ensures.source (YieldsList-from_zip (YieldsList-at c.zip.ensures.first (YieldsList-from_slice h.visits (c.iter.ensures.rest ∙ c.as_slice-visits.ensures)))
    (YieldsList-from_slice h.dwells (c.zip.ensures.second.0 ∙ c.as_slice-dwells.ensures)))) c.enumerate-index-items.ensures.count) in
    let turn = YieldsList-turn road xs c.loop-index.index-iterator c.loop-index.yielded_by c.next.result c.next.new.self (n, (c.in-Some.visit, c.in-Some.dwell)) c.in-Some.is c.next.ensures.steps in
    let within : length xs < length pairs = subst (λ k. length xs < k) (length-enumerate_from 0 pairs) turn.0 in
    let at = at_hand pairs (length xs) n (visit, dwell) within turn.1 in
    let more = length_push xs (n, (c.in-Some.visit, c.in-Some.dwell)) in
    let stand = ap (λ (ms : ℕ). stand_of c.args.last ms visit dwell) (sym c.dwell_of-ms.ensures) ∙ sym c.stand_of.ensures in
    let told : tell (n + 1, (visit, dwell)) ≡ None = ap (option_map (stand_text d c.args.train)) (stand ∙ c.in_default.is) in
    rw more (none_told (enumerate_from 1 pairs) (length xs) _ (n + 1, (visit, dwell)) (rw length-enumerate_from within) at tell old (lines_of c.loop-index.lines.items) c.loop-index.invariant told)

pub returns : goal.returns
returns c =
    let h = c.args.history.now in
    let pairs = zip h.visits h.dwells in
    let xs = c.loop-index.yielded in
    let road = YieldsList-at c.into_iter-index-iterator.ensures.into_iter_gives (YieldsList-from_enumerate (YieldsList-at c.enumerate-index-items.ensures.source (YieldsList-from_zip (YieldsList-at c.zip.ensures.first (YieldsList-from_slice h.visits (c.iter.ensures.rest ∙ c.as_slice-visits.ensures)))
    (YieldsList-from_slice h.dwells (c.zip.ensures.second.0 ∙ c.as_slice-dwells.ensures)))) c.enumerate-index-items.ensures.count) in
    let end = YieldsList-end road xs c.loop-index.index-iterator c.loop-index.yielded_by c.next.result c.next.new.self c.in-None.is c.next.ensures.steps in
    let all : length (enumerate_from 1 pairs) ≡ length xs = length-enumerate_from 1 pairs ∙ sym (end.1 ∙ length-enumerate_from 0 pairs) in
    c.loop-index.invariant ∙ ap (λ t. lines_of c.args.lines.now.items ++ filter_map (stand_line c.args.design.now.station c.args.last c.args.train) t) (take_all (length xs) (enumerate_from 1 pairs) (omega (arith, all)))
