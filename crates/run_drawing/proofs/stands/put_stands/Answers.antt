use Rattle.std.proofs.Common.{◌≡◌, ◌++◌, ◌∷◌, [], ℕ, List, ap, sym, ◌∙◌, length, Some, None, option_map, option_and_then, arith}
use Rattle.std.specs.List.{filter_map, zip}
use Rattle.std.proofs.lemmas.Iterator.{YieldsList-from_slice, YieldsList-from_zip}
use Rattle.std.proofs.lemmas.Iterator.Consumers.{YieldsList-at, YieldsList-turn, YieldsList-end}
use Rattle.std.proofs.lemmas.List.{length_push, take_all}
use Rattle.drawing.specs.Drawing.{words_in}
use Rattle.rail_base.specs.declared.station.NodeNo.{NodeNo}
use Rattle.run_drawing.specs.Words.{stand_line_of, stand_text}
use Rattle.run_drawing.proofs.Telling.{none_told, one_told}
use Rattle.run_drawing.proofs.stands.put_stands.Goals as goal

pub loop-visit-preserved-in-Continue-branch-2 : goal.loop-visit-preserved-in-Continue-branch-2
loop-visit-preserved-in-Continue-branch-2 c =
    let ms = c.args.design.now.station.tick_ms in
    let name = c.args.name.now in
    let pairs = zip c.args.train.now.visits c.args.train.now.dwells in
    let tell = stand_line_of ms name in
    let xs = c.loop-visit.yielded in
    let visit = c.in-Some.visit.now in
    let dwell = c.in-Some.dwell.now in
    let road = YieldsList-at c.into_iter-visit-iterator.ensures.into_iter_gives (YieldsList-from_zip (YieldsList-at c.zip-visit-items.ensures.first (YieldsList-from_slice c.args.train.now.visits (c.iter.ensures.rest ∙ c.as_slice-visits.ensures)))
    (YieldsList-from_slice c.args.train.now.dwells (c.zip-visit-items.ensures.second.0 ∙ c.as_slice.ensures))) in
    let turn = YieldsList-turn road xs c.loop-visit.visit-iterator c.loop-visit.yielded_by c.next.result c.next.new.self (c.in-Some.visit, c.in-Some.dwell) c.in-Some.is c.next.ensures.steps in
    let more = length_push xs (c.in-Some.visit, c.in-Some.dwell) in
    let told : tell (visit, dwell) ≡ Some (stand_text ms name c.in-Some-visit.from c.in-Some-dwell.to) = ap (option_and_then (λ (made : NodeNo × ℕ). option_map (stand_text ms name made.1) dwell)) c.in-Some-visit.is ∙ ap (option_map (stand_text ms name _)) c.in-Some-dwell.is in
    record {
      words = rw more (one_told tell pairs (length xs) (visit, dwell) (visit, dwell) turn.0 (sym turn.1) (words_in c.args.picture.now) (words_in c.loop-visit.picture) _ _ c.loop-visit.invariant.words told
          (c.in_ok-put_words.ensures.words ∙ ap (λ (t : List ℕ). words_in c.loop-visit.picture ++ t ∷ []) c.in_ok-text.ensures));
      size = omega (arith, more, c.in_ok-put_words.ensures.size, c.loop-visit.invariant.size);
    }

pub loop-visit-preserved-in_default-dwell : goal.loop-visit-preserved-in_default-dwell
loop-visit-preserved-in_default-dwell c =
    let ms = c.args.design.now.station.tick_ms in
    let name = c.args.name.now in
    let pairs = zip c.args.train.now.visits c.args.train.now.dwells in
    let tell = stand_line_of ms name in
    let xs = c.loop-visit.yielded in
    let visit = c.in-Some.visit.now in
    let dwell = c.in-Some.dwell.now in
    let road = YieldsList-at c.into_iter-visit-iterator.ensures.into_iter_gives (YieldsList-from_zip (YieldsList-at c.zip-visit-items.ensures.first (YieldsList-from_slice c.args.train.now.visits (c.iter.ensures.rest ∙ c.as_slice-visits.ensures)))
    (YieldsList-from_slice c.args.train.now.dwells (c.zip-visit-items.ensures.second.0 ∙ c.as_slice.ensures))) in
    let turn = YieldsList-turn road xs c.loop-visit.visit-iterator c.loop-visit.yielded_by c.next.result c.next.new.self (c.in-Some.visit, c.in-Some.dwell) c.in-Some.is c.next.ensures.steps in
    let more = length_push xs (c.in-Some.visit, c.in-Some.dwell) in
    let told : tell (visit, dwell) ≡ None = ap (option_and_then (λ (made : NodeNo × ℕ). option_map (stand_text ms name made.1) dwell)) c.in-Some-visit.is ∙ ap (option_map (stand_text ms name _)) c.in_default-dwell.is in
    record {
      words = rw more (none_told tell pairs (length xs) (visit, dwell) (visit, dwell) turn.0 (sym turn.1) (words_in c.args.picture.now) (words_in c.loop-visit.picture) c.loop-visit.invariant.words told);
      size = omega (arith, more, c.loop-visit.invariant.size);
    }

pub loop-visit-preserved : goal.loop-visit-preserved
loop-visit-preserved c =
    let ms = c.args.design.now.station.tick_ms in
    let name = c.args.name.now in
    let pairs = zip c.args.train.now.visits c.args.train.now.dwells in
    let tell = stand_line_of ms name in
    let xs = c.loop-visit.yielded in
    let visit = c.in-Some.visit.now in
    let dwell = c.in-Some.dwell.now in
    let road = YieldsList-at c.into_iter-visit-iterator.ensures.into_iter_gives (YieldsList-from_zip (YieldsList-at c.zip-visit-items.ensures.first (YieldsList-from_slice c.args.train.now.visits (c.iter.ensures.rest ∙ c.as_slice-visits.ensures)))
    (YieldsList-from_slice c.args.train.now.dwells (c.zip-visit-items.ensures.second.0 ∙ c.as_slice.ensures))) in
    let turn = YieldsList-turn road xs c.loop-visit.visit-iterator c.loop-visit.yielded_by c.next.result c.next.new.self (c.in-Some.visit, c.in-Some.dwell) c.in-Some.is c.next.ensures.steps in
    let more = length_push xs (c.in-Some.visit, c.in-Some.dwell) in
    let told : tell (visit, dwell) ≡ None = ap (option_and_then (λ (made : NodeNo × ℕ). option_map (stand_text ms name made.1) dwell)) c.in_default.is in
    record {
      words = rw more (none_told tell pairs (length xs) (visit, dwell) (visit, dwell) turn.0 (sym turn.1) (words_in c.args.picture.now) (words_in c.loop-visit.picture) c.loop-visit.invariant.words told);
      size = omega (arith, more, c.loop-visit.invariant.size);
    }

pub returns-clause-words : goal.returns-clause-words
returns-clause-words c =
    let pairs = zip c.args.train.now.visits c.args.train.now.dwells in
    let xs = c.loop-visit.yielded in
    let road = YieldsList-at c.into_iter-visit-iterator.ensures.into_iter_gives (YieldsList-from_zip (YieldsList-at c.zip-visit-items.ensures.first (YieldsList-from_slice c.args.train.now.visits (c.iter.ensures.rest ∙ c.as_slice-visits.ensures)))
    (YieldsList-from_slice c.args.train.now.dwells (c.zip-visit-items.ensures.second.0 ∙ c.as_slice.ensures))) in
    let end = YieldsList-end road xs c.loop-visit.visit-iterator c.loop-visit.yielded_by c.next.result c.next.new.self c.in-None.is c.next.ensures.steps in
    c.loop-visit.invariant.words
    ∙ ap (λ t. words_in c.args.picture.now ++ filter_map (stand_line_of c.args.design.now.station.tick_ms c.args.name.now) t) (take_all (length xs) pairs (omega (arith, end.1)))
