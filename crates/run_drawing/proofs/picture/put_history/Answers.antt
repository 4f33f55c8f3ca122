use Rattle.std.proofs.Common.{◌≡◌, ◌++◌, ◌+◌, ℕ, ap, sym, ◌∙◌, get_or, take, arith}
use Rattle.std.specs.List.{enumerate_from, flat_map}
use Rattle.std.proofs.lemmas.List.FromFn.{length-enumerate_from}
use Rattle.std.proofs.lemmas.List.Sums.{sum_by_more}
use Rattle.drawing.specs.Drawing.{words_in}
use Rattle.rail_base.specs.declared.history.TrainHistory.{TrainHistory}
use Rattle.timetable.proofs.Lines.{numbered, all_numbered, all_told}
use Rattle.run_drawing.specs.Words.{history_size, train_size, train_texts}
use Rattle.run_drawing.proofs.picture.put_history.Goals as goal

pub loop-index-preserved : goal.loop-index-preserved
loop-index-preserved c =
    let d = c.args.design.now.station in
    let history = c.args.history.now in
    let i = c.loop-index.index in
    let train = c.index-history-index.result in
    let at : get_or (enumerate_from 1 history) i (0, train) ≡ (i + 1, train) = numbered history i train c.loop-index-test.true ∙ ap (λ (t : TrainHistory). (i + 1, t)) (sym c.index-history-index.is) in
    let make_reply = λ (t : ℕ × TrainHistory). train_texts d t.0 t.1 in
    let more : history_size (take (i + 1) history) ≡ history_size (take i history) + train_size train =
    sum_by_more train_size history i train c.loop-index-test.true ∙ ap (λ (t : TrainHistory). history_size (take i history) + train_size t) (sym c.index-history-index.is) in
    record {
      words = all_told (enumerate_from 1 history) i (0, train) (i + 1, train) (rw length-enumerate_from c.loop-index-test.true) at make_reply
          (words_in c.args.picture.now) (words_in c.loop-index.picture) _ c.loop-index.invariant.words c.in_ok-put_train.ensures.words;
      size = omega (arith, more, c.in_ok-put_train.ensures.size, c.loop-index.invariant.size);
    }

pub returns-clause-words : goal.returns-clause-words
returns-clause-words c =
    let make_reply = λ (t : ℕ × TrainHistory). train_texts c.args.design.now.station t.0 t.1 in
    c.loop-index.invariant.words ∙ ap (λ t. words_in c.args.picture.now ++ flat_map make_reply t) (all_numbered c.args.history.now c.loop-index.index c.loop-index-test.false)
