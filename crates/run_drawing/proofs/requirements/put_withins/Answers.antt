use Rattle.std.proofs.Common.{◌++◌, ◌∷◌, [], ℕ, List, ap, ◌∙◌, map, arith}
use Rattle.std.specs.List.{enumerate_from}
use Rattle.std.proofs.lemmas.List.FromFn.{length-enumerate_from}
use Rattle.drawing.specs.Drawing.{words_in}
use Rattle.timetable.proofs.Lines.{numbered, all_numbered}
use Rattle.run_drawing.specs.Requirements.{within_text}
use Rattle.run_drawing.proofs.Telling.{text_told}
use Rattle.run_drawing.proofs.requirements.put_withins.Goals as goal

pub loop-index-preserved : goal.loop-index-preserved
loop-index-preserved c =
    let d = c.args.design.now.station in
    let xs = c.args.withins.now in
    let i = c.loop-index.index in
    record {
      words = text_told (enumerate_from 1 xs) i _ _ (rw length-enumerate_from c.loop-index-test.true) (numbered xs i _ c.loop-index-test.true) (within_text d c.args.history.now c.args.last)
          (words_in c.args.picture.now) (words_in c.loop-index.picture) _ c.loop-index.invariant.words
          (c.in_ok-put_words.ensures.words ∙ ap (λ (t : List ℕ). words_in c.loop-index.picture ++ t ∷ []) c.in_ok-text.ensures);
      size = omega (arith, c.in_ok-put_words.ensures.size, c.loop-index.invariant.size);
    }

pub returns-clause-words : goal.returns-clause-words
returns-clause-words c =
    let d = c.args.design.now.station in
    c.loop-index.invariant.words ∙ ap (λ t. words_in c.args.picture.now ++ map (within_text d c.args.history.now c.args.last) t) (all_numbered c.args.withins.now c.loop-index.index c.loop-index-test.false)
