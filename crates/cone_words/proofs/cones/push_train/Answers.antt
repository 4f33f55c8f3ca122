use Rattle.std.proofs.Common.{ℕ, List, [], ◌∷◌, ap, ◌∙◌}
use Rattle.rail_outside.specs.Lines.{lines_of}
use Rattle.cone_words.specs.Phrases.{sentence}
use Rattle.cone_words.proofs.Joining.{first_as, more}
use Rattle.cone_words.proofs.cones.push_train.Goals as goal

pub returns : goal.returns
returns c =
    let old = lines_of c.args.lines.now.items in
    let t1 = first_as old _ _ _ c.in_ok-push_sentence.ensures (ap (λ (words : List ℕ). sentence c.args.line words ∷ []) (c.deref.ensures.value ∙ c.in_ok-text.ensures)) in
    more old _ _ _ _ t1 (more _ _ _ _ _ c.in_ok-push_stops.ensures c.in_ok-push_end.ensures)
