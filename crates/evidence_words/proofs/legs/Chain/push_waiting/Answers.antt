use Rattle.std.proofs.Common.{ℕ, List, [], ◌∷◌, ap, ◌∙◌}
use Rattle.rail_outside.specs.Lines.{lines_of}
use Rattle.cone_words.specs.Phrases.{sentence}
use Rattle.cone_words.proofs.Joining.{more_as}
use Rattle.evidence_words.proofs.legs.Chain.push_waiting.Goals as goal

pub returns : goal.returns
returns c =
    let old = lines_of c.args.lines.now.items in
    more_as old _ _ _ _ _ c.in_ok-push_leg.ensures c.in_ok-push_sentence.ensures (ap (λ (words : List ℕ). sentence c.args.self.now.line words ∷ []) (c.deref.ensures.value ∙ c.in_ok-text.ensures))
