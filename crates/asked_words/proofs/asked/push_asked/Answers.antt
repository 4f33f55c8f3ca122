use Rattle.std.proofs.Common.{◌≡◌, List, ℕ, ◌∷◌, [], ◌++◌, ap, ◌∙◌}
use Rattle.std.proofs.lemmas.List.{append_assoc}
use Rattle.rail_outside.specs.Lines.{lines_of}
use Rattle.asked_words.proofs.Counted.{lines_more}
use Rattle.asked_words.proofs.asked.push_asked.Goals as goal

four : (old a b e f all now last : List (List ℕ)) → all ≡ old ++ a → now ≡ all ++ b → last ≡ now ++ e → last ++ f ≡ old ++ (((a ++ b) ++ e) ++ f)
four old a b e f all now last one two three =
    ap (λ (ls : List (List ℕ)). ls ++ f) (three ∙ ap (λ (ls : List (List ℕ)). ls ++ e) (two ∙ (ap (λ (ls : List (List ℕ)). ls ++ b) one ∙ append_assoc old a b)))
    ∙ (ap (λ (ls : List (List ℕ)). ls ++ f) (append_assoc old (a ++ b) e) ∙ append_assoc old ((a ++ b) ++ e) f)

pub returns : goal.returns
returns c =
    ap lines_of c.in_ok-push.ensures.items
    ∙ (lines_more _ c.in_ok-line.line
    ∙ (ap (λ (t : List ℕ). lines_of c.push_withins.new.lines.items ++ t ∷ []) c.in_ok-line.ensures
    ∙ four _ _ _ _ _ _ _ _ c.in_ok-push_trains.ensures c.in_ok-push_orders.ensures c.in_ok-push_withins.ensures))
