use Rattle.std.proofs.Common.{◌++◌, codes, List, ℕ, ap, ◌∙◌}
use Rattle.look_words.proofs.entries.open_entry_line.Goals as goal

pub returns : goal.returns
returns c =
    c.in_ok-extend_from_slice-3.ensures.items
    ∙ ap (λ (t : List ℕ). t ++ codes " the tracks part before a signal\n") (c.in_ok-extend_from_slice-2.ensures.items ∙ ap (λ (t : List ℕ). t ++ c.node_name.result.now) (c.in_ok-extend_from_slice.ensures.items ∙ ap (λ (t : List ℕ). t ++ codes "behind boundary ") c.new-line.ensures.items))
    ∙ ap (λ (name : List ℕ). codes "behind boundary " ++ name ++ codes " the tracks part before a signal\n") c.node_name.ensures
