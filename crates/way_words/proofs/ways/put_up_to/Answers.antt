use Rattle.std.proofs.Common.{ap, ◌++◌, List, ℕ, ◌∙◌, decimal}
use Rattle.way_words.proofs.Gathering.{four_added}
use Rattle.way_words.proofs.ways.put_up_to.Goals as goal

pub returns : goal.returns
returns c =
    four_added _ _ _ _ _ _ _ _ _ (c.in_ok-extend_from_slice.ensures.items ∙ ap (λ (t : List ℕ). c.args.text.now.items ++ t) c.train_name.ensures)
    c.in_ok-extend_from_slice-2.ensures.items
    (c.in_ok-put_number.ensures.ok ∙ ap (λ (n : ℕ). c.extend_from_slice-2.new.self.items ++ decimal n) c.from.ensures) c.in_ok-put_nodes.ensures
