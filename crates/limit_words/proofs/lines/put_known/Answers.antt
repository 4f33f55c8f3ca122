use Rattle.std.proofs.Common.{◌++◌, ℕ, codes, decimal, ap, ◌∙◌}
use Rattle.limit_words.proofs.Adding.{four_added}
use Rattle.limit_words.proofs.lines.put_known.Goals as goal

pub returns : goal.returns
returns c =
    four_added c.args.text.now.items (decimal c.args.steps) (codes " have ") (decimal c.args.literals) (codes " literals of at most 16000000\n") _ _ _ _
    (c.in_ok-put_number.ensures.ok ∙ ap (λ (n : ℕ). c.args.text.now.items ++ decimal n) c.from.ensures)
    c.in_ok-extend_from_slice.ensures.items c.in_ok-put_number-2.ensures.ok c.in_ok-extend_from_slice-2.ensures.items
