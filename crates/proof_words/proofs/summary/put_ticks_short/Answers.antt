use Rattle.std.proofs.Common.{◌≡◌, ℕ, List, ◌++◌, codes, decimal, ◌∙◌}
use Rattle.std.proofs.lemmas.List.{append_assoc}
use Rattle.cone_words.specs.Times.{ms_of}
use Rattle.proof_words.proofs.summary.put_ticks_short.Goals as goal

three : (t a b e : List ℕ) → ((t ++ a) ++ b) ++ e ≡ t ++ (a ++ (b ++ e))
three t a b e = append_assoc (t ++ a) b e ∙ append_assoc t a (b ++ e)

pub returns : goal.returns
returns c =
    let whole = three c.args.text.now.items (codes ", least shortfall ") (decimal (ms_of c.args.design.now.station c.args.ticks)) (codes " ms") in
    rw (c.in_ok-extend_from_slice-2.ensures.items, c.in_ok-put_number.ensures.ok, c.in_ok-extend_from_slice.ensures.items, c.ms_of.ensures) whole
