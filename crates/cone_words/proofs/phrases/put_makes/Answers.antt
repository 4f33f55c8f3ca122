use Rattle.std.proofs.Common.{append_assoc}
use Rattle.cone_words.proofs.phrases.put_makes.Goals as goal

pub returns : goal.returns
returns c =
    simp (c.in_ok-put_number.ensures.ok, c.in_ok-extend_from_slice-2.ensures.items, c.in_ok-extend_from_slice.ensures.items, c.train_name.ensures, c.from.ensures, append_assoc)
