use Rattle.std.proofs.Common.{append_assoc}
use Rattle.fault_words.proofs.faults.put_circle.Goals as goal

pub returns : goal.returns
returns c = simp (c.in_ok-put_text-2.ensures, c.in_ok-put_text.ensures, c.text_at.ensures, append_assoc)
