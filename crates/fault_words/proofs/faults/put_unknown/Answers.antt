use Rattle.std.proofs.Common.{append_assoc}
use Rattle.fault_words.proofs.faults.put_unknown.Goals as goal

pub returns : goal.returns
returns c = simp (c.in_ok-put_text-4.ensures, c.in_ok-put_text-3.ensures, c.in_ok-put_text-2.ensures, c.in_ok-put_text.ensures, c.text.ensures, c.named_key.ensures, c.unknown_name.ensures, append_assoc)
