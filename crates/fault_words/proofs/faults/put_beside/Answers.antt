use Rattle.std.proofs.Common.{append_assoc}
use Rattle.fault_words.proofs.faults.put_beside.Goals as goal

pub returns : goal.returns
returns c = simp (c.in_ok-put_text-7.ensures, c.in_ok-put_text-6.ensures, c.in_ok-put_text-5.ensures, c.in_ok-put_text-4.ensures, c.in_ok-put_text-3.ensures, c.in_ok-put_text-2.ensures, c.in_ok-put_text.ensures, c.side_text.ensures, c.signal_beside.ensures, append_assoc)
