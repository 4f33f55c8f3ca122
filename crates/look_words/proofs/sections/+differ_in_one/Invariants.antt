use Rattle.std.proofs.Common.{length}
use Rattle.look_words.proofs.sections.+differ_in_one.Given as goal

abbrev pub decreases-differ_in_one : goal.decreases-differ_in_one
decreases-differ_in_one l = length l.one.now
