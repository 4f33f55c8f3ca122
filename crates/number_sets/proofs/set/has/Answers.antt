use Rattle.std.proofs.Common.{sym}
use Rattle.number_sets.proofs.Words.{bit_is, none_past}
use Rattle.number_sets.proofs.set.has.Goals as goal

pub returns-in-Some : goal.returns-in-Some
returns-in-Some c = bit_is c.args.words.now c.args.number c.in-Some.word.now (c.in-Some.ensures.lookup.3.1 0)

pub returns-in-None : goal.returns-in-None
returns-in-None c = sym (none_past c.args.words.now c.args.number c.in-None.ensures.lookup.3)
