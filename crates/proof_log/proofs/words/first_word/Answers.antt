use Rattle.proof_log.proofs.Splitting.{words-at, words-last}
use Rattle.proof_log.proofs.words.first_word.Goals as goal

pub returns-in-Some : goal.returns-in-Some
returns-in-Some c = words-at c.args.text.now c.in-Some.end c.in-Some.ensures

pub returns-in-None : goal.returns-in-None
returns-in-None c = words-last c.args.text.now c.in-None.ensures
