use Rattle.rail_cli.proofs.TimeStored.{times_asked, times_words}
use Rattle.rail_cli.proofs.laws.stored_times_pass.Goals as goal

pub returns-clause-asked : goal.returns-clause-asked
returns-clause-asked c = times_asked

pub returns-clause-words : goal.returns-clause-words
returns-clause-words c = times_words
