use Rattle.rail_cli.proofs.Stored.{passes_asked, passes_words}
use Rattle.rail_cli.proofs.laws.stored_proofs_pass.Goals as goal

pub returns-clause-asked : goal.returns-clause-asked
returns-clause-asked c = passes_asked

pub returns-clause-words : goal.returns-clause-words
returns-clause-words c = passes_words
