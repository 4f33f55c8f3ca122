use Rattle.named_files.proofs.Printing.{prints_nothing_for}
use Rattle.rail_words.specs.Words.{texts_of}
use Rattle.why_words.specs.Wanted.{wanted_of}
use Rattle.why_words.specs.Words.{wanted_by}
use Rattle.why_cli.specs.Replies.{IsAnswerTo, design_name, file_name}
use Rattle.why_cli.proofs.Reading.{asked_grows}
use Rattle.why_cli.proofs.run.run_asked.Goals as goal

pub returns-in-Ok-clause-asked : goal.returns-in-Ok-clause-asked
returns-in-Ok-clause-asked g c = asked_grows (wanted_of (texts_of c.args.words.now)) (wanted_by c.in-Ok.wanted) _ _ c.in-Ok.ensures.ok c.run_wanted.ensures.asked

pub returns-in-Err-Memory-clause-answer : goal.returns-in-Err-Memory-clause-answer
returns-in-Err-Memory-clause-answer g c =
    let w = wanted_of (texts_of c.args.words.now) in
    prints_nothing_for _ (design_name w) (file_name w) (IsAnswerTo w) _ _
