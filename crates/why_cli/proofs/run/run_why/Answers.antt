use Rattle.rail_words.specs.Words.{texts_of}
use Rattle.named_files.proofs.Printing.{prints_nothing_for}
use Rattle.why_words.specs.Wanted.{wanted_of}
use Rattle.why_cli.specs.Replies.{IsAnswerTo, design_name, file_name}
use Rattle.why_cli.proofs.Showing.{tells_why, has_verdict}
use Rattle.why_cli.proofs.Using.{usage_for}
use Rattle.why_cli.proofs.run.run_why.Goals as goal

pub returns-in-Ok-clause-infeasible : goal.returns-in-Ok-clause-infeasible
returns-in-Ok-clause-infeasible g c = λ files told d e done. tells_why _ files (texts_of c.args.words.now) c.run_asked.result _ _ _ _ c.run_asked.ensures.answer told d e done

pub returns-in-Ok-clause-has_verdict : goal.returns-in-Ok-clause-has_verdict
returns-in-Ok-clause-has_verdict g c = λ files told. has_verdict _ files (texts_of c.args.words.now) c.run_asked.result _ _ _ _ c.run_asked.ensures.answer told

pub returns-in-Ok-clause-usage : goal.returns-in-Ok-clause-usage
returns-in-Ok-clause-usage g c = usage_for _ (wanted_of (texts_of c.args.words.now)) c.run_asked.result _ _ _ _ c.run_asked.ensures.answer

pub returns-in-Err-clause-answer : goal.returns-in-Err-clause-answer
returns-in-Err-clause-answer g c =
    let w = wanted_of (texts_of c.args.words.now) in
    prints_nothing_for _ (design_name w) (file_name w) (IsAnswerTo w) _ _
