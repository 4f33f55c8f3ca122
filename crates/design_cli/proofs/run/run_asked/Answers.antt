use Rattle.std.proofs.Common.{Some}
use Rattle.rail_words.specs.Requests.{request_of}
use Rattle.rail_words.specs.Words.{texts_of}
use Rattle.design_cli.specs.Wanted.{by_request}
use Rattle.design_cli.specs.Words.{wanted_by}
use Rattle.design_cli.proofs.Reporting.{asked_grows, asked_reports, asked_some, used_design}
use Rattle.design_cli.proofs.run.run_asked.Goals as goal

pub returns-in-Ok-clause-answer : goal.returns-in-Ok-clause-answer
returns-in-Ok-clause-answer g c = λ files known.
    asked_reports c.run_wanted.result _ _ _ _ files (by_request c.args.form (request_of (texts_of c.args.words.now))) (Some (wanted_by c.in-Ok.wanted)) c.in-Ok.ensures.ok (c.run_wanted.ensures.answer files known)

pub returns-in-Ok-clause-for_some_files : goal.returns-in-Ok-clause-for_some_files
returns-in-Ok-clause-for_some_files g c =
    asked_some c.run_wanted.result _ _ _ _ (by_request c.args.form (request_of (texts_of c.args.words.now))) (Some (wanted_by c.in-Ok.wanted)) c.in-Ok.ensures.ok c.run_wanted.ensures.for_some_files

pub returns-in-Ok-clause-admitted : goal.returns-in-Ok-clause-admitted
returns-in-Ok-clause-admitted g c = λ files known d is done.
    c.run_wanted.ensures.admitted files known d (used_design files (by_request c.args.form (request_of (texts_of c.args.words.now))) (Some (wanted_by c.in-Ok.wanted)) d c.in-Ok.ensures.ok is) done

pub returns-in-Ok-clause-asked : goal.returns-in-Ok-clause-asked
returns-in-Ok-clause-asked g c = asked_grows (by_request c.args.form (request_of (texts_of c.args.words.now))) (Some (wanted_by c.in-Ok.wanted)) _ _ c.in-Ok.ensures.ok c.run_wanted.ensures.asked
