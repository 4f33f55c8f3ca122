use Rattle.std.proofs.Common.{sym, ap, ◌∙◌}
use Rattle.rail_words.specs.Requests.{request_of}
use Rattle.rail_words.specs.Words.{texts_of}
use Rattle.design_cli.specs.Answers.{answer_to, names_in}
use Rattle.design_cli.specs.Wanted.{by_request, wanted_of}
use Rattle.design_cli.proofs.Asking.{answer_is, plan_used, printed_is_used, prints_design, usage_for}
use Rattle.design_cli.proofs.Printed.{prints_plan}
use Rattle.design_cli.proofs.Reporting.{asked_grows, asked_reports, asked_some, none_asked, same_words, used_design, want_reports, want_some}
use Rattle.design_cli.proofs.run.run_design.Goals as goal

pub returns-in-Ok-clause-answer : goal.returns-in-Ok-clause-answer
returns-in-Ok-clause-answer g c = λ files known.
    let words = texts_of c.args.words.now in
    let asked = texts_of c.as_slice.result.now in
    asked_reports c.run_asked.result _ _ _ _ files (wanted_of words) (by_request c.form_of.result (request_of asked)) (sym (same_words words asked c.form_of.result c.form_of.ensures (ap texts_of c.as_slice.ensures.value ∙ c.in-Ok.ensures))) (c.run_asked.ensures.answer files known)

pub returns-in-Ok-clause-for_some_files : goal.returns-in-Ok-clause-for_some_files
returns-in-Ok-clause-for_some_files g c =
    let words = texts_of c.args.words.now in
    let asked = texts_of c.as_slice.result.now in
    asked_some c.run_asked.result _ _ _ _ (wanted_of words) (by_request c.form_of.result (request_of asked)) (sym (same_words words asked c.form_of.result c.form_of.ensures (ap texts_of c.as_slice.ensures.value ∙ c.in-Ok.ensures))) c.run_asked.ensures.for_some_files

pub returns-in-Ok-clause-reads_back : goal.returns-in-Ok-clause-reads_back
returns-in-Ok-clause-reads_back g c = λ files known d is done.
    let words = texts_of c.args.words.now in
    let asked = texts_of c.as_slice.result.now in
    let same = sym (same_words words asked c.form_of.result c.form_of.ensures (ap texts_of c.as_slice.ensures.value ∙ c.in-Ok.ensures)) in
    prints_design c.run_asked.result _ _ _ _ (answer_to files (wanted_of words)) (names_in (wanted_of words)) d (answer_is files (wanted_of words) d is)
    (c.run_asked.ensures.admitted files known d (used_design files (wanted_of words) (by_request c.form_of.result (request_of asked)) d same (printed_is_used files (wanted_of words) d is)) done)
    (asked_reports c.run_asked.result _ _ _ _ files (wanted_of words) (by_request c.form_of.result (request_of asked)) same (c.run_asked.ensures.answer files known)) done

pub returns-in-Ok-clause-comes_back : goal.returns-in-Ok-clause-comes_back
returns-in-Ok-clause-comes_back g c = λ files known form design plan is done.
    let words = texts_of c.args.words.now in
    let asked = texts_of c.as_slice.result.now in
    let same = sym (same_words words asked c.form_of.result c.form_of.ensures (ap texts_of c.as_slice.ensures.value ∙ c.in-Ok.ensures)) in
    prints_plan c.run_asked.result _ _ _ _ files (wanted_of words) form design plan is
    (λ d spelled. c.run_asked.ensures.admitted files known d (used_design files (wanted_of words) (by_request c.form_of.result (request_of asked)) d same (plan_used files (wanted_of words) form design plan d is spelled)) done)
    (asked_reports c.run_asked.result _ _ _ _ files (wanted_of words) (by_request c.form_of.result (request_of asked)) same (c.run_asked.ensures.answer files known)) done

pub returns-in-Ok-clause-usage : goal.returns-in-Ok-clause-usage
returns-in-Ok-clause-usage g c =
    let words = texts_of c.args.words.now in
    let asked = texts_of c.as_slice.result.now in
    usage_for (wanted_of words) c.run_asked.result _ _ _ _
    (asked_some c.run_asked.result _ _ _ _ (wanted_of words) (by_request c.form_of.result (request_of asked)) (sym (same_words words asked c.form_of.result c.form_of.ensures (ap texts_of c.as_slice.ensures.value ∙ c.in-Ok.ensures))) c.run_asked.ensures.for_some_files)

pub returns-in-Ok-clause-asked : goal.returns-in-Ok-clause-asked
returns-in-Ok-clause-asked g c =
    let words = texts_of c.args.words.now in
    let asked = texts_of c.as_slice.result.now in
    asked_grows (wanted_of words) (by_request c.form_of.result (request_of asked)) _ _ (sym (same_words words asked c.form_of.result c.form_of.ensures (ap texts_of c.as_slice.ensures.value ∙ c.in-Ok.ensures))) c.run_asked.ensures.asked

pub returns-in-Err-clause-answer : goal.returns-in-Err-clause-answer
returns-in-Err-clause-answer g c = λ files known. want_reports _ _ _ _

pub returns-in-Err-clause-for_some_files : goal.returns-in-Err-clause-for_some_files
returns-in-Err-clause-for_some_files g c = want_some _ _ _

pub returns-in-Err-clause-asked : goal.returns-in-Err-clause-asked
returns-in-Err-clause-asked g c = none_asked (wanted_of (texts_of c.args.words.now)) _
