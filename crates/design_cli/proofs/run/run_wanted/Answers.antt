use Rattle.std.proofs.Common.{◌≡◌, true, rules, Some, inl}
use Rattle.rail_base.specs.Admission.{is_admitted}
use Rattle.workload.specs.Made.{made}
use Rattle.design_cli.specs.Answers.{file_answer, printed}
use Rattle.design_cli.specs.Wanted.{in_file, of_plan, of_trial}
use Rattle.design_cli.specs.Words.{wanted_by}
use Rattle.design_cli.proofs.Asking.{in_range, trial_admitted, trial_made}
use Rattle.design_cli.proofs.Reporting.{asked_grows, asked_reports, asked_some, file_some, none_asked, on_reply, trial_some, used_design}
use Rattle.design_cli.proofs.run.run_wanted.Goals as goal

pub returns-in-InFile-clause-answer : goal.returns-in-InFile-clause-answer
returns-in-InFile-clause-answer g c = λ files known.
    asked_reports c.print_for_file.result _ _ _ _ files (Some (wanted_by c.args.wanted)) (Some (in_file c.in-InFile.design.now)) (search rules)
    (c.print_for_file.ensures.prints (file_answer (files c.in-InFile.design.now)) (c.file_reply-reply.ensures.replies files known))

pub returns-in-InFile-clause-for_some_files : goal.returns-in-InFile-clause-for_some_files
returns-in-InFile-clause-for_some_files g c =
    let some = c.file_reply-reply.ensures.for_some_bytes in
    asked_some c.print_for_file.result _ _ _ _ (Some (wanted_by c.args.wanted)) (Some (in_file c.in-InFile.design.now)) (search rules)
    (file_some c.print_for_file.result _ _ _ _ c.in-InFile.design.now (some.0, c.print_for_file.ensures.prints (file_answer some.0) some.1))

pub returns-in-InFile-clause-admitted : goal.returns-in-InFile-clause-admitted
returns-in-InFile-clause-admitted g c = λ files known d is done.
    on_reply c.file_reply-reply.result (is_admitted d ≡ true) (c.file_reply-reply.ensures.admitted files known d (used_design files (Some (wanted_by c.args.wanted)) (Some (in_file c.in-InFile.design.now)) d (search rules) is)) (c.print_for_file.ensures.done done)

pub returns-in-InFile-clause-asked : goal.returns-in-InFile-clause-asked
returns-in-InFile-clause-asked g c = asked_grows (Some (wanted_by c.args.wanted)) (Some (in_file c.in-InFile.design.now)) _ _ (search rules) c.file_reply-reply.ensures.uses.asks

pub returns-in-OfTrial-clause-answer : goal.returns-in-OfTrial-clause-answer
returns-in-OfTrial-clause-answer g c = λ files known.
    asked_reports c.print_reply.result _ _ _ _ files (Some (wanted_by c.args.wanted)) (Some (of_trial c.in-OfTrial.seed c.in-OfTrial.size)) (search rules)
    (inl (c.print_reply.ensures.prints (printed (made c.in-OfTrial.seed c.in-OfTrial.size)) c.made_reply-reply.ensures))

pub returns-in-OfTrial-clause-for_some_files : goal.returns-in-OfTrial-clause-for_some_files
returns-in-OfTrial-clause-for_some_files g c =
    asked_some c.print_reply.result _ _ _ _ (Some (wanted_by c.args.wanted)) (Some (of_trial c.in-OfTrial.seed c.in-OfTrial.size)) (search rules)
    (trial_some c.print_reply.result _ _ _ _ c.in-OfTrial.seed c.in-OfTrial.size (c.print_reply.ensures.prints (printed (made c.in-OfTrial.seed c.in-OfTrial.size)) c.made_reply-reply.ensures))

pub returns-in-OfTrial-clause-admitted : goal.returns-in-OfTrial-clause-admitted
returns-in-OfTrial-clause-admitted g c = λ files known d is done.
    trial_admitted c.in-OfTrial.seed c.in-OfTrial.size d (in_range (wanted_by c.args.wanted) c.in-OfTrial.seed c.in-OfTrial.size (search rules) c.requires)
    (trial_made files c.in-OfTrial.seed c.in-OfTrial.size d (used_design files (Some (wanted_by c.args.wanted)) (Some (of_trial c.in-OfTrial.seed c.in-OfTrial.size)) d (search rules) is))

pub returns-in-OfTrial-clause-asked : goal.returns-in-OfTrial-clause-asked
returns-in-OfTrial-clause-asked g c = none_asked (Some (wanted_by c.args.wanted)) _

pub returns-in-OfPlan-clause-answer : goal.returns-in-OfPlan-clause-answer
returns-in-OfPlan-clause-answer g c = λ files known.
    asked_reports c.run_plan.result _ _ _ _ files (Some (wanted_by c.args.wanted)) (Some (of_plan c.in-OfPlan.form c.in-OfPlan.design.now c.in-OfPlan.plan.now)) (search rules)
    (c.run_plan.ensures.answer files known)

pub returns-in-OfPlan-clause-for_some_files : goal.returns-in-OfPlan-clause-for_some_files
returns-in-OfPlan-clause-for_some_files g c =
    asked_some c.run_plan.result _ _ _ _ (Some (wanted_by c.args.wanted)) (Some (of_plan c.in-OfPlan.form c.in-OfPlan.design.now c.in-OfPlan.plan.now)) (search rules)
    c.run_plan.ensures.for_some_files

pub returns-in-OfPlan-clause-admitted : goal.returns-in-OfPlan-clause-admitted
returns-in-OfPlan-clause-admitted g c = λ files known d is done.
    c.run_plan.ensures.admitted files known d (used_design files (Some (wanted_by c.args.wanted)) (Some (of_plan c.in-OfPlan.form c.in-OfPlan.design.now c.in-OfPlan.plan.now)) d (search rules) is) done

pub returns-in-OfPlan-clause-asked : goal.returns-in-OfPlan-clause-asked
returns-in-OfPlan-clause-asked g c = asked_grows (Some (wanted_by c.args.wanted)) (Some (of_plan c.in-OfPlan.form c.in-OfPlan.design.now c.in-OfPlan.plan.now)) _ _ (search rules) c.run_plan.ensures.asked
