use Rattle.std.proofs.Common.{◌≡◌, true, Err, [], ◌∷◌, refl, ◌∙◌}
use Rattle.rail_base.specs.Admission.{is_admitted}
use Rattle.cli_shell.proofs.Asking.{first_of_two, second_of_two}
use Rattle.design_cli.specs.Answers.{design_in_file, plan_answer}
use Rattle.design_cli.proofs.Reading.{gives_none, one_of_file, plan_design_read, plan_design_refused, station_of}
use Rattle.design_cli.proofs.Reporting.{first_name, on_reply, plan_some, reports_among, second_name}
use Rattle.design_cli.proofs.run.run_plan.Goals as goal

pub returns-in-Ok-clause-answer : goal.returns-in-Ok-clause-answer
returns-in-Ok-clause-answer g c = λ files known.
    let design = c.args.design.now in
    let plan = c.args.plan.now in
    reports_among c.print_for_file.result _ _ _ _ (plan_answer c.args.form (files design) (files plan)) (plan ∷ []) (design ∷ plan ∷ []) (second_name design plan)
    (c.print_for_file.ensures.prints (plan_answer c.args.form (files design) (files plan))
    (plan_design_read c.plan_reply-reply.result c.args.form c.in-Ok.interlocking.design.station (files design) (files plan) (c.in-Ok.ensures.reads files known)
    (c.plan_reply-reply.ensures.replies files (c.interlocking_in.ensures.uses.files_stay ∙ known))))

pub returns-in-Ok-clause-for_some_files : goal.returns-in-Ok-clause-for_some_files
returns-in-Ok-clause-for_some_files g c =
    let design = c.args.design.now in
    let plan = c.args.plan.now in
    let first = c.in-Ok.ensures.for_some_bytes in
    let second = c.plan_reply-reply.ensures.for_some_bytes in
    plan_some c.print_for_file.result _ _ _ _ c.args.form design plan (
      first.0,
      second.0,
      reports_among c.print_for_file.result _ _ _ _ (plan_answer c.args.form first.0 second.0) (plan ∷ []) (design ∷ plan ∷ []) (second_name design plan)
          (c.print_for_file.ensures.prints (plan_answer c.args.form first.0 second.0)
          (plan_design_read c.plan_reply-reply.result c.args.form c.in-Ok.interlocking.design.station first.0 second.0 first.1 second.1)),
    )

pub returns-in-Ok-clause-admitted : goal.returns-in-Ok-clause-admitted
returns-in-Ok-clause-admitted g c = λ files known d is done. one_of_file (files c.args.design.now) c.in-Ok.interlocking.design.station d c.in-Ok.interlocking.design.admitted (c.in-Ok.ensures.reads files known) is

pub returns-in-Ok-clause-asked : goal.returns-in-Ok-clause-asked
returns-in-Ok-clause-asked g c = second_of_two _ _ _ _ _ c.in-Ok.ensures.asked c.plan_reply-reply.ensures.uses.asks

pub returns-in-Err-clause-answer : goal.returns-in-Err-clause-answer
returns-in-Err-clause-answer g c = λ files known.
    let design = c.args.design.now in
    let plan = c.args.plan.now in
    reports_among c.print_for_file-in-Err.result _ _ _ _ (plan_answer c.args.form (files design) (files plan)) (design ∷ []) (design ∷ plan ∷ []) (first_name design plan)
    (c.print_for_file-in-Err.ensures.prints (plan_answer c.args.form (files design) (files plan))
    (plan_design_refused (Err c.in-Err.ending) c.args.form c.in-Err.ending (files design) (files plan) refl (c.in-Err.ensures.reads files known)))

pub returns-in-Err-clause-for_some_files : goal.returns-in-Err-clause-for_some_files
returns-in-Err-clause-for_some_files g c =
    let design = c.args.design.now in
    let plan = c.args.plan.now in
    let first = c.in-Err.ensures.for_some_bytes in
    plan_some c.print_for_file-in-Err.result _ _ _ _ c.args.form design plan (
      first.0,
      [],
      reports_among c.print_for_file-in-Err.result _ _ _ _ (plan_answer c.args.form first.0 []) (design ∷ []) (design ∷ plan ∷ []) (first_name design plan)
          (c.print_for_file-in-Err.ensures.prints (plan_answer c.args.form first.0 [])
          (plan_design_refused (Err c.in-Err.ending) c.args.form c.in-Err.ending first.0 [] refl first.1)),
    )

pub returns-in-Err-clause-admitted : goal.returns-in-Err-clause-admitted
returns-in-Err-clause-admitted g c = λ files known d is done.
    on_reply (Err c.in-Err.ending) (is_admitted d ≡ true) (gives_none (Err c.in-Err.ending) station_of c.in-Err.ending (design_in_file (files c.args.design.now)) d (is_admitted d ≡ true) refl (c.in-Err.ensures.reads files known) is) (c.print_for_file-in-Err.ensures.done done)

pub returns-in-Err-clause-asked : goal.returns-in-Err-clause-asked
returns-in-Err-clause-asked g c = first_of_two _ _ _ _ c.interlocking_in.ensures.uses.asks
