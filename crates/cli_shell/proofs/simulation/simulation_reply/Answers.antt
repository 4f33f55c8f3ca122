use Rattle.cli_shell.specs.Answers.{design_in}
use Rattle.cli_shell.proofs.Asking.{first_of_two, second_of_two}
use Rattle.cli_shell.proofs.Deciding.{decides_so}
use Rattle.std.proofs.Common.{rules, ap, sym, ◌∙◌}
use Rattle.interlocking.specs.declared.railway.Interlocking.{Interlocking}
use Rattle.cli_shell.proofs.AnyShelf.{no_design, not_read, no_plan, all_read}
use Rattle.cli_shell.proofs.simulation.simulation_reply.Goals as goal

pub returns-in_err-design_bytes-clause-uses : goal.returns-in_err-design_bytes-clause-uses
returns-in_err-design_bytes-clause-uses g c = record { cause = (search rules); never_falls = (search rules); files_stay = (search rules); asks = first_of_two _ _ _ _ c.fetch.ensures.uses.asks }

pub returns-in_err-plan_bytes-clause-uses : goal.returns-in_err-plan_bytes-clause-uses
returns-in_err-plan_bytes-clause-uses g c = record { cause = (search rules); never_falls = (search rules); files_stay = (search rules); asks = second_of_two _ _ _ _ _ c.in_ok-design_bytes.ensures.asked c.fetch-2.ensures.uses.asks }

pub returns-clause-uses : goal.returns-clause-uses
returns-clause-uses g c = record { cause = (search rules); never_falls = (search rules); files_stay = (search rules); asks = second_of_two _ _ _ _ _ c.in_ok-design_bytes.ensures.asked c.fetch-2.ensures.uses.asks }

pub returns-clause-decides : goal.returns-clause-decides
returns-clause-decides g c = λ files reply_for.
    decides_so _ _ c.in_ok-design_bytes.design_bytes.items c.in_ok-plan_bytes.plan_bytes.items c.in_ok-interlocking.interlocking.design.station c.plan_reply.result
    (c.in_ok-design_bytes.ensures.reads files reply_for) (c.in_ok-plan_bytes.ensures.reads files (c.fetch.ensures.uses.files_stay ∙ reply_for))
    (ap design_in (sym c.as_slice.ensures.value) ∙ c.in_ok-interlocking.ensures.reads)
    (rw c.as_slice-2.ensures.value at c.plan_reply.ensures.decides)

pub returns-in_err-design_bytes-clause-for_some_files : goal.returns-in_err-design_bytes-clause-for_some_files
returns-in_err-design_bytes-clause-for_some_files g c = no_design c.from_residual.result c.in_err-design_bytes.field-0.0 (search rules) c.in_err-design_bytes.ensures.for_some_bytes

pub returns-in_err-interlocking-clause-for_some_files : goal.returns-in_err-interlocking-clause-for_some_files
returns-in_err-interlocking-clause-for_some_files g c =
    not_read c.from_residual-in_err-interlocking.result c.in_ok-design_bytes.design_bytes.items c.in_ok-design_bytes.ensures.for_some_bytes (λ (i : Interlocking). i.design.station) c.in_err-interlocking.field-0.0 (search rules) (rw c.as_slice.ensures.value at c.in_err-interlocking.ensures.reads)

pub returns-in_err-plan_bytes-clause-for_some_files : goal.returns-in_err-plan_bytes-clause-for_some_files
returns-in_err-plan_bytes-clause-for_some_files g c =
    no_plan c.from_residual-in_err-plan_bytes.result c.in_ok-design_bytes.design_bytes.items c.in_ok-design_bytes.ensures.for_some_bytes c.in_ok-interlocking.interlocking.design.station
    (ap design_in (sym c.as_slice.ensures.value) ∙ c.in_ok-interlocking.ensures.reads) c.in_err-plan_bytes.field-0.0 (search rules) c.in_err-plan_bytes.ensures.for_some_bytes

pub returns-clause-for_some_files : goal.returns-clause-for_some_files
returns-clause-for_some_files g c =
    all_read c.plan_reply.result c.in_ok-design_bytes.design_bytes.items c.in_ok-design_bytes.ensures.for_some_bytes c.in_ok-interlocking.interlocking.design.station
    (ap design_in (sym c.as_slice.ensures.value) ∙ c.in_ok-interlocking.ensures.reads) c.in_ok-plan_bytes.plan_bytes.items c.in_ok-plan_bytes.ensures.for_some_bytes (rw c.as_slice-2.ensures.value at c.plan_reply.ensures.replies)
