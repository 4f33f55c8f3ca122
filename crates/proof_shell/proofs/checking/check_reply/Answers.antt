use Rattle.cli_shell.proofs.Asking.{first_of_two, second_of_two}
use Rattle.std.proofs.Common.{rules, ap, sym, ◌∙◌}
use Rattle.interlocking.specs.declared.railway.Interlocking.{Interlocking}
use Rattle.cli_shell.specs.Answers.{design_in}
use Rattle.proof_shell.proofs.AnyShelf.{unchecked, unchecked_design, untimed, all_checked}
use Rattle.proof_shell.proofs.checking.check_reply.Goals as goal

pub returns-in_err-design_bytes-clause-uses : goal.returns-in_err-design_bytes-clause-uses
returns-in_err-design_bytes-clause-uses g c = record { cause = (search rules); never_falls = (search rules); files_stay = (search rules); asks = first_of_two _ _ _ _ c.fetch.ensures.uses.asks }

pub returns-clause-uses : goal.returns-clause-uses
returns-clause-uses g c = record { cause = (search rules); never_falls = (search rules); files_stay = (search rules); asks = second_of_two _ _ _ _ _ c.in_ok-design_bytes.ensures.asked c.checked_proof.ensures.uses.asks }

pub returns-in_err-design_bytes-clause-for_some_files : goal.returns-in_err-design_bytes-clause-for_some_files
returns-in_err-design_bytes-clause-for_some_files g c = unchecked c.from_residual.result c.args.steps c.args.in_time c.in_err-design_bytes.field-0.0 (search rules) c.in_err-design_bytes.ensures.for_some_bytes

pub returns-in_err-interlocking-clause-for_some_files : goal.returns-in_err-interlocking-clause-for_some_files
returns-in_err-interlocking-clause-for_some_files g c =
    unchecked_design c.from_residual-in_err-interlocking.result c.args.steps c.args.in_time c.in_ok-design_bytes.design_bytes.items c.in_ok-design_bytes.ensures.for_some_bytes (λ (i : Interlocking). i.design.station) c.in_err-interlocking.field-0.0 (search rules) (rw c.as_slice.ensures.value at c.in_err-interlocking.ensures.reads)

pub returns-in_err-interlocking-2-clause-for_some_files : goal.returns-in_err-interlocking-2-clause-for_some_files
returns-in_err-interlocking-2-clause-for_some_files g c =
    untimed c.from_residual-in_err-interlocking-2.result c.args.steps c.args.in_time c.in_ok-design_bytes.design_bytes.items c.in_ok-design_bytes.ensures.for_some_bytes c.in_ok-interlocking.interlocking.design.station
    (ap design_in (sym c.as_slice.ensures.value) ∙ c.in_ok-interlocking.ensures.reads) (λ (i : Interlocking). i.design.station) c.in_err-interlocking-2.field-0.0 (search rules) c.in_err-interlocking-2.ensures.reads

pub returns-clause-for_some_files : goal.returns-clause-for_some_files
returns-clause-for_some_files g c =
    all_checked c.checked_proof.result c.args.steps c.args.in_time c.in_ok-design_bytes.design_bytes.items c.in_ok-design_bytes.ensures.for_some_bytes c.in_ok-interlocking.interlocking.design.station
    (ap design_in (sym c.as_slice.ensures.value) ∙ c.in_ok-interlocking.ensures.reads) c.in_ok-interlocking-2.interlocking.design.station c.in_ok-interlocking-2.ensures.reads c.checked_proof.ensures.for_some_bytes
