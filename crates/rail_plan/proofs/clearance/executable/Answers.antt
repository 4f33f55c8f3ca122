use Rattle.std.proofs.Common.{◌≡◌, ap, ◌∙◌, sym}
use Rattle.std.specs.Option.{is_some}
use Rattle.rail_base.specs.Numbering.{first_of_list}
use Rattle.rail_plan.specs.Executable.{blocked}
use Rattle.rail_plan.proofs.Empties.{none_first}
use Rattle.rail_plan.proofs.Standing.{free_of_executable, executable_of_free}
use Rattle.rail_plan.proofs.clearance.executable.Goals as goal

pub first_blocked-requires : goal.first_blocked-requires
first_blocked-requires c = rw c.as_slice.ensures c.requires

pub returns-clause-executable : goal.returns-clause-executable
returns-clause-executable c =
    let d = c.args.interlocking.now.design.station in
    let plan = c.args.plan.now.steps in
    let places = blocked d c.args.interlocking.now.routes plan in
    let told : c.first_blocked.result ≡ first_of_list places = c.first_blocked.ensures ∙ ap (λ steps. first_of_list (blocked d c.args.interlocking.now.routes steps)) c.as_slice.ensures in
    let none = none_first places in
    (λ h. executable_of_free d c.args.interlocking.now.routes plan c.requires.1.named (none.0 (sym (ap is_some told) ∙ h)), λ h. ap is_some told ∙ none.1 (free_of_executable d c.args.interlocking.now.routes plan h))
