use Rattle.std.proofs.Common.{◌∙◌, sym}
use Rattle.rail_alike.proofs.Testing.{alike_told, alike_tested}
use Rattle.rail_alike.proofs.likeness.are_alike.Goals as goal

pub returns-clause-alike : goal.returns-clause-alike
returns-clause-alike c = (
  λ h. alike_told c.args.design.now.station c.args.one c.args.other (sym c.pass.ensures ∙ h),
  λ a. c.pass.ensures ∙ alike_tested c.args.design.now.station c.args.one c.args.other a,
)
