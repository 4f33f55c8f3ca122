use Rattle.std.proofs.Common.{◌-◌, refl}
use Rattle.rail_plan.specs.Holds.{taken}
use Rattle.rail_plan.proofs.Taking.{entry_edit}
use Rattle.rail_plan.proofs.holds.take.Goals as goal

pub returns-clause-taken : goal.returns-clause-taken
returns-clause-taken c = λ z.
    entry_edit c.args.holds.now c.args.section.0 (c.args.section.0 - 1) _ c.hold_after.result (λ h. taken h c.args.train c.args.left) c.requires.at_least_one c.requires.within refl c.hold_after.ensures z.0
