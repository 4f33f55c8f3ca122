use Rattle.rail_course.proofs.Lawful.{apart, free, keeps, stands, granted}
use Rattle.plan_run.proofs.verdicts.simulate.Goals as goal

pub returns-clause-keeps : goal.returns-clause-keeps
returns-clause-keeps c = keeps c.args.interlocking.now.design.station c.args.interlocking.now.design.admitted c.args.interlocking.now.routes c.args.interlocking.now.table c.args.plan.now.steps c.requires.formed

pub returns-clause-stands : goal.returns-clause-stands
returns-clause-stands c = stands c.args.interlocking.now.design.station c.args.interlocking.now.design.admitted c.args.interlocking.now.routes c.args.interlocking.now.table c.args.plan.now.steps c.requires.formed

pub returns-clause-granted : goal.returns-clause-granted
returns-clause-granted c = granted c.args.interlocking.now.design.station c.args.interlocking.now.design.admitted c.args.interlocking.now.routes c.args.interlocking.now.table c.args.plan.now.steps c.requires.formed

pub returns-clause-apart : goal.returns-clause-apart
returns-clause-apart c = apart c.args.interlocking.now.design.station c.args.interlocking.now.design.admitted c.args.interlocking.now.routes c.args.interlocking.now.table c.args.plan.now.steps c.requires.formed

pub returns-clause-free : goal.returns-clause-free
returns-clause-free c = free c.args.interlocking.now.design.station c.args.interlocking.now.design.admitted c.args.interlocking.now.routes c.args.interlocking.now.table c.args.plan.now.steps c.requires.formed
