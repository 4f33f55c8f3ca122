use Rattle.std.proofs.Common.{◌≡◌, List, OnOk, Option, subst}
use Rattle.sat_clause.specs.declared.lit.Lit.{Lit}
use Rattle.bound_clause.specs.Left.{gathered, together}
use Rattle.bound_clause.proofs.Numbering.{before_left}
use Rattle.bound_clause.proofs.numbered.NumberedBound.say_before.Goals as goal

pub returns : goal.returns
returns c = subst (λ (part : Option (List Lit)). OnOk c.push.result (gathered c.push.new.self ≡ together (gathered c.args.clause.now) part))
    (before_left c.args.self.now c.args.pair c.args.negated c.before_number-number.result c.requires c.before_number-number.ensures) c.push.ensures
