use Rattle.plan_encoding.proofs.Keeping.{new_is}
use Rattle.plan_encoding.proofs.normal.NormalEncoder.new_clause.Goals as goal

pub returns : goal.returns
returns c =
    new_is c.args.self.now.encoder c.args.self.now.every_command c.args.command c.args.step c.requires.command _ _ _ _ _ _ c.new-clause.ensures.items c.in_ok-push.ensures.items c.in_ok-push_if_given.ensures c.in_ok-push-2.ensures.items c.not_given_lit.ensures c.in_lit.ensures
