use Rattle.std.proofs.Common.{ap, ◌∙◌}
use Rattle.bound_ticks.specs.Claims.{made_at}
use Rattle.leg_targets.specs.Visits.{visit_of}
use Rattle.bound_ticks.proofs.Naming.{cone_made}
use Rattle.bound_ticks.proofs.claim.Claim.cone_shows.Goals as goal

pub visit_in_run-requires-clause-known : goal.visit_in_run-requires-clause-known
visit_in_run-requires-clause-known c = c.args.self.now.named.cone c.args.tick c.args.cone.now (visit_of c.args.from) c.requires.origin c.requires.visit

pub returns : goal.returns
returns c =
    let i = c.args.self.now.interlocking.now in
    let b = c.args.self.now.bound.now in
    c.is_made_at.ensures i b ∙ (ap (made_at i b c.args.tick) c.in_ok-made.ensures ∙ cone_made i b c.args.tick c.args.cone.now (visit_of c.args.from) c.requires.origin)
