use Rattle.std.proofs.Common.{Some, ap, ◌∙◌}
use Rattle.bound_ticks.specs.Chains.{chain_of}
use Rattle.leg_targets.specs.Visits.{visit_of}
use Rattle.bound_ticks.proofs.Chained.{chain_from}
use Rattle.leg_targets.proofs.Parts.{ok_more}
use Rattle.bound_ticks.proofs.claim.Claim.ticks_between.Goals as goal

pub returns : goal.returns
returns c =
    let i = c.args.self.now.interlocking.now in
    let most = c.args.self.now.most in
    let from = visit_of c.args.from in
    let to = visit_of c.args.to in
    ok_more _ _ c.ticks.result (λ n e. e ∙ (ap (chain_of i.design.station i.routes most (Some from) (Some to)) c.as_slice.ensures ∙ chain_from i.design.station i.routes most from to c.args.self.now.bound.now.legs)) c.ticks.ensures
