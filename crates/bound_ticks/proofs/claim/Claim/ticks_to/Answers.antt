use Rattle.std.proofs.Common.{None, ap, ◌∙◌}
use Rattle.bound_ticks.specs.Chains.{chain_of}
use Rattle.leg_targets.specs.Visits.{origin_of}
use Rattle.bound_ticks.proofs.Chained.{chain_by, chain_to}
use Rattle.leg_targets.proofs.Parts.{ok_more}
use Rattle.bound_ticks.proofs.claim.Claim.ticks_to.Goals as goal

pub returns-clause-ticks : goal.returns-clause-ticks
returns-clause-ticks c =
    let i = c.args.self.now.interlocking.now in
    let most = c.args.self.now.most in
    let to = origin_of c.args.to in
    ok_more _ _ c.ticks.result (λ n e. e ∙ (ap (chain_of i.design.station i.routes most None to) c.as_slice.ensures ∙ chain_to i.design.station i.routes most to c.args.self.now.bound.now.legs)) c.ticks.ensures

pub returns-clause-at_most_5529664 : goal.returns-clause-at_most_5529664
returns-clause-at_most_5529664 c =
    let i = c.args.self.now.interlocking.now in
    let most = c.args.self.now.most in
    let to = origin_of c.args.to in
    ok_more _ _ c.ticks.result (λ n e. chain_by i.design.station i.routes most n None to c.args.self.now.bound.now.legs (e ∙ ap (chain_of i.design.station i.routes most None to) c.as_slice.ensures) c.args.self.now.named.at_most_64 c.args.self.now.at_most_86400) c.ticks.ensures
