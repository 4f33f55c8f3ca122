use Rattle.std.proofs.Common.{map, ap}
use Rattle.plan_encoding.specs.Tables.{exclude_both}
use Rattle.command_set.proofs.Gathering.{kept_next}
use Rattle.plan_encoding.proofs.network.Network.add_exclusions.Goals as goal
use Rattle.std.proofs.lemmas.List.{drop_more}

pub loop-other-preserved : goal.loop-other-preserved
loop-other-preserved c =
    kept_next c.loop-other.found.items c.push_if.new.list.items _ _ _ _ (ap (map (λ q. (c.args.route, q))) (drop_more c.args.later.now c.loop-other.other-index _ c.loop-other-test.true)) (exclude_both c.args.self.now.encoder.interlocking.now.routes) {b = c.exclude-excludes.result} (cc) c.in_ok-push_if.ensures c.loop-other.invariant
