use Rattle.std.proofs.Common.{◌++◌, filter, ap, ◌∙◌, arith}
use Rattle.clause_spec.specs.Clauses.{later_pairs}
use Rattle.plan_encoding.specs.Tables.{exclude_both}
use Rattle.plan_encoding.proofs.Tabled.{tail_known, exclusions_next, known_routes}
use Rattle.plan_encoding.proofs.network.Network.exclusions.Goals as goal

pub loop-route-init : goal.loop-route-init
loop-route-init c = record {
  known = known_routes c.args.self.now c.as_slice-left.result.now c.as_slice-left.ensures.value;
  same =
      ap (λ xs. xs ++ filter (exclude_both c.args.self.now.encoder.interlocking.now.routes) (later_pairs c.as_slice-left.result.now)) c.new-found.ensures.items
      ∙ ap (λ rs. filter (exclude_both c.args.self.now.encoder.interlocking.now.routes) (later_pairs rs)) (c.as_slice-left.ensures.value ∙ c.args.self.now.every_number);
}

pub loop-route-preserved : goal.loop-route-preserved
loop-route-preserved c = record {
  known = tail_known c.args.self.now.encoder.interlocking.now.routes c.loop-route.left.now c.in-Some.route.now c.in-Some.later.now (grind (arith, c.split_first.ensures, c.in-Some.is)) c.loop-route.invariant.known;
  same = exclusions_next (exclude_both c.args.self.now.encoder.interlocking.now.routes) c.loop-route.found.items c.add_exclusions.new.found.items _ c.loop-route.left.now c.in-Some.route.now c.in-Some.later.now (grind (arith, c.split_first.ensures, c.in-Some.is)) c.in_ok-add_exclusions.ensures c.loop-route.invariant.same;
}
