use Rattle.std.proofs.Common.{◌≡◌, ◌+◌, drop, get_or, map, ℤ, pos, refl, sym, ap, ◌∙◌}
use Rattle.rail_base.specs.declared.station.NodeNo.{NodeNo}
use Rattle.std.proofs.lemmas.List.{at_drop_all, at_drop_more}
use Rattle.rail_base.specs.Numbering.{after_first}
use Rattle.train_ways.specs.Pairs.{made_at, made_on}
use Rattle.train_ways.proofs.visits.made_behind.Goals as goal

pub loop-node-init : goal.loop-node-init
loop-node-init c = record { is = refl; within = c.requires }

pub made_at-made-requires : goal.made_at-made-requires
made_at-made-requires c = c.loop-node.invariant.within

pub loop-node-preserved : goal.loop-node-preserved
loop-node-preserved c =
    let sets = c.args.visits.now in
    let items = c.after_first-node-items.result.now in
    let i = c.loop-node.node-index in
    let none : NodeNo × ℤ = (record { 0 = 0 }, pos 0) in
    let step : made_on sets (map (λ n. n.0) (drop i items)) c.loop-node.made ≡ made_on sets (map (λ n. n.0) (drop (i + 1) items)) (made_at sets (get_or items i none).0 c.loop-node.made) =
    at_drop_more (λ xs. made_on sets (map (λ n. n.0) xs) c.loop-node.made) items i none c.loop-node-test.true in
    record {
      is = ap (made_on sets (map (λ n. n.0) (drop (i + 1) items))) c.made_at-made.ensures.made ∙ sym step ∙ c.loop-node.invariant.is;
      within = c.made_at-made.ensures.within;
    }

pub returns : goal.returns
returns c = let items = c.after_first-node-items.result.now in record {
  made = sym (at_drop_all (λ xs. made_on c.args.visits.now (map (λ n. n.0) xs) c.loop-node.made) items c.loop-node.node-index c.loop-node-test.false) ∙ c.loop-node.invariant.is ∙ ap (λ xs. made_on c.args.visits.now (map (λ n. n.0) xs) c.args.before) (c.after_first-node-items.ensures ∙ ap after_first c.as_slice.ensures);
  within = c.loop-node.invariant.within;
}
