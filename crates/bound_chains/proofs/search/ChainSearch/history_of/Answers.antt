use Rattle.std.proofs.Common.{◌≡◌, suc, ◌-◌, None, Some, List, map, ap, ◌∙◌, arith}
use Rattle.rail_base.specs.declared.history.TrainHistory.{TrainHistory}
use Rattle.rail_base.specs.Numbering.{entry}
use Rattle.bound_chains.proofs.Visited.{history_got}
use Rattle.bound_chains.proofs.search.ChainSearch.history_of.Goals as goal

pub returns : goal.returns
returns c =
    let n = c.args.train.0 in
    let next : suc (n - 1) ≡ n = omega (arith, c.if-train-eq0.false) in
    history_got c.as_slice.result.now (n - 1) n c.get.result next c.get.ensures.lookup.3
    ∙ ap (λ (history : List TrainHistory). entry None (map Some history) n) c.as_slice.ensures
