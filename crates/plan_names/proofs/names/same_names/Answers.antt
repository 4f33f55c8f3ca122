use Rattle.std.proofs.Common.{length, sym, ap, arith}
use Rattle.plan_names.specs.Shown.{edge_name}
use Rattle.plan_names.proofs.Turns.{edge_at, lengths_apart}
use Rattle.plan_names.proofs.names.same_names.Goals as goal

pub returns-then-edges-others : goal.returns-then-edges-others
returns-then-edges-others c = sym (lengths_apart (edge_name c.args.design.now.station) c.args.one.now.edges c.args.other.now.edges (λ e. let one = ap length c.as_slice-edges.ensures in let two = ap length c.as_slice-others.ensures in let apart = c.if-edges-others.true in grind (arith, one, two, apart, e)))

pub have_one_name-requires-clause-one : goal.have_one_name-requires-clause-one
have_one_name-requires-clause-one c = edge_at c.args.design.now.station c.args.one.now.edges c.as_slice-edges.result.now c.loop-index.index _ c.requires.one c.as_slice-edges.ensures c.loop-index-test.true

pub have_one_name-requires-clause-other : goal.have_one_name-requires-clause-other
have_one_name-requires-clause-other c = edge_at c.args.design.now.station c.args.other.now.edges c.as_slice-others.result.now c.loop-index.index _ c.requires.other c.as_slice-others.ensures (let same = c.if-edges-others.false in let less = c.loop-index-test.true in grind (arith, same, less))
