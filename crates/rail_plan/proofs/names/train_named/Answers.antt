use Rattle.std.proofs.Common.{List, ℕ, position, bytes_eq, sym, ap, ◌∙◌}
use Rattle.rail_plan.proofs.TrainNames.{named_none, named_some}
use Rattle.rail_plan.proofs.names.train_named.Goals as goal

pub returns-in_err-index : goal.returns-in_err-index
returns-in_err-index c =
    let found = ap (λ (n : List ℕ). position (λ k. bytes_eq n k.now) c.args.names.now.keys) (sym c.as_bytes.ensures.value) ∙ sym c.get_index_of.ensures.index in
    c.from_residual.ensures ∙ named_none c.args.name.now c.args.names.now.keys (found ∙ c.in_err-index.was)

pub returns : goal.returns
returns c =
    let found = ap (λ (n : List ℕ). position (λ k. bytes_eq n k.now) c.args.names.now.keys) (sym c.as_bytes.ensures.value) ∙ sym c.get_index_of.ensures.index in
    named_some c.args.name.now c.args.names.now.keys c.in_ok-index.index (found ∙ c.in_ok-index.was)
