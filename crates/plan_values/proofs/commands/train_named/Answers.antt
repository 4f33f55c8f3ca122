use Rattle.std.proofs.Common.{List, Option, ℕ, ◌+◌, bytes_eq, option_map, position, sym, ap, ◌∙◌}
use Rattle.rail_base.specs.declared.station.Train.{Train}
use Rattle.plan_values.proofs.Found.{named}
use Rattle.plan_values.proofs.commands.train_named.Goals as goal

pub returns-in_err-index : goal.returns-in_err-index
returns-in_err-index c =
    let found = c.place_of.ensures ∙ ap (λ (ts : List Train). position (λ (t : Train). bytes_eq c.args.name.now t.name) ts) c.as_slice.ensures in
    c.from_residual.ensures ∙ named c.args.design.now.station c.args.name.now _ (sym c.in_err-index.was ∙ found)

pub returns : goal.returns
returns c =
    let found = c.place_of.ensures ∙ ap (λ (ts : List Train). position (λ (t : Train). bytes_eq c.args.name.now t.name) ts) c.as_slice.ensures in
    named c.args.design.now.station c.args.name.now _ (sym c.in_ok-index.was ∙ found)
