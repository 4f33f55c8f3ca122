use Rattle.std.proofs.Common.{rules, not, filter, ap, ◌∙◌}
use Rattle.std.proofs.lemmas.Fn.{filter_same}
use Rattle.rail_alike.specs.Tests.{is_named_by}
use Rattle.rail_alike.proofs.pairs.trains_beside.Goals as goal

pub returns : goal.returns
returns c =
    filter_same _ (λ t. not (is_named_by c.args.design.now.station c.args.within t)) _ (λ x b f' k. search rules) _ _ c.retain.ensures.filtered
    ∙ ap (filter (λ t. not (is_named_by c.args.design.now.station c.args.within t))) c.in_ok-found.ensures
