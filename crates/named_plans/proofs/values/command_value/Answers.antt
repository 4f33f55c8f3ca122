use Rattle.std.proofs.Common.{◌-◌, [], ◌∷◌, ap, ◌∙◌, arith}
use Rattle.serde_json.specs.Data.{Data, array, string}
use Rattle.serde_json.specs.View.{items_of, view}
use Rattle.rail_base.specs.Stations.{train_of}
use Rattle.std.proofs.lemmas.Result.{IfOk-weaker}
use Rattle.plan_names.specs.Values.{names_value}
use Rattle.named_plans.proofs.Shown.{names_at, texts_at}
use Rattle.named_plans.proofs.values.command_value.Goals as goal

pub names_value-requires : goal.names_value-requires
names_value-requires c =
    let low = c.requires.route.0 in
    texts_at c.args.design.now.station c.args.design.now.admitted c.args.command.route _ c.requires.route
    (c.as_slice.ensures ∙ names_at c.args.design.now.station c.args.shown.now c.args.command.route (c.args.command.route.0 - 1) _ _ c.requires.shown c.requires.route (omega arith) c.index-shown-command.is)

pub returns : goal.returns
returns c =
    let low = c.requires.route.0 in
    let names = c.as_slice.ensures ∙ names_at c.args.design.now.station c.args.shown.now c.args.command.route (c.args.command.route.0 - 1) _ _ c.requires.shown c.requires.route (omega arith) c.index-shown-command.is in
    IfOk-weaker c.two_values.result _ _ (λ v seen. seen ∙ ap (λ n. array (items_of (string n ∷ view c.in_ok-names.names ∷ []))) c.name_of.ensures ∙ ap (λ (w : Data). array (items_of (string (train_of c.args.design.now.station c.args.command.train).name ∷ w ∷ []))) (c.in_ok-names.ensures ∙ ap names_value names)) c.two_values.ensures
