use Rattle.std.proofs.Common.{◌≡◌, Option, Some, None, Bor, option_map, codes, refl, ap, ◌∙◌}
use Rattle.serde_json.specs.View.{view}
use Rattle.serde_json.specs.declared.value.Value.{Value}
use Rattle.serde_json.proofs.Views.{view-lookup}
use Rattle.plan_values.proofs.values.value_of_steps.Goals as goal

seen : (r : Option (Bor Value)) → option_map (λ v. view v.now) r ≡ option_map view (option_map (λ v. v.now) r)
seen None = refl
seen (Some x) = refl

pub returns : goal.returns
returns c = seen c.get.result ∙ ap (option_map view) c.get.ensures.value ∙ view-lookup (codes "steps") c.args.map.now.entries
