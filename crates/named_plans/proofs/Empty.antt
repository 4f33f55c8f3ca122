-- An empty text is no value.
use Rattle.std.proofs.Common.{◌≡◌, [], None, refl}
use Rattle.serde_json.specs.Read.{read}
use Rattle.serde_json.proofs.OnLiterals.{serde_json_on_literals}
use Rattle.rail_plan.specs.Text.{json_of}
use Rattle.rail_plan.proofs.Json.{json_refused}

no_value : read [] ≡ None
unfolding serde_json_on_literals
no_value = refl

pub nothing_read : json_of [] ≡ None
nothing_read = json_refused [] (λ text. no_value)
