-- What is found in the values of a text.
use Rattle.std.proofs.Common.{◌≡◌, ℕ, zero, suc, ◌+◌, Bool, not, cond, List, [], ◌∷◌, length, map, get_or, Option, Some, None, option_map, option_and_then, position, nat_lt, bytes_eq, Bor, refl, sym, ap, ap₂, subst, rules, ◌∙◌}
use Rattle.std.specs.Prelude.{unwrap_or}
use Rattle.std.specs.List.{position_or_len}
use Rattle.std.specs.Option.{option_copied}
use Rattle.std.proofs.lemmas.List.{length-map}
use Rattle.rail_base.specs.declared.station.Station.{Station}
use Rattle.rail_base.specs.Numbering.{entry}
use Rattle.serde_json.specs.Data.{Data, null}
use Rattle.serde_json.specs.View.{view}
use Rattle.serde_json.specs.declared.value.Value.{Value, Null, the_lemmas}
use Rattle.rail_plan.specs.Reading.{train_named, train_names, values_of}
use Rattle.rail_plan.specs.Text.{Written, array_of, command_of, steps_at}
use Rattle.rail_plan.proofs.Shapes.{few_values, many_values, one_member, other_members, two_values}
use Rattle.rail_plan.proofs.Seen.{values_none, values_some}
use Rattle.plan_values.specs.Values.{step_in, steps_in, written_in}

pub ruleset pairs = (two_values, few_values, many_values)

pub ruleset singles = (one_member, other_members)

pub ruleset values = (values_some, values_none)

-- ---- by number

view-Null : view Null ≡ null
view-Null = search (rules, the_lemmas)

entry-map : (vs : List Value) (n : ℕ) → entry null (map view vs) n ≡ view (entry Null vs n)
entry-map vs zero = sym view-Null
entry-map [] (suc n) = sym view-Null
entry-map (v ∷ vs) (suc zero) = refl
entry-map (v ∷ vs) (suc (suc n)) = entry-map vs (suc n)

viewed : (r : Option (Bor Value)) → unwrap_or (option_map (λ v. view v.now) r) null ≡ view (unwrap_or (option_copied r) Null)
viewed None = sym view-Null
viewed (Some x) = refl

pub value_there : (r : Option (Bor Value)) (vs : List Value) (n : ℕ) → ((other : Value) → unwrap_or (option_copied r) other ≡ entry other vs n)
    → unwrap_or (option_map (λ v. view v.now) r) null ≡ entry null (map view vs) n
value_there r vs n is = viewed r ∙ ap view (is Null) ∙ sym (entry-map vs n)

-- ---- steps and commands

pub steps_there : (v s : Data) (vs : List Data) → Some s ≡ steps_at v → vs ≡ values_of s → vs ≡ steps_in v
steps_there v s vs at is = is ∙ ap (λ (o : Option Data). unwrap_or (option_and_then array_of o) []) at

pub no_steps : (v : Data) → None ≡ steps_at v → [] ≡ steps_in v
no_steps v at = ap (λ (o : Option Data). unwrap_or (option_and_then array_of o) []) at

pub ruleset steps = (steps_there, no_steps)

pub step_there : (v s : Data) (i : ℕ) (ds vs : List Data) → ds ≡ steps_in v → s ≡ entry null ds i → vs ≡ values_of s → vs ≡ step_in v i
step_there v s i ds vs all at is = is ∙ ap values_of (at ∙ ap (λ (ws : List Data). entry null ws i) all)

pub no_step : (v : Data) (i : ℕ) (ds : List Data) → ds ≡ steps_in v → null ≡ entry null ds i → [] ≡ step_in v i
no_step v i ds all at = ap values_of (at ∙ ap (λ (ws : List Data). entry null ws i) all)

pub command_there : (v s : Data) (i j : ℕ) (ds : List Data) (w : Option Written) → ds ≡ step_in v i → s ≡ entry null ds j → w ≡ command_of s → w ≡ written_in v i j
command_there v s i j ds w all at is = is ∙ ap command_of (at ∙ ap (λ (ws : List Data). entry null ws j) all)

pub no_command : (v : Data) (i j : ℕ) (ds : List Data) → ds ≡ step_in v i → null ≡ entry null ds j → None ≡ written_in v i j
no_command v i j ds all at = ap command_of (at ∙ ap (λ (ws : List Data). entry null ws j) all)

-- ---- trains by name

place_map : {X Y : Type 0} (test : Y → Bool) (f : X → Y) (xs : List X) → position_or_len test (map f xs) ≡ position_or_len (λ x. test (f x)) xs
place_map test f [] = refl
place_map test f (x ∷ xs) = ap (λ n. cond (not (test (f x))) (1 + n) 0) (place_map test f xs)

pub position_map : {X Y : Type 0} (test : Y → Bool) (f : X → Y) (xs : List X) → position test (map f xs) ≡ position (λ x. test (f x)) xs
position_map test f xs = ap₂ (λ l m. cond (nat_lt l m) (Some l) None) (place_map test f xs) (length-map xs f)

pub named : (d : Station) (name : List ℕ) (o : Option ℕ) → o ≡ position (λ t. bytes_eq name t.name) d.trains
    → option_map (λ i. record { 0 = i + 1 }) o ≡ train_named (train_names d) name
named d name o is = ap (option_map (λ i. record { 0 = i + 1 })) (is ∙ sym (position_map (bytes_eq name) (λ t. t.name) d.trains))
