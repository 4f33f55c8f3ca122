-- Tests of all commands, step by step.
use Rattle.std.proofs.Common.{◌≡◌, Bool, ◌&&◌, List, [], ◌∷◌, flat_map, refl, ap, ◌∙◌}
use Rattle.std.specs.List.{list_all}
use Rattle.std.proofs.lemmas.List.Folds.{list_all-append}

-- all of all lists pass where all of each do
pub all_in_steps : {X : Type 0} (test : X → Bool) (steps : List (List X))
    → list_all test (flat_map (λ step. step) steps) ≡ list_all (list_all test) steps
all_in_steps test [] = refl
all_in_steps test (step ∷ steps) =
    list_all-append test step (flat_map (λ s. s) steps) ∙ ap (λ (rest : Bool). list_all test step && rest) (all_in_steps test steps)
