-- What is found in the commands of steps.
use Rattle.std.proofs.Common.{◌≡◌, ℕ, ◌+◌, ◌<◌, List, ◌∷◌, ◌++◌, Bool, true, false, Option, None, Some, is_some, drop, find, get_or, length, refl, sym, ap, ◌∙◌}
use Rattle.std.specs.Option.{option_or}
use Rattle.std.proofs.lemmas.List.{drop_more}
use Rattle.std.proofs.lemmas.List.Folds.{find-append}
use Rattle.rail_base.specs.declared.plan.Command.{Command}
use Rattle.rail_spec.specs.Plans.{commands}

some_or : {X : Type 0} (o p : Option X) → is_some o ≡ true → option_or o p ≡ o
some_or None p e = cc
some_or (Some x) p e = refl

none_or : {X : Type 0} (o p : Option X) → is_some o ≡ false → option_or o p ≡ p
none_or None p e = refl
none_or (Some x) p e = cc

module _ (test : Command → Bool) (steps : List (List Command)) (i : ℕ) (step : List Command) (less : i < length steps) (here : step ≡ get_or steps i step) where
  next : find test (commands (drop i steps)) ≡ option_or (find test step) (find test (commands (drop (i + 1) steps)))
  next =
      ap (λ (ss : List (List Command)). find test (commands ss)) (drop_more steps i step less ∙ ap (λ (s : List Command). s ∷ drop (i + 1) steps) (sym here))
      ∙ find-append test step (commands (drop (i + 1) steps))

  -- the first is in the step
  pub found_here : (o : Option Command) → o ≡ find test step → is_some o ≡ true → o ≡ find test (commands (drop i steps))
  found_here o e some =
      sym (next ∙ ap (λ (p : Option Command). option_or p (find test (commands (drop (i + 1) steps)))) (sym e) ∙ some_or o (find test (commands (drop (i + 1) steps))) some)

  -- it is behind the step
  pub found_later : (o : Option Command) → o ≡ find test step → is_some o ≡ false → find test (commands (drop (i + 1) steps)) ≡ find test (commands (drop i steps))
  found_later o e none =
      sym (next ∙ ap (λ (p : Option Command). option_or p (find test (commands (drop (i + 1) steps)))) (sym e) ∙ none_or o (find test (commands (drop (i + 1) steps))) none)
