-- Lines on greatest times, one after another.
use Rattle.std.proofs.Common.{◌≡◌, ℕ, List, [], ◌∷◌, ◌++◌, Option, refl, sym, ap, subst, ◌∙◌, append_assoc}
use Rattle.std.proofs.lemmas.List.{append-nil}
use Rattle.rail_base.specs.declared.route.Route.{Route}
use Rattle.rail_base.specs.declared.station.Station.{Station}
use Rattle.time_words.specs.Times.{AreLinesOn, IsLeastOf, least_lines}

module _ (d : Station) (routes : List Route) (numbers : List ℕ) (begun : List (List ℕ)) where
  -- with the lines on the rest of the numbers, those said so far are the ones begun with and lines on all of them
  abbrev pub GoesOn : List (List ℕ) → List ℕ → Type 0
  GoesOn said rest = (more : List (List ℕ)) → AreLinesOn d routes rest more → (all : List (List ℕ)) × AreLinesOn d routes numbers all × (said ++ more ≡ begun ++ all)

  pub begins : GoesOn begun numbers
  begins more are = (more, are, refl)

  pub goes_on : (said new : List (List ℕ)) (n : ℕ) (rest tail : List ℕ) (ticks : Option ℕ) → rest ≡ n ∷ tail → IsLeastOf d routes n ticks → new ≡ said ++ least_lines d n ticks → GoesOn said rest → GoesOn new tail
  goes_on said new n rest tail ticks e is grown so more are =
      let g = subst (GoesOn said) e so (least_lines d n ticks ++ more) (ticks, is, more, are, refl) in
      (g.0, g.1, ap (λ ls. ls ++ more) grown ∙ append_assoc said (least_lines d n ticks) more ∙ g.2)

  pub ends : (said : List (List ℕ)) (rest : List ℕ) → rest ≡ [] → GoesOn said rest → (all : List (List ℕ)) × (said ≡ begun ++ all) × AreLinesOn d routes numbers all
  ends said rest e so = let g = subst (GoesOn said) e so [] refl in (g.0, sym (append-nil said) ∙ g.2, g.1)
