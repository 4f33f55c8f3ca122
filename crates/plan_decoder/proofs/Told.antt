-- The plan that the values of a base's variables give is that of its kind.
use Rattle.std.proofs.Common.{◌≡◌, ℕ, zero, suc, ◌+◌, ◌-◌, ◌*◌, Bool, not, ◌&&◌, List, [], ◌∷◌, map, filter, length, refl, sym, ap, ap₂, ◌∙◌}
use Rattle.rail_base.specs.declared.station.Station.{Station}
use Rattle.rail_base.specs.declared.route.Route.{Route}
use Rattle.rail_base.specs.declared.plan.Command.{Command}
use Rattle.rail_base.specs.Numbering.{before_first, one_to}
use Rattle.rail_base.proofs.Members.{In}
use Rattle.rail_spec.specs.Plans.{all_commands, is_command}
use Rattle.clause_spec.specs.declared.question.BaseKind.{BaseKind}
use Rattle.clause_spec.specs.declared.question.BaseKind.TheVariants.{Plain, Sorted, Normal, Live}
use Rattle.clause_spec.specs.Variables.{Variable, number_of}
use Rattle.clause_spec.specs.Models.{cut_off, decoded, given_by, given_in}
use Rattle.live_clause_spec.specs.Live.{is_live}
use Rattle.live_clause_spec.specs.Models.{live_decoded, live_given_in}
use Rattle.live_clause_spec.specs.Variables.{live_number}
use Rattle.live_clause_spec.proofs.Decoding.{decoded_alike}
use Rattle.live_clause_spec.proofs.Lists.{filter_alike}
use Rattle.base_spec.specs.Bases.{decoded_of}
use Rattle.plan_encoding.specs.Bases.{speaks_of}
use Rattle.plan_encoding.proofs.Over.{any, every_command, stands_at}

-- ---- with all commands

module _ (d : Station) (routes : List Route) (n : ℕ) (values : ℕ → Bool) where
  abbrev said : Variable → Bool
  said v = values (number_of d routes n v)

  abbrev all_said : Variable → Bool
  all_said v = values (live_number any d routes n v)

  given_same : (c : Command) (i : ℕ) → In c (all_commands d routes) → given_by all_said c i ≡ given_by said c i
  given_same c zero m = refl
  given_same c (suc i) m = ap values
      (ap (λ (cs : List Command). length (before_first (is_command c) cs) * n + suc i) (every_command d routes n)
      ∙ ap (λ k. k * n + suc i) (stands_at d routes n c m))

  step_same : (i : ℕ) → live_given_in any d routes n all_said i ≡ given_in d routes n said i
  step_same i =
      ap (filter (λ c. given_by all_said c i && not (given_by all_said c (i - 1)))) (every_command d routes n)
      ∙ filter_alike (λ (c : Command). given_by all_said c i && not (given_by all_said c (i - 1))) (λ (c : Command). given_by said c i && not (given_by said c (i - 1))) (all_commands d routes)
      (λ c m. ap₂ (λ a b. a && not b) (given_same c i m) (given_same c (i - 1) m))

  steps_same : (is : List ℕ) → map (live_given_in any d routes n all_said) is ≡ map (given_in d routes n said) is
  steps_same [] = refl
  steps_same (i ∷ is) = ap₂ (λ a b. a ∷ b) (step_same i) (steps_same is)

  all_decoded : live_decoded any d routes n values ≡ decoded d routes n values
  all_decoded = ap cut_off (steps_same (one_to n))

-- ---- of each kind

pub decoded_as : (kind : BaseKind) (d : Station) (routes : List Route) (n : ℕ) (values : ℕ → Bool) → live_decoded (speaks_of kind d routes) d routes n values ≡ decoded_of kind d routes n values
decoded_as Plain d routes n values = all_decoded d routes n values
decoded_as Sorted d routes n values = all_decoded d routes n values
decoded_as Normal d routes n values = all_decoded d routes n values
decoded_as (Live turns) d routes n values = sym (decoded_alike (is_live d routes) d routes n values)
