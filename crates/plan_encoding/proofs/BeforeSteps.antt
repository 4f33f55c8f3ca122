-- How many variables there are, by the kind of a base.
use Rattle.std.proofs.Common.{◌≡◌, ℕ, ◌+◌, ◌*◌, ◌⊎◌, inl, inr, List, length, refl, sym, ap, ap₂, ◌∙◌, arith}
use Rattle.rail_base.specs.declared.station.Station.{Station}
use Rattle.rail_base.specs.declared.route.Route.{Route}
use Rattle.rail_base.specs.declared.plan.Command.{Command}
use Rattle.clause_spec.specs.declared.question.BaseKind.{BaseKind}
use Rattle.clause_spec.specs.declared.question.BaseKind.TheVariants.{Plain, Sorted, Normal, Live}
use Rattle.clause_spec.specs.declared.question.Turns.{Turns}
use Rattle.clause_spec.specs.declared.question.VariableCounts.{VariableCounts}
use Rattle.clause_spec.specs.Variables.{pairs}
use Rattle.base_spec.specs.Bases.{before_selectors, more_variables, variables_of}
use Rattle.live_clause_spec.specs.Variables.{live_commands, live_pairs}
use Rattle.plan_encoding.specs.Bases.{speaks_of}
use Rattle.plan_encoding.specs.Numberings.{IsNumberingOf, Numbered}
use Rattle.plan_encoding.proofs.Over.{every_command, every_pair}
use Rattle.plan_encoding.proofs.Tabled.{commands_many}

-- it is a base of live commands
abbrev pub IsOfLive : BaseKind → Type 0
IsOfLive kind = (turns : Turns) × (kind ≡ Live turns)

module _ (d : Station) (routes : List Route) (n : ℕ) where
  -- the variables of all commands by their steps
  pub every_given : length (live_commands (speaks_of Plain d routes) d routes) * n ≡ length d.trains * length routes * n
  every_given = ap (λ (cs : List Command). length cs * n) (every_command d routes n) ∙ ap (λ m. m * n) (commands_many d routes)

  every_before : length (live_commands (speaks_of Plain d routes) d routes) * n + length (live_pairs (speaks_of Plain d routes) d routes) ≡ length d.trains * length routes * n + length (pairs d routes)
  every_before = ap₂ (λ a b. a + b) every_given (ap length (every_pair d routes n))

  -- those of commands and of pairs come before those of steps
  before_is : (kind : BaseKind) → length (live_commands (speaks_of kind d routes) d routes) * n + length (live_pairs (speaks_of kind d routes) d routes) ≡ before_selectors kind d routes n
  before_is Plain = every_before
  before_is Sorted = every_before
  before_is Normal = every_before
  before_is (Live turns) = refl

  pub before_steps : (kind : BaseKind) (b : Numbered) → IsNumberingOf (speaks_of kind d routes) d routes n b → length b.commands * b.steps + length b.pairs ≡ before_selectors kind d routes n
  before_steps kind b is =
      ap₂ (λ a b. a + b) (ap₂ (λ (cs : List Command) m. length cs * m) is.commands is.steps) (ap length is.pairs) ∙ before_is kind

  -- no more come behind those of steps
  none_more : (kind : BaseKind) → (kind ≡ Plain) ⊎ ((kind ≡ Sorted) ⊎ IsOfLive kind) → more_variables kind d routes n ≡ 0
  none_more kind (inl e) = ap (λ k. more_variables k d routes n) e
  none_more kind (inr (inl e)) = ap (λ k. more_variables k d routes n) e
  none_more kind (inr (inr (turns, e))) = ap (λ k. more_variables k d routes n) e

  -- or as many as those of commands
  given_more : (kind : BaseKind) (b : Numbered) → IsNumberingOf (speaks_of kind d routes) d routes n b → kind ≡ Normal → length b.commands * b.steps ≡ more_variables kind d routes n
  given_more Plain b is e = absurd (cc)
  given_more Sorted b is e = absurd (cc)
  given_more (Live turns) b is e = absurd (cc)
  given_more Normal b is e = ap₂ (λ (cs : List Command) m. length cs * m) is.commands is.steps ∙ every_given

  module _ (kind : BaseKind) (b : Numbered) (is : IsNumberingOf (speaks_of kind d routes) d routes n b) (count given many steps : ℕ)
      (commands : given ≡ length b.commands * b.steps) (pairs : many ≡ length b.pairs) (same : steps ≡ b.steps) where
    abbrev counts : ℕ → VariableCounts
    counts m = record { count = m; before_selectors = given + many; steps = steps }

    are_counts : (more : ℕ) → more ≡ more_variables kind d routes n → counts (given + many + steps + more) ≡ variables_of kind d routes n
    are_counts more e =
        let before : given + many ≡ before_selectors kind d routes n = ap₂ (λ a c. a + c) commands pairs ∙ before_steps kind b is in
        let last : steps ≡ n = same ∙ is.steps in
        cc

    -- so these are the counts
    pub counts_none : (kind ≡ Plain) ⊎ ((kind ≡ Sorted) ⊎ IsOfLive kind) → count ≡ given + many + steps → counts count ≡ variables_of kind d routes n
    counts_none h e = ap counts (e ∙ zero_more (given + many + steps)) ∙ are_counts 0 (sym (none_more kind h))
      where
        zero_more : (m : ℕ) → m ≡ m + 0
        zero_more m = omega arith

    pub counts_more : kind ≡ Normal → count ≡ given + many + steps + given → counts count ≡ variables_of kind d routes n
    counts_more h e = ap counts e ∙ are_counts given (commands ∙ given_more kind b is h)
