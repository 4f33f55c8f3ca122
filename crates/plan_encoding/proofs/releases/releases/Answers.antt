use Rattle.std.proofs.Common.{rules, subst, ◌∙◌}
use Rattle.std.specs.List.Sorted.{IsPermutation}
use Rattle.std.specs.Prelude.{nat_abs}
use Rattle.std.proofs.lemmas.List.Sorted.{IsNonDecreasingBy-from_sort_by_key}
use Rattle.plan_encoding.proofs.releases.releases.Goals as goal

pub returns : goal.returns
returns c = record {
  moved = subst (λ xs. IsPermutation xs c.sort_unstable_by_key.new.self.items) (c.in_ok-parts.ensures.items ∙ c.as_slice.ensures) c.sort_unstable_by_key.ensures.permutation;
  rising = IsNonDecreasingBy-from_sort_by_key (λ p. nat_abs p.1) _ c.sort_unstable_by_key.ensures.sorted (λ a r q k. search rules);
}
