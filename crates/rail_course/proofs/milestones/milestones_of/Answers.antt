use Rattle.std.proofs.Common.{rules, subst}
use Rattle.std.specs.List.Sorted.{IsPermutation}
use Rattle.std.proofs.lemmas.List.Sorted.{IsNonDecreasingBy-from_sort_by_key}
use Rattle.rail_course.specs.declared.milestones.Milestone.{Milestone}
use Rattle.rail_course.proofs.Sorting.{all_there, each_known}
use Rattle.rail_course.proofs.milestones.milestones_of.Goals as goal

pub returns : goal.returns
returns c =
    let moved = subst (λ xs. IsPermutation xs c.sort_unstable_by_key.new.self.items) c.in_ok-milestones.ensures c.sort_unstable_by_key.ensures.permutation in
    record {
      rising = IsNonDecreasingBy-from_sort_by_key (λ (m : Milestone). m.place) _ c.sort_unstable_by_key.ensures.sorted (λ a r q k. search rules);
      known = each_known c.args.places.now c.sort_unstable_by_key.new.self.items moved;
      all = all_there c.args.places.now c.sort_unstable_by_key.new.self.items moved;
    }
