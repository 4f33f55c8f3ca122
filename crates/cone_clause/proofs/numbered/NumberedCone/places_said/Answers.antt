use Rattle.std.proofs.Common.{ℕ}
use Rattle.std.proofs.lemmas.List.Sorted.{IsNonDecreasingBy-from_sort}
use Rattle.cone_clause.proofs.Said.{said_all}
use Rattle.cone_clause.proofs.numbered.NumberedCone.places_said.Goals as goal

pub returns : goal.returns
returns c =
    said_all c.args.self.now.contention.pairs.now.pairs c.args.self.now.cone.now c.new-places.result.items c.add_all_free.new.places.items c.add_pairs.new.places.items c.sort_unstable.new.self.items c.new-places.ensures.items c.in_ok-add_all_free.ensures c.in_ok-add_pairs.ensures c.sort_unstable.ensures.permutation
    (IsNonDecreasingBy-from_sort (λ (n : ℕ). n) c.sort_unstable.new.self.items c.sort_unstable.ensures.sorted)
