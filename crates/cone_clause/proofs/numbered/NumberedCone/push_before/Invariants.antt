use Rattle.std.proofs.Common.{◌≡◌, ℕ, ◌≤◌, ◌++◌, flat_map, length, take, drop}
use Rattle.rail_base.specs.declared.plan.Command.{Command}
use Rattle.rail_base.specs.Members.{In}
use Rattle.cone_clause.specs.Places.{IsSaid}
use Rattle.cone_clause.specs.Spoken.{before, numbered}
use Rattle.cone_clause.proofs.numbered.NumberedCone.push_before.Given as goal

-- all is said of the pairs up to the next, and the places from there on are left
abbrev pub invariant-loop-place : goal.invariant-loop-place
invariant-loop-place l = record {
  within : l.next ≤ length l.self.contention.pairs.now.pairs;
  spoken : l.clause.items ≡ l.fn.clause.items ++ numbered l.self (flat_map (λ (p : Command × Command). before l.self p.0 p.1) (take l.next l.self.contention.pairs.now.pairs));
  left : (i : ℕ) → l.next ≤ i → IsSaid l.self.contention.pairs.now.pairs l.self.cone.now i → In i (drop l.place-index l.place-items);
}
