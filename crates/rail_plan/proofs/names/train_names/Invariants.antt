use Rattle.std.proofs.Common.{◌≡◌, map, take}
use Rattle.rail_plan.proofs.names.train_names.Given as goal

-- the names so far
abbrev pub invariant-loop-train : goal.invariant-loop-train
invariant-loop-train l = map (λ k. k.now) l.names.keys ≡ map (λ t. t.name) (take l.train-index l.train-items)
