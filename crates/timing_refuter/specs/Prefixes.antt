-- How much of each path a slice has.
use Rattle.std.specs.Prelude.{ℕ, ◌+◌, max, Bool, if◌then◌else◌, List, map, filter, take, nat_le}
use Rattle.std.specs.List.{list_any}
use Rattle.rail_base.specs.declared.plan.Command.{Command}
use Rattle.cone_spec.specs.declared.ConeTrain.{ConeTrain}
use Rattle.slice_spec.specs.Holders.{is_the}
use Rattle.slice_spec.specs.Slices.{past_last}

-- one of the trains is held up by the command
abbrev pub holds_one : List ConeTrain → Command → Bool
holds_one ks c = list_any (λ (k : ConeTrain). is_the c k.holder) ks

-- one past the last route of a train with which it holds one up
abbrev pub past_holder : List ConeTrain → ConeTrain → ℕ
past_holder ks k = past_last (λ r. holds_one ks (record { train = k.train; route = r })) k.path

-- so many commands of a train are needed
abbrev pub needed_count : List ConeTrain → ConeTrain → ℕ
needed_count ks k = max (if nat_le 1 k.horizon then k.free + 1 else 0) (past_holder ks k)

-- the train with the first commands of its path
abbrev pub prefix_of : ConeTrain → ℕ → ConeTrain
prefix_of k n = record { train = k.train; horizon = k.horizon; free = k.free; path = take n k.path; holder = k.holder }

-- the trains of which any are needed, with those that are
abbrev pub prefixes_of : List ConeTrain → List ConeTrain → List ConeTrain
prefixes_of all ks = map (λ k. prefix_of k (needed_count all k)) (filter (λ k. nat_le 1 (needed_count all k)) ks)
