use Rattle.std.proofs.Common.{◌≡◌, ◌≤◌, ◌+◌, drop, filter, length}
use Rattle.look_words.specs.Entries.{is_entry_at}
use Rattle.look_words.proofs.entries.count_entering.Given as goal

-- those counted, and those in the rest
abbrev pub invariant-loop-route : goal.invariant-loop-route
invariant-loop-route l =
    (l.count ≤ l.route-index)
    × (l.count + length (filter (λ r. is_entry_at l.node r.start) (drop l.route-index l.routes)) ≡ length (filter (λ r. is_entry_at l.node r.start) l.routes))
