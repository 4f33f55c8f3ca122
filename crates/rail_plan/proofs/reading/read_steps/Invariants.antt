use Rattle.std.proofs.Common.{◌≡◌, ◌+◌, ◌-◌, flat_map, length, map, take}
use Rattle.rail_base.specs.Numbering.{count_from, entry, first_of_list}
use Rattle.serde_json.specs.Data.{null}
use Rattle.serde_json.specs.View.{view}
use Rattle.rail_plan.specs.Reading.{read_steps, unread, unread_in, values_of}
use Rattle.rail_plan.proofs.reading.read_steps.Given as goal

-- the steps so far, and where the first command that isn't there is to be found
abbrev pub invariant-loop-index : goal.invariant-loop-index
invariant-loop-index l = record {
  steps : l.steps ≡ read_steps (map (λ k. k.now) l.names.keys) l.many (map view (take l.index l.values));
  first : first_of_list (flat_map (λ i. unread_in (map (λ k. k.now) l.names.keys) l.many i (values_of (entry null (map view l.values) i))) (count_from (l.index + 1) (length l.values - l.index))) ≡ first_of_list (unread (map (λ k. k.now) l.names.keys) l.many (map view l.values));
}
