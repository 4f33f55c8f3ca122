use Rattle.std.proofs.Common.{◌≡◌, ◌+◌, ◌-◌, filter, length, map, take, is_none}
use Rattle.rail_base.specs.Numbering.{count_from, entry, first_of_list}
use Rattle.serde_json.specs.Data.{null}
use Rattle.serde_json.specs.View.{view}
use Rattle.rail_plan.specs.Reading.{missing, seen, read_in}
use Rattle.rail_plan.proofs.reading.read_step.Given as goal

-- the commands so far, and where the first that isn't there is to be found
abbrev pub invariant-loop-index : goal.invariant-loop-index
invariant-loop-index l = record {
  commands : l.commands ≡ read_in (map (λ k. k.now) l.names.keys) l.many (map view (take l.index l.values));
  first : first_of_list (filter (λ j. is_none (seen (map (λ k. k.now) l.names.keys) l.many (entry null (map view l.values) j))) (count_from (l.index + 1) (length l.values - l.index))) ≡ first_of_list (missing (seen (map (λ k. k.now) l.names.keys) l.many) null (map view l.values));
}
