use Rattle.std.proofs.Common.{◌≡◌, drop, map, filter}
use Rattle.rail_base.specs.Numbering.{first_of_list}
use Rattle.rail_plan.specs.Holds.{is_kept_from}
use Rattle.rail_plan.proofs.clearance.kept_overlap_section.Given as goal

-- the first is to be found among the sections that are left
abbrev pub invariant-loop-part : goal.invariant-loop-part
invariant-loop-part l = first_of_list (filter (is_kept_from l.interlocking.routes l.holds l.step l.command.train) (map (λ p. p.section) (drop l.part-index l.part-items))) ≡ first_of_list (filter (is_kept_from l.interlocking.routes l.holds l.step l.command.train) (map (λ p. p.section) l.part-items))
