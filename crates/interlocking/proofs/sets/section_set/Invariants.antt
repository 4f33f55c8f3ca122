use Rattle.std.proofs.Common.{◌≡◌, ◌==◌, ◌||◌, take}
use Rattle.std.specs.List.{list_any}
use Rattle.rail_base.specs.declared.station.SectionNo.{SectionNo}
use Rattle.rail_base.specs.Routes.{goes_over}
use Rattle.number_sets.specs.Sets.{contains}
use Rattle.interlocking.proofs.sets.section_set.Given as goal

-- the sections so far are in the set
abbrev pub invariant-loop-part : goal.invariant-loop-part
invariant-loop-part l = (z : SectionNo) → contains l.set z.0 ≡ list_any (λ p. p.0.0 == z.0) (take l.part-index l.part-items)

-- all own sections are, and those of the overlap so far
abbrev pub invariant-loop-held : goal.invariant-loop-held
invariant-loop-held l = (z : SectionNo) → contains l.set z.0 ≡ (goes_over l.route z || list_any (λ p. p.section.0 == z.0) (take l.held-index l.held-items))
