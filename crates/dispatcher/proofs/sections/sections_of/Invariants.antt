use Rattle.std.proofs.Common.{◌≡◌, ◌++◌, drop, map}
use Rattle.rail_base.specs.Routes.{own_sections, sections}
use Rattle.dispatcher.proofs.sections.sections_of.Given as goal

abbrev pub invariant-loop-part : goal.invariant-loop-part
invariant-loop-part l = l.sections.items ++ map (λ p. p.0) (drop l.part-index l.part-items) ≡ own_sections l.route

abbrev pub invariant-loop-part-2 : goal.invariant-loop-part-2
invariant-loop-part-2 l = l.sections.items ++ map (λ p. p.section) (drop l.part-index l.part-items) ≡ sections l.route
