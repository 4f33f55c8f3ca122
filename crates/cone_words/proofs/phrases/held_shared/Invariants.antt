use Rattle.std.proofs.Common.{◌≡◌, take, map, filter}
use Rattle.rail_base.specs.Routes.{has_section, route_at}
use Rattle.cone_words.proofs.phrases.held_shared.Given as goal

abbrev pub invariant-loop-part : goal.invariant-loop-part
invariant-loop-part l = l.found.items ≡ filter (has_section (route_at l.routes l.other)) (map (λ p. p.section) (take l.part-index l.part-items))
