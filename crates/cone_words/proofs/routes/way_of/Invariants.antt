use Rattle.std.proofs.Common.{◌≡◌, drop, find, map}
use Rattle.rail_base.specs.Routes.{own_sections}
use Rattle.cone_words.specs.Routes.{tells_apart}
use Rattle.cone_words.proofs.routes.way_of.Given as goal

-- what is found is found among those that are left
abbrev pub invariant-loop-part : goal.invariant-loop-part
invariant-loop-part l = find (tells_apart l.routes l.route) (own_sections l.route)
    ≡ find (tells_apart l.routes l.route) (map (λ z. z.0) (drop l.part-index l.part-items))
