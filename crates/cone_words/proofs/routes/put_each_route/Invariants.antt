use Rattle.std.proofs.Common.{◌≡◌, ◌++◌, take}
use Rattle.cone_words.specs.Phrases.{each_after}
use Rattle.cone_words.specs.Routes.{route_text}
use Rattle.cone_words.proofs.routes.put_each_route.Given as goal

abbrev pub invariant-loop-route : goal.invariant-loop-route
invariant-loop-route l = l.text.items ≡ l.initial.text.items ++ each_after l.between (route_text l.interlocking.design.station l.interlocking.routes) (take l.route-index l.routes)
