use Rattle.std.proofs.Common.{◌≡◌, ◌++◌, map, drop}
use Rattle.proof_log.specs.ConeText.{route_word}
use Rattle.proof_log.specs.Writing.{spaced}
use Rattle.proof_log.proofs.cone_text.put_routes.Given as goal

abbrev pub invariant-loop-route : goal.invariant-loop-route
invariant-loop-route l = l.fn.text.items ++ spaced (map route_word l.path) ≡ l.text.items ++ spaced (map route_word (drop l.route-index l.path))
