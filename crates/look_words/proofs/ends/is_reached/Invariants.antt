use Rattle.std.proofs.Common.{◌≡◌, drop}
use Rattle.look_words.specs.Ends.{is_reached}
use Rattle.look_words.proofs.ends.is_reached.Given as goal

-- none so far does
abbrev pub invariant-loop-route : goal.invariant-loop-route
invariant-loop-route l = is_reached (drop l.route-index l.route-items) l.node ≡ is_reached l.route-items l.node
