use Rattle.std.proofs.Common.{◌≡◌, drop}
use Rattle.rail_spec.specs.Plans.{route_at, is_start}
use Rattle.std.specs.List.{list_any}
use Rattle.plan_encoding.proofs.encoder.Encoder.start_there.Given as goal

-- none so far does
abbrev pub invariant-loop-route : goal.invariant-loop-route
invariant-loop-route l = list_any (λ v. is_start (route_at l.self.interlocking.now.routes v).start l.start) (drop l.route-index l.chain) ≡ list_any (λ v. is_start (route_at l.self.interlocking.now.routes v).start l.start) l.chain
