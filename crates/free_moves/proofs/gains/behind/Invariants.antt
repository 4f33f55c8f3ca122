use Rattle.std.proofs.Common.{◌≡◌, drop}
use Rattle.rail_motion.specs.Track.{stretches_of}
use Rattle.free_spec.specs.Free.{behind}
use Rattle.free_moves.proofs.Gaining.{allowed_at}
use Rattle.free_moves.proofs.gains.behind.Given as goal

-- what is left of the spans decides
abbrev pub invariant-loop-span : goal.invariant-loop-span
invariant-loop-span l = behind l.accel l.tail 0 (stretches_of l.spans) l.place l.speed ≡ allowed_at l.accel l.from (stretches_of (drop l.span-index l.spans)) l.left l.speed
