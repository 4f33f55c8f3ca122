use Rattle.std.proofs.Common.{◌≡◌, ◌-◌, drop}
use Rattle.rail_base.specs.Members.{all_neighbors}
use Rattle.bound_design.specs.Named.{contend_where_they_meet_in}
use Rattle.bound_design.proofs.meeting.legs_meet.Given as goal

-- those so far do
abbrev pub invariant-loop-index : goal.invariant-loop-index
invariant-loop-index l = all_neighbors (contend_where_they_meet_in l.interlocking) (drop (l.index - 1) l.legs) ≡ all_neighbors (contend_where_they_meet_in l.interlocking) l.legs
