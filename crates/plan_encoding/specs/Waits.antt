-- The clauses that a command waits for another.
use Rattle.std.specs.Prelude.{ℕ, ◌-◌, List, map}
use Rattle.rail_base.specs.declared.route.RouteNo.{RouteNo}
use Rattle.rail_base.specs.declared.plan.Command.{Command}
use Rattle.rail_base.specs.Numbering.{one_to}
use Rattle.clause_spec.specs.Clauses.{Clause}
use Rattle.live_clause_spec.specs.Listed.{live_chains, live_waits}
use Rattle.command_set.specs.Commands.{is_among}
use Rattle.plan_encoding.specs.declared.encoder.Encoder.{Encoder}
use Rattle.plan_encoding.specs.declared.wait.Releasing.{Releasing}
use Rattle.plan_encoding.specs.declared.wait.Wait.{Wait}
use Rattle.plan_encoding.specs.Families.{waiting}
use Rattle.plan_encoding.specs.Encoders.{among, commands, table}
use Rattle.plan_encoding.specs.Waiting.{waits_over}

-- the encoder that it is about
abbrev pub frame_of : Wait → Encoder
frame_of w = w.tables.now.encoder

-- the clause of a chain at a step, with the routes that go on from it
abbrev pub waits_in : Wait → List RouteNo → List RouteNo → ℕ → Clause
waits_in w chain further i = waiting w.first w.second chain further i

-- for each step but the last
abbrev pub waits_at : Wait → List RouteNo → List RouteNo → List Clause
waits_at w chain further = map (waits_in w chain further) (one_to ((frame_of w).steps.count - 1))

-- for each chain of the train's commands that begins with these routes and then this one
abbrev pub waits_on : Wait → ℕ → List RouteNo → RouteNo → List Clause
waits_on w more before r =
    among (frame_of w) waits_over w.first w.second
    (live_chains (is_among (commands (frame_of w))) (table (frame_of w)) w.first.train more w.bound before r)

-- a command waits for the one that releases these sections
abbrev pub waits_for_it : Releasing → Command → List Clause
waits_for_it r c = among r.tables.now.encoder live_waits (r.first, c)
