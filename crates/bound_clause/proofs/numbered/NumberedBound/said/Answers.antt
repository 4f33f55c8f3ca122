use Rattle.std.proofs.Common.{◌++◌, List}
use Rattle.cone_spec.specs.Clauses.{Literal}
use Rattle.bound_clause.specs.Left.{gathered}
use Rattle.bound_clause.specs.Said.{said_of_legs, said_of_meetings}
use Rattle.bound_clause.specs.Spoken.{cone_literals, origin_literals}
use Rattle.bound_clause.proofs.Putting.{and_then}
use Rattle.bound_clause.proofs.numbered.NumberedBound.said.Goals as goal

pub returns : goal.returns
returns c =
    let self = c.args.self.now in
    let cone : List Literal = cone_literals self in
    let legs : List Literal = said_of_legs self.bound.now in
    let meetings : List Literal = said_of_meetings self.bound.now.legs in
    and_then self (gathered c.push_meetings.new.clause) (gathered c.push_origin.new.clause) (cone ++ legs ++ meetings) (origin_literals self)
    (and_then self (gathered c.push_legs.new.clause) (gathered c.push_meetings.new.clause) (cone ++ legs) meetings
    (and_then self (gathered c.in_ok-clause.clause) (gathered c.push_legs.new.clause) cone legs c.in_ok-clause.ensures c.in_ok-push_legs.ensures)
    c.in_ok-push_meetings.ensures) c.in_ok-push_origin.ensures
