-- A log stays good where cones and bounds show more.
use Rattle.std.proofs.Common.{ℕ, List, [], ◌∷◌}
use Rattle.sat_clause.specs.Clauses.{Store}
use Rattle.clause_spec.specs.declared.question.VariableCounts.{VariableCounts}
use Rattle.proof_log.specs.declared.head.Head.{Head}
use Rattle.log_recorder.specs.Logs.{AllGoOn, Forgot, IsEndedLog, IsRunLog, Learnt, LogLine, MayStand, Refuted, learnt_by, with_line}
use Rattle.time_evidence.specs.Laws.{LinesGoOn, Showing, ShowsMore, StaysSo}

module _ (head : Head) (one other : Showing) (more : ShowsMore one other) (variables : VariableCounts) where
  line_stays : (store : Store) (learnt : List ℕ) (l : LogLine) → MayStand head one variables store learnt l → MayStand head other variables store learnt l
  line_stays store learnt (Learnt d) h = h
  line_stays store learnt (Forgot id) h = h
  line_stays store learnt (Refuted e clause) h = record { shows = more e clause h.shows; written = h.written; stands = h.stands }

  pub lines_go_on : (store : Store) (learnt : List ℕ) (lines : List LogLine) → AllGoOn head one variables store learnt lines → AllGoOn head other variables store learnt lines
  lines_go_on store learnt [] h = h
  lines_go_on store learnt (l ∷ ls) h = (line_stays store learnt l h.0, lines_go_on (with_line store l) (learnt_by store learnt l) ls h.1)

pub lines_stay : LinesGoOn
lines_stay head one other more variables = lines_go_on head one other more variables

pub run_logs_stay : StaysSo IsRunLog
run_logs_stay head one other more variables base lines log h =
    record { text = h.text; go_on = lines_go_on head one other more variables base [] lines h.go_on }

pub ended_logs_stay : StaysSo IsEndedLog
ended_logs_stay head one other more variables base lines log h = record {
  last = h.last;
  text = h.text;
  go_on = lines_go_on head one other more variables base [] lines h.go_on;
  is_last = h.is_last;
}
