-- Designs of which the clauses are few, and designs with a within of a number.
use Rattle.std.specs.Prelude.{◌≡◌, ◌≤◌, ℕ, List, length, Option, None, Some}
use Rattle.clause_spec.specs.Clauses.{literals}
use Rattle.clause_spec.specs.declared.question.BaseKind.{BaseKind}
use Rattle.proof_judge.specs.Judged.{past_plain}
use Rattle.rail_base.specs.declared.station.Station.{Station}
use Rattle.rail_spec.specs.Track.{routes_of}
use Rattle.rail_words.specs.declared.request.InTime.{InTime}
use Rattle.base_spec.specs.Bases.{clauses_of}

-- the clauses that a search by the base for plans of n steps begins with have at most 16,000,000 literals
abbrev pub HasFewClauses : BaseKind → Station → ℕ → Type 0
HasFewClauses kind d n = literals (clauses_of kind d (routes_of d) n) ≤ 16000000

-- those that are asked of before a file is judged have no more: no clauses where its head names the base of live commands
abbrev pub HasFewFor : Station → ℕ → List ℕ → Type 0
HasFewFor d n text = past_plain d n text ≡ None

-- the design has the within into which a time is to be put, where one is given
abbrev pub HasWithin : Option InTime → Station → Type 0
HasWithin None d = Unit {0}
HasWithin (Some t) d = t.within ≤ length d.withins
