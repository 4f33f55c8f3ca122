-- What a proof shows of a design, as an answer.
use Rattle.std.specs.Prelude.{ℕ, nat_le, if◌then◌else◌, List, length}
use Rattle.std.specs.Prelude.{Option, None, Some, Result, Ok, Err}
use Rattle.log_checker.specs.declared.check_result.CheckResult.{CheckResult}
use Rattle.log_checker.specs.declared.check_result.CheckResult.TheVariants as check_result
use Rattle.proof_judge.specs.Judged.{judged, past_plain}
use Rattle.clause_spec.specs.Clauses.{past_limit}
use Rattle.clause_spec.specs.declared.question.BaseKind.{BaseKind}
use Rattle.clause_spec.specs.declared.question.BaseKind.TheVariants.{Plain}
use Rattle.rail_base.specs.declared.station.Station.{Station}
use Rattle.rail_spec.specs.Track.{routes_of}
use Rattle.rail_words.specs.declared.request.InTime.{InTime}
use Rattle.greatest_time.specs.Times.{with_max}
use Rattle.base_spec.specs.Bases.{clauses_of}
use Rattle.cli_shell.specs.declared.status.Status.TheVariants as status
use Rattle.cli_shell.specs.declared.input.InputFile.TheVariants as file
use Rattle.cli_shell.specs.Texts.{too_large_line, no_within_line}
use Rattle.proof_shell.specs.Texts.{yes_line, no_line}
use Rattle.cli_shell.specs.Answers.{ReplySeen, one_line, within_limit, and_then, design_in, unless_refused}

-- the design, unless its clauses have so many literals
abbrev pub unless_too_large : Station → Option ℕ → Result Station ReplySeen
unless_too_large d None = Ok d
unless_too_large d (Some literals) = Err (one_line status.DesignRefused too_large_line)

-- a design of which the clauses that a search by the base begins with have at most 16,000,000 literals
abbrev pub with_clauses : BaseKind → ℕ → Station → Result Station ReplySeen
with_clauses kind n d = unless_too_large d (past_limit 16000000 0 (clauses_of kind d (routes_of d) n))

-- the design with the greatest time put in that is given
abbrev pub put_in : Option InTime → Station → Station
put_in None d = d
put_in (Some t) d = with_max d t.within t.max_ms

-- a design that lacks the within that is asked for
abbrev pub lacks_within : Station → Result Station ReplySeen
lacks_within d = Err (one_line status.DesignRefused no_within_line)

-- the design with the greatest time put in that is given; where it has no such within its clauses are asked of first
abbrev pub timed : ℕ → Option InTime → Station → Result Station ReplySeen
timed n None d = Ok d
timed n (Some t) d =
    if nat_le t.within (length d.withins) then Ok (put_in (Some t) d)
    else and_then (with_clauses Plain n d) lacks_within

-- what a proof file shows
abbrev pub reply_for : CheckResult → ReplySeen
reply_for (check_result.Yes k) = one_line status.Done (yes_line k)
reply_for (check_result.No line reason) = one_line status.No (no_line line reason)

-- what the bytes of a proof show of a design
abbrev pub checked_against : Station → ℕ → List ℕ → ReplySeen
checked_against d n bytes = reply_for (judged d n bytes)

-- a design with few clauses for a file: unless its head names the base of live commands, the plain ones are asked of
abbrev pub for_file : ℕ → Station → List ℕ → Result Station ReplySeen
for_file n d text = unless_too_large d (past_plain d n text)

-- the answer to a check of a design, for the bytes of the proof
abbrev pub with_proof : ℕ → Station → List ℕ → ReplySeen
with_proof n d proof_bytes =
    unless_refused (within_limit file.Proof proof_bytes) (λ text.
    unless_refused (for_file n d text) (λ same.
    checked_against d n text))

-- the answer to a check, for the bytes of the design and of the proof: the proof is judged against the design with the
-- greatest time put in that is given
abbrev pub check_reply : ℕ → Option InTime → List ℕ → List ℕ → ReplySeen
check_reply n t design_bytes proof_bytes =
    unless_refused (within_limit file.Design design_bytes) (λ design_text.
    unless_refused (design_in design_text) (λ d.
    unless_refused (timed n t d) (λ e.
    with_proof n e proof_bytes)))
