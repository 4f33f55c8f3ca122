-- The answer for a design and a proof: where a check of these files says yes, lines about the files and the number of steps and the
-- sentences about the proof's lines, and else what the check answers.
use Rattle.std.specs.Prelude.{ℕ, ◌&&◌, nat_le, if◌then◌else◌, List, ◌++◌, codes}
use Rattle.std.specs.Prelude.{Option, Some, None, Result, Ok, Err}
use Rattle.log_checker.specs.declared.check_result.CheckResult.{CheckResult}
use Rattle.log_checker.specs.Verdict.{head_in}
use Rattle.proof_log.specs.declared.head.Head.{Head}
use Rattle.proof_log.specs.declared.head.Head.TheVariants.{Unnamed, Of}
use Rattle.proof_words.specs.Explained.{explained_of}
use Rattle.rail_base.specs.declared.station.Station.{Station}
use Rattle.cli_shell.specs.declared.status.Status.TheVariants.{Done, Usage}
use Rattle.cli_shell.specs.declared.input.InputFile.TheVariants as file
use Rattle.cli_shell.specs.Answers.{ReplySeen, one_line, within_limit, and_then, design_in, with_within, unless_refused}
use Rattle.proof_shell.specs.Answers.{for_file, put_in, reply_for, timed}
use Rattle.rail_text.specs.Pieces.{pieces}
use Rattle.rail_words.specs.declared.request.InTime.{InTime}
use Rattle.why_cli.specs.Heads.{head_lines}

-- how the program is used
abbrev pub usage_line : List ℕ
usage_line = codes "usage: rcv_why [--within W --max-ms X] [--steps N] DESIGN [PROOF or PLAN]\n"

-- the answer to words that ask for nothing, or for no number of steps
abbrev pub usage : ReplySeen
usage = one_line Usage usage_line

-- ---- what the text of a proof says of a design

-- the lines about the two files and the number of steps, and then the sentences, or what is shown in their place
abbrev pub sentences_or_shown : Option InTime → List ℕ → List ℕ → Result (ℕ × List (List ℕ)) CheckResult → ReplySeen
sentences_or_shown t design proof (Ok said) = record { status = Done; lines = head_lines t design proof said.0 ++ said.1 }
sentences_or_shown t design proof (Err shown) = reply_for shown

-- for plans of n steps, where the design is that of these bytes with the greatest time put in that is given
abbrev pub explained_against : Option InTime → List ℕ → Station → ℕ → List ℕ → ReplySeen
explained_against t design d n text = sentences_or_shown t design text (explained_of d n text)

-- the same, where the design has few clauses for the file
abbrev pub text_explained : Option InTime → List ℕ → ℕ → Station → List ℕ → ReplySeen
text_explained t design n d text = unless_refused (for_file n d text) (λ same. explained_against t design d n text)

-- ---- how many steps

-- a number of steps, where it is from 1 to 256
abbrev pub if_in_range : ℕ → Option ℕ
if_in_range n = if nat_le 1 n && nat_le n 256 then Some n else None

-- the number of steps that a head names, from 1 to 256
abbrev pub steps_named : Option Head → Option ℕ
steps_named None = None
steps_named (Some Unnamed) = None
steps_named (Some (Of question)) = if_in_range question.steps

-- that which the head of the proof names
abbrev pub steps_in : List ℕ → Option ℕ
steps_in text = steps_named (head_in (pieces text))

-- that which is given, or else that which the head of the proof names
abbrev pub steps_for : Option ℕ → List ℕ → Option ℕ
steps_for (Some n) text = Some n
steps_for None text = steps_in text

-- ---- the design

-- the design with the greatest time put in that is given; where it has no such within it is refused for that
abbrev pub with_time : Option InTime → Station → Result Station ReplySeen
with_time None d = Ok d
with_time (Some t) d = and_then (with_within t.within d) (λ same. Ok (put_in (Some t) same))

-- the same, where steps are given: as a check of so many steps does it
abbrev pub timed_for : Option ℕ → Option InTime → Station → Result Station ReplySeen
timed_for (Some n) t d = timed n t d
timed_for None t d = with_time t d

-- that of a text
abbrev pub design_for : Option ℕ → Option InTime → List ℕ → Result Station ReplySeen
design_for steps t text = and_then (design_in text) (timed_for steps t)

-- ---- answers

-- the answer for the text of a proof and as many steps as are named, if any are
abbrev pub explained_where : Option InTime → List ℕ → Option ℕ → Station → List ℕ → ReplySeen
explained_where t design (Some n) d text = text_explained t design n d text
explained_where t design None d text = usage

-- the answer for a design and the steps that are given, or else as many as the head of the proof names, for the bytes
-- of the proof
abbrev pub proof_for : Option InTime → List ℕ → Option ℕ → Station → List ℕ → ReplySeen
proof_for t design steps d proof_bytes =
    unless_refused (within_limit file.Proof proof_bytes) (λ text. explained_where t design (steps_for steps text) d text)

-- the same, for the bytes of the design and of the proof: of the design with the greatest time put in that is given
abbrev pub explanation_reply : Option ℕ → Option InTime → List ℕ → List ℕ → ReplySeen
explanation_reply steps t design_bytes proof_bytes =
    unless_refused (within_limit file.Design design_bytes) (λ design_text.
    unless_refused (design_for steps t design_text) (λ d.
    proof_for t design_text steps d proof_bytes))
