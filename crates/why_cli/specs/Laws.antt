-- What the answers have to do with those of a check, and what is answered where nothing is asked for.
use Rattle.std.specs.Prelude.{◌≡◌, ◌≢◌, ℕ, List, [], ◌∷◌, ◌++◌, Ok, Some, None, Option, codes, decimal, drop, length, take}
use Rattle.hex.specs.Hex.{encode_lower}
use Rattle.sha2.specs.Sha256.{sha256}
use Rattle.proof_words.specs.Meanings.{file_sentences}
use Rattle.rail_base.specs.declared.station.Station.{Station}
use Rattle.cli_shell.specs.declared.status.Status.TheVariants.{Done}
use Rattle.cli_shell.specs.declared.input.InputFile.TheVariants as file
use Rattle.cli_shell.specs.Answers.{ReplySeen, design_in, one_line, within_limit}
use Rattle.proof_shell.specs.Answers.{check_reply, put_in}
use Rattle.proof_shell.specs.Texts.{yes_line}
use Rattle.proof_shell.specs.Verdicts.{HasWithin}
use Rattle.rail_words.specs.declared.request.InTime.{InTime}
use Rattle.why_words.specs.Wanted.{wanted_of}
use Rattle.why_cli.specs.Heads.{head_lines}
use Rattle.why_cli.specs.Answers.{explanation_reply, steps_in, usage}
use Rattle.why_cli.specs.Replies.{IsAnswerTo}

-- what a check does not answer with yes is answered as it is there, by the same status and line
abbrev pub RefusesAsCheck : Type 0
RefusesAsCheck = (n : ℕ) (t : Option InTime) (design_bytes proof_bytes : List ℕ)
    → (check_reply n t design_bytes proof_bytes).status ≢ Done
    → explanation_reply (Some n) t design_bytes proof_bytes ≡ check_reply n t design_bytes proof_bytes

-- a check answers `yes steps <k>`, and the answer has status 0, lines about the files and k, and the sentences about the proof's
-- lines
pub record Explains (n : ℕ) (t : Option InTime) (design_bytes proof_bytes : List ℕ) (d : Station) : Type 0 where
  pub steps : ℕ
  pub checked : check_reply n t design_bytes proof_bytes ≡ one_line Done (yes_line steps)
  pub answer : let lines = head_lines t design_bytes proof_bytes steps in
      explanation_reply (Some n) t design_bytes proof_bytes
      ≡ record { status = Done; lines = lines ++ file_sentences (put_in t d) proof_bytes }

-- where a check says yes, so does the answer, and about the same number of steps
abbrev pub ExplainsWhereYes : Type 0
ExplainsWhereYes = (n : ℕ) (t : Option InTime) (design_bytes proof_bytes : List ℕ) (d : Station) → design_in design_bytes ≡ Ok d
    → (check_reply n t design_bytes proof_bytes).status ≡ Done → Explains n t design_bytes proof_bytes d

-- its second and third line say the SHA-256 digest of the bytes of each file, in hexadecimal digits, and how many bytes there are
abbrev pub SaysDigests : Type 0
SaysDigests = (n : ℕ) (t : Option InTime) (design_bytes proof_bytes : List ℕ)
    → (check_reply n t design_bytes proof_bytes).status ≡ Done
    → take 2 (drop 1 (explanation_reply (Some n) t design_bytes proof_bytes).lines)
    ≡ (codes "design sha256 " ++ encode_lower (sha256 design_bytes)
    ++ codes " bytes " ++ decimal (length design_bytes) ++ codes "\n")
    ∷ (codes "proof sha256 " ++ encode_lower (sha256 proof_bytes)
    ++ codes " bytes " ++ decimal (length proof_bytes) ++ codes "\n") ∷ []

-- where no steps are given, and the design has the within into which a time is put, if one is, the answer is that for the steps
-- that the head of the proof names
abbrev pub HeadsNameSteps : Type 0
HeadsNameSteps = (n : ℕ) (t : Option InTime) (design_bytes proof_bytes : List ℕ)
    → within_limit file.Proof proof_bytes ≡ Ok proof_bytes → steps_in proof_bytes ≡ Some n
    → ((d : Station) → design_in design_bytes ≡ Ok d → HasWithin t d)
    → explanation_reply None t design_bytes proof_bytes ≡ explanation_reply (Some n) t design_bytes proof_bytes

-- where it names none, over a design that is admitted and has that within, the answer is how the program is used
abbrev pub NoStepsIsUsage : Type 0
NoStepsIsUsage = (t : Option InTime) (design_bytes proof_bytes : List ℕ) (d : Station)
    → within_limit file.Design design_bytes ≡ Ok design_bytes → design_in design_bytes ≡ Ok d → HasWithin t d
    → within_limit file.Proof proof_bytes ≡ Ok proof_bytes → steps_in proof_bytes ≡ None
    → explanation_reply None t design_bytes proof_bytes ≡ usage

-- words that ask for nothing are answered by how the program is used, whatever the files are
abbrev pub SilenceIsUsage : Type 0
SilenceIsUsage = (design_bytes file_bytes : List ℕ) (words : List (List ℕ)) (a : ReplySeen) → wanted_of words ≡ None
    → IsAnswerTo (wanted_of words) design_bytes file_bytes a → a ≡ usage
