-- The answers to what is wanted, for the files that are held, and what a run prints of them.
use Rattle.std.specs.Prelude.{◌≡◌, ℕ, Bool, true, false, List, [], Option, Some, None}
use Rattle.named_files.specs.Replies.{Answers, asks_for}
use Rattle.named_files.specs.Reports.{PrintsFor, Reports}
use Rattle.rail_base.specs.declared.station.Station.{Station}
use Rattle.cli_shell.specs.declared.input.InputFile.TheVariants as file
use Rattle.cli_shell.specs.declared.status.Status.{Status}
use Rattle.cli_shell.specs.Answers.{ReplySeen, within_limit}
use Rattle.rail_outside.specs.Asks.{Ask}
use Rattle.rail_outside.specs.Files.{Files}
use Rattle.rail_words.specs.Words.{texts_of}
use Rattle.rail_words.specs.declared.request.InTime.{InTime}
use Rattle.why_words.specs.Wanted.{Wanted, check_words, wanted_of, words_with_proof}
use Rattle.why_cli.specs.declared.run.CheckWords.{CheckWords}
use Rattle.why_cli.specs.Answers.{design_for, proof_for, usage}
use Rattle.why_cli.specs.Designs.{IsDesignAnswer}
use Rattle.why_cli.specs.Plans.{IsPlanFileAnswer, is_plan}

-- ---- answers

-- for the bytes of a file that is a plan, or a proof
abbrev pub IsOfKind : Bool → Option InTime → List ℕ → Option ℕ → Station → List ℕ → ReplySeen → Type 0
IsOfKind true t design steps d bytes a = IsPlanFileAnswer d bytes a
IsOfKind false t design steps d bytes a = a ≡ proof_for t design steps d bytes

-- by its bytes
abbrev pub IsFileAnswer : Option InTime → List ℕ → Option ℕ → Station → List ℕ → ReplySeen → Type 0
IsFileAnswer t design steps d bytes a = IsOfKind (is_plan bytes) t design steps d bytes a

-- for the text of a design, with the greatest time put in that is given, and the bytes of a file
abbrev pub IsTextAnswer : Option ℕ → Option InTime → List ℕ → List ℕ → ReplySeen → Type 0
IsTextAnswer steps t text bytes a = Answers (design_for steps t text) (λ d. IsFileAnswer t text steps d bytes) a

-- for the bytes of a design and of a file
abbrev pub IsBothAnswer : Option ℕ → Option InTime → List ℕ → List ℕ → ReplySeen → Type 0
IsBothAnswer steps t design_bytes bytes a =
    Answers (within_limit file.Design design_bytes) (λ text. IsTextAnswer steps t text bytes) a

-- the answer is one on a design alone, into which no time is put, or on a design and a file
abbrev pub IsAnswerOf : Option ℕ → Option InTime → Option (List ℕ) → List ℕ → List ℕ → ReplySeen → Type 0
IsAnswerOf steps t None design_bytes bytes a = IsDesignAnswer steps design_bytes a
IsAnswerOf steps t (Some name) design_bytes bytes a = IsBothAnswer steps t design_bytes bytes a

-- the answer is one to what is wanted, which may be nothing
abbrev pub IsAnswerTo : Option Wanted → List ℕ → List ℕ → ReplySeen → Type 0
IsAnswerTo None design_bytes bytes a = a ≡ usage
IsAnswerTo (Some w) design_bytes bytes a = IsAnswerOf w.steps w.in_time w.file design_bytes bytes a

-- ---- files

-- the name of the design, and of the other file, where there is one
abbrev pub design_name : Option Wanted → Option (List ℕ)
design_name None = None
design_name (Some w) = Some w.design

abbrev pub file_name : Option Wanted → Option (List ℕ)
file_name None = None
file_name (Some w) = w.file

-- the calls of the shelf, in order
abbrev pub asks_to : Option Wanted → List Ask
asks_to wanted = asks_for (design_name wanted) (file_name wanted)

-- the calls for the words of a command line
abbrev pub asks_of : List (List ℕ) → List Ask
asks_of words = asks_to (wanted_of words)

-- ---- what is printed

-- an answer to what is wanted, for some bytes of the files; where the shelf's files are known, they are theirs
abbrev pub PrintsAnswer : Option Files → Option Wanted → Status → Option (List ℕ) → Option (List ℕ)
    → Option (List (List ℕ)) → Option (List (List ℕ)) → Type 0
PrintsAnswer known wanted s text new_text pieces new_pieces =
    PrintsFor known (design_name wanted) (file_name wanted) (IsAnswerTo wanted) s text new_text pieces new_pieces

-- how the program is used is printed, unless memory was wanting
abbrev pub PrintsUsage : Status → Option (List ℕ) → Option (List ℕ) → Option (List (List ℕ)) → Option (List (List ℕ)) → Type 0
PrintsUsage s text new_text pieces new_pieces = Reports (λ a. a ≡ usage) [] s text new_text pieces new_pieces

-- the words with `check`, by themselves and with a proof behind
pub record AreCheckWords (words : List (List ℕ)) (both : CheckWords) : Type 0 where
  pub alone : texts_of both.alone.items ≡ check_words words
  pub with_proof : texts_of both.with_proof.items ≡ words_with_proof words
