-- Runs that say yes, and what they say.
use Rattle.std.specs.Prelude.{◌≡◌, ℕ, ◌≤◌, false, List, ◌++◌, length, Option, Some, None, Ok}
use Rattle.std.specs.List.{concat}
use Rattle.infra_reader.specs.Design.{design_of}
use Rattle.proof_words.specs.Denied.{EachLineDenies}
use Rattle.proof_words.specs.Meanings.{file_sentences}
use Rattle.rail_base.specs.declared.station.Station.{Station}
use Rattle.cli_shell.specs.declared.input.InputFile.TheVariants as file
use Rattle.cli_shell.specs.declared.status.Status.{Status}
use Rattle.cli_shell.specs.declared.status.Status.TheVariants.{Done, Usage}
use Rattle.cli_shell.specs.Answers.{one_line}
use Rattle.proof_shell.specs.Answers.{check_reply, put_in}
use Rattle.cli_shell.specs.Texts.{limit_of}
use Rattle.proof_shell.specs.Texts.{yes_line}
use Rattle.cli_shell.specs.Verdicts.{IsDesignText}
use Rattle.proof_shell.specs.Verdicts.{HasFewFor, HasWithin}
use Rattle.rail_outside.specs.Files.{Files}
use Rattle.rail_outside.specs.Growth.{grown}
use Rattle.rail_spec.specs.Feasible.{IsInfeasible}
use Rattle.why_words.specs.Wanted.{Wanted, wanted_of}
use Rattle.why_cli.specs.Heads.{head_lines}
use Rattle.why_cli.specs.Answers.{steps_for}
use Rattle.why_cli.specs.Plans.{is_plan}

-- the words ask for the sentences about a proof, whose file is no plan, and the design's file spells this design
pub record Explains (files : Files) (words : List (List ℕ)) (d : Station) : Type 0 where
  pub wanted : Wanted
  pub asked : wanted_of words ≡ Some wanted
  pub proof : List ℕ
  pub proof_named : wanted.file ≡ Some proof
  pub no_plan : is_plan (files proof) ≡ false
  pub parses_design : design_of (files wanted.design) ≡ Ok d

-- what is printed are lines about the two files and a number of steps, and the sentences about the lines of the proof. It is the
-- number that a check of the files prints, for as many steps as are given or as the head of the proof names, and no plan of so
-- many steps is feasible. And each line of the proof that has sentences stands for a law about the design: a plan of which all that
-- they say is so is not feasible. All of this is so of the design with the greatest time put in that is given
pub record ExplainsProof (files : Files) (w : Wanted) (proof : List ℕ) (d : Station) (old new : Option (List ℕ)) : Type 0 where
  pub most : ℕ
  pub are_most : steps_for w.steps (files proof) ≡ Some most
  pub steps : ℕ
  pub has_within : HasWithin w.in_time d
  pub within : steps ≤ most
  pub is_checked : check_reply most w.in_time (files w.design) (files proof) ≡ one_line Done (yes_line steps)
  pub text : let lines = head_lines w.in_time (files w.design) (files proof) steps in
      new ≡ grown old (concat (lines ++ file_sentences (put_in w.in_time d) (files proof)))
  pub none : IsInfeasible (put_in w.in_time d) steps
  pub denies : EachLineDenies (put_in w.in_time d) (files proof)

-- they ask for nothing, or give no number of steps
abbrev pub GivesNoSteps : Option Wanted → Type 0
GivesNoSteps None = Unit {0}
GivesNoSteps (Some w) = w.steps ≡ None

-- words that ask for nothing are answered by how the program is used, and but for them only words that give no number of steps
pub record IsUsageFor (wanted : Option Wanted) (s : Status) : Type 0 where
  pub silence : wanted ≡ None → s ≡ Usage
  pub cause : s ≡ Usage → GivesNoSteps wanted

-- the words ask for that of a proof, and nothing is refused: the files are within their limits, one spells a design, the steps are
-- given or named by the head of the proof, and the design has the within into which a time is put, if one is, and so few clauses for it
pub record IsUnrefused (files : Files) (words : List (List ℕ)) : Type 0 where
  pub wanted : Wanted
  pub asked : wanted_of words ≡ Some wanted
  pub proof : List ℕ
  pub proof_named : wanted.file ≡ Some proof
  pub no_plan : is_plan (files proof) ≡ false
  pub design : Station
  pub parses_design : IsDesignText (files wanted.design) design
  pub within_limit : length (files proof) ≤ limit_of file.Proof
  pub steps : ℕ
  pub are_steps : steps_for wanted.steps (files proof) ≡ Some steps
  pub has_within : HasWithin wanted.in_time design
  pub has_few_clauses : HasFewFor (put_in wanted.in_time design) steps (files proof)
