-- What is said of a design alone.
use Rattle.std.specs.Prelude.{◌≡◌, ℕ, List, ◌∷◌, ◌++◌, length, Option, None, Some, Result, Ok, Err}
use Rattle.asked_words.specs.Asked.{asked_lines}
use Rattle.design_table.specs.declared.fault.Code.{Code}
use Rattle.design_table.specs.declared.place.Place.{Place}
use Rattle.design_table.specs.Toml.{toml_of}
use Rattle.infra_reader.specs.Design.{design_of}
use Rattle.limit_words.specs.Lines.{AreLimitLines}
use Rattle.look_words.specs.Ends.{dead_ends}
use Rattle.look_words.specs.Entries.{open_entries}
use Rattle.look_words.specs.Looks.{looks}
use Rattle.look_words.specs.Sections.{slipped_sections}
use Rattle.named_files.specs.Replies.{Answers}
use Rattle.clause_spec.specs.declared.question.BaseKind.TheVariants.{Plain}
use Rattle.rail_base.specs.declared.station.Station.{Station}
use Rattle.cli_shell.specs.declared.status.Status.TheVariants.{DesignRefused, Done}
use Rattle.cli_shell.specs.declared.input.InputFile.TheVariants as file
use Rattle.cli_shell.specs.Answers.{ReplySeen, and_then, with_routes, within_limit}
use Rattle.proof_shell.specs.Answers.{with_clauses}
use Rattle.cli_shell.specs.Texts.{design_refused_line}
use Rattle.rail_spec.specs.Track.{routes_of}
use Rattle.refused_words.specs.Faults.{IsFaultSaid}
use Rattle.time_words.specs.Times.{AreLeastLines}
use Rattle.way_words.specs.Ways.{AreWayLines}

-- a design that is refused: that line, where its fault stands, and what is wrong there
pub record IsRefusalSaid (text : List ℕ) (code : Code) (place : Place) (a : ReplySeen) : Type 0 where
  pub status : a.status ≡ DesignRefused
  pub more : List (List ℕ)
  pub is_said : IsFaultSaid text (toml_of text) code place more
  pub lines : a.lines ≡ design_refused_line code place ∷ more

-- what a designer should look at
abbrev pub looks_at : Station → List (List ℕ)
looks_at d =
    looks d ++ (dead_ends d (routes_of d) ++ (open_entries d (routes_of d) ++ slipped_sections d))

-- a design that is not: what it asks for, what the ways of its trains say, how quick they are alone, and what to look at
pub record IsDesignSaid (d : Station) (a : ReplySeen) : Type 0 where
  pub status : a.status ≡ Done
  pub ways : List (List ℕ)
  pub are_ways : AreWayLines d (routes_of d) ways
  pub times : List (List ℕ)
  pub are_times : AreLeastLines d (routes_of d) times
  pub lines : a.lines ≡ asked_lines d (length (routes_of d)) ++ (ways ++ (times ++ looks_at d))

-- a design whose clauses are too many for n steps: that line, and how many steps can be asked for
pub record IsTooLargeSaid (n : ℕ) (d : Station) (refusal a : ReplySeen) : Type 0 where
  pub status : a.status ≡ refusal.status
  pub more : List (List ℕ)
  pub are_limits : AreLimitLines d (routes_of d) n more
  pub lines : a.lines ≡ refusal.lines ++ more

-- a design whose clauses for n steps are few, or that is refused for them
abbrev pub IsClausesSaid : ℕ → Station → Result Station ReplySeen → ReplySeen → Type 0
IsClausesSaid n d (Ok same) a = IsDesignSaid d a
IsClausesSaid n d (Err refusal) a = IsTooLargeSaid n d refusal a

-- where steps are given, their clauses have to be few
abbrev pub IsSaidForSteps : Option ℕ → Station → ReplySeen → Type 0
IsSaidForSteps None d a = IsDesignSaid d a
IsSaidForSteps (Some n) d a = IsClausesSaid n d (with_clauses Plain n d) a

-- a design that was read, or its refusal
abbrev pub IsReadSaid : Option ℕ → List ℕ → Result Station (Code × Place) → ReplySeen → Type 0
IsReadSaid steps text (Ok d) a = IsSaidForSteps steps d a
IsReadSaid steps text (Err refusal) a = IsRefusalSaid text refusal.0 refusal.1 a

-- the design of a text
abbrev pub IsTextSaid : Option ℕ → List ℕ → ReplySeen → Type 0
IsTextSaid steps text a = IsReadSaid steps text (and_then (design_of text) with_routes) a

-- that in the bytes of a file
abbrev pub IsDesignAnswer : Option ℕ → List ℕ → ReplySeen → Type 0
IsDesignAnswer steps bytes a = Answers (within_limit file.Design bytes) (IsTextSaid steps) a
