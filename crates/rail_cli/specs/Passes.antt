-- A proof that a search has stored passes a check.
use Rattle.std.specs.Prelude.{◌≡◌, ◌≢◌, true, ℕ, List, [], ◌∷◌, ◌++◌, codes, Option, None, Some, Ok}
use Rattle.infra_reader.specs.Design.{design_of}
use Rattle.rail_base.specs.declared.station.Station.{Station}
use Rattle.rail_outside.specs.Files.{Files}
use Rattle.rail_spelling.specs.Lines.{flags_of}
use Rattle.rail_words.specs.declared.request.SearchMode.{SearchMode}
use Rattle.rail_words.specs.Laws.{is_plain}
use Rattle.rail_words.specs.Requests.{check, request_of, steps_of, conflicts_of, ticks_of}
use Rattle.cli_shell.specs.declared.status.Status.TheVariants.{Done}
use Rattle.proof_shell.specs.Texts.{yes_line}
use Rattle.cli_shell.specs.Answers.{one_line}
use Rattle.rail_cli.specs.Answers.{answer_of}
use Rattle.rail_cli.specs.Ended.{Ended}
use Rattle.rail_cli.specs.Searches.{Searches, ReportsNone}

-- the answer `yes steps <n>`
abbrev pub Passes : Files → Ended → ℕ → List (List ℕ) → Type 0
Passes files found n words = answer_of files found words ≡ one_line Done (yes_line n)

-- where a search has found that there is no plan of n steps and has left these files, all words that ask for a check of n steps with the same two names pass
abbrev pub StoredProofsPass : Type 0
StoredProofsPass = (files left : Files) (design proof : List ℕ) (n : ℕ) (d : Station) (old new : Option (List ℕ))
    → ReportsNone files design proof n d old new (Some left) → design ≢ proof
    → (found : Ended) (words : List (List ℕ)) → request_of words ≡ Some (check n None design proof)
    → Passes left found n words

-- `verify --steps N --conflicts C --ticks T [--normal | --bounds [--any]] DESIGN PROOF`, after the program's name
abbrev pub verify_words : List ℕ → List ℕ → List ℕ → List ℕ → SearchMode → List ℕ → List ℕ → List (List ℕ)
verify_words program steps conflicts ticks mode design proof =
    program ∷ codes "verify" ∷ codes "--steps" ∷ steps ∷ codes "--conflicts" ∷ conflicts
    ∷ codes "--ticks" ∷ ticks ∷ (flags_of mode ++ design ∷ proof ∷ [])

-- `check --steps N DESIGN PROOF`, after the program's name
abbrev pub check_words : List ℕ → List ℕ → List ℕ → List ℕ → List (List ℕ)
check_words program steps design proof = program ∷ codes "check" ∷ codes "--steps" ∷ steps ∷ design ∷ proof ∷ []

-- where the words of `verify`, with whatever flags, have said that there is no plan and have left these files, the words of `check` with the same N, DESIGN and PROOF pass; the numbers are in range, and the names differ and are plain
abbrev pub VerifyPassesCheck : Type 0
VerifyPassesCheck =
    (files left : Files) (program steps conflicts ticks design proof : List ℕ) (mode : SearchMode) (n c t : ℕ) (d : Station)
    → (old new : Option (List ℕ))
    → steps_of steps ≡ Some n → conflicts_of conflicts ≡ Some c → ticks_of ticks ≡ Some t
    → is_plain design ≡ true → is_plain proof ≡ true → design ≢ proof → design_of (files design) ≡ Ok d
    → ((s : Searches files (verify_words program steps conflicts ticks mode design proof) n d)
    → ReportsNone files s.design_name s.proof_name n d old new (Some left))
    → (found : Ended) → Passes left found n (check_words program steps design proof)
