-- The lines that are printed of a proof, each with its LF.
use Rattle.std.specs.Prelude.{ℕ, List, ◌++◌, codes, decimal}
use Rattle.log_checker.specs.declared.check_result.Reason.{Reason}
use Rattle.log_checker.specs.Words.{reason_words}

-- `yes steps <k>`
abbrev pub yes_line : ℕ → List ℕ
yes_line k = codes "yes steps " ++ decimal k ++ codes "\n"

-- `no line <number> <reason>`
abbrev pub no_line : ℕ → Reason → List ℕ
no_line line reason = codes "no line " ++ decimal line ++ codes " " ++ reason_words reason ++ codes "\n"
