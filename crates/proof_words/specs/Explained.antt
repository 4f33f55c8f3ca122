-- What a proof file says where it shows that there is no plan, and else its first bad line.
use Rattle.std.specs.Prelude.{ℕ, List, Result, Ok, Err}
use Rattle.log_checker.specs.declared.check_result.CheckResult.{CheckResult}
use Rattle.log_checker.specs.declared.check_result.CheckResult.TheVariants.{Yes, No}
use Rattle.proof_judge.specs.Judged.{judged}
use Rattle.rail_base.specs.declared.station.Station.{Station}
use Rattle.rail_outside.specs.Lines.{lines_of}
use Rattle.proof_words.specs.declared.explaining.Explained.{Explained}
use Rattle.proof_words.specs.declared.explaining.Explained.TheVariants as explained
use Rattle.proof_words.specs.Meanings.{file_sentences}

-- of how many steps no plan is feasible, with the sentences, or what is shown in their place
abbrev pub sentences_or : Explained → Result (ℕ × List (List ℕ)) CheckResult
sentences_or (explained.Sentences k lines) = Ok (k, lines_of lines.items)
sentences_or (explained.Refused shown) = Err shown

-- the sentences about a file that shows that there is no plan of k steps, with k, or what another file shows
abbrev pub sentences_where_yes : List (List ℕ) → CheckResult → Result (ℕ × List (List ℕ)) CheckResult
sentences_where_yes lines (Yes k) = Ok (k, lines)
sentences_where_yes lines (No line reason) = Err (No line reason)

-- what the bytes say of the design for plans of n steps
abbrev pub explained_of : Station → ℕ → List ℕ → Result (ℕ × List (List ℕ)) CheckResult
explained_of d n bytes = sentences_where_yes (file_sentences d bytes) (judged d n bytes)
