-- The text of a line.
use Rattle.std.specs.Prelude.{ℕ, Bool, ◌&&◌, List, ◌∷◌, ◌++◌, map, codes, decimal}
use Rattle.std.specs.List.{list_all, join_with_byte}
use Rattle.bound_spec.specs.declared.Evidence.{Evidence}
use Rattle.bound_spec.specs.declared.Evidence.TheVariants as evidence
use Rattle.proof_log.specs.declared.line.Line.{Line}
use Rattle.proof_log.specs.declared.line.Line.TheVariants.{Derive, Refute, Forget}
use Rattle.proof_log.specs.Words.{greatest_variable, greatest_clause_number, is_from_1_to}
use Rattle.proof_log.specs.Parts.{has_member}
use Rattle.proof_log.specs.ConeText.{literal_word, list_words, cone_line_words, keeps_cone}
use Rattle.proof_log.specs.BoundText.{bound_line_words, keeps_bound}
use Rattle.proof_log.specs.Lines.{is_increasing}

-- `r` with a cone, or `b` with a bound
abbrev pub evidence_line_words : Evidence → List (List ℕ)
evidence_line_words (evidence.Cone cone) = codes "r" ∷ cone_line_words cone
evidence_line_words (evidence.Bound bound) = codes "b" ∷ bound_line_words bound

-- `d` with the clause and the hints, `x` with the clauses
abbrev pub words_of_line : Line → List (List ℕ)
words_of_line (Derive clause hints) = codes "d" ∷ (map literal_word clause ++ codes "0" ∷ list_words decimal hints)
words_of_line (Refute e) = evidence_line_words e
words_of_line (Forget clauses) = codes "x" ∷ list_words decimal clauses

-- the words, with a space between each and the next
abbrev pub text_of_line : Line → List ℕ
text_of_line line = join_with_byte 32 (words_of_line line)

abbrev pub keeps_evidence : Evidence → Bool
keeps_evidence (evidence.Cone cone) = keeps_cone cone
keeps_evidence (evidence.Bound bound) = keeps_bound bound

-- a line of the grammar: its variables increase, and no number is too great, or 0 where there has to be one
abbrev pub keeps_grammar : Line → Bool
keeps_grammar (Derive clause hints) =
    is_increasing clause
    && list_all (λ l. is_from_1_to greatest_variable l.var) clause
    && list_all (is_from_1_to greatest_clause_number) hints
keeps_grammar (Refute e) = keeps_evidence e
keeps_grammar (Forget clauses) = has_member clauses && list_all (is_from_1_to greatest_clause_number) clauses
