-- The text of a line is read as that line.
use Rattle.std.proofs.Common.{◌≡◌, ℕ, true, ◌&&◌, List, [], ◌∷◌, ◌++◌, map, codes, decimal, Some, refl, sym, ap, ◌∙◌, lit<, append-nil}
use Rattle.std.specs.List.{list_all}
use Rattle.rail_text.specs.Laws.{NumbersReadBack}
use Rattle.bound_spec.specs.declared.Evidence.TheVariants as evidence
use Rattle.proof_log.specs.declared.line.Line.{Line}
use Rattle.proof_log.specs.declared.line.Line.TheVariants.{Derive, Refute, Forget}
use Rattle.proof_log.specs.Words.{greatest_variable, greatest_clause_number, is_from_1_to, line_words, literal_of, clause_number_of, members_of}
use Rattle.proof_log.specs.Parts.{has_member}
use Rattle.proof_log.specs.Lines.{is_increasing, line_of_words, line_in_bytes}
use Rattle.proof_log.specs.ConeText.{literal_word, list_words, cone_line_words}
use Rattle.proof_log.specs.BoundText.{bound_line_words}
use Rattle.proof_log.specs.Text.{words_of_line, text_of_line, keeps_grammar}
use Rattle.proof_log.proofs.Back.{clause_number-back, literal-back, members-found, members-back, cone-read}
use Rattle.proof_log.proofs.Back.{spaceless, split-back, decimal-spaceless, literal-spaceless, all-spaceless, list-spaceless, append-spaceless, cone-spaceless}
use Rattle.proof_log.proofs.BoundsBack.{bound-read, bound-spaceless}
use Rattle.sat_clause.proofs.Sound.{both}

clauses-back : NumbersReadBack → (clauses : List ℕ) → list_all (is_from_1_to greatest_clause_number) clauses ≡ true → members_of clause_number_of (list_words decimal clauses) ≡ Some (clauses, [])
clauses-back back clauses h =
    ap (members_of clause_number_of) (sym (append-nil (list_words decimal clauses))) ∙ members-back clause_number_of decimal (is_from_1_to greatest_clause_number) refl (clause_number-back back) clauses [] h

words-back : NumbersReadBack → (line : Line) → keeps_grammar line ≡ true → line_of_words (words_of_line line) ≡ Some line
words-back back (Derive clause hints) h =
    let p = both (is_increasing clause && list_all (λ l. is_from_1_to greatest_variable l.var) clause) (list_all (is_from_1_to greatest_clause_number) hints) h in
    let q = both (is_increasing clause) (list_all (λ l. is_from_1_to greatest_variable l.var) clause) p.0 in
    let literals : members_of literal_of (map literal_word clause ++ codes "0" ∷ list_words decimal hints) ≡ Some (clause, list_words decimal hints) =
    members-found literal_of literal_word (λ l. is_from_1_to greatest_variable l.var) refl (literal-back back) clause (list_words decimal hints) q.1 in
    let numbers : members_of clause_number_of (list_words decimal hints) ≡ Some (hints, []) = clauses-back back hints p.1 in
    rw literals (rw q.0 (rw numbers refl))
words-back back (Refute (evidence.Cone k)) h = rw (cone-read back k h) refl
words-back back (Refute (evidence.Bound b)) h = rw (bound-read back b h) refl
words-back back (Forget clauses) h =
    let p = both (has_member clauses) (list_all (is_from_1_to greatest_clause_number) clauses) h in
    rw (clauses-back back clauses p.1) (rw p.0 refl)

clauses-spaceless : (clauses : List ℕ) → list_all (is_from_1_to greatest_clause_number) clauses ≡ true → list_all spaceless (list_words decimal clauses) ≡ true
clauses-spaceless clauses h = list-spaceless decimal (is_from_1_to greatest_clause_number) (λ n g. decimal-spaceless greatest_clause_number n (lit< tt) g) clauses h

split-line : (line : Line) → keeps_grammar line ≡ true → line_words (text_of_line line) ≡ words_of_line line
split-line (Derive clause hints) h =
    let p = both (is_increasing clause && list_all (λ l. is_from_1_to greatest_variable l.var) clause) (list_all (is_from_1_to greatest_clause_number) hints) h in
    let q = both (is_increasing clause) (list_all (λ l. is_from_1_to greatest_variable l.var) clause) p.0 in
    let literals : list_all spaceless (map literal_word clause) ≡ true = all-spaceless literal_word (λ l. is_from_1_to greatest_variable l.var) (λ l g. literal-spaceless l.var l.negated g) clause q.1 in
    split-back (codes "d") _ refl (append-spaceless (map literal_word clause) (codes "0" ∷ list_words decimal hints) literals (clauses-spaceless hints p.1))
split-line (Refute (evidence.Cone k)) h = split-back (codes "r") (cone_line_words k) refl (cone-spaceless k h)
split-line (Refute (evidence.Bound b)) h = split-back (codes "b") (bound_line_words b) refl (bound-spaceless b h)
split-line (Forget clauses) h =
    split-back (codes "x") (list_words decimal clauses) refl (clauses-spaceless clauses (both (has_member clauses) (list_all (is_from_1_to greatest_clause_number) clauses) h).1)

pub read-back : NumbersReadBack → (line : Line) → keeps_grammar line ≡ true → line_in_bytes (text_of_line line) ≡ Some line
read-back back line h = ap line_of_words (split-line line h) ∙ words-back back line h
