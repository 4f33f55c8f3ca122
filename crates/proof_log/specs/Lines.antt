-- The lines of a proof file.
use Rattle.std.specs.Prelude.{ℕ, Bool, List, [], ◌∷◌, drop, nat_lt, Option, Some, None, codes, if◌then◌else◌}
use Rattle.std.specs.List.{list_all, zip}
use Rattle.std.specs.Str.{bytes_eq}
use Rattle.sat_clause.specs.declared.lit.Lit.{Lit}
use Rattle.cone_spec.specs.declared.Cone.{Cone}
use Rattle.bound_spec.specs.declared.Bound.{Bound}
use Rattle.bound_spec.specs.declared.Evidence.TheVariants as evidence
use Rattle.proof_log.specs.declared.line.Line.{Line}
use Rattle.proof_log.specs.declared.line.Line.TheVariants.{Derive, Refute, Forget}
use Rattle.proof_log.specs.Words.{line_words, literal_of, clause_number_of, members_of}
use Rattle.proof_log.specs.Parts.{WithRest, made, with_next, if_any, cone}
use Rattle.proof_log.specs.Bounds.{bound}

-- each variable is below the next one
abbrev pub is_increasing : List Lit → Bool
is_increasing clause = list_all (λ pair. nat_lt pair.0.var pair.1.var) (zip clause (drop 1 clause))

-- a clause that was found, where its variables increase
abbrev pub if_increasing : {W : Type 0} → Option (List Lit × W) → Option (List Lit × W)
if_increasing None = None
if_increasing (Some found) = if is_increasing found.0 then Some found else None

-- the literals of a clause, `0`, the numbers of the hinted clauses, `0`
abbrev pub derivation : WithRest (List Lit × List ℕ)
derivation words = with_next (if_increasing (members_of literal_of words)) (members_of clause_number_of)

-- the numbers of clauses, one or more, and `0`
abbrev pub clause_numbers : WithRest (List ℕ)
clause_numbers words = if_any (members_of clause_number_of words)

-- what is found where no word is left after it
abbrev pub if_all : {X W : Type 0} → Option (X × List W) → Option X
if_all None = None
if_all (Some (found, [])) = Some found
if_all (Some (found, word ∷ more)) = None

-- the line of a clause with its hints, by both
abbrev pub derive_by : List Lit × List ℕ → Line
derive_by parts = Derive parts.0 parts.1

-- the line of a cone
abbrev pub refute_by_cone : Cone → Line
refute_by_cone cone = Refute (evidence.Cone cone)

-- the line of a bound
abbrev pub refute_by_bound : Bound → Line
refute_by_bound bound = Refute (evidence.Bound bound)

-- the line of a kind: `d` with a derivation, `r` with a cone, `b` with a bound, `x` with numbers of clauses
abbrev pub line_of_kind : List ℕ → List (List ℕ) → Option Line
line_of_kind kind words =
    if bytes_eq kind (codes "d") then if_all (made derive_by (derivation words))
    else if bytes_eq kind (codes "r") then if_all (made refute_by_cone (cone words))
    else if bytes_eq kind (codes "b") then if_all (made refute_by_bound (bound words))
    else if bytes_eq kind (codes "x") then if_all (made Forget (clause_numbers words))
    else None

-- the line that words spell
abbrev pub line_of_words : List (List ℕ) → Option Line
line_of_words [] = None
line_of_words (kind ∷ more) = line_of_kind kind more

-- the line in bytes
abbrev pub line_in_bytes : List ℕ → Option Line
line_in_bytes bytes = line_of_words (line_words bytes)
