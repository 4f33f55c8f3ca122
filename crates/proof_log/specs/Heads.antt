-- The first line of a file.
use Rattle.std.specs.Prelude.{ℕ, Bool, true, ◌&&◌, List, [], ◌∷◌, Option, Some, None, codes, decimal, if◌then◌else◌}
use Rattle.std.specs.List.{join_with_byte}
use Rattle.std.specs.Str.{bytes_eq}
use Rattle.clause_spec.specs.declared.question.BaseKind.{BaseKind}
use Rattle.clause_spec.specs.declared.question.BaseKind.TheVariants.{Plain, Sorted, Normal, Live}
use Rattle.clause_spec.specs.declared.question.Turns.TheVariants.{All, Beside}
use Rattle.proof_log.specs.declared.head.Head.{Head}
use Rattle.proof_log.specs.declared.head.Head.TheVariants.{Unnamed, Of}
use Rattle.proof_log.specs.Words.{line_words, is_plain}
use Rattle.proof_log.specs.Parts.{made, three_plain_numbers, two_plain_numbers}
use Rattle.proof_log.specs.Lines.{if_all}

-- the version of a file that names a base
abbrev pub base_word : BaseKind → List ℕ
base_word Plain = codes "2"
base_word Sorted = codes "4"
base_word Normal = codes "3"
base_word (Live All) = codes "5"
base_word (Live (Beside w)) = codes "6"

-- the number of the within that it names
abbrev pub within_words : BaseKind → List (List ℕ)
within_words (Live (Beside w)) = decimal w ∷ []
within_words _ = []

-- `rcvlog` and the version of the file; for a question also the version of the design, the number of steps, and that of
-- a within where trains come in turn beside it
abbrev pub head_words : Head → List (List ℕ)
head_words Unnamed = codes "rcvlog" ∷ codes "1" ∷ []
head_words (Of q) = codes "rcvlog" ∷ base_word q.base ∷ decimal q.version ∷ decimal q.steps ∷ within_words q.base

-- the base whose clauses a file with this head speaks of
abbrev pub base_of : Head → BaseKind
base_of Unnamed = Plain
base_of (Of q) = q.base

-- the words, with a space between each and the next
abbrev pub head_text : Head → List ℕ
head_text h = join_with_byte 32 (head_words h)

-- the number of the within that it names has no more than 18 digits
abbrev pub keeps_within : BaseKind → Bool
keeps_within (Live (Beside w)) = is_plain w
keeps_within _ = true

-- no number has more than 18 digits
abbrev pub keeps_head : Head → Bool
keeps_head Unnamed = true
keeps_head (Of q) = is_plain q.version && is_plain q.steps && keeps_within q.base

-- the base that the version of a file names alone
abbrev pub base_of_word : List ℕ → Option BaseKind
base_of_word word =
    if bytes_eq word (codes "2") then Some Plain
    else if bytes_eq word (codes "4") then Some Sorted
    else if bytes_eq word (codes "3") then Some Normal
    else if bytes_eq word (codes "5") then Some (Live All)
    else None

-- the head of a question by a base, by the two numbers
abbrev pub asked_by : BaseKind → ℕ × ℕ → Head
asked_by base numbers = Of (record { version = numbers.0; steps = numbers.1; base = base })

-- the head of a question by a base, by the words after it
abbrev pub head_of_question : Option BaseKind → List (List ℕ) → Option Head
head_of_question None words = None
head_of_question (Some base) words = if_all (made (asked_by base) (two_plain_numbers words))

-- the head of a question of trains beside a within, by the three numbers
abbrev pub asked_beside : (ℕ × ℕ) × ℕ → Head
asked_beside numbers = asked_by (Live (Beside numbers.1)) numbers.0

-- the head of such a question, by the words after the version of the file
abbrev pub head_beside : List (List ℕ) → Option Head
head_beside words = if_all (made asked_beside (three_plain_numbers words))

-- the head of a version of the file, by the words after it
abbrev pub head_of_version : List ℕ → List (List ℕ) → Option Head
head_of_version version words =
    if bytes_eq version (codes "1") then if_all (Some (Unnamed, words))
    else if bytes_eq version (codes "6") then head_beside words
    else head_of_question (base_of_word version) words

-- the head by the words after the first
abbrev pub head_after : List (List ℕ) → Option Head
head_after [] = None
head_after (version ∷ more) = head_of_version version more

-- the head that words spell
abbrev pub head_of_words : List (List ℕ) → Option Head
head_of_words [] = None
head_of_words (name ∷ more) = if bytes_eq name (codes "rcvlog") then head_after more else None

-- the head that bytes spell
abbrev pub head_of : List ℕ → Option Head
head_of bytes = head_of_words (line_words bytes)
