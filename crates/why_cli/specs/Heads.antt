-- The lines in front of the sentences about a proof: of which program they are, about which files, and what these show.
use Rattle.std.specs.Prelude.{ℕ, List, [], ◌∷◌, ◌++◌, length, Option, None, Some, codes, decimal}
use Rattle.hex.specs.Hex.{encode_lower}
use Rattle.sha2.specs.Sha256.{sha256}
use Rattle.rail_words.specs.declared.request.InTime.{InTime}

-- the version of all texts, formats and definitions: another one where any of them means something else
abbrev pub version : List ℕ
version = codes "6"

-- `rcv <version>`
abbrev pub version_line : List ℕ
version_line = codes "rcv " ++ version ++ codes "\n"

-- `<file> sha256 <64 digits> bytes <n>`
abbrev pub file_line : List ℕ → List ℕ → List ℕ
file_line file bytes =
    file ++ codes " sha256 " ++ encode_lower (sha256 bytes) ++ codes " bytes " ++ decimal (length bytes) ++ codes "\n"

-- ` with max_ms 7000 in within 1`, where a greatest time is put in
abbrev pub time_text : Option InTime → List ℕ
time_text None = []
time_text (Some t) = codes " with max_ms " ++ decimal t.max_ms ++ codes " in within " ++ decimal t.within

-- `no plan of at most <k> steps meets the design`, with the greatest time put in that is given
abbrev pub none_line : Option InTime → ℕ → List ℕ
none_line t k = codes "no plan of at most " ++ decimal k ++ codes " steps meets the design" ++ time_text t ++ codes "\n"

-- all of them, for the bytes of a design and of a proof that shows that there is no plan of k steps
abbrev pub head_lines : Option InTime → List ℕ → List ℕ → ℕ → List (List ℕ)
head_lines t design proof k =
    version_line ∷ file_line (codes "design") design ∷ file_line (codes "proof") proof ∷ none_line t k ∷ []
