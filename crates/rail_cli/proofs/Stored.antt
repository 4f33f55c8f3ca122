-- Checks of proofs that a search has stored.
use Rattle.std.proofs.Common.{◌≡◌, ◌≢◌, true, ℕ, List, None, Some, bytes_eq, refl, ap, sym, ◌∙◌}
use Rattle.std.proofs.lemmas.Bool.{false_from_ne_true}
use Rattle.std.proofs.lemmas.Slice.Eq.{bytes_eq-Decides}
use Rattle.rail_outside.specs.Files.{Files, updated}
use Rattle.rail_words.specs.declared.request.SearchMode.{SearchMode}
use Rattle.rail_words.specs.declared.request.SearchMode.TheVariants.{Plain, Bounds, Any, Normal}
use Rattle.rail_words.specs.Laws.{is_plain}
use Rattle.rail_words.specs.Requests.{verify, request_of, steps_of, conflicts_of, ticks_of}
use Rattle.rail_words.proofs.Taken.{verify_read, bounds_read, any_read, normal_read, check_read}
use Rattle.proof_shell.specs.Answers.{check_reply}
use Rattle.rail_cli.specs.Answers.{answer_to}
use Rattle.rail_cli.specs.Passes.{StoredProofsPass, verify_words, VerifyPassesCheck}
use Rattle.rail_cli.specs.Searches.{Searches}

-- the bytes under the name are the new ones
pub stored_there : (files : Files) (name bytes : List ℕ) → updated files name bytes name ≡ bytes
stored_there files name bytes = rw ((bytes_eq-Decides name name).1 refl) refl

-- every other name stays
pub stored_apart : (files : Files) (name bytes other : List ℕ) → other ≢ name → updated files name bytes other ≡ files other
stored_apart files name bytes other differ = rw (false_from_ne_true (bytes_eq name other) (λ same. differ (sym ((bytes_eq-Decides name other).0 same)))) refl

pub passes_asked : StoredProofsPass
passes_asked files left design proof n d old new tells differ found words asked =
    let log = tells.stored in
    let known_files : Some left ≡ Some (updated files proof log.log) = log.holds in
    let now : left ≡ updated files proof log.log = cc in
    ap (answer_to left found) asked
    ∙ (ap (λ (bytes : List ℕ). check_reply n None bytes (left proof)) (ap (λ (f : Files). f design) now ∙ stored_apart files proof log.log design differ)
    ∙ (ap (check_reply n None (files design)) (ap (λ (f : Files). f proof) now ∙ stored_there files proof log.log) ∙ tells.passes))

-- the words of `verify`, with whatever flags, ask for just what they say
verify_asked : (mode : SearchMode) (program steps conflicts ticks design proof : List ℕ) (n c t : ℕ) → steps_of steps ≡ Some n → conflicts_of conflicts ≡ Some c → ticks_of ticks ≡ Some t
    → is_plain design ≡ true → is_plain proof ≡ true → request_of (verify_words program steps conflicts ticks mode design proof) ≡ Some (verify n c t mode design proof)
verify_asked Plain = verify_read
verify_asked Bounds = bounds_read
verify_asked Any = any_read
verify_asked Normal = normal_read

pub passes_words : VerifyPassesCheck
passes_words files left program steps conflicts ticks design proof mode n c t d old new n_is c_is t_is plain_design plain_proof differ spells tells found =
    let asked = verify_asked mode program steps conflicts ticks design proof n c t n_is c_is t_is plain_design plain_proof in
    let search : Searches files (verify_words program steps conflicts ticks mode design proof) n d = record { conflicts = c; ticks = t; mode = mode; design_name = design; proof_name = proof; asked = asked; parses_design = spells } in
    passes_asked files left design proof n d old new (tells search) differ found _ (check_read program steps design proof n n_is plain_design plain_proof)
