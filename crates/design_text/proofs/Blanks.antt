-- What stands between the parts of a text, as the reader goes over it.
use Rattle.std.proofs.Common.{◌≡◌, ℕ, true, false, ◌==◌, List, [], ◌∷◌, ◌++◌, Some, refl, arith, eq-eqb}
use Rattle.std.proofs.lemmas.Bool.Decides.{nat_tests}
use Rattle.toml_parser.specs.Lexical.{first, is_ws, skip_blank, skip_ws}
use Rattle.toml_parser.proofs.LexicalLemmas.{skip_ws_none}
use Rattle.toml_writer.specs.Text.{key_text as written_key}
use Rattle.toml_writer.proofs.Strings.{EndsDotted, key-dotted_text}
use Rattle.toml.specs.Parse.{after_element, key_equals}
use Rattle.toml.proofs.Blanks.{starts_value, skip_none}

-- after an element, a comma
pub after_comma : (closing : ℕ) (t : List ℕ) → after_element closing (44 ∷ t) ≡ Some t
unfolding after_element
after_comma closing t = rw (skip_none (44 ∷ t) 44 refl refl)

-- or the closing bracket, which stays
pub after_last : (closing : ℕ) (text t : List ℕ) → skip_blank text ≡ closing ∷ t → (closing == 44) ≡ false → after_element closing text ≡ Some (closing ∷ t)
unfolding after_element
after_last closing text t at_closing other = rw (at_closing, other, eq-eqb closing closing refl)

-- a key with an equals sign right behind it
pub key_equals-close : (k value_text : List ℕ) → starts_value (first value_text) ≡ true → key_equals (written_key k ++ (61 ∷ value_text)) ≡ Some (([], k), value_text)
unfolding key_equals
key_equals-close k value_text start =
    let t = 61 ∷ value_text in
    let after_key : skip_ws t ≡ 61 ∷ value_text = skip_ws_none t refl in
    let stop : EndsDotted t = (((refl, refl), refl), rw after_key refl) in
    let read = key-dotted_text ([], k) t stop (omega arith) in
    let not_ws : is_ws (first value_text) ≡ false = grind (arith, nat_tests) in
    rw (read, after_key, skip_ws_none value_text not_ws)
