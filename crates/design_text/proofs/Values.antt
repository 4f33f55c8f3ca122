-- The text of each value is read as that value.
use Rattle.std.proofs.Common.{rules, FitsSigned, ◌≡◌, ℕ, pos, decimal, subst, suc, ◌^◌, ◌<◌, ◌≤◌, true, false, ◌==◌, inl, inr, List, [], ◌∷◌, ◌++◌, map, codes, refl, sym, ap, ◌∙◌, arith, append_assoc}
use Rattle.std.proofs.Math.Nat.{max-le}
use Rattle.std.proofs.lemmas.Bool.Decides.{nat_tests}
use Rattle.std.specs.Int.{w64}
use Rattle.std.specs.List.{list_all, list_any, flat_map}
use Rattle.toml_writer.specs.Text.{string_text, encoding_of, encoded, basic, escaped, needs_escape, quotes_after, has, is_control}
use Rattle.toml.specs.Data.{Data, string, Items, no_items, item, depth, items_depth, has_valid_dates}
use Rattle.toml.specs.View.{items_of}
use Rattle.toml.specs.Text.{IsValueText, IsItemsText, breaks_lines}
use Rattle.design_table.specs.declared.key.Key.{Key}
use Rattle.design_table.specs.Forms.{is_name_byte, is_name_text}
use Rattle.rail_base.specs.Members.{In}
use Rattle.rail_base.proofs.Members.{and_left, and_right}
use Rattle.design_text.specs.Texts.{behind_comma, joined, in_quotes, in_brackets}
use Rattle.infra_reader.proofs.Spelling.{same_name}
use Rattle.std.proofs.lemmas.Fmt.{IsAscii-decimal}
use Rattle.design_text.proofs.Ascii.{ascii_literal, ascii_name, ascii_quotes, ascii_brackets}
use Rattle.design_text.proofs.ReadEntries.{IsRead}
use Rattle.design_text.proofs.Documents.{array_of, number_value, name_row, number_row, numbers_row, true_row}

-- ---- names

plain_byte : (b : ℕ) → is_name_byte b ≡ true → (is_control b ≡ false) × ((b == 92) ≡ false) × ((b == 34) ≡ false) × ((b == 10) ≡ false) × (needs_escape false 0 b ≡ false) × (quotes_after false 0 b ≡ 0)
unfolding needs_escape quotes_after
plain_byte b h = (grind (arith, nat_tests), grind (arith, nat_tests), grind (arith, nat_tests), grind (arith, nat_tests), grind (arith, nat_tests), grind (arith, nat_tests))

no_control : (s : List ℕ) → list_all is_name_byte s ≡ true → list_any is_control s ≡ false
no_control [] h = refl
no_control (b ∷ bs) h =
    rw ((plain_byte b (and_left (is_name_byte b) (list_all is_name_byte bs) h)).0, no_control bs (and_right (is_name_byte b) (list_all is_name_byte bs) h)) refl

has_none : (c : ℕ) → ((b : ℕ) → is_name_byte b ≡ true → (b == c) ≡ false) → (s : List ℕ) → list_all is_name_byte s ≡ true → has c s ≡ false
has_none c other [] h = refl
has_none c other (b ∷ bs) h =
    rw (other b (and_left (is_name_byte b) (list_all is_name_byte bs) h), has_none c other bs (and_right (is_name_byte b) (list_all is_name_byte bs) h)) refl

no_escape : (s : List ℕ) → list_all is_name_byte s ≡ true → escaped false 0 s ≡ s
unfolding escaped
no_escape [] h = refl
no_escape (b ∷ bs) h =
    let plain = plain_byte b (and_left (is_name_byte b) (list_all is_name_byte bs) h) in
    rw (plain.4, plain.5, no_escape bs (and_right (is_name_byte b) (list_all is_name_byte bs) h)) refl

is_basic : (s : List ℕ) → list_all is_name_byte s ≡ true → encoding_of s ≡ basic
unfolding encoding_of
is_basic s h =
    rw (no_control s h, has_none 92 (λ b i. (plain_byte b i).1) s h, has_none 34 (λ b i. (plain_byte b i).2) s h, has_none 10 (λ b i. (plain_byte b i).3) s h) refl

quoted_name : (s : List ℕ) → list_all is_name_byte s ≡ true → in_quotes s ≡ string_text s
unfolding string_text
quoted_name s h = sym (ap (λ e. encoded e s) (is_basic s h) ∙ ap (λ t. 34 ∷ (t ++ 34 ∷ [])) (no_escape s h))

pub name_is_text : (s : List ℕ) → is_name_text s ≡ true → IsValueText false (string s) (in_quotes s)
name_is_text s h = quoted_name s (and_right _ (list_all is_name_byte s) h)

-- ---- arrays

one_line : (ds : Items) → breaks_lines false ds ≡ false
one_line no_items = refl
one_line (item d no_items) = refl
one_line (item d (item e ds)) = refl

module _ {X : Type 0} (text : X → List ℕ) (holds : X → Data) where
  more_items : (xs : List X) → ((x : X) → In x xs → IsValueText false (holds x) (text x)) → IsItemsText false false false (items_of (map holds xs)) (flat_map behind_comma (map text xs) ++ codes "]")
  more_items [] each = refl
  more_items (x ∷ xs) each =
      let rest = flat_map behind_comma (map text xs) ++ codes "]" in
      (text x, rest, ap (λ t. 44 ∷ 32 ∷ t) (append_assoc (text x) (flat_map behind_comma (map text xs)) (codes "]")), each x (inl refl), more_items xs (λ y i. each y (inr i)))

  all_items : (xs : List X) → ((x : X) → In x xs → IsValueText false (holds x) (text x)) → IsItemsText false false true (items_of (map holds xs)) (joined (map text xs) ++ codes "]")
  all_items [] each = refl
  all_items (x ∷ xs) each =
      let rest = flat_map behind_comma (map text xs) ++ codes "]" in
      (text x, rest, append_assoc (text x) (flat_map behind_comma (map text xs)) (codes "]"), each x (inl refl), more_items xs (λ y i. each y (inr i)))

  pub array_is_text : (xs : List X) → ((x : X) → In x xs → IsValueText false (holds x) (text x)) → IsValueText false (array_of holds xs) (in_brackets (map text xs))
  array_is_text xs each =
      let rest = joined (map text xs) ++ codes "]" in
      let lines = one_line (items_of (map holds xs)) in
      (rest, refl, subst (λ b. IsItemsText false b true (items_of (map holds xs)) rest) (sym lines) (all_items xs each))

items_depth_le : {X : Type 0} (holds : X → Data) (xs : List X) (n : ℕ) → ((x : X) → depth (holds x) ≤ n) → items_depth (items_of (map holds xs)) ≤ n
items_depth_le holds [] n each = omega arith
items_depth_le holds (x ∷ xs) n each = max-le (each x) (items_depth_le holds xs n each)

pub array_depth : {X : Type 0} (holds : X → Data) (xs : List X) (n : ℕ) → ((x : X) → depth (holds x) ≤ n) → depth (array_of holds xs) ≤ suc n
array_depth holds xs n each = let inner = items_depth_le holds xs n each in omega arith

pub array_dates : {X : Type 0} (holds : X → Data) (xs : List X) → ((x : X) → has_valid_dates (holds x) ≡ true) → has_valid_dates (array_of holds xs) ≡ true
array_dates holds [] each = refl
array_dates holds (x ∷ xs) each = rw (each x) (array_dates holds xs each)

-- ---- rows

pub name_is_read : (n : ℕ) (key : Key) (s : List ℕ) → is_name_text s ≡ true → IsRead n (name_row key s)
name_is_read n key s h = record {
  is_text = name_is_text s h;
  shallow = omega arith;
  valid = refl;
  ascii = ascii_quotes s (ascii_name s (sym (same_name s) ∙ h));
}

pub number_is_read : (n : ℕ) (key : Key) (number : ℕ) → number < 2 ^ 63 → IsRead n (number_row key number)
number_is_read n key number small = record {
  is_text = (refl, search rules);
  shallow = omega arith;
  valid = refl;
  ascii = IsAscii-decimal number (omega arith);
}

fits_64 : (n : ℕ) → n < 2 ^ 63 → FitsSigned w64 (pos n)
fits_64 n small = search rules

pub numbers_are_read : (n : ℕ) (key : Key) (numbers : List ℕ) → 1 ≤ n → ((k : ℕ) → In k numbers → k < 2 ^ 63) → IsRead n (numbers_row key numbers)
numbers_are_read n key numbers room small =
    let deep = array_depth number_value numbers 0 (λ k. omega arith) in
    record {
      is_text = array_is_text decimal number_value numbers (λ k m. (refl, fits_64 k (small k m)));
      shallow = omega arith;
      valid = array_dates number_value numbers (λ k. refl);
      ascii = ascii_brackets decimal numbers (λ k m. let s = small k m in IsAscii-decimal k (omega arith));
    }

pub true_is_read : (n : ℕ) (key : Key) → IsRead n (true_row key)
true_is_read n key = record {
  is_text = refl;
  shallow = omega arith;
  valid = refl;
  ascii = ascii_literal (codes "true") refl;
}
