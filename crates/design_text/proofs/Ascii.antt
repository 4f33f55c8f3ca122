-- The text of a design is ASCII.
use Rattle.std.proofs.Common.{◌≡◌, ℕ, zero, suc, ◌^◌, ◌<◌, ◌≤◌, nat_le, nat_lt, inl, inr, refl, true, ◌||◌, ◌==◌, List, [], ◌∷◌, ◌++◌, map, codes, decimal, arith, leb-true, eqb-true}
use Rattle.std.proofs.lemmas.Bool.{ltb-true}
use Rattle.std.specs.List.{concat, flat_map, list_all}
use Rattle.std.specs.Prelude.{IsAscii}
use Rattle.std.proofs.lemmas.Str.{IsAscii-append}
use Rattle.std.proofs.lemmas.Fmt.{IsAscii-decimal}
use Rattle.design_table.specs.declared.key.Key.{Key}
use Rattle.design_table.specs.declared.key.Key.TheVariants as keys
use Rattle.design_table.specs.Keys.{key_text}
use Rattle.rail_base.specs.Members.{In}
use Rattle.rail_base.specs.Admission.{is_from, is_name_byte, is_name}
use Rattle.rail_base.proofs.Members.{and_left, and_right, either}
use Rattle.design_text.specs.Texts.{behind_comma, joined, in_quotes, in_brackets, field_text, array_lines, number_line}

-- ---- bytes

pub ascii_none : IsAscii []
ascii_none i = omega arith

pub ascii_cons : (b : ℕ) (bs : List ℕ) → b < 128 → IsAscii bs → IsAscii (b ∷ bs)
ascii_cons b bs low more zero = low
ascii_cons b bs low more (suc i) = more i

below : (low high b : ℕ) → high < 128 → is_from low high b ≡ true → b < 128
below low high b h e = let l : b ≤ high = leb-true b high (and_right (nat_le low b) (nat_le b high) e) in omega arith

is_low : (b : ℕ) → is_name_byte b ≡ true → b < 128
is_low b h = elim (either (is_from 48 57 b || is_from 65 90 b || is_from 97 122 b || (b == 95)) (b == 45) h) [
  | inr e ↦ let same = eqb-true b 45 e in omega arith
  | inl k ↦ elim (either (is_from 48 57 b || is_from 65 90 b || is_from 97 122 b) (b == 95) k) [
    | inr e ↦ let same = eqb-true b 95 e in omega arith
    | inl l ↦ elim (either (is_from 48 57 b || is_from 65 90 b) (is_from 97 122 b) l) [
      | inr e ↦ below 97 122 b (omega arith) e
      | inl m ↦ elim (either (is_from 48 57 b) (is_from 65 90 b) m) [
        | inr e ↦ below 65 90 b (omega arith) e
        | inl e ↦ below 48 57 b (omega arith) e
      ]
    ]
  ]
]

pub all_low : (bs : List ℕ) → list_all is_name_byte bs ≡ true → IsAscii bs
all_low [] h = ascii_none
all_low (b ∷ bs) h = ascii_cons b bs (is_low b (and_left (is_name_byte b) (list_all is_name_byte bs) h)) (all_low bs (and_right (is_name_byte b) (list_all is_name_byte bs) h))

pub ascii_name : (bs : List ℕ) → is_name bs ≡ true → IsAscii bs
ascii_name bs h = all_low bs (and_right _ (list_all is_name_byte bs) h)

-- ---- keys

letters : (key : Key) → list_all is_name_byte (key_text key) ≡ true
letters keys.Version = refl
letters keys.TickMs = refl
letters keys.HorizonMs = refl
letters keys.Node = refl
letters keys.Edge = refl
letters keys.Signal = refl
letters keys.Vehicle = refl
letters keys.Train = refl
letters keys.Order = refl
letters keys.Within = refl
letters keys.Overlap = refl
letters keys.Name = refl
letters keys.Boundary = refl
letters keys.From = refl
letters keys.FromSide = refl
letters keys.To = refl
letters keys.ToSide = refl
letters keys.LengthMm = refl
letters keys.SpeedMmS = refl
letters keys.Section = refl
letters keys.Toward = refl
letters keys.AccelMmS2 = refl
letters keys.BrakeMmS2 = refl
letters keys.Visits = refl
letters keys.DwellMs = refl
letters keys.FirstTrain = refl
letters keys.FirstVisit = refl
letters keys.ThenTrain = refl
letters keys.ThenVisit = refl
letters keys.FromTrain = refl
letters keys.FromVisit = refl
letters keys.ToTrain = refl
letters keys.ToVisit = refl
letters keys.MaxMs = refl
letters keys.Sections = refl
letters keys.HoldMs = refl

ascii_key : (key : Key) → IsAscii (key_text key)
ascii_key key = all_low (key_text key) (letters key)

-- ---- pieces

-- a text that can be looked at
pub ascii_literal : (text : List ℕ) → list_all (λ b. nat_lt b 128) text ≡ true → IsAscii text
ascii_literal [] h = ascii_none
ascii_literal (b ∷ bs) h = ascii_cons b bs (ltb-true b 128 (and_left (nat_lt b 128) (list_all (λ b. nat_lt b 128) bs) h)) (ascii_literal bs (and_right (nat_lt b 128) (list_all (λ b. nat_lt b 128) bs) h))

pub ascii_quotes : (text : List ℕ) → IsAscii text → IsAscii (in_quotes text)
ascii_quotes text h = IsAscii-append (codes "\"") (text ++ codes "\"") (ascii_literal (codes "\"") refl) (IsAscii-append text (codes "\"") h (ascii_literal (codes "\"") refl))

pub ascii_comma : (text : List ℕ) → IsAscii text → IsAscii (behind_comma text)
ascii_comma text h = IsAscii-append (codes ", ") text (ascii_literal (codes ", ") refl) h

pub ascii_field : (key : Key) (text : List ℕ) → IsAscii text → IsAscii (field_text (key, text))
ascii_field key text h = IsAscii-append (key_text key) (codes "=" ++ text) (ascii_key key) (IsAscii-append (codes "=") text (ascii_literal (codes "=") refl) h)

-- texts in brackets
module _ {X : Type 0} (text : X → List ℕ) where
  ascii_more : (xs : List X) → ((x : X) → In x xs → IsAscii (text x)) → IsAscii (flat_map behind_comma (map text xs))
  ascii_more [] each = ascii_none
  ascii_more (x ∷ xs) each = IsAscii-append (behind_comma (text x)) (flat_map behind_comma (map text xs)) (ascii_comma (text x) (each x (inl refl))) (ascii_more xs (λ y i. each y (inr i)))

  ascii_joined : (xs : List X) → ((x : X) → In x xs → IsAscii (text x)) → IsAscii (joined (map text xs))
  ascii_joined [] each = ascii_none
  ascii_joined (x ∷ xs) each = IsAscii-append (text x) (flat_map behind_comma (map text xs)) (each x (inl refl)) (ascii_more xs (λ y i. each y (inr i)))

  pub ascii_brackets : (xs : List X) → ((x : X) → In x xs → IsAscii (text x)) → IsAscii (in_brackets (map text xs))
  ascii_brackets xs each =
      IsAscii-append (codes "[") (joined (map text xs) ++ codes "]") (ascii_literal (codes "[") refl) (IsAscii-append (joined (map text xs)) (codes "]") (ascii_joined xs each) (ascii_literal (codes "]") refl))

  -- the lines of an array
  ascii_lines : (xs : List X) → ((x : X) → In x xs → IsAscii (text x)) → IsAscii (concat (map text xs ++ codes "]\n" ∷ []))
  ascii_lines [] each = ascii_literal (codes "]\n") refl
  ascii_lines (x ∷ xs) each = IsAscii-append (text x) (concat (map text xs ++ codes "]\n" ∷ [])) (each x (inl refl)) (ascii_lines xs (λ y i. each y (inr i)))

  pub ascii_array : (key : Key) (xs : List X) → ((x : X) → In x xs → IsAscii (text x)) → IsAscii (concat (array_lines key (map text xs)))
  ascii_array key [] each = ascii_none
  ascii_array key (x ∷ xs) each =
      IsAscii-append (key_text key ++ codes " = [\n") (concat (map text (x ∷ xs) ++ codes "]\n" ∷ [])) (IsAscii-append (key_text key) (codes " = [\n") (ascii_key key) (ascii_literal (codes " = [\n") refl)) (ascii_lines (x ∷ xs) each)

pub ascii_number : (key : Key) (number : ℕ) → number < 2 ^ 64 → IsAscii (number_line key number)
ascii_number key number small =
    IsAscii-append (key_text key) (codes " = " ++ (decimal number ++ codes "\n")) (ascii_key key)
    (IsAscii-append (codes " = ") (decimal number ++ codes "\n") (ascii_literal (codes " = ") refl) (IsAscii-append (decimal number) (codes "\n") (IsAscii-decimal number small) (ascii_literal (codes "\n") refl)))
