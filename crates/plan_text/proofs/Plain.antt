-- Values of texts, whole numbers, arrays and objects of one member: their text spells them.
use Rattle.std.proofs.Common.{◌≡◌, ℕ, ◌<◌, ◌≤◌, ◌^◌, inl, inr, Bool, true, false, ◌||◌, if◌then◌else◌, List, [], ◌∷◌, ◌++◌, map, Option, Some, None, option_map, option_and_then, decimal, IsUtf8, refl, sym, ap, ap₂, ◌∙◌, arith, append-nil}
use Rattle.std.proofs.lemmas.Fmt.{IsAscii-from_digits, decimal_is_IsNumeral}
use Rattle.std.proofs.lemmas.Str.{IsUtf8-append, IsUtf8-from_ascii, IsUtf8-nil, is_utf8-from_IsUtf8}
use Rattle.json.specs.Json as json
use Rattle.json.specs.Lex.{tokens}
use Rattle.json.specs.Print.{quoted}
use Rattle.json.specs.Tree.{json_tokens, HasNumbers, ItemsHaveNumbers}
use Rattle.json.specs.Tree as tree
use Rattle.json.proofs.Printed.Decimals.{IsNumber-decimal}
use Rattle.json.proofs.Printed.Tokens.{tokens-print}
use Rattle.json.proofs.Printed.Trees.{value-json_tokens, ArePrintable-json_tokens}
use Rattle.json.proofs.Printed.Utf8.{IsUtf8-are_ascii, IsUtf8-quoted}
use Rattle.serde_json.specs.Data.{Num, unsigned, negative, float, Data, null, boolean, number, string, array, object, Items, no_items, item, Members, no_members, member}
use Rattle.serde_json.specs.Read.{of_json, of_items, read, max_depth}
use Rattle.serde_json.specs.View.{items_of}
use Rattle.serde_json.specs.Written.{outline, items_outline, has_float, items_have_float, comma_if, compact_text, items_text}
use Rattle.serde_json.proofs.Numbers.{number_of-decimal}
use Rattle.serde_json.proofs.Texts.{print-outline}
use Rattle.rail_base.specs.declared.station.Station.{Station}
use Rattle.rail_base.specs.declared.plan.Command.{Command}
use Rattle.rail_base.specs.Members.{In}
use Rattle.rail_plan.specs.Text.{json_of}
use Rattle.plan_text.specs.Text.{command_value, step_value, plan_value, in_file_order}

-- ---- no floats

pub no_floats : {X : Type 0} (f : X → Data) (xs : List X) → ((x : X) → has_float (f x) ≡ false) → items_have_float (items_of (map f xs)) ≡ false
no_floats f [] h = refl
no_floats f (x ∷ xs) h = ap₂ (λ a b. a || b) (h x) (no_floats f xs h)

pub no_float : (d : Station) (plan : List (List Command)) → has_float (plan_value d plan) ≡ false
no_float d plan = ap (λ b. b || false) (no_floats (step_value d) plan (λ step. no_floats (command_value d) (in_file_order d step) (λ c. refl)))

-- ---- plain values

abbrev IsShort : Num → Type 0
IsShort (unsigned n) = n < 2 ^ 64
IsShort (negative z) = ⊥
IsShort (float x) = ⊥

abbrev mutual
  pub IsPlain : Data → Type 0
  IsPlain null = ⊥
  IsPlain (boolean b) = ⊥
  IsPlain (number n) = IsShort n
  IsPlain (string s) = IsUtf8 s
  IsPlain (array ds) = ArePlain ds
  IsPlain (object ms) = IsOnePlain ms

  pub ArePlain : Items → Type 0
  ArePlain no_items = Unit {0}
  ArePlain (item d ds) = IsPlain d × ArePlain ds

  pub IsOnePlain : Members → Type 0
  IsOnePlain no_members = ⊥
  IsOnePlain (member k d no_members) = IsUtf8 k × IsPlain d
  IsOnePlain (member k d (member l e ms)) = ⊥

pub plain_items : {X : Type 0} (f : X → Data) (xs : List X) → ((x : X) → In x xs → IsPlain (f x)) → ArePlain (items_of (map f xs))
plain_items f [] h = tt
plain_items f (x ∷ xs) h = (h x (inl refl), plain_items f xs (λ y m. h y (inr m)))

pub shallow : {X : Type 0} (f : X → Data) (xs : List X) (n : ℕ) → ((x : X) → tree.depth (outline (f x)) ≤ n) → tree.items_depth (items_outline (items_of (map f xs))) ≤ n
shallow f [] n h = omega arith
shallow f (x ∷ xs) n h = let first = h x in let rest = shallow f xs n h in omega arith

-- ---- reading

mutual
  pub of_outline : (d : Data) → IsPlain d → of_json (outline d) ≡ Some d
  of_outline null h = absurd h
  of_outline (boolean b) h = absurd h
  of_outline (number (unsigned n)) h = ap (option_map number) (number_of-decimal n h)
  of_outline (number (negative z)) h = absurd h
  of_outline (number (float x)) h = absurd h
  of_outline (string s) h = refl
  of_outline (array ds) h = ap (option_map array) (of_outlines ds h)
  of_outline (object no_members) h = absurd h
  of_outline (object (member k d no_members)) h = ap (λ (o : Option Data). option_map object (option_and_then (λ e. Some (member k e no_members)) o)) (of_outline d h.1)
  of_outline (object (member k d (member l e ms))) h = absurd h

  of_outlines : (ds : Items) → ArePlain ds → of_items (items_outline ds) ≡ Some ds
  of_outlines no_items h = refl
  of_outlines (item d ds) h =
      ap (option_and_then (λ (e : Data). option_map (item e) (of_items (items_outline ds)))) (of_outline d h.0)
      ∙ ap (option_map (item d)) (of_outlines ds h.1)

mutual
  pub numbers : (d : Data) → IsPlain d → HasNumbers (outline d)
  numbers null h = absurd h
  numbers (boolean b) h = absurd h
  numbers (number (unsigned n)) h = IsNumber-decimal n h
  numbers (number (negative z)) h = absurd h
  numbers (number (float x)) h = absurd h
  numbers (string s) h = tt
  numbers (array ds) h = all_numbers ds h
  numbers (object no_members) h = absurd h
  numbers (object (member k d no_members)) h = (numbers d h.1, tt)
  numbers (object (member k d (member l e ms))) h = absurd h

  all_numbers : (ds : Items) → ArePlain ds → ItemsHaveNumbers (items_outline ds)
  all_numbers no_items h = tt
  all_numbers (item d ds) h = (numbers d h.0, all_numbers ds h.1)

read_back : (d : Data) → IsPlain d → tree.depth (outline d) ≤ max_depth → read (compact_text d) ≡ Some d
read_back d h low =
    let j = outline d in
    let same : tokens (compact_text d) ≡ json_tokens j ++ [] = ap tokens (sym (print-outline d)) ∙ tokens-print (json_tokens j) (ArePrintable-json_tokens j (numbers d h)) ∙ sym (append-nil (json_tokens j)) in
    ap (λ ts. option_and_then of_json (option_and_then (λ p. json.if_last p.0 p.1) (json.value max_depth ts))) same
    ∙ ap (λ o. option_and_then of_json (option_and_then (λ p. json.if_last p.0 p.1) o)) (value-json_tokens j max_depth [] low)
    ∙ of_outline d h

-- ---- UTF-8

digits_text : (n : ℕ) → n < 2 ^ 64 → IsUtf8 (decimal n)
digits_text n h = IsUtf8-from_ascii (decimal n) (IsAscii-from_digits (decimal n) (decimal_is_IsNumeral n h).0.1)

comma_text : (later : Bool) → IsUtf8 (comma_if later)
comma_text true = IsUtf8-are_ascii (44 ∷ []) refl
comma_text false = IsUtf8-nil

mutual
  pub text : (d : Data) → IsPlain d → IsUtf8 (compact_text d)
  text null h = absurd h
  text (boolean b) h = absurd h
  text (number (unsigned n)) h = digits_text n h
  text (number (negative z)) h = absurd h
  text (number (float x)) h = absurd h
  text (string s) h = IsUtf8-quoted s h
  text (array ds) h = IsUtf8-append (91 ∷ []) (items_text false ds) (IsUtf8-are_ascii (91 ∷ []) refl) (texts false ds h)
  text (object no_members) h = absurd h
  text (object (member k d no_members)) h =
      IsUtf8-append (123 ∷ []) _ (IsUtf8-are_ascii (123 ∷ []) refl)
      (IsUtf8-append (quoted k) _ (IsUtf8-quoted k h.0)
      (IsUtf8-append (58 ∷ []) _ (IsUtf8-are_ascii (58 ∷ []) refl)
      (IsUtf8-append (compact_text d) (125 ∷ []) (text d h.1) (IsUtf8-are_ascii (125 ∷ []) refl))))
  text (object (member k d (member l e ms))) h = absurd h

  texts : (later : Bool) (ds : Items) → ArePlain ds → IsUtf8 (items_text later ds)
  texts later no_items h = IsUtf8-are_ascii (93 ∷ []) refl
  texts later (item d ds) h = IsUtf8-append (comma_if later) _ (comma_text later) (IsUtf8-append (compact_text d) (items_text true ds) (text d h.0) (texts true ds h.1))

-- the text of a plain value is that value
pub parsed : (d : Data) → IsPlain d → tree.depth (outline d) ≤ max_depth → json_of (compact_text d) ≡ Some d
parsed d h low =
    ap (λ b. if b then read (compact_text d) else None) (is_utf8-from_IsUtf8 (compact_text d) (text d h))
    ∙ read_back d h low
