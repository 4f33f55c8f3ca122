-- Texts with spaces between their tokens, and a line feed at the end: what they are read as.
use Rattle.std.proofs.Common.{◌≡◌, ℕ, ◌≤◌, Bool, true, false, List, [], ◌∷◌, ◌++◌, map, fold, Some, option_and_then, IsUtf8, refl, sym, ap, subst, ◌∙◌, append_assoc, append-nil}
use Rattle.json.specs.Json as json
use Rattle.json.specs.Token.{Token}
use Rattle.json.specs.Lex.{tokens}
use Rattle.json.specs.Print.{token_text, ends, separator, print_from, ArePrintable}
use Rattle.json.specs.Spaced.{AreGaps, print_spaced}
use Rattle.json.specs.Tree.{json_tokens, items_tokens}
use Rattle.json.specs.Tree as tree
use Rattle.json.proofs.Printed.Tokens.{tokens-print_spaced}
use Rattle.json.proofs.Printed.Trees.{value-json_tokens, ArePrintable-json_tokens}
use Rattle.serde_json.specs.Data.{Data, array, Items}
use Rattle.serde_json.specs.Read.{of_json, read, max_depth}
use Rattle.serde_json.specs.Written.{outline, items_outline, items_text}
use Rattle.serde_json.proofs.Texts.{print-outline}
use Rattle.rail_plan.specs.Text.{json_of}
use Rattle.rail_plan.proofs.Json.{json_found}
use Rattle.plan_text.proofs.Plain.{IsPlain, of_outline, numbers}
use Rattle.named_plans.proofs.Trailing.{feed, tokens_of_line}

-- ---- tokens with no gap

abbrev pub Pieces : Type 0
Pieces = List (List ℕ × Token)

abbrev pub close : List Token → Pieces
close ts = map (λ t. ([], t)) ts

pub close_tokens : (ts : List Token) → map (λ p. p.1) (close ts) ≡ ts
close_tokens [] = refl
close_tokens (t ∷ ts) = ap (λ us. t ∷ us) (close_tokens ts)

pub close_gaps : (ts : List Token) → AreGaps (close ts)
close_gaps [] = tt
close_gaps (t ∷ ts) = (tt, close_gaps ts)

pub gaps_more : (ps qs : Pieces) → AreGaps ps → AreGaps qs → AreGaps (ps ++ qs)
gaps_more [] qs h k = k
gaps_more (p ∷ ps) qs h k = (h.0, gaps_more ps qs h.1 k)

pub print_close : (c : Bool) (ts : List Token) (ps : Pieces) → print_spaced c (close ts ++ ps) ≡ print_from c ts ++ print_spaced (fold (λ _ t. ends t) c ts) ps
unfolding print_spaced print_from
print_close c [] ps = refl
print_close c (t ∷ ts) ps =
    ap (λ l. separator c t ++ (token_text t ++ l)) (print_close (ends t) ts ps)
    ∙ ap (λ l. separator c t ++ l) (sym (append_assoc (token_text t) (print_from (ends t) ts) _))
    ∙ sym (append_assoc (separator c t) _ _)

-- ---- items, behind the bracket that opens them

fold_more : (c : Bool) (ts us : List Token) → fold (λ _ t. ends t) c (ts ++ us) ≡ fold (λ _ t. ends t) (fold (λ _ t. ends t) c ts) us
fold_more c [] us = refl
fold_more c (t ∷ ts) us = fold_more (ends t) ts us

pub items_end : (js : json.Items) (c : Bool) → fold (λ _ t. ends t) c (items_tokens js) ≡ true
items_end json.no_items c = refl
items_end (json.item j js) c = fold_more c (json_tokens j) (items_tokens js) ∙ items_end js (fold (λ _ t. ends t) c (json_tokens j))

tail_same : (x y : ℕ) (xs ys : List ℕ) → x ∷ xs ≡ y ∷ ys → xs ≡ ys
tail_same x y xs ys e = cc

pub items_print : (ds : Items) → print_from false (items_tokens (items_outline ds)) ≡ items_text false ds
unfolding print_from
items_print ds = tail_same 91 91 _ _ (print-outline (array ds))

-- ---- what a text is read as

read_tokens : (text : List ℕ) (d : Data) → tokens text ≡ json_tokens (outline d) → IsPlain d → tree.depth (outline d) ≤ max_depth → read text ≡ Some d
read_tokens text d is plain low =
    let j = outline d in
    ap (λ ts. option_and_then of_json (option_and_then (λ p. json.if_last p.0 p.1) (json.value max_depth ts))) (is ∙ sym (append-nil (json_tokens j)))
    ∙ ap (λ o. option_and_then of_json (option_and_then (λ p. json.if_last p.0 p.1) o)) (value-json_tokens j max_depth [] low)
    ∙ of_outline d plain

-- the text of the tokens of a plain value, with gaps before them and a line feed at the end, is that value
pub line_read : (d : Data) (ps : Pieces) → AreGaps ps → map (λ p. p.1) ps ≡ json_tokens (outline d) → IsPlain d → tree.depth (outline d) ≤ max_depth → IsUtf8 (print_spaced false ps ++ feed) → json_of (print_spaced false ps ++ feed) ≡ Some d
line_read d ps gaps is plain low utf8 =
    let printable = subst ArePrintable (sym is) (ArePrintable-json_tokens (outline d) (numbers d plain)) in
    let text = print_spaced false ps ++ feed in
    let same = tokens_of_line ps gaps printable ∙ ap tokens (append-nil (print_spaced false ps)) ∙ tokens-print_spaced ps gaps printable ∙ is in
    json_found text d utf8 (read_tokens text d same plain low)
