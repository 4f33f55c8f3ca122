-- A line feed at the end of a text changes no token of it.
use Rattle.std.proofs.Common.{◌≡◌, ℕ, inl, inr, Bool, true, false, cond, ◌&&◌, List, [], ◌∷◌, ◌++◌, map, refl, sym, ap, ap₂, ◌∙◌, append_assoc}
use Rattle.json.specs.Token.{Token, begin_object, end_object, begin_array, end_array, key, string, number, boolean, null, bad}
use Rattle.json.specs.Word.{ends_word, word}
use Rattle.json.specs.Lex.{token, comma, colon, string_token, lex, between, fresh, punctuate, tokens}
use Rattle.json.specs.Print.{escape, quoted, token_text, begins, ends, separator, IsPrintable, ArePrintable}
use Rattle.json.specs.Spaced.{IsGap, AreGaps, print_spaced}
use Rattle.json.proofs.Printed.Strings.{content-escape, lex-escape}
use Rattle.json.proofs.Printed.Numbers.{lex-number, in_word-ended}

-- the line feed
abbrev pub feed : List ℕ
feed = 10 ∷ []

quoted_before : (s r : List ℕ) → lex between (quoted s ++ r) ≡ token (string s) ∷ lex between r
unfolding lex
quoted_before s r =
    let e = append_assoc (escape s) (34 ∷ []) r in
    ap (λ l. lex between (34 ∷ l)) e ∙ ap₂ (λ o l. token (string_token o) ∷ l) (content-escape s r) (lex-escape s r)

-- what stands behind a token is read the same where its lexemes are, and where both end a word
token_before : (t : Token) (r q : List ℕ) → IsPrintable t → (ends t ≡ true → ends_word r ≡ true) → (ends t ≡ true → ends_word q ≡ true) → lex between r ≡ lex between q → lex between (token_text t ++ r) ≡ lex between (token_text t ++ q)
unfolding lex word
token_before begin_object r q h e f same = ap (λ l. token begin_object ∷ l) same
token_before end_object r q h e f same = ap (λ l. token end_object ∷ l) same
token_before begin_array r q h e f same = ap (λ l. token begin_array ∷ l) same
token_before end_array r q h e f same = ap (λ l. token end_array ∷ l) same
token_before (key s) r q h e f same =
    ap (lex between) (append_assoc (quoted s) (58 ∷ []) r) ∙ quoted_before s (58 ∷ r) ∙ ap (λ l. token (string s) ∷ colon ∷ l) same
    ∙ sym (ap (lex between) (append_assoc (quoted s) (58 ∷ []) q) ∙ quoted_before s (58 ∷ q))
token_before (string s) r q h e f same = quoted_before s r ∙ ap (λ l. token (string s) ∷ l) same ∙ sym (quoted_before s q)
token_before (number s) r q h e f same = lex-number s r h (e refl) ∙ ap (λ l. token (number s) ∷ l) same ∙ sym (lex-number s q h (f refl))
token_before (boolean true) r q h e f same =
    ap₂ (λ b l. token (cond b (boolean true) bad) ∷ l) (e refl ∙ sym (f refl)) (in_word-ended r (e refl) ∙ same ∙ sym (in_word-ended q (f refl)))
token_before (boolean false) r q h e f same =
    ap₂ (λ b l. token (cond b (boolean false) bad) ∷ l) (e refl ∙ sym (f refl)) (in_word-ended r (e refl) ∙ same ∙ sym (in_word-ended q (f refl)))
token_before null r q h e f same =
    ap₂ (λ b l. token (cond b null bad) ∷ l) (e refl ∙ sym (f refl)) (in_word-ended r (e refl) ∙ same ∙ sym (in_word-ended q (f refl)))
token_before bad r q h e f same = absurd h

separator_before : (b : Bool) (r q : List ℕ) → lex between r ≡ lex between q → lex between (cond b (44 ∷ []) [] ++ r) ≡ lex between (cond b (44 ∷ []) [] ++ q)
unfolding lex
separator_before true r q same = ap (λ l. comma ∷ l) same
separator_before false r q same = same

gap_before : (g r : List ℕ) → IsGap g → lex between (g ++ r) ≡ lex between r
unfolding lex
gap_before [] r h = refl
gap_before (x ∷ g) r (inl e, h) = rw e (gap_before g r h)
gap_before (x ∷ g) r (inr e, h) = rw e (gap_before g r h)

gap_ends : (g r : List ℕ) → IsGap g → ends_word r ≡ true → ends_word (g ++ r) ≡ true
gap_ends [] r h e = e
gap_ends (x ∷ g) r (inl is, h) e = rw is
gap_ends (x ∷ g) r (inr is, h) e = rw is

-- after a value stands a comma, a closing bracket, a gap or what follows
spaced_ends : (ps : List (List ℕ × Token)) (r : List ℕ) → AreGaps ps → ends_word r ≡ true → ends_word (print_spaced true ps ++ r) ≡ true
unfolding print_spaced
spaced_ends [] r h e = e
spaced_ends ((g, begin_object) ∷ ps) r h e = refl
spaced_ends ((g, end_object) ∷ ps) r h e = rw (append_assoc g (125 ∷ print_spaced true ps) r) (gap_ends g _ h.0 refl)
spaced_ends ((g, begin_array) ∷ ps) r h e = refl
spaced_ends ((g, end_array) ∷ ps) r h e = rw (append_assoc g (93 ∷ print_spaced true ps) r) (gap_ends g _ h.0 refl)
spaced_ends ((g, key s) ∷ ps) r h e = refl
spaced_ends ((g, string s) ∷ ps) r h e = refl
spaced_ends ((g, number s) ∷ ps) r h e = refl
spaced_ends ((g, boolean b) ∷ ps) r h e = refl
spaced_ends ((g, null) ∷ ps) r h e = refl
spaced_ends ((g, bad) ∷ ps) r h e = refl

regroup : (a b c d r : List ℕ) → (a ++ (b ++ (c ++ d))) ++ r ≡ a ++ (b ++ (c ++ (d ++ r)))
regroup a b c d r = simp append_assoc

feed_after : (c : Bool) (ps : List (List ℕ × Token)) → AreGaps ps → ArePrintable (map (λ p. p.1) ps) → lex between (print_spaced c ps ++ feed) ≡ lex between (print_spaced c ps ++ [])
unfolding lex print_spaced ArePrintable
feed_after c [] gaps h = refl
feed_after c (p ∷ ps) gaps h =
    let t = p.1 in
    let rest = print_spaced (ends t) ps in
    ap (lex between) (regroup (separator c t) p.0 (token_text t) rest feed)
    ∙ separator_before (c && begins t) (p.0 ++ (token_text t ++ (rest ++ feed))) (p.0 ++ (token_text t ++ (rest ++ [])))
    (gap_before p.0 (token_text t ++ (rest ++ feed)) gaps.0
    ∙ token_before t (rest ++ feed) (rest ++ []) h.0
    (λ e. ap (λ b. ends_word (print_spaced b ps ++ feed)) e ∙ spaced_ends ps feed gaps.1 refl)
    (λ e. ap (λ b. ends_word (print_spaced b ps ++ [])) e ∙ spaced_ends ps [] gaps.1 refl)
    (feed_after (ends t) ps gaps.1 h.1)
    ∙ sym (gap_before p.0 (token_text t ++ (rest ++ [])) gaps.0))
    ∙ sym (ap (lex between) (regroup (separator c t) p.0 (token_text t) rest []))

pub tokens_of_line : (ps : List (List ℕ × Token)) → AreGaps ps → ArePrintable (map (λ p. p.1) ps) → tokens (print_spaced false ps ++ feed) ≡ tokens (print_spaced false ps ++ [])
tokens_of_line ps gaps h = ap (punctuate fresh) (feed_after false ps gaps h)
