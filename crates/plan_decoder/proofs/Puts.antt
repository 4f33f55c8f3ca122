-- Lists that are put together part by part.
use Rattle.std.proofs.Common.{◌≡◌, ℕ, suc, ◌+◌, ◌-◌, ◌<◌, ◌≤◌, Bool, true, false, cond, List, [], ◌∷◌, ◌++◌, length, get_or, drop, filter, refl, sym, ap, ◌∙◌, arith, append-nil}
use Rattle.std.proofs.lemmas.List.{append_assoc, drop_more}
use Rattle.rail_base.specs.Numbering.{count_from}

-- the numbers from one on up to n
abbrev pub rest : ℕ → ℕ → List ℕ
rest i n = count_from i (n + 1 - i)

-- this one, and those from the next on
rest_next : (i n : ℕ) → i ≤ n → rest i n ≡ i ∷ rest (i + 1) n
rest_next i n h = ap (count_from i) (less i n h)
  where
    less : (i n : ℕ) → i ≤ n → n + 1 - i ≡ suc (n + 1 - (i + 1))
    less i n h = omega arith

-- past n there are none
rest_none : (i n : ℕ) → n < i → rest i n ≡ []
rest_none i n h = ap (count_from i) (none i n h)
  where
    none : (i n : ℕ) → n < i → n + 1 - i ≡ 0
    none i n h = omega arith

module _ {Y : Type 0} (old new all : List Y) (part : List ℕ → List Y) (i n : ℕ) where
  -- what is put, and what is left then
  pub put_next : (now : List Y) → i ≤ n → part (i ∷ rest (i + 1) n) ≡ now ++ part (rest (i + 1) n) → new ≡ old ++ now → old ++ part (rest i n) ≡ all → new ++ part (rest (i + 1) n) ≡ all
  put_next now h e f k = ap (λ ys. ys ++ part (rest (i + 1) n)) f ∙ (append_assoc old now (part (rest (i + 1) n)) ∙ (ap (λ ys. old ++ ys) (sym (ap part (rest_next i n h) ∙ e)) ∙ k))

-- nothing is left past n
pub put_all : {Y : Type 0} (xs all : List Y) (part : List ℕ → List Y) (i n : ℕ) → n < i → part [] ≡ [] → xs ++ part (rest i n) ≡ all → xs ≡ all
put_all xs all part i n h e k = sym (ap (λ ys. xs ++ ys) (ap part (rest_none i n h) ∙ e) ∙ append-nil xs) ∙ k

-- the first of a list, where it passes the test
filter_first : {Y : Type 0} (test : Y → Bool) (y : Y) (ys : List Y) → filter test (y ∷ ys) ≡ cond (test y) (y ∷ []) [] ++ filter test ys
filter_first {Y} test y ys = go (test y)
  where
    go : (b : Bool) → cond b (y ∷ filter test ys) (filter test ys) ≡ cond b (y ∷ []) [] ++ filter test ys
    go true = refl
    go false = refl

-- what is put of one member, and what is left then of those behind it
pub put_kept : {Y : Type 0} (test : Y → Bool) (old new all xs : List Y) (i : ℕ) (other : Y) → i < length xs → new ≡ old ++ filter test (get_or xs i other ∷ []) → old ++ filter test (drop i xs) ≡ all → new ++ filter test (drop (i + 1) xs) ≡ all
put_kept test old new all xs i other h e k =
    let y = get_or xs i other in
    let behind = drop (i + 1) xs in
    ap (λ ys. ys ++ filter test behind) e
    ∙ (append_assoc old (filter test (y ∷ [])) (filter test behind)
    ∙ (ap (λ ys. old ++ ys) (sym (ap (filter test) (drop_more xs i other h) ∙ filter_first test y behind)) ∙ k))
