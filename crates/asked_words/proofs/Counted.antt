-- Lines for numbers in a row, with one more.
use Rattle.std.proofs.Common.{◌≡◌, ℕ, suc, ◌+◌, ◌-◌, ◌≤◌, List, [], ◌∷◌, ◌++◌, Vec, Global, ap, flat_map, map, refl, sym, ◌∙◌, arith}
use Rattle.std.proofs.lemmas.List.{append_assoc}
use Rattle.rail_base.specs.declared.station.TrainNo.{TrainNo}
use Rattle.rail_base.specs.Numbering.{count_from}
use Rattle.rail_outside.specs.Lines.{lines_of}

-- the first of them, and the rest
pub count_more : (n many : ℕ) → n ≤ many → count_from n (many + 1 - n) ≡ n ∷ count_from (n + 1) (many + 1 - (n + 1))
count_more n many h =
    let more : many + 1 - n ≡ suc (many + 1 - (n + 1)) = omega (arith, h) in
    ap (count_from n) more

-- a line more
pub lines_more : (xs : List (Vec ℕ Global)) (x : Vec ℕ Global) → lines_of (xs ++ x ∷ []) ≡ lines_of xs ++ x.items ∷ []
lines_more [] x = refl
lines_more (y ∷ xs) x = ap (λ (ls : List (List ℕ)). y.items ∷ ls) (lines_more xs x)

pub put_more : (line : ℕ → List ℕ) (old all : List (List ℕ)) (n many : ℕ) (text : List ℕ) → n ≤ many → text ≡ line n
    → old ++ map line (count_from n (many + 1 - n)) ≡ all → (old ++ text ∷ []) ++ map line (count_from (n + 1) (many + 1 - (n + 1))) ≡ all
put_more line old all n many text h is so =
    let next = map line (count_from (n + 1) (many + 1 - (n + 1))) in
    append_assoc old (text ∷ []) next
    ∙ (ap (λ t. old ++ t ∷ next) is ∙ (ap (λ ns. old ++ map line ns) (sym (count_more n many h)) ∙ so))

-- the lines of a train more
pub train_more : (lines : TrainNo → List (List ℕ)) (old all : List (List ℕ)) (n many : ℕ) → n ≤ many
    → old ++ flat_map lines (map (λ k. record { 0 = k }) (count_from n (many + 1 - n))) ≡ all
    → (old ++ lines (record { 0 = n })) ++ flat_map lines (map (λ k. record { 0 = k }) (count_from (n + 1) (many + 1 - (n + 1)))) ≡ all
train_more lines old all n many h so =
    append_assoc old (lines (record { 0 = n })) _
    ∙ (ap (λ ns. old ++ flat_map lines (map (λ k. record { 0 = k }) ns)) (sym (count_more n many h)) ∙ so)
