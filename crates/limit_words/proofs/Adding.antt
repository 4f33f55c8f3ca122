-- Texts that are added one after another.
use Rattle.std.proofs.Common.{◌≡◌, ℕ, List, ◌++◌, ap, ◌∙◌}
use Rattle.std.proofs.lemmas.List.{append_assoc}

pub four_added : (old a b c e t1 t2 t3 t4 : List ℕ) → t1 ≡ old ++ a → t2 ≡ t1 ++ b → t3 ≡ t2 ++ c → t4 ≡ t3 ++ e → t4 ≡ old ++ (((a ++ b) ++ c) ++ e)
four_added old a b c e t1 t2 t3 t4 x1 x2 x3 x4 =
    x4
    ∙ ap (λ t. t ++ e) (x3 ∙ ap (λ t. t ++ c) (x2 ∙ ap (λ t. t ++ b) x1))
    ∙ ap (λ t. (t ++ c) ++ e) (append_assoc old a b)
    ∙ ap (λ t. t ++ e) (append_assoc old (a ++ b) c)
    ∙ append_assoc old ((a ++ b) ++ c) e
