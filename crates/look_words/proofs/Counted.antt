-- Lines for numbers in a row, with those of one more.
use Rattle.std.proofs.Common.{◌≡◌, ℕ, ◌+◌, ◌-◌, ◌≤◌, List, ◌++◌, ap, flat_map, sym, ◌∙◌}
use Rattle.std.proofs.lemmas.List.{append_assoc}
use Rattle.asked_words.proofs.Counted.{count_more}
use Rattle.rail_base.specs.Numbering.{count_from}

pub lists_more : (lines : ℕ → List (List ℕ)) (old all : List (List ℕ)) (n many : ℕ) → n ≤ many → old ++ flat_map lines (count_from n (many + 1 - n)) ≡ all
    → (old ++ lines n) ++ flat_map lines (count_from (n + 1) (many + 1 - (n + 1))) ≡ all
lists_more lines old all n many h so =
    append_assoc old (lines n) _ ∙ (ap (λ (ns : List ℕ). old ++ flat_map lines ns) (sym (count_more n many h)) ∙ so)
