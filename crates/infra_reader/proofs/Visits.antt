-- Visits as they are seen, and how many entries there are.
use Rattle.std.proofs.Common.{◌≡◌, ℕ, List, [], ◌∷◌, ◌&&◌, length, map, replicate, Bor, refl, ap, ap₂}
use Rattle.std.proofs.lemmas.List.{length-map}
use Rattle.std.specs.List.{list_all}
use Rattle.std.specs.Global.{Vec}
use Rattle.rail_base.specs.Admission.{is_from}
use Rattle.infra_reader.specs.Limits.{are_few_visits, count_outside}
use Rattle.design_table.specs.declared.key.Key.{Key}
use Rattle.design_table.specs.Texts.{texts, visits_seen}

node_counts : (visits : List (Vec (Bor (List ℕ)))) → list_all (λ visit. is_from 1 64 (length visit)) (visits_seen visits) ≡ list_all (λ visit. is_from 1 64 (length visit.items)) visits
node_counts [] = refl
node_counts (v ∷ vs) = ap₂ (λ n b. is_from 1 64 n && b) (length-map v.items (λ text. text.now)) (node_counts vs)

pub few_visits : (visits : List (Vec (Bor (List ℕ)))) → are_few_visits (visits_seen visits) ≡ (is_from 1 16 (length visits) && list_all (λ visit. is_from 1 64 (length visit.items)) visits)
few_visits visits = ap₂ (λ n b. is_from 1 16 n && b) (length-map visits (λ visit. texts visit.items)) (node_counts visits)

pub count_seen : {X Y : Type 0} (seen : X → Y) (least most : ℕ) (key : Key) (xs : List X) → count_outside least most key (map seen xs) ≡ count_outside least most key xs
unfolding count_outside
count_seen seen least most key xs = rw length-map refl

pub text_count : (names : List (Bor (List ℕ))) → length (texts names) ≡ length names
text_count names = length-map names (λ text. text.now)

-- a 0 for each
pub zeros_seen : (visits : List (Vec (Bor (List ℕ)))) → replicate {A = ℕ} (length visits) 0 ≡ map (λ visit. 0) (visits_seen visits)
zeros_seen [] = refl
zeros_seen (v ∷ vs) = ap (λ ns. 0 ∷ ns) (zeros_seen vs)
