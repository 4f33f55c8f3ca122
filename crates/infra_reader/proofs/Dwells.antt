-- How long trains stand, as the station has it.
use Rattle.std.proofs.Common.{◌≡◌, ℕ, ◌≤◌, ℤ, pos, Bool, true, false, ◌&&◌, ◌==◌, nat_le, List, [], ◌∷◌, length, map, Option, Some, None, refl, sym, subst, arith}
use Rattle.std.specs.Prelude.{int_le, is_none}
use Rattle.std.specs.Ordering.{int_eq}
use Rattle.std.specs.List.{list_all}
use Rattle.std.proofs.lemmas.Bool.Decides.{Decides-int_eq}
use Rattle.design_table.specs.declared.key.Key.TheVariants as keys
use Rattle.rail_base.specs.Numbering.{entry}
use Rattle.rail_base.proofs.Members.{and_both, and_left, and_right}
use Rattle.rail_base.proofs.Lists.{length-map}
use Rattle.infra_reader.specs.Limits.{limit, is_kept, are_good_dwells}
use Rattle.infra_reader.specs.Stations.{number_32, dwells_in}
use Rattle.infra_reader.proofs.Ranges.{in_range}

-- the test of the station, where there are so many visits
abbrev pub are_stays : ℕ → ℕ → List ℕ → Bool
are_stays longest visits dwells = (length dwells == visits) && list_all (λ ms. nat_le ms longest) dwells && (entry 0 dwells 1 == 0)

same_number : (n m : ℕ) → n ≡ m → (n == m) ≡ true
same_number n m e = grind arith

all_zero : {V : Type 0} (longest : ℕ) (visits : List V) → list_all (λ ms. nat_le ms longest) (map (λ visit. 0) visits) ≡ true
all_zero longest [] = refl
all_zero longest (v ∷ vs) =
    let more = list_all (λ ms. nat_le ms longest) (map (λ visit. 0) vs) in
    let least : nat_le 0 longest ≡ true = grind arith in
    and_both (nat_le 0 longest) more least (all_zero longest vs)

first_zero : {V : Type 0} (visits : List V) → (entry 0 (map (λ visit. 0) visits) 1 == 0) ≡ true
first_zero [] = refl
first_zero (v ∷ vs) = refl

all_kept : (longest : ℕ) (dwells : List ℤ) → 3600000 ≤ longest → is_kept (limit keys.DwellMs 0 3600000 dwells) ≡ true → list_all (λ ms. nat_le ms longest) (map number_32 dwells) ≡ true
all_kept longest [] hour h = refl
all_kept longest (z ∷ zs) hour h =
    let here = int_le (pos 0) z && int_le z (pos 3600000) in
    let more = is_kept (limit keys.DwellMs 0 3600000 zs) in
    let most = and_right (nat_le 0 (number_32 z)) (nat_le (number_32 z) 3600000) (in_range 0 3600000 z (omega arith) (and_left here more h)) in
    let fits : nat_le (number_32 z) longest ≡ true = grind arith in
    and_both (nat_le (number_32 z) longest) (list_all (λ ms. nat_le ms longest) (map number_32 zs)) fits (all_kept longest zs hour (and_right here more h))

first_kept : (dwells : List ℤ) → int_eq (entry (pos 0) dwells 1) (pos 0) ≡ true → (entry 0 (map number_32 dwells) 1 == 0) ≡ true
first_kept [] h = refl
first_kept (z ∷ zs) h = rw ((Decides-int_eq z (pos 0)).0 h) refl

pub good_stays : (longest : ℕ) (visits : List (List (List ℕ))) (dwells : Option (List ℤ)) → (is_none dwells ≡ false → 3600000 ≤ longest) → are_good_dwells visits dwells ≡ true → are_stays longest (length visits) (dwells_in visits dwells) ≡ true
good_stays longest visits None hour h =
    let ms = dwells_in visits None in
    let count = length ms == length visits in
    let small = list_all (λ ms. nat_le ms longest) ms in
    and_both (count && small) (entry 0 ms 1 == 0) (and_both count small (same_number (length ms) (length visits) (length-map (λ visit. 0) visits)) (all_zero longest visits)) (first_zero visits)
good_stays longest visits (Some dwells) hour h =
    let ms = map number_32 dwells in
    let count = length ms == length visits in
    let small = list_all (λ ms. nat_le ms longest) ms in
    let many = length dwells == length visits in
    let kept = is_kept (limit keys.DwellMs 0 3600000 dwells) in
    let still = int_eq (entry (pos 0) dwells 1) (pos 0) in
    let begun = and_left (many && kept) still h in
    and_both (count && small) (entry 0 ms 1 == 0)
    (and_both count small (subst (λ n. (n == length visits) ≡ true) (sym (length-map number_32 dwells)) (and_left many kept begun)) (all_kept longest dwells (hour refl) (and_right many kept begun)))
    (first_kept dwells (and_right (many && kept) still h))
