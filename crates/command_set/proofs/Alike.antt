-- Lists of visits that are the same.
use Rattle.std.proofs.Common.{◌≡◌, Bool, true, ◌==◌, List, [], ◌∷◌, length, refl, ap, ap₂, arith, eqb-true}
use Rattle.std.specs.List.{list_all, zip}
use Rattle.rail_base.specs.declared.station.NodeNo.{NodeNo}
use Rattle.rail_base.proofs.Members.{and_left, and_right}
use Rattle.rail_alike.specs.Tests.{are_same, is_node}

members_told : {X : Type 0} (same : X → X → Bool) → ((x y : X) → same x y ≡ true → x ≡ y) → (xs ys : List X) → length xs ≡ length ys → list_all (λ p. same p.0 p.1) (zip xs ys) ≡ true → xs ≡ ys
members_told same h [] [] n e = refl
members_told same h [] (y ∷ ys) n e = absurd (omega arith)
members_told same h (x ∷ xs) [] n e = absurd (omega arith)
members_told {X} same h (x ∷ xs) (y ∷ ys) n e =
    let rest = list_all (λ p. same p.0 p.1) (zip xs ys) in
    ap₂ (λ (a : X) (b : List X). a ∷ b) (h x y (and_left (same x y) rest e)) (members_told same h xs ys (omega arith) (and_right (same x y) rest e))

-- lists that pass the test are one
pub list_told : {X : Type 0} (same : X → X → Bool) → ((x y : X) → same x y ≡ true → x ≡ y) → (xs ys : List X) → are_same same xs ys ≡ true → xs ≡ ys
list_told same h xs ys e =
    let members = list_all (λ p. same p.0 p.1) (zip xs ys) in
    members_told same h xs ys (eqb-true (length xs) (length ys) (and_left (length xs == length ys) members e)) (and_right (length xs == length ys) members e)

node_told : (m n : NodeNo) → is_node m n ≡ true → m ≡ n
node_told m n e = ap (λ k. record { 0 = k }) (eqb-true m.0 n.0 e)

pub visits_told : (xs ys : List (List NodeNo)) → are_same (are_same is_node) xs ys ≡ true → xs ≡ ys
visits_told = list_told (are_same is_node) (list_told is_node node_told)
