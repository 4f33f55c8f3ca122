-- Steps in a row, from either end.
use Rattle.std.proofs.Common.{◌≡◌, ℕ, zero, suc, ◌<◌, List, [], All, get_or, length, refl, sym, subst, ◌∙◌}
use Rattle.std.proofs.lemmas.List.{get_or_default}
use Rattle.rail_base.specs.Members.{In}
use Rattle.rail_base.proofs.Contained.{contains_of_in, in_at}
use Rattle.graph_steps.specs.Graphs.{next, IsGraph, Leads, Comes}

pub all_in : {X : Type 0} (P : X → Type 0) (xs : List X) → All P xs → (x : X) → In x xs → P x
all_in P xs all x m = let c = contains_of_in xs x m in subst P c.2 (all c.0 x c.1)

pub all_from : {X : Type 0} (P : X → Type 0) (xs : List X) → ((x : X) → In x xs → P x) → All P xs
all_from P xs h = λ k d l. h (get_or xs k d) (in_at xs k d l)

module _ (graph : List (List ℕ)) where
  -- one step more at the end
  pub and_then : (k p q r : ℕ) → Leads graph k p q → In r (next graph q) → Leads graph (suc k) p r
  and_then zero p q r l m = (r, subst (λ x. In r (next graph x)) (sym l) m, refl)
  and_then (suc k) p q r l m = (l.0, l.1, and_then k l.0 q r l.2 m)

  -- the last step
  pub last_step : (k p r : ℕ) → Leads graph (suc k) p r → (q : ℕ) × Leads graph k p q × In r (next graph q)
  last_step zero p r l = (p, refl, subst (λ x. In x (next graph p)) l.2 l.1)
  last_step (suc k) p r l = let u = last_step k l.0 r l.2 in (u.0, (l.0, l.1, u.1), u.2)

  pub comes_then : (starts : List ℕ) (k q r : ℕ) → Comes graph starts k q → In r (next graph q) → Comes graph starts (suc k) r
  comes_then starts k q r c m = (c.0, c.1, and_then k c.0 q r c.2 m)

  pub comes_last : (starts : List ℕ) (k r : ℕ) → Comes graph starts (suc k) r → (q : ℕ) × Comes graph starts k q × In r (next graph q)
  comes_last starts k r c = let u = last_step k c.0 r c.2 in (u.0, (c.0, c.1, u.1), u.2)

  -- nodes alone are reached from nodes
  pub leads_to_node : IsGraph graph → (k p q : ℕ) → p < length graph → Leads graph k p q → q < length graph
  leads_to_node is zero p q h l = subst (λ x. x < length graph) l h
  leads_to_node is (suc k) p q h l = leads_to_node is k l.0 q (is p l.0 l.1) l.2

-- in the graph that is turned back the same steps lead the other way
pub turned : (graph back : List (List ℕ)) → ((p q : ℕ) → In p (next back q) → In q (next graph p)) → (k p q : ℕ) → Leads back k p q → Leads graph k q p
turned graph back steps zero p q l = sym l
turned graph back steps (suc k) p q l = and_then graph k q l.0 p (turned graph back steps k l.0 q l.2) (steps l.0 p l.1)

-- what comes next after a node is within what has an entry for each node
pub row_within : (graph : List (List ℕ)) → IsGraph graph → (p n : ℕ) (xs : List ℕ) → xs ≡ next graph p → length graph ≡ n → All (λ q. q < n) xs
row_within graph is p n xs row many = all_from (λ q. q < n) xs (λ q m. subst (λ x. q < x) many (is p q (subst (In q) row m)))

pub row_is : (graph : List (List ℕ)) (p : ℕ) (xs ys : List ℕ) → p < length graph → ys ≡ get_or graph p ys → xs ≡ ys → xs ≡ next graph p
row_is graph p xs ys within read same = same ∙ read ∙ get_or_default graph p ys [] within
