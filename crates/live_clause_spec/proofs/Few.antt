-- Where steps lead to a node, so do no more steps than there are nodes.
use Rattle.std.proofs.Common.{◌≡◌, ℕ, zero, suc, ◌+◌, ◌≤◌, ◌<◌, inl, inr, List, [], ◌∷◌, length, get_or, replicate, Option, Some, None, refl, sym, ap, subst, arith}
use Rattle.rail_base.specs.Members.{In}
use Rattle.graph_steps.specs.Graphs.{AreLeast, Comes, IsGraph, IsLeast, Leads}
use Rattle.graph_steps.specs.Marks.{Marked, mark_all, mark_next}
use Rattle.graph_steps.proofs.Leading.{leads_to_node}
use Rattle.graph_steps.proofs.Marking.{unfound}
use Rattle.graph_steps.proofs.Searching.{Searched, are_least, fewer_left, searched_first, searched_next}

module _ (graph : List (List ℕ)) (is_graph : IsGraph graph) (starts : List ℕ) (within : (q : ℕ) → In q starts → q < length graph) where
  -- a search that is over
  record Ended : Type 0 where
    steps : ℕ
    marked : Marked
    searched : Searched graph starts steps marked
    none : marked.front ≡ []

  ended_here : (steps : ℕ) (m : Marked) → Searched graph starts steps m → m.front ≡ [] → Ended
  ended_here steps m s e = record { steps = steps; marked = m; searched = s; none = e }

  goes_to_end : (left steps : ℕ) (m : Marked) → unfound m.found + length m.front ≤ left → Searched graph starts steps m → Ended
  goes_to_end zero steps m h s = go m.front refl
    where
      go : (f : List ℕ) → m.front ≡ f → Ended
      go [] e = ended_here steps m s e
      go (x ∷ xs) e = let l = ap length e in absurd (omega arith)
  goes_to_end (suc left) steps m h s = go m.front refl (λ some. goes_to_end left (suc steps) (mark_next graph (suc steps) (record { found = m.found; front = [] }) m.front) (let l = fewer_left graph starts is_graph steps m s some in omega arith) (searched_next graph starts is_graph steps m s some))
    where
      go : (f : List ℕ) → m.front ≡ f → (1 ≤ length m.front → Ended) → Ended
      go [] e further = ended_here steps m s e
      go (x ∷ xs) e further = further (let l = ap length e in omega arith)

  abbrev first : Marked
  first = mark_all 0 (record { found = replicate (length graph) None; front = [] }) starts

  ended : Ended
  ended = goes_to_end (unfound first.found + length first.front) 0 first (omega arith) (searched_first graph starts within)

  pub few_come : (k q : ℕ) → Comes graph starts k q → (j : ℕ) × (j ≤ length graph) × Comes graph starts j q
  few_come k q c = go (get_or ended.marked.found q None) refl
    where
      inside : q < length graph
      inside = leads_to_node graph is_graph k c.0 q (within c.0 c.1) c.2

      least : AreLeast graph starts ended.marked.found
      least = are_least graph starts ended.steps ended.marked ended.searched ended.none

      go : (o : Option ℕ) → get_or ended.marked.found q None ≡ o → (j : ℕ) × (j ≤ length graph) × Comes graph starts j q
      go None e = absurd (subst (IsLeast graph starts q) e (least.each q inside) k c)
      go (Some j) e = (j, (let l = ended.searched.few q j e in let r = ended.searched.room in omega arith), (subst (IsLeast graph starts q) e (least.each q inside)).0)

-- so it is from one node to another
pub few_lead : (graph : List (List ℕ)) → IsGraph graph → (k p q : ℕ) → p < length graph → Leads graph k p q → (j : ℕ) × (j ≤ length graph) × Leads graph j p q
few_lead graph is_graph k p q inside l = go (few_come graph is_graph (p ∷ []) within k q (p, inl refl, l))
  where
    within : (x : ℕ) → In x (p ∷ []) → x < length graph
    within x (inl e) = subst (λ y. y < length graph) e inside
    within x (inr m) = absurd m

    at : (j x : ℕ) → In x (p ∷ []) → Leads graph j x q → Leads graph j p q
    at j x (inl e) c = subst (λ y. Leads graph j y q) (sym e) c
    at j x (inr m) c = absurd m

    go : (j : ℕ) × (j ≤ length graph) × Comes graph (p ∷ []) j q → (j : ℕ) × (j ≤ length graph) × Leads graph j p q
    go (j, h, c) = (j, h, at j c.0 c.1 c.2)
