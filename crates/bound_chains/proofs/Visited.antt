-- What a run shows of a visit.
use Rattle.std.proofs.Common.{◌≡◌, ℕ, zero, suc, ◌<◌, ◌≤◌, List, [], ◌∷◌, map, get_or, length, Option, None, Some, MatchOption, option_map, Bor, refl, ap, subst, ◌∙◌, arith}
use Rattle.std.specs.List.{HoldsAt}
use Rattle.std.specs.Option.{option_and_then, option_copied}
use Rattle.rail_base.specs.declared.station.NodeNo.{NodeNo}
use Rattle.rail_base.specs.declared.history.TrainHistory.{TrainHistory}
use Rattle.rail_base.specs.Numbering.{entry}
use Rattle.leg_targets.specs.declared.targets.Visit.{Visit}
use Rattle.bound_chains.specs.Runs.{history_of, visit_tick}

-- the member that stands there is the entry of the next number
pub entry_there : {X : Type 0} (other : X) (xs : List X) (k n : ℕ) (x : X) → suc k ≡ n → ((y : X) → x ≡ get_or xs k y)
    → x ≡ entry other xs n
entry_there other xs k n x next there = subst (λ m. x ≡ entry other xs m) next (there other)

-- past the last there is none
pub entry_past : {X : Type 0} (other : X) (xs : List X) (k n : ℕ) → suc k ≡ n → length xs ≤ k → other ≡ entry other xs n
entry_past {X} other xs k n next past = subst (λ m. other ≡ entry other xs m) next (go xs k past)
  where
    go : (xs : List X) (k : ℕ) → length xs ≤ k → other ≡ get_or xs k other
    go [] k past = refl
    go (x ∷ xs) zero past = absurd (omega arith)
    go (x ∷ xs) (suc k) past = go xs k (omega arith)

-- what is looked up at a place is the history of the next train
pub history_got : (history : List TrainHistory) (k n : ℕ) (found : Option (Bor TrainHistory)) → suc k ≡ n
    → MatchOption found (length history ≤ k) (λ x. k < length history × HoldsAt (λ y. x.now ≡ y) history k)
    → option_copied found ≡ entry None (map Some history) n
history_got history k n found next there =
    subst (λ m. option_copied found ≡ entry None (map Some history) m) next (go history k found there)
  where
    go : (history : List TrainHistory) (k : ℕ) (found : Option (Bor TrainHistory))
        → MatchOption found (length history ≤ k) (λ x. k < length history × HoldsAt (λ y. x.now ≡ y) history k)
        → option_copied found ≡ get_or (map Some history) k None
    go [] k None there = refl
    go [] k (Some x) there = absurd (omega (arith, there.0))
    go (y ∷ ys) zero None there = absurd (omega (arith, there))
    go (y ∷ ys) zero (Some x) there = ap Some (there.1 y)
    go (y ∷ ys) (suc k) None there = go ys k None (omega (arith, there))
    go (y ∷ ys) (suc k) (Some x) there = go ys k (Some x) (omega (arith, there.0), there.1)

-- a train that has no history makes no visit
pub unseen : (history : List TrainHistory) (visit : Visit) → None ≡ history_of history visit.train
    → None ≡ visit_tick history visit
unseen history visit none =
    let tick = λ (made : Option (NodeNo × ℕ)). option_map (λ (m : NodeNo × ℕ). m.1) made in
    ap (option_and_then (λ (train : TrainHistory). tick (entry None train.visits visit.number))) none

-- the tick of what is known of the visit
pub visited : (history : List TrainHistory) (visit : Visit) (train : TrainHistory) (visits : List (Option (NodeNo × ℕ)))
    (made : Option (NodeNo × ℕ)) → Some train ≡ history_of history visit.train → visits ≡ train.visits
    → made ≡ entry None visits visit.number → option_map (λ m. m.1) made ≡ visit_tick history visit
visited history visit train visits made is own at =
    let tick = λ (made : Option (NodeNo × ℕ)). option_map (λ (m : NodeNo × ℕ). m.1) made in
    let seen = λ (train : TrainHistory). tick (entry None train.visits visit.number) in
    ap tick (at ∙ ap (λ visits. entry None visits visit.number) own) ∙ ap (option_and_then seen) is
