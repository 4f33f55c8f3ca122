-- Clauses that are few.
use Rattle.std.proofs.Common.{◌≡◌, ◌↔◌, ℕ, ◌+◌, ◌≤◌, ◌<◌, inl, inr, Bool, true, false, if◌then◌else◌, nat_lt, List, [], ◌∷◌, length, Option, None, Some, refl, arith, ltb-true}
use Rattle.clause_spec.specs.Clauses.{literals, past_limit}
use Rattle.clause_spec.specs.Laws.{HasFewLiterals}
use Rattle.clause_spec.proofs.Few.{within_limit}
use Rattle.rail_base.specs.declared.route.Route.{Route}
use Rattle.rail_base.specs.declared.station.Station.{Station}
use Rattle.sat_clause.specs.declared.lit.Lit.{Lit}
use Rattle.base_spec.specs.Bases.{clauses_of}
use Rattle.limit_words.specs.Counts.{Fits}
use Rattle.clause_spec.specs.declared.question.BaseKind.{BaseKind}
use Rattle.limit_words.proofs.Even.{literals-cons}

-- clauses that pass a limit have more literals than that
pub past : {X : Type 0} (limit sum k : ℕ) (cs : List (List X)) → past_limit limit sum cs ≡ Some k → limit < sum + literals cs
past limit sum k [] h = absurd (cc)
past {X} limit sum k (c ∷ cs) h = go (nat_lt limit (sum + length c)) refl h (past limit (sum + length c) k cs)
  where
    go : (b : Bool) → nat_lt limit (sum + length c) ≡ b → (if b then Some (sum + length c) else past_limit limit (sum + length c) cs) ≡ Some k
        → (past_limit limit (sum + length c) cs ≡ Some k → limit < sum + length c + literals cs) → limit < sum + literals (c ∷ cs)
    go true e is rest = let all = literals-cons c cs in let passed = ltb-true limit (sum + length c) e in omega arith
    go false e is rest = let all = literals-cons c cs in let later = rest is in omega arith

-- those that pass none have no more
pub not_past : {X : Type 0} (limit : ℕ) (cs : List (List X)) → past_limit limit 0 cs ≡ None → literals cs ≤ limit
not_past limit cs h = elim (within_limit limit 0 cs h) [ inl none ↦ omega arith | inr all ↦ omega arith ]

-- and those that have no more pass none
few : (cs : List (List Lit)) → literals cs ≤ 16000000 → HasFewLiterals cs
few cs h = go (past_limit 16000000 0 cs) refl
  where
    go : (o : Option ℕ) → past_limit 16000000 0 cs ≡ o → o ≡ None
    go None e = refl
    go (Some k) e = absurd (let more = past 16000000 0 k cs e in omega arith)

pub few_exactly : (kind : BaseKind) (d : Station) (routes : List Route) (n : ℕ) → HasFewLiterals (clauses_of kind d routes n) ↔ Fits kind d routes n
few_exactly kind d routes n = (not_past 16000000 (clauses_of kind d routes n), few (clauses_of kind d routes n))
