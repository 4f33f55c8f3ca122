-- What a sink that was listed says of a base.
use Rattle.std.proofs.Common.{◌≡◌, ℕ, ◌+◌, Bool, true, false, if◌then◌else◌, nat_lt, List, [], ◌∷◌, ◌++◌, map, length, None, sym, ap, subst, ◌∙◌, arith}
use Rattle.sat_clause.specs.declared.lit.Lit.{Lit}
use Rattle.clause_spec.specs.Clauses.{literals, past_limit}
use Rattle.plan_encoding.specs.declared.sink.BaseFault.{BaseFault}
use Rattle.plan_encoding.specs.declared.sink.BaseFault.TheVariants.{TooLarge, Memory}
use Rattle.plan_encoding.specs.Bases.{AreRefused}
use Rattle.plan_encoding.specs.Sinks.{SinkView, Emitted, TooMany, emitted, FaultSays, with_clause}
use Rattle.plan_encoding.proofs.Emission.{emitted_kept, emitted_literals, emitted_none, emitted_past}

module _ (cls : List (List Lit)) (old : SinkView) (empty : old.literals ≡ 0) where
  -- a fault of listing is one of the clauses
  pub refused : (e : BaseFault) → FaultSays (emitted old cls) e → AreRefused cls e
  refused (TooLarge k) h = ap (λ m. past_limit 16000000 m cls) (sym empty) ∙ emitted_past old cls k h
  refused Memory h = tt

  -- and where all was listed, there are not too many
  pub not_refused : (new : SinkView) → emitted old cls ≡ Emitted new → past_limit 16000000 0 cls ≡ None
  not_refused new h = ap (λ m. past_limit 16000000 m cls) (sym empty) ∙ emitted_none old new cls h

  -- all literals are counted
  pub counted : (new : SinkView) → emitted old cls ≡ Emitted new → new.literals ≡ literals cls
  counted new h = (let all = emitted_literals old new cls h in let none = empty in omega arith)

-- a fault says the same of sinks with as many literals
same_fault : (one other : SinkView) (k : ℕ) (cls : List (List Lit)) → one.literals ≡ other.literals → emitted one cls ≡ TooMany k → emitted other cls ≡ TooMany k
same_fault one other k [] e h = absurd (cc)
same_fault one other k (c ∷ cs) e h =
    subst (λ m. (if nat_lt 16000000 (m + length c) then TooMany (m + length c) else emitted (with_clause other c) cs) ≡ TooMany k) e
    (go (nat_lt 16000000 (one.literals + length c)) h (same_fault (with_clause one c) (with_clause other c) k cs (ap (λ m. m + length c) e)))
  where
    go : (b : Bool) → (if b then TooMany (one.literals + length c) else emitted (with_clause one c) cs) ≡ TooMany k → (emitted (with_clause one c) cs ≡ TooMany k → emitted (with_clause other c) cs ≡ TooMany k)
        → (if b then TooMany (one.literals + length c) else emitted (with_clause other c) cs) ≡ TooMany k
    go true h rest = h
    go false h rest = rest h

pub fails_alike : (one other : SinkView) (cls : List (List Lit)) (e : BaseFault) → one.literals ≡ other.literals → FaultSays (emitted one cls) e → FaultSays (emitted other cls) e
fails_alike one other cls (TooLarge k) e h = same_fault one other k cls e h
fails_alike one other cls Memory e h = tt

-- all clauses are kept
pub kept : (cls : List (List Lit)) (old new : SinkView) → emitted old cls ≡ Emitted new → old ≡ record { keep = true; literals = 0; clauses = [] } → new.clauses ≡ map (λ c. (c, true)) cls
kept cls old new h e = emitted_kept old new cls h (ap (λ (x : SinkView). x.keep) e) ∙ ap (λ (x : SinkView). x.clauses ++ map (λ c. (c, true)) cls) e
