-- A store that begins with the clauses of a base.
use Rattle.std.proofs.Common.{ℕ, zero, suc, Bool, true, List, [], ◌∷◌, ◌++◌, map, refl}
use Rattle.std.specs.List.{list_all}
use Rattle.rail_base.proofs.Members.{and_both}
use Rattle.sat_clause.specs.declared.lit.Lit.{Lit}
use Rattle.sat_clause.specs.Clauses.{Store, clause_holds}
use Rattle.sat_core.specs.Models.{MakesTrue}
use Rattle.plan_decoder.specs.Laws.{PrefixIsTrue}

-- values that make a store true make it true without its first clause
after : (values : ℕ → Bool) (e : List Lit × Bool) (store : Store) → MakesTrue values (e ∷ store) → MakesTrue values store
after values e store t zero c live = absurd (cc)
after values e store t (suc i) c live = t (suc (suc i)) c live

pub prefix_is_true : PrefixIsTrue
prefix_is_true values [] rest t = refl
prefix_is_true values (c ∷ cs) rest t = and_both (clause_holds values c) (list_all (clause_holds values) cs) (t 1 c refl) (prefix_is_true values cs rest (after values (c, true) (map (λ c. (c, true)) cs ++ rest) t))
