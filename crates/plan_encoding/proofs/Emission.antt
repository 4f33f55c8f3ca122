-- Clauses that are listed part by part.
use Rattle.live_clause_spec.specs.Variables.{live_numbered}
use Rattle.std.proofs.Common.{◌≡◌, ℕ, ◌+◌, ◌-◌, ◌<◌, Bool, true, false, List, [], ◌∷◌, ◌++◌, if◌then◌else◌, length, drop, get_or, nat_lt, arith, refl, sym, ap, subst, ◌∙◌, map, flat_map, Some, None, append-nil}
use Rattle.std.specs.Prelude.{Result, Ok, Err, IfErr}
use Rattle.std.specs.Result.{IsErrAnd}
use Rattle.std.proofs.lemmas.List.Sums.{sum_by-cons}
use Rattle.std.proofs.lemmas.List.{append_assoc, map-append, drop_more}
use Rattle.sat_clause.specs.declared.lit.Lit.{Lit}
use Rattle.rail_base.specs.Numbering.{count_from}
use Rattle.plan_encoding.specs.declared.sink.BaseFault.{BaseFault}
use Rattle.plan_encoding.specs.declared.sink.BaseFault.TheVariants.{TooLarge, Memory}
use Rattle.plan_encoding.specs.declared.encoder.Encoder.{Encoder}
use Rattle.clause_spec.specs.Clauses.{Clause, literals, past_limit}
use Rattle.plan_encoding.specs.Sinks.{SinkView, Emission, Emitted, TooMany, with_clause, emitted, FaultSays}
use Rattle.normal_clause_spec.specs.Variables.{normal_numbered}
use Rattle.normal_clause_spec.specs.Clauses.{NormalClause}
use Rattle.plan_encoding.specs.Encoders.{among, numbered_clauses, over}
use Rattle.plan_encoding.specs.Normal.{normal_numbered_clauses}
use Rattle.rail_base.proofs.Lists.{count_next}

-- what is listed after a part that was listed
pub emitted_then : (d e : SinkView) (cs more : List (List Lit)) → emitted d cs ≡ Emitted e → emitted d (cs ++ more) ≡ emitted e more
emitted_then d e [] more h = ap (λ x. emitted x more) (same d e h)
  where
    same : (d e : SinkView) → Emitted d ≡ Emitted e → d ≡ e
    same d e h = cc
emitted_then d e (c ∷ cs) more h = go (nat_lt 16000000 (d.literals + length c)) h (emitted_then (with_clause d c) e cs more)
  where
    go : (b : Bool) → (if b then TooMany (d.literals + length c) else emitted (with_clause d c) cs) ≡ Emitted e → (emitted (with_clause d c) cs ≡ Emitted e → emitted (with_clause d c) (cs ++ more) ≡ emitted e more)
        → (if b then TooMany (d.literals + length c) else emitted (with_clause d c) (cs ++ more)) ≡ emitted e more
    go true h rest = absurd (cc)
    go false h rest = rest h

pub emitted_fails : (d : SinkView) (k : ℕ) (cs more : List (List Lit)) → emitted d cs ≡ TooMany k → emitted d (cs ++ more) ≡ TooMany k
emitted_fails d k [] more h = absurd (cc)
emitted_fails d k (c ∷ cs) more h = go (nat_lt 16000000 (d.literals + length c)) h (emitted_fails (with_clause d c) k cs more)
  where
    go : (b : Bool) → (if b then TooMany (d.literals + length c) else emitted (with_clause d c) cs) ≡ TooMany k → (emitted (with_clause d c) cs ≡ TooMany k → emitted (with_clause d c) (cs ++ more) ≡ TooMany k)
        → (if b then TooMany (d.literals + length c) else emitted (with_clause d c) (cs ++ more)) ≡ TooMany k
    go true h rest = h
    go false h rest = rest h

-- a fault in a part is one of the whole
pub fault_then : (d : SinkView) (cs more : List (List Lit)) (e : BaseFault) → FaultSays (emitted d cs) e → FaultSays (emitted d (cs ++ more)) e
fault_then d cs more (TooLarge k) h = emitted_fails d k cs more h
fault_then d cs more Memory h = tt

-- what is so of the fault that a call gave is so of the answer that hands it on
pub handed_on : {A B : Type 0} (P : B → Type 0) (r : Result A B) (e : B) → IsErrAnd r (λ x. x ≡ e) → P e → IfErr r P
handed_on P (Ok x) e h p = tt
handed_on P (Err x) e h p = subst P (sym h) p

-- ---- lists of which parts are left

-- what is left is the next part, and what is left then
pub record Next {X : Type 0} (now part later : List X) : Type 0 where
  pub is : now ≡ part ++ later

-- of clauses whose literals are written so
module _ {L : Type 0} (num : L → Lit) (now part later : List (List L)) (n : Next now part later) where
  joined : map (map num) now ≡ map (map num) part ++ map (map num) later
  joined = ap (map (map num)) n.is ∙ map-append (map num) part later

  -- once the next part is listed, what is left makes all of it
  pub part_listed : (old new : SinkView) (all : Emission) → emitted old (map (map num) part) ≡ Emitted new → emitted old (map (map num) now) ≡ all → emitted new (map (map num) later) ≡ all
  part_listed old new all h k = sym (emitted_then old new (map (map num) part) (map (map num) later) h) ∙ (sym (ap (emitted old) joined) ∙ k)

  -- a fault in the next part is one of all
  pub part_fails : (old : SinkView) (e : BaseFault) (all : Emission) → FaultSays (emitted old (map (map num) part)) e → emitted old (map (map num) now) ≡ all → FaultSays all e
  part_fails old e all h k = subst (λ l. FaultSays l e) (sym (ap (emitted old) joined) ∙ k) (fault_then old (map (map num) part) (map (map num) later) e h)

module _ {L : Type 0} (num : L → Lit) (now later : List (List L)) (cl : List L) (n : Next now (cl ∷ []) later) (ls : List Lit) (is : ls ≡ map num cl) where
  -- the same of one clause
  pub clause_listed : (old new : SinkView) (all : Emission) → emitted old (ls ∷ []) ≡ Emitted new → emitted old (map (map num) now) ≡ all → emitted new (map (map num) later) ≡ all
  clause_listed old new all h = part_listed num now (cl ∷ []) later n old new all (ap (λ x. emitted old (x ∷ [])) (sym is) ∙ h)

  pub clause_fails : (old : SinkView) (e : BaseFault) (all : Emission) → FaultSays (emitted old (ls ∷ [])) e → emitted old (map (map num) now) ≡ all → FaultSays all e
  clause_fails old e all h = part_fails num now (cl ∷ []) later n old e all (subst (λ x. FaultSays (emitted old (x ∷ [])) e) is h)

-- of clauses of the plain base
module _ (f : Encoder) (now part later : List Clause) (n : Next now part later) where
  pub emitted_next : (old new : SinkView) (all : Emission) → emitted old (numbered_clauses f part) ≡ Emitted new → emitted old (numbered_clauses f now) ≡ all → emitted new (numbered_clauses f later) ≡ all
  emitted_next = part_listed (among f live_numbered) now part later n

  pub next_fails : (old : SinkView) (e : BaseFault) (all : Emission) → FaultSays (emitted old (numbered_clauses f part)) e → emitted old (numbered_clauses f now) ≡ all → FaultSays all e
  next_fails = part_fails (among f live_numbered) now part later n

module _ (f : Encoder) (now later : List Clause) (cl : Clause) (n : Next now (cl ∷ []) later) (ls : List Lit) (is : ls ≡ map (among f live_numbered) cl) where
  pub next_one : (old new : SinkView) (all : Emission) → emitted old (ls ∷ []) ≡ Emitted new → emitted old (numbered_clauses f now) ≡ all → emitted new (numbered_clauses f later) ≡ all
  next_one = clause_listed (among f live_numbered) now later cl n ls is

  pub next_one_fails : (old : SinkView) (e : BaseFault) (all : Emission) → FaultSays (emitted old (ls ∷ [])) e → emitted old (numbered_clauses f now) ≡ all → FaultSays all e
  next_one_fails = clause_fails (among f live_numbered) now later cl n ls is

-- of clauses of normal plans
module _ (f : Encoder) (now part later : List NormalClause) (n : Next now part later) where
  pub normal_next : (old new : SinkView) (all : Emission) → emitted old (normal_numbered_clauses f part) ≡ Emitted new → emitted old (normal_numbered_clauses f now) ≡ all → emitted new (normal_numbered_clauses f later) ≡ all
  normal_next = part_listed (over f normal_numbered) now part later n

  pub normal_fails : (old : SinkView) (e : BaseFault) (all : Emission) → FaultSays (emitted old (normal_numbered_clauses f part)) e → emitted old (normal_numbered_clauses f now) ≡ all → FaultSays all e
  normal_fails = part_fails (over f normal_numbered) now part later n

module _ (f : Encoder) (now later : List NormalClause) (cl : NormalClause) (n : Next now (cl ∷ []) later) (ls : List Lit) (is : ls ≡ map (over f normal_numbered) cl) where
  pub normal_one : (old new : SinkView) (all : Emission) → emitted old (ls ∷ []) ≡ Emitted new → emitted old (normal_numbered_clauses f now) ≡ all → emitted new (normal_numbered_clauses f later) ≡ all
  normal_one = clause_listed (over f normal_numbered) now later cl n ls is

  pub normal_one_fails : (old : SinkView) (e : BaseFault) (all : Emission) → FaultSays (emitted old (ls ∷ [])) e → emitted old (normal_numbered_clauses f now) ≡ all → FaultSays all e
  normal_one_fails = clause_fails (over f normal_numbered) now later cl n ls is

-- parts for numbers in a row
pub next_count : {X : Type 0} (g : ℕ → List X) (i n : ℕ) → i < n → Next (flat_map g (count_from i (n - i))) (g i) (flat_map g (count_from (i + 1) (n - (i + 1))))
next_count g i n h = record { is = ap (flat_map g) (count_next i n h) }

-- one clause for each of numbers in a row
pub next_count_one : {X : Type 0} (g : ℕ → X) (i n : ℕ) → i < n → Next (map g (count_from i (n - i))) (g i ∷ []) (map g (count_from (i + 1) (n - (i + 1))))
next_count_one g i n h = record { is = ap (map g) (count_next i n h) }

-- parts for the members of a list
pub next_member : {X Y : Type 0} (g : X → List Y) (xs : List X) (i : ℕ) (other : X) → i < length xs → Next (flat_map g (drop i xs)) (g (get_or xs i other)) (flat_map g (drop (i + 1) xs))
next_member g xs i other h = record { is = ap (flat_map g) (drop_more xs i other h) }

-- one clause for each member of a list
pub next_member_one : {X Y : Type 0} (g : X → Y) (xs : List X) (i : ℕ) (other : X) → i < length xs → Next (map g (drop i xs)) (g (get_or xs i other) ∷ []) (map g (drop (i + 1) xs))
next_member_one g xs i other h = record { is = ap (map g) (drop_more xs i other h) }

-- parts for what is made of the members of a list
pub next_mapped : {X Y Z : Type 0} (g : Y → List Z) (h : X → Y) (xs : List X) (i : ℕ) (other : X) → i < length xs → Next (flat_map g (map h (drop i xs))) (g (h (get_or xs i other))) (flat_map g (map h (drop (i + 1) xs)))
next_mapped g h xs i other l = record { is = ap (λ ys. flat_map g (map h ys)) (drop_more xs i other l) }

-- two literals that are these
pub two_lits : (k l a b : Lit) → k ≡ a → l ≡ b → (k ∷ l ∷ []) ≡ (a ∷ b ∷ [])
two_lits k l a b e f = cc

pub three_lits : (k l m a b c : Lit) → k ≡ a → l ≡ b → m ≡ c → (k ∷ l ∷ m ∷ []) ≡ (a ∷ b ∷ c ∷ [])
three_lits k l m a b c e f g = cc

pub four_lits : (k l m o a b c d : Lit) → k ≡ a → l ≡ b → m ≡ c → o ≡ d → (k ∷ l ∷ m ∷ o ∷ []) ≡ (a ∷ b ∷ c ∷ d ∷ [])
four_lits k l m o a b c d e f g h = cc

-- ---- the limit

-- listing finds too many literals exactly where the list has a beginning with more, and so many as the shortest has
pub emitted_past : (d : SinkView) (cs : List (List Lit)) (k : ℕ) → emitted d cs ≡ TooMany k → past_limit 16000000 d.literals cs ≡ Some k
emitted_past d [] k h = absurd (cc)
emitted_past d (c ∷ cs) k h = go (nat_lt 16000000 (d.literals + length c)) h (emitted_past (with_clause d c) cs k)
  where
    go : (b : Bool) → (if b then TooMany (d.literals + length c) else emitted (with_clause d c) cs) ≡ TooMany k → (emitted (with_clause d c) cs ≡ TooMany k → past_limit 16000000 (d.literals + length c) cs ≡ Some k)
        → (if b then Some (d.literals + length c) else past_limit 16000000 (d.literals + length c) cs) ≡ Some k
    go true h rest = cc
    go false h rest = rest h

pub emitted_none : (d e : SinkView) (cs : List (List Lit)) → emitted d cs ≡ Emitted e → past_limit 16000000 d.literals cs ≡ None
emitted_none d e [] h = refl
emitted_none d e (c ∷ cs) h = go (nat_lt 16000000 (d.literals + length c)) h (emitted_none (with_clause d c) e cs)
  where
    go : (b : Bool) → (if b then TooMany (d.literals + length c) else emitted (with_clause d c) cs) ≡ Emitted e → (emitted (with_clause d c) cs ≡ Emitted e → past_limit 16000000 (d.literals + length c) cs ≡ None)
        → (if b then Some (d.literals + length c) else past_limit 16000000 (d.literals + length c) cs) ≡ None
    go true h rest = absurd (cc)
    go false h rest = rest h

-- and where there are none too many, all literals are counted
pub emitted_literals : (d e : SinkView) (cs : List (List Lit)) → emitted d cs ≡ Emitted e → e.literals ≡ d.literals + literals cs
emitted_literals d e [] h = (let s = same h in omega arith)
  where
    same : Emitted d ≡ Emitted e → e.literals ≡ d.literals
    same h = cc
emitted_literals d e (c ∷ cs) h = go (nat_lt 16000000 (d.literals + length c)) h (emitted_literals (with_clause d c) e cs)
  where
    go : (b : Bool) → (if b then TooMany (d.literals + length c) else emitted (with_clause d c) cs) ≡ Emitted e → (emitted (with_clause d c) cs ≡ Emitted e → e.literals ≡ d.literals + length c + literals cs)
        → e.literals ≡ d.literals + literals (c ∷ cs)
    go true h rest = absurd (cc)
    go false h rest = (let r = rest h in let all = sum_by-cons (λ (ls : List Lit). length ls) c cs in omega arith)

-- all clauses are kept, live
pub emitted_kept : (d e : SinkView) (cs : List (List Lit)) → emitted d cs ≡ Emitted e → d.keep ≡ true → e.clauses ≡ d.clauses ++ map (λ c. (c, true)) cs
emitted_kept d e [] h k = sym (append-nil d.clauses ∙ same h)
  where
    same : Emitted d ≡ Emitted e → d.clauses ≡ e.clauses
    same h = cc
emitted_kept d e (c ∷ cs) h k = go (nat_lt 16000000 (d.literals + length c)) h (emitted_kept (with_clause d c) e cs)
  where
    go : (b : Bool) → (if b then TooMany (d.literals + length c) else emitted (with_clause d c) cs) ≡ Emitted e → (emitted (with_clause d c) cs ≡ Emitted e → d.keep ≡ true → e.clauses ≡ (if d.keep then d.clauses ++ (c, true) ∷ [] else d.clauses) ++ map (λ c. (c, true)) cs)
        → e.clauses ≡ d.clauses ++ (c, true) ∷ map (λ c. (c, true)) cs
    go true h rest = absurd (cc)
    go false h rest = rest h k ∙ (ap (λ b. (if b then d.clauses ++ (c, true) ∷ [] else d.clauses) ++ map (λ c. (c, true)) cs) k ∙ append_assoc d.clauses ((c, true) ∷ []) (map (λ c. (c, true)) cs))
