-- What is said of the plain base and clauses that are listed behind it.
use Rattle.std.proofs.Common.{◌≡◌, ℕ, ◌+◌, ◌≤◌, Bool, true, false, if◌then◌else◌, List, [], ◌∷◌, ◌++◌, map, flat_map, length, nat_lt, Some, None, inl, inr, arith, refl, sym, ap, subst, ◌∙◌}
use Rattle.std.proofs.lemmas.List.{map-append}
use Rattle.std.proofs.lemmas.List.Sums.{sum_by-cons, sum_by-append}
use Rattle.sat_clause.specs.declared.lit.Lit.{Lit}
use Rattle.sat_clause.specs.Clauses.{Store}
use Rattle.rail_base.specs.declared.station.Station.{Station}
use Rattle.rail_base.specs.declared.route.Route.{Route}
use Rattle.clause_spec.specs.declared.question.BaseKind.{BaseKind}
use Rattle.clause_spec.specs.declared.question.BaseKind.TheVariants.{Live, Normal, Plain, Sorted}
use Rattle.clause_spec.specs.declared.question.Turns.{Turns}
use Rattle.clause_spec.specs.declared.question.Turns.TheVariants.{All}
use Rattle.clause_spec.specs.Clauses.{base_clauses, literals, past_limit}
use Rattle.clause_spec.specs.Laws.{HasFewLiterals}
use Rattle.clause_spec.proofs.Few.{within_limit}
use Rattle.alike_clause_spec.specs.Turns.{turn_clauses, turn_pairs}
use Rattle.rail_base.specs.declared.plan.Command.{Command}
use Rattle.live_clause_spec.specs.Listed.{live_in_turn}
use Rattle.live_clause_spec.specs.Variables.{live_commands, live_numbered}
use Rattle.command_set.specs.Commands.{is_among}
use Rattle.command_set.proofs.Tests.{are_sets, pairs_alike}
use Rattle.plan_encoding.specs.Normal.{normal_part}
use Rattle.plan_encoding.specs.declared.numbering.Base.{Base}
use Rattle.plan_encoding.specs.declared.sink.BaseFault.{BaseFault}
use Rattle.plan_encoding.specs.declared.sink.BaseFault.TheVariants.{TooLarge, Memory}
use Rattle.plan_encoding.specs.Bases.{AreRefused, HasClauses, IsRefused, plain_base, plain_clauses, turns_base}
use Rattle.plan_encoding.specs.Numberings.{IsNumberingOf}
use Rattle.plan_encoding.specs.Sinks.{SinkView, Emitted, TooMany, emitted, FaultSays}
use Rattle.plan_encoding.proofs.Emission.{emitted_kept, emitted_literals, emitted_none, emitted_past}

-- a beginning with too many literals is one of more clauses
past_prefix : (sum k : ℕ) (cs more : List (List Lit)) → past_limit 16000000 sum cs ≡ Some k → past_limit 16000000 sum (cs ++ more) ≡ Some k
past_prefix sum k [] more h = absurd (cc)
past_prefix sum k (c ∷ cs) more h = go (nat_lt 16000000 (sum + length c)) h (past_prefix (sum + length c) k cs more)
  where
    go : (b : Bool) → (if b then Some (sum + length c) else past_limit 16000000 (sum + length c) cs) ≡ Some k
        → (past_limit 16000000 (sum + length c) cs ≡ Some k → past_limit 16000000 (sum + length c) (cs ++ more) ≡ Some k)
        → (if b then Some (sum + length c) else past_limit 16000000 (sum + length c) (cs ++ more)) ≡ Some k
    go true h rest = h
    go false h rest = rest h

-- behind clauses that are few, those after them decide
past_behind : (sum : ℕ) (cs more : List (List Lit)) → past_limit 16000000 sum cs ≡ None → past_limit 16000000 sum (cs ++ more) ≡ past_limit 16000000 (sum + literals cs) more
past_behind sum [] more h = ap (λ m. past_limit 16000000 m more) (omega arith)
past_behind sum (c ∷ cs) more h = go (nat_lt 16000000 (sum + length c)) h (past_behind (sum + length c) cs more)
  where
    joined : sum + length c + literals cs ≡ sum + literals (c ∷ cs)
    joined = (let all = sum_by-cons (λ (ls : List Lit). length ls) c cs in omega arith)

    go : (b : Bool) → (if b then Some (sum + length c) else past_limit 16000000 (sum + length c) cs) ≡ None
        → (past_limit 16000000 (sum + length c) cs ≡ None → past_limit 16000000 (sum + length c) (cs ++ more) ≡ past_limit 16000000 (sum + length c + literals cs) more)
        → (if b then Some (sum + length c) else past_limit 16000000 (sum + length c) (cs ++ more)) ≡ past_limit 16000000 (sum + literals (c ∷ cs)) more
    go true h rest = absurd (cc)
    go false h rest = rest h ∙ ap (λ m. past_limit 16000000 m more) joined

module _ (base more : List (List Lit)) (few : HasFewLiterals base) (sink : SinkView) (counted : sink.literals ≡ literals base) where
  past_is : past_limit 16000000 0 (base ++ more) ≡ past_limit 16000000 sink.literals more
  past_is = past_behind 0 base more few ∙ ap (λ m. past_limit 16000000 m more) (omega arith)

  -- where there are too many literals behind the base, there are in all
  both_past : (k : ℕ) → emitted sink more ≡ TooMany k → past_limit 16000000 0 (base ++ more) ≡ Some k
  both_past k h = past_is ∙ emitted_past sink more k h

  -- and where these are listed too, all are there
  module _ (kept : sink.clauses ≡ map (λ c. (c, true)) base) (keeps : sink.keep ≡ true) (new : SinkView) (listed : emitted sink more ≡ Emitted new) where
    both_fit : HasFewLiterals (base ++ more)
    both_fit = past_is ∙ emitted_none sink new more listed

    both_counted : new.literals ≡ literals (base ++ more)
    both_counted =
        let one = emitted_literals sink new more listed in
        let all = sum_by-append (λ (ls : List Lit). length ls) base more in
        omega arith

    both_kept : new.clauses ≡ map (λ c. (c, true)) (base ++ more)
    both_kept =
        emitted_kept sink new more listed keeps
        ∙ (ap (λ (s : Store). s ++ map (λ c. (c, true)) more) kept
        ∙ sym (map-append (λ c. (c, true)) base more))

-- clauses that begin with ones that are refused are refused
pub more_refused : (base more : List (List Lit)) (e : BaseFault) → AreRefused base e → AreRefused (base ++ more) e
more_refused base more (TooLarge k) h = past_prefix 0 k base more h
more_refused base more Memory h = tt

module _ (live : Command → Bool) (base : List (List Lit)) (d : Station) (routes : List Route) (n : ℕ) (b : Base) (is : HasClauses live base d routes n b) where
  -- a base has few literals
  pub base_few : b.literals ≤ 16000000
  base_few = (let l = is.literals in elim (within_limit 16000000 0 base is.few) [ inl z ↦ omega arith | inr z ↦ omega arith ])

  module _ (more : List (List Lit)) (sink : SinkView) (made : sink ≡ record { keep = true; literals = b.literals; clauses = b.clauses }) where
    counted : sink.literals ≡ literals base
    counted = ap (λ (x : SinkView). x.literals) made ∙ is.literals

    -- a fault of the clauses behind it is one of all
    pub behind_refused : (e : BaseFault) → FaultSays (emitted sink more) e → AreRefused (base ++ more) e
    behind_refused (TooLarge k) h = both_past base more is.few sink counted k h
    behind_refused Memory h = tt

    -- and where these are listed behind it, it is made
    pub behind_made : (new : SinkView) → emitted sink more ≡ Emitted new → (a : Base) → IsNumberingOf live d routes n a.numbering → a.clauses ≡ new.clauses → a.literals ≡ new.literals → HasClauses live (base ++ more) d routes n a
    behind_made new listed a numbering clauses_are literals_are =
        let kept : sink.clauses ≡ map (λ c. (c, true)) base = ap (λ (x : SinkView). x.clauses) made ∙ is.clauses in
        let keeps : sink.keep ≡ true = ap (λ (x : SinkView). x.keep) made in
        record {
          numbering = numbering;
          clauses = clauses_are ∙ both_kept base more is.few sink counted kept keeps new listed;
          literals = literals_are ∙ both_counted base more is.few sink counted kept keeps new listed;
          few = both_fit base more is.few sink counted kept keeps new listed;
        }

-- a fault of the plain base is one of each base that begins with it
pub kind_refused : (kind : BaseKind) (d : Station) (routes : List Route) (n : ℕ) (e : BaseFault) → ((turns : Turns) → kind ≡ Live turns → ⊥) → IsRefused Plain d routes n e → IsRefused kind d routes n e
kind_refused Plain d routes n e k h = h
kind_refused Sorted d routes n e k h = more_refused (base_clauses d routes n) (turn_clauses d routes n (turn_pairs All d)) e h
kind_refused Normal d routes n e k h = more_refused (base_clauses d routes n) (normal_part d routes n) e h
kind_refused (Live turns) d routes n e k h = absurd (k turns refl)

-- ---- a base over the commands that pass a test

module _ (live : Command → Bool) (d : Station) (routes : List Route) (n : ℕ) (some : 1 ≤ n) where
  abbrev set : Command → Bool
  set = is_among (live_commands live d routes)

  numbering_of : (b : Base) → IsNumberingOf set d routes n b.numbering → IsNumberingOf live d routes n b.numbering
  numbering_of b is = record { steps = is.steps; commands = is.commands ∙ are_sets live d routes; pairs = is.pairs ∙ pairs_alike live d routes }

  -- is one of the test
  pub of_test : (cls all : List (List Lit)) (b : Base) → cls ≡ all → HasClauses set cls d routes n b → HasClauses live all d routes n b
  of_test cls all b e is = record {
    numbering = numbering_of b is.numbering;
    clauses = is.clauses ∙ ap (map (λ c. (c, true))) e;
    literals = is.literals ∙ ap literals e;
    few = subst HasFewLiterals e is.few;
  }

-- the other way, with all commands
pub of_set : (d : Station) (routes : List Route) (n : ℕ) (cls all : List (List Lit)) (b : Base) → all ≡ cls → HasClauses (λ c. true) all d routes n b → HasClauses (is_among (live_commands (λ c. true) d routes)) cls d routes n b
of_set d routes n cls all b e is = record {
  numbering = (let m = is.numbering in record { steps = m.steps; commands = m.commands ∙ sym (are_sets (λ c. true) d routes); pairs = m.pairs ∙ sym (pairs_alike (λ c. true) d routes) });
  clauses = is.clauses ∙ ap (map (λ c. (c, true))) e;
  literals = is.literals ∙ ap literals e;
  few = subst HasFewLiterals e is.few;
}

-- the clauses with turns are the plain ones and then these
pub turns_parts : (turns : Turns) (live : Command → Bool) (d : Station) (routes : List Route) (n : ℕ) → turns_base turns live d routes n ≡ plain_base live d routes n ++ map (map (live_numbered live d routes n)) (flat_map (live_in_turn live d routes n) (turn_pairs turns d))
turns_parts turns live d routes n = map-append (map (live_numbered live d routes n)) (plain_clauses live d routes n) (flat_map (live_in_turn live d routes n) (turn_pairs turns d))

-- and a fault of the plain ones is one of them
pub turns_refused : (turns : Turns) (live : Command → Bool) (d : Station) (routes : List Route) (n : ℕ) (e : BaseFault) → AreRefused (plain_base live d routes n) e → AreRefused (turns_base turns live d routes n) e
turns_refused turns live d routes n e h =
    subst (λ (xs : List (List Lit)). AreRefused xs e) (sym (turns_parts turns live d routes n))
    (more_refused (plain_base live d routes n) (map (map (live_numbered live d routes n)) (flat_map (live_in_turn live d routes n) (turn_pairs turns d))) e h)

-- what has the plain ones and then these has them
pub with_turns_made : (turns : Turns) (live : Command → Bool) (d : Station) (routes : List Route) (n : ℕ) (a : Base)
    → HasClauses live (plain_base live d routes n ++ map (map (live_numbered live d routes n)) (flat_map (live_in_turn live d routes n) (turn_pairs turns d))) d routes n a → HasClauses live (turns_base turns live d routes n) d routes n a
with_turns_made turns live d routes n a h = subst (λ (cls : List (List Lit)). HasClauses live cls d routes n a) (sym (turns_parts turns live d routes n)) h
