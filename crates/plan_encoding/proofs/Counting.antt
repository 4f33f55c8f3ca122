-- How many pairs there are, by the literals of what their variables say.
use Rattle.live_clause_spec.specs.Variables.{live_numbered}
use Rattle.std.proofs.Common.{◌≡◌, ℕ, ◌+◌, ◌*◌, ◌≤◌, ◌⊎◌, inl, inr, Bool, true, false, if◌then◌else◌, List, [], ◌∷◌, map, length, nat_lt, refl, arith}
use Rattle.std.proofs.lemmas.Bool.{ltb-false}
use Rattle.std.proofs.lemmas.List.Sums.{sum_by-cons}
use Rattle.sat_clause.specs.declared.lit.Lit.{Lit}
use Rattle.rail_base.specs.declared.plan.Command.{Command}
use Rattle.rail_base.proofs.Lists.{length-map}
use Rattle.clause_spec.specs.Clauses.{in_order, literals}
use Rattle.clause_spec.proofs.Few.{literals_told, orders_literals}
use Rattle.plan_encoding.specs.declared.encoder.Encoder.{Encoder}
use Rattle.plan_encoding.specs.Sinks.{SinkView, Emitted, TooMany, emitted, with_clause}
use Rattle.plan_encoding.specs.Families.{each_with}
use Rattle.plan_encoding.specs.Encoders.{among, over, numbered_clauses}

-- what is listed is counted, and no more is listed than a sink may have
pub emitted_grows : (d e : SinkView) (cs : List (List Lit)) → emitted d cs ≡ Emitted e → (e.literals ≡ d.literals + literals cs) × ((literals cs ≡ 0) ⊎ (e.literals ≤ 16000000))
emitted_grows d e [] h = (let same : d.literals ≡ e.literals = start h in omega arith, inl refl)
  where
    start : Emitted d ≡ Emitted e → d.literals ≡ e.literals
    start h = cc
emitted_grows d e (c ∷ cs) h = go (nat_lt 16000000 (d.literals + length c)) refl h (emitted_grows (with_clause d c) e cs)
  where
    go : (b : Bool) → nat_lt 16000000 (d.literals + length c) ≡ b → (if b then TooMany (d.literals + length c) else emitted (with_clause d c) cs) ≡ Emitted e
        → (emitted (with_clause d c) cs ≡ Emitted e → (e.literals ≡ d.literals + length c + literals cs) × ((literals cs ≡ 0) ⊎ (e.literals ≤ 16000000)))
        → (e.literals ≡ d.literals + literals (c ∷ cs)) × ((literals (c ∷ cs) ≡ 0) ⊎ (e.literals ≤ 16000000))
    go true is k rest = absurd (cc)
    go false is k rest =
        let low : d.literals + length c ≤ 16000000 = ltb-false 16000000 (d.literals + length c) is in
        let all = sum_by-cons (λ (ls : List Lit). length ls) c cs in
        let more = rest k in
        let sum = more.0 in
        (omega arith, elim more.1 [ inl z ↦ inr (omega arith) | inr z ↦ inr z ])

-- once the pairs of a command are listed too, there are still few
pub row_few : (f : Encoder) (e : Command) (cs : List Command) (old new : SinkView) (before : ℕ) → emitted old (numbered_clauses f (each_with (over f in_order) e cs)) ≡ Emitted new
    → before ≤ 8000000 → 2 * before ≤ old.literals → (before + length cs ≤ 8000000) × (2 * (before + length cs) ≤ new.literals)
row_few f e cs old new before h few spent =
    let pair : Command → Command × Command = λ c. (e, c) in
    let grows = emitted_grows old new (numbered_clauses f (each_with (over f in_order) e cs)) h in
    let sum = grows.0 in
    let same : literals (numbered_clauses f (each_with (over f in_order) e cs)) ≡ literals (each_with (over f in_order) e cs) = literals_told (among f live_numbered) (each_with (over f in_order) e cs) in
    let orders : 2 * length (map pair cs) ≤ literals (each_with (over f in_order) e cs) = orders_literals f.interlocking.now.design.station f.interlocking.now.routes f.steps.count (map pair cs) in
    let many = length-map pair cs in
    elim grows.1 [ inl z ↦ (omega arith, omega arith) | inr z ↦ (omega arith, omega arith) ]
