-- Clauses that calls list one after another.
use Rattle.live_clause_spec.specs.Listed.{live_first_pairs}
use Rattle.live_clause_spec.specs.Variables.{live_numbered, live_pairs}
use Rattle.command_set.specs.Commands.{AreCommandsOf, is_among}
use Rattle.live_contending.proofs.Listed.{set_by_firsts}
use Rattle.plan_encoding.proofs.Tabled.{each_pair}
use Rattle.std.proofs.Common.{◌≡◌, ℕ, Bool, true, false, cond, nat_lt, List, [], ◌∷◌, ◌++◌, map, flat_map, filter, refl, sym, ap, subst, ◌∙◌}
use Rattle.std.proofs.lemmas.List.{append_assoc}
use Rattle.std.proofs.lemmas.Grind.{flat_map-append}
use Rattle.rail_base.specs.declared.station.Station.{Station}
use Rattle.rail_base.specs.declared.route.Route.{Route}
use Rattle.rail_base.specs.declared.plan.Command.{Command}
use Rattle.plan_encoding.specs.Waiting.{apart_once}
use Rattle.plan_encoding.proofs.Emission.{part_listed, part_fails}
use Rattle.std.specs.Prelude.{Result, Ok, Err, IfOk, OnOk, IfErr}
use Rattle.plan_encoding.specs.declared.sink.BaseFault.{BaseFault}
use Rattle.plan_encoding.specs.declared.encoder.Encoder.{Encoder}
use Rattle.clause_spec.specs.Clauses.{Clause, not_at_once}
use Rattle.plan_encoding.specs.Sinks.{SinkView, Emission, Emitted, emitted, FaultSays}
use Rattle.normal_clause_spec.specs.Variables.{normal_numbered}
use Rattle.normal_clause_spec.specs.Clauses.{NormalClause}
use Rattle.sat_clause.specs.declared.lit.Lit.{Lit}
use Rattle.plan_encoding.specs.Encoders.{among, numbered_clauses, over}
use Rattle.plan_encoding.specs.Normal.{normal_numbered_clauses}

-- what holds where the answer is Ok, if another thing does
pub on_ok : {A E : Type 0} {P Q : Type 0} (r : Result A E) → (P → Q) → OnOk r P → OnOk r Q
on_ok (Ok x) h p = h p
on_ok (Err e) h p = p

-- what holds of the value, if another thing does
pub if_ok : {A E : Type 0} {P Q : A → Type 0} (r : Result A E) → ((x : A) → P x → Q x) → IfOk r P → IfOk r Q
if_ok (Ok x) h p = h x p
if_ok (Err e) h p = tt

-- the same of the fault
pub if_err : {A : Type 0} {P Q : BaseFault → Type 0} (r : Result A BaseFault) → ((e : BaseFault) → P e → Q e) → IfErr r P → IfErr r Q
if_err (Ok x) h p = p
if_err (Err e) h p = h e p

module _ {A : Type 0} (one other : Emission) (r : Result A BaseFault) (e : other ≡ one) where
  -- the last call's answer is that of all
  pub last_ok : (new : SinkView) → OnOk r (other ≡ Emitted new) → OnOk r (one ≡ Emitted new)
  last_ok new p = on_ok r (λ q. sym e ∙ q) p

  pub last_err : IfErr r (FaultSays other) → IfErr r (FaultSays one)
  last_err p = if_err r (λ x q. subst (λ l. FaultSays l x) e q) p

module _ {L : Type 0} (num : L → Lit) (a b : List (List L)) (old : SinkView) where
  -- what is listed after a part, of both
  pub rest_listed : (new : SinkView) → emitted old (map (map num) a) ≡ Emitted new → emitted new (map (map num) b) ≡ emitted old (map (map num) (a ++ b))
  rest_listed new h = part_listed num (a ++ b) a b (record { is = refl }) old new (emitted old (map (map num) (a ++ b))) h refl

  -- a fault in the first part is one of both
  pub first_fails : (e : BaseFault) → FaultSays (emitted old (map (map num) a)) e → FaultSays (emitted old (map (map num) (a ++ b))) e
  first_fails e h = part_fails num (a ++ b) a b (record { is = refl }) old e (emitted old (map (map num) (a ++ b))) h refl

-- the same of clauses of the plain base
pub then_rest : (f : Encoder) (a b : List Clause) (old new : SinkView) → emitted old (numbered_clauses f a) ≡ Emitted new → emitted new (numbered_clauses f b) ≡ emitted old (numbered_clauses f (a ++ b))
then_rest f a b old new h = rest_listed (among f live_numbered) a b old new h

pub then_fails : (f : Encoder) (a b : List Clause) (old : SinkView) (e : BaseFault) → FaultSays (emitted old (numbered_clauses f a)) e → FaultSays (emitted old (numbered_clauses f (a ++ b))) e
then_fails f a b old e h = first_fails (among f live_numbered) a b old e h

-- and of normal plans
pub normal_rest : (f : Encoder) (a b : List NormalClause) (old new : SinkView) → emitted old (normal_numbered_clauses f a) ≡ Emitted new → emitted new (normal_numbered_clauses f b) ≡ emitted old (normal_numbered_clauses f (a ++ b))
normal_rest f a b old new h = rest_listed (over f normal_numbered) a b old new h

pub normal_then_fails : (f : Encoder) (a b : List NormalClause) (old : SinkView) (e : BaseFault) → FaultSays (emitted old (normal_numbered_clauses f a)) e → FaultSays (emitted old (normal_numbered_clauses f (a ++ b))) e
normal_then_fails f a b old e h = first_fails (over f normal_numbered) a b old e h

-- a filter's parts
parts_kept : {X Y : Type 0} (g : X → List Y) (test : X → Bool) (xs : List X) → flat_map g (filter test xs) ≡ flat_map (λ x. cond (test x) (g x) []) xs
parts_kept g test [] = refl
parts_kept {X} {Y} g test (x ∷ xs) = go (test x) (parts_kept g test xs)
  where
    go : (b : Bool) → flat_map g (filter test xs) ≡ flat_map (λ x. cond (test x) (g x) []) xs → flat_map g (cond b (x ∷ filter test xs) (filter test xs)) ≡ cond b (g x) [] ++ flat_map (λ x. cond (test x) (g x) []) xs
    go true e = ap (λ ys. g x ++ ys) e
    go false e = e

-- parts of parts
pub parts_parts : {X Y Z : Type 0} (g : Y → List Z) (h : X → List Y) (xs : List X) → flat_map g (flat_map h xs) ≡ flat_map (λ x. flat_map g (h x)) xs
parts_parts g h [] = refl
parts_parts g h (x ∷ xs) = flat_map-append g (h x) (flat_map h xs) ∙ ap (λ zs. flat_map g (h x) ++ zs) (parts_parts g h xs)

-- the first pairs are those of which the first train is the earlier one
pub apart_are : (cs : List Command) (d : Station) (routes : List Route) (n : ℕ) → AreCommandsOf d routes cs → flat_map (λ e. flat_map (apart_once d routes n) (each_pair routes cs e)) cs ≡ flat_map (not_at_once d routes n) (live_first_pairs (is_among cs) d routes n)
apart_are cs d routes n are = sym (parts_kept (not_at_once d routes n) (λ p. nat_lt p.0.train.0 p.1.train.0) (live_pairs (is_among cs) d routes) ∙ (ap (flat_map (apart_once d routes n)) (set_by_firsts cs d routes are) ∙ parts_parts (apart_once d routes n) (each_pair routes cs) cs))

-- the parts as they stand in all
pub in_a_row : {X : Type 0} (a d e f g h : List X) → (a ++ (d ++ e)) ++ ((f ++ g) ++ h) ≡ ((((a ++ d) ++ e) ++ f) ++ g) ++ h
in_a_row a d e f g h =
    ap (λ xs. xs ++ ((f ++ g) ++ h)) (sym (append_assoc a d e))
    ∙ (sym (append_assoc ((a ++ d) ++ e) (f ++ g) h) ∙ ap (λ xs. xs ++ h) (sym (append_assoc ((a ++ d) ++ e) f g)))
