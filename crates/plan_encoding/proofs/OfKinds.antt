-- Bases over sets of commands, and the base of each kind.
use Rattle.std.proofs.Common.{◌≡◌, ℕ, ◌≤◌, Bool, List, sym, ap, subst, ◌∙◌}
use Rattle.sat_clause.specs.declared.lit.Lit.{Lit}
use Rattle.rail_base.specs.declared.station.Station.{Station}
use Rattle.rail_base.specs.declared.route.Route.{Route}
use Rattle.rail_base.specs.declared.plan.Command.{Command}
use Rattle.clause_spec.specs.declared.question.BaseKind.TheVariants.{Plain, Sorted}
use Rattle.clause_spec.specs.declared.question.Turns.{Turns}
use Rattle.clause_spec.specs.declared.question.Turns.TheVariants.{All}
use Rattle.clause_spec.specs.Clauses.{base_clauses}
use Rattle.alike_clause_spec.specs.Sorted.{sorted_base}
use Rattle.live_clause_spec.specs.Clauses.{base_left}
use Rattle.live_clause_spec.specs.Variables.{live_commands}
use Rattle.command_set.specs.Commands.{AreCommandsOf, is_among}
use Rattle.command_set.proofs.Tests.{are_sets}
use Rattle.plan_encoding.specs.declared.numbering.Base.{Base}
use Rattle.plan_encoding.specs.declared.sink.BaseFault.{BaseFault}
use Rattle.plan_encoding.specs.Bases.{AreRefused, HasClauses, IsBaseOf, IsOver, IsRefused, plain_base, turns_base}
use Rattle.plan_encoding.proofs.Behind.{of_set, of_test}
use Rattle.plan_encoding.proofs.Over.{all_plain, all_turns, any, set_plain, set_turns}

-- the commands and the steps of what is over a set are those of its numbering
pub own_set : (d : Station) (routes : List Route) (n : ℕ) (cs : List Command) (clauses : (Command → Bool) → Station → List Route → ℕ → List (List Lit)) (b : Base) → IsOver cs clauses d routes n b → IsOver b.numbering.commands clauses d routes b.numbering.steps b
own_set d routes n cs clauses b o =
    subst (λ (m : ℕ). IsOver b.numbering.commands clauses d routes m b) (sym o.base.numbering.steps)
    (subst (λ (xs : List Command). IsOver xs clauses d routes n b) (sym (o.base.numbering.commands ∙ o.commands)) o)

module _ (d : Station) (routes : List Route) (n : ℕ) (some : 1 ≤ n) where
  abbrev every : List Command
  every = live_commands any d routes

  plain_is : plain_base (is_among every) d routes n ≡ base_clauses d routes n
  plain_is = set_plain any d routes n some ∙ all_plain d routes n some

  turns_are : turns_base All (is_among every) d routes n ≡ sorted_base All d routes n
  turns_are = set_turns any d routes n All some ∙ all_turns d routes n All some

  module _ (cs : List Command) (is : cs ≡ every) where
    -- with all commands, plain clauses over the set are the plain base
    pub plain_of : (b : Base) → IsOver cs plain_base d routes n b → IsBaseOf Plain d routes n b
    plain_of b o = of_test any d routes n some _ _ b plain_is (subst (λ (xs : List Command). HasClauses (is_among xs) (plain_base (is_among xs) d routes n) d routes n b) is o.base)

    pub plain_refused : (e : BaseFault) → AreRefused (plain_base (is_among cs) d routes n) e → IsRefused Plain d routes n e
    plain_refused e h = subst (λ (xs : List (List Lit)). AreRefused xs e) (ap (λ (xs : List Command). plain_base (is_among xs) d routes n) is ∙ plain_is) h

    -- and back
    pub plain_back : (b : Base) → IsBaseOf Plain d routes n b → IsOver cs plain_base d routes n b
    plain_back b o = record {
      commands = subst (λ (xs : List Command). AreCommandsOf d routes xs) (sym is) (are_sets any d routes);
      base = subst (λ (xs : List Command). HasClauses (is_among xs) (plain_base (is_among xs) d routes n) d routes n b) (sym is) (of_set d routes n _ _ b (sym plain_is) o);
    }

    -- with turns they are the sorted base
    pub sorted_of : (b : Base) → IsOver cs (turns_base All) d routes n b → IsBaseOf Sorted d routes n b
    sorted_of b o = of_test any d routes n some _ _ b turns_are (subst (λ (xs : List Command). HasClauses (is_among xs) (turns_base All (is_among xs) d routes n) d routes n b) is o.base)

    pub sorted_refused : (e : BaseFault) → AreRefused (turns_base All (is_among cs) d routes n) e → IsRefused Sorted d routes n e
    sorted_refused e h = subst (λ (xs : List (List Lit)). AreRefused xs e) (ap (λ (xs : List Command). turns_base All (is_among xs) d routes n) is ∙ turns_are) h

  -- over the commands that pass any test, clauses with turns are the base that is left by it
  module _ (turns : Turns) (live : Command → Bool) (cs : List Command) (is : cs ≡ live_commands live d routes) where
    pub left_of : (b : Base) → IsOver cs (turns_base turns) d routes n b → HasClauses live (base_left turns live d routes n) d routes n b
    left_of b o = of_test live d routes n some _ _ b (set_turns live d routes n turns some) (subst (λ (xs : List Command). HasClauses (is_among xs) (turns_base turns (is_among xs) d routes n) d routes n b) is o.base)

    pub left_refused : (e : BaseFault) → AreRefused (turns_base turns (is_among cs) d routes n) e → AreRefused (base_left turns live d routes n) e
    left_refused e h = subst (λ (xs : List (List Lit)). AreRefused xs e) (ap (λ (xs : List Command). turns_base turns (is_among xs) d routes n) is ∙ set_turns live d routes n turns some) h
