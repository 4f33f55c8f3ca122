-- What is left of parts of a clause is left of the whole.
use Rattle.std.proofs.Common.{◌≡◌, ℕ, Bool, true, false, not, ◌&&◌, ◌||◌, if◌then◌else◌, cond, List, [], ◌∷◌, ◌++◌, map, Option, Some, None, refl, sym, ap, ap₂, ◌∙◌, append-nil}
use Rattle.std.specs.List.{list_any}
use Rattle.std.proofs.lemmas.List.{append_assoc, map-append}
use Rattle.rail_base.specs.declared.station.Station.{Station}
use Rattle.rail_base.specs.declared.route.Route.{Route}
use Rattle.rail_base.specs.declared.plan.Command.{Command}
use Rattle.rail_base.proofs.Members.{filter-append}
use Rattle.sat_clause.specs.declared.lit.Lit.{Lit}
use Rattle.clause_spec.specs.Clauses.{Clause}
use Rattle.clause_spec.specs.Variables.{Variable, Literal as BaseLiteral}
use Rattle.live_clause_spec.specs.Clauses.{denies_dead, left_of, without_dead}
use Rattle.live_clause_spec.specs.Variables.{is_dead, live_number, live_numbered}
use Rattle.cone_spec.specs.Clauses.{Literal}
use Rattle.cone_clause.specs.Numbered.{base_literal}
use Rattle.bound_clause.specs.Left.{signed_left, together}

-- ---- parts

pub together_nothing : (part : Option (List Lit)) → together part (Some []) ≡ part
together_nothing (Some ls) = ap Some (append-nil ls)
together_nothing None = refl

pub together_so : (one two three : Option (List Lit)) → together (together one two) three ≡ together one (together two three)
together_so (Some ls) (Some ms) (Some ns) = ap Some (append_assoc ls ms ns)
together_so (Some ls) (Some ms) None = refl
together_so (Some ls) None three = refl
together_so None two three = refl

-- one literal more, or one without a number
pub with_more : (denied : Bool) (ls ms : List Lit) → (if denied then None else Some (ls ++ ms)) ≡ together (if denied then None else Some ls) (Some ms)
with_more true ls ms = refl
with_more false ls ms = refl

pub with_dead : (denied negated : Bool) (ls : List Lit) → (if denied || negated then None else Some ls) ≡ together (if denied then None else Some ls) (signed_left None negated)
with_dead true negated ls = refl
with_dead false true ls = refl
with_dead false false ls = sym (ap Some (append-nil ls))

any_append : {X : Type 0} (test : X → Bool) (xs ys : List X) → list_any test (xs ++ ys) ≡ (list_any test xs || list_any test ys)
any_append test [] ys = refl
any_append test (x ∷ xs) ys = ap (λ b. test x || b) (any_append test xs ys) ∙ or_so (test x) (list_any test xs) (list_any test ys)
  where
    or_so : (a b c : Bool) → (a || (b || c)) ≡ ((a || b) || c)
    or_so true b c = refl
    or_so false b c = refl

-- ---- clauses

module _ (live : Command → Bool) (d : Station) (routes : List Route) (n : ℕ) where
  abbrev number : BaseLiteral → Lit
  number = live_numbered live d routes n

  parts_left : (cl dl : Clause) → left_of live d routes n (cl ++ dl) ≡ together (left_of live d routes n cl) (left_of live d routes n dl)
  parts_left cl dl =
      ap₂ (λ b ls. if b then None else Some ls)
      (any_append (λ (l : BaseLiteral). l.negated && is_dead live l.variable) cl dl)
      (ap (map number) (filter-append (λ (l : BaseLiteral). not (is_dead live l.variable)) cl dl) ∙ map-append number (without_dead live cl) (without_dead live dl))
      ∙ go (denies_dead live cl) (denies_dead live dl) (map number (without_dead live cl)) (map number (without_dead live dl))
    where
      go : (a b : Bool) (ls ms : List Lit) → (if a || b then None else Some (ls ++ ms)) ≡ together (if a then None else Some ls) (if b then None else Some ms)
      go true b ls ms = refl
      go false true ls ms = refl
      go false false ls ms = refl

  -- what is left of literals of a certificate
  abbrev pub left_in : List Literal → Option (List Lit)
  left_in ls = left_of live d routes n (map (base_literal n) ls)

  pub left_append : (ls ms : List Literal) → left_in (ls ++ ms) ≡ together (left_in ls) (left_in ms)
  left_append ls ms = ap (left_of live d routes n) (map-append (base_literal n) ls ms) ∙ parts_left (map (base_literal n) ls) (map (base_literal n) ms)

  -- one literal, by whether its variable is live
  pub one_left : (v : Variable) (negated alive : Bool) → alive ≡ not (is_dead live v) → signed_left (if alive then Some (live_number live d routes n v) else None) negated ≡ left_of live d routes n (record { variable = v; negated = negated } ∷ [])
  one_left v negated alive e = ap (λ b. signed_left (if b then Some (live_number live d routes n v) else None) negated) e ∙ go (is_dead live v) negated
    where
      go : (dead negated : Bool) → signed_left (if not dead then Some (live_number live d routes n v) else None) negated
          ≡ (if (negated && dead || false) then None else Some (map number (cond (not dead) (record { variable = v; negated = negated } ∷ []) [])))
      go true true = refl
      go true false = refl
      go false true = refl
      go false false = refl
