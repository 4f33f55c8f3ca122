-- Literals that are put at the end of a clause, part by part.
use Rattle.std.proofs.Common.{◌≡◌, ℕ, zero, ◌+◌, ◌-◌, ◌≤◌, ◌<◌, List, [], ◌∷◌, ◌++◌, map, flat_map, drop, get_or, length, Option, refl, sym, ap, subst, ◌∙◌, arith, length-drop}
use Rattle.std.proofs.lemmas.List.{drop_more}
use Rattle.rail_base.specs.Numbering.{count_from}
use Rattle.sat_clause.specs.declared.lit.Lit.{Lit}
use Rattle.bound_spec.specs.declared.Leg.{Leg}
use Rattle.cone_spec.specs.Clauses.{Literal}
use Rattle.cone_clause.specs.Contentions.{among}
use Rattle.bound_clause.specs.declared.numbered.NumberedBound.{NumberedBound}
use Rattle.bound_clause.specs.Left.{together}
use Rattle.bound_clause.specs.Said.{said_between, said_of_meetings}
use Rattle.bound_clause.specs.Spoken.{left, routes_in, station_of}
use Rattle.bound_clause.proofs.Parts.{left_append, together_nothing, together_so}

-- none are left at the end
pub count_end : (i n : ℕ) → n ≤ i → count_from i (n - i) ≡ []
count_end i n h = let e : n - i ≡ zero = omega arith in ap (count_from i) e

short : (ls : List Leg) → length ls ≤ 1 → said_of_meetings ls ≡ []
short [] h = refl
short (l ∷ []) h = refl
short (l ∷ m ∷ ls) h = absurd (omega arith)

module _ (c : NumberedBound) where
  -- two parts
  pub parts : (ls ms : List Literal) → left c (ls ++ ms) ≡ together (left c ls) (left c ms)
  parts = left_append (among c.contention) (station_of c) (routes_in c) c.steps.count

  -- one more part of what is said
  pub and_then : (old new : Option (List Lit)) (ls ms : List Literal) → old ≡ left c ls → new ≡ together old (left c ms) → new ≡ left c (ls ++ ms)
  and_then old new ls ms h e = e ∙ (ap (λ o. together o (left c ms)) h ∙ sym (parts ls ms))

  -- one more part of the rest
  one_more : (old new all : Option (List Lit)) (now part rest : List Literal) → now ≡ part ++ rest → new ≡ together old (left c part) → together old (left c now) ≡ all → together new (left c rest) ≡ all
  one_more old new all now part rest is e h =
      ap (λ o. together o (left c rest)) e
      ∙ (together_so old (left c part) (left c rest)
      ∙ (ap (together old) (sym (ap (left c) is ∙ parts part rest)) ∙ h))

  no_more : (old all : Option (List Lit)) (now : List Literal) → now ≡ [] → together old (left c now) ≡ all → old ≡ all
  no_more old all now is h = sym (together_nothing old) ∙ (ap (λ ls. together old (left c ls)) (sym is) ∙ h)

  module _ {X : Type 0} (f : X → Literal) where
    pub put_next : (old new all : Option (List Lit)) (now later : List X) (x : X) → now ≡ x ∷ later → new ≡ together old (left c (f x ∷ [])) → together old (left c (map f now)) ≡ all → together new (left c (map f later)) ≡ all
    put_next old new all now later x is e h = one_more old new all (map f now) (f x ∷ []) (map f later) (ap (map f) is) e h

    -- nothing is left at the end
    pub put_end : (old all : Option (List Lit)) (now : List X) → now ≡ [] → together old (left c (map f now)) ≡ all → old ≡ all
    put_end old all now is h = no_more old all (map f now) (ap (map f) is) h

  module _ {X : Type 0} (g : X → List Literal) where
    pub parts_next : (old new all : Option (List Lit)) (now later : List X) (x : X) → now ≡ x ∷ later → new ≡ together old (left c (g x)) → together old (left c (flat_map g now)) ≡ all → together new (left c (flat_map g later)) ≡ all
    parts_next old new all now later x is e h = one_more old new all (flat_map g now) (g x) (flat_map g later) (ap (flat_map g) is) e h

    pub parts_end : (old all : Option (List Lit)) (now : List X) → now ≡ [] → together old (left c (flat_map g now)) ≡ all → old ≡ all
    parts_end old all now is h = no_more old all (flat_map g now) (ap (flat_map g) is) h

  -- what is said where one more leg meets the next
  pub meetings_next : (legs : List Leg) (i : ℕ) (a b : Leg) → 1 ≤ i → i < length legs → a ≡ get_or legs (i - 1) a → b ≡ get_or legs i b → (old new all : Option (List Lit)) → new ≡ together old (left c (said_between a b))
      → together old (left c (said_of_meetings (drop (i - 1) legs))) ≡ all → together new (left c (said_of_meetings (drop (i + 1 - 1) legs))) ≡ all
  meetings_next legs i a b low high first second old new all e h =
      let same : i - 1 + 1 ≡ i = omega arith in
      let next : i + 1 - 1 ≡ i = omega arith in
      let one = drop_more legs (i - 1) a (omega arith) ∙ (ap (λ j. get_or legs (i - 1) a ∷ drop j legs) same ∙ ap (λ x. x ∷ drop i legs) (sym first)) in
      let two = drop_more legs i b high ∙ ap (λ x. x ∷ drop (i + 1) legs) (sym second) in
      let whole = one ∙ ap (λ ls. a ∷ ls) two in
      subst (λ j. together new (left c (said_of_meetings (drop j legs))) ≡ all) (sym next)
      (one_more old new all (said_of_meetings (drop (i - 1) legs)) (said_between a b) (said_of_meetings (drop i legs)) (ap said_of_meetings whole ∙ ap (λ ls. said_between a b ++ said_of_meetings ls) (sym two)) e h)

  pub meetings_end : (legs : List Leg) (i : ℕ) → 1 ≤ i → length legs ≤ i → (old all : Option (List Lit)) → together old (left c (said_of_meetings (drop (i - 1) legs))) ≡ all → old ≡ all
  meetings_end legs i low high old all h =
      let l = length-drop (i - 1) legs in
      no_more old all (said_of_meetings (drop (i - 1) legs)) (short (drop (i - 1) legs) (omega arith)) h
