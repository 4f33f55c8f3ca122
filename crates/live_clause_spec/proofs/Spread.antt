-- Values of the live variables make what is left of clauses true exactly where they make the clauses true, with dead variables false.
use Rattle.std.proofs.Common.{◌≡◌, ℕ, zero, suc, Bool, true, false, cond, not, ◌&&◌, ◌||◌, List, [], ◌∷◌, map, Option, None, Some, slice_get, refl, sym, ap, ◌∙◌, true≢false}
use Rattle.std.specs.List.{list_all}
use Rattle.rail_base.specs.declared.station.Station.{Station}
use Rattle.rail_base.specs.declared.route.Route.{Route}
use Rattle.rail_base.specs.declared.plan.Command.{Command}
use Rattle.rail_base.proofs.Members.{In, and_left, and_right, and_both, false_unless}
use Rattle.rail_spec.specs.Plans.{commands, has_command}
use Rattle.sat_clause.specs.declared.lit.Lit.{Lit}
use Rattle.sat_clause.specs.Clauses.{lit_holds, clause_holds}
use Rattle.clause_spec.specs.Variables.{Variable, Given, Before, By, number_of, numbered, variables}
use Rattle.clause_spec.specs.Clauses.{Clause}
use Rattle.clause_spec.specs.Models.{holds, is_so, is_so_or_false, model_of}
use Rattle.clause_spec.proofs.Families.{KnownAll}
use Rattle.clause_spec.proofs.Numbers.{Known, clause_says, holds_alike, stands_known}
use Rattle.clause_spec.proofs.Steps.{has_gives}
use Rattle.live_clause_spec.specs.Variables.{both_live, is_dead, live_number, live_numbered}
use Rattle.live_clause_spec.specs.Clauses.{denies_dead, with_dead_false, without_dead}
use Rattle.live_clause_spec.specs.Models.{live_model_of, live_says, says_or_false, spread}
use Rattle.live_clause_spec.proofs.Falsing.{all_left, left_alike}
use Rattle.live_clause_spec.proofs.Lists.{in_get, list_all_map, not_true}
use Rattle.live_clause_spec.proofs.Numbers.{known_of, live_clause_says, stands_live}

-- ---- clauses are true alike where all values are the same

pub same_clause : (one other : ℕ → Bool) → ((v : ℕ) → one v ≡ other v) → (c : List Lit) → clause_holds one c ≡ clause_holds other c
same_clause one other same [] = refl
same_clause one other same (l ∷ ls) =
    let a : lit_holds one l ≡ lit_holds other l = ap (λ b. cond l.negated (not b) b) (same l.var) in
    ap (λ x. x || clause_holds one ls) a ∙ ap (λ x. lit_holds other l || x) (same_clause one other same ls)

pub same_clauses : (one other : ℕ → Bool) → ((v : ℕ) → one v ≡ other v) → (cs : List (List Lit)) → list_all (clause_holds one) cs ≡ list_all (clause_holds other) cs
same_clauses one other same [] = refl
same_clauses one other same (c ∷ cs) = ap (λ x. x && list_all (clause_holds one) cs) (same_clause one other same c) ∙ ap (λ x. clause_holds other c && x) (same_clauses one other same cs)

module _ (live : Command → Bool) (d : Station) (routes : List Route) (n : ℕ) where
  -- ---- values for all variables

  pub spread_says : (values : ℕ → Bool) (v : Variable) → Known d routes n v → spread live d routes n values (number_of d routes n v) ≡ live_says live d routes n values v
  spread_says values v k =
      let s = stands_known d routes n v k in
      ap (spread live d routes n values) s.number ∙ ap (says_or_false live d routes n values) s.there

  pub dead_false : (values : ℕ → Bool) (v : Variable) → is_dead live v ≡ true → live_says live d routes n values v ≡ false
  dead_false values v h = ap (λ b. not b && values (live_number live d routes n v)) h

  pub live_same : (values : ℕ → Bool) (v : Variable) → is_dead live v ≡ false → live_says live d routes n values v ≡ values (live_number live d routes n v)
  live_same values v h = ap (λ b. not b && values (live_number live d routes n v)) h

  pub clauses_spread : (values : ℕ → Bool) (cls : List Clause) → ((cl : Clause) → In cl cls → KnownAll d routes n cl)
      → list_all (clause_holds values) (map (map (live_numbered live d routes n)) (with_dead_false live cls)) ≡ list_all (clause_holds (spread live d routes n values)) (map (map (numbered d routes n)) cls)
  clauses_spread values cls known =
      let alive : Variable → Bool = λ v. values (live_number live d routes n v) in
      let says : Variable → Bool = λ v. spread live d routes n values (number_of d routes n v) in
      list_all_map (clause_holds values) (holds alive) (map (live_numbered live d routes n)) (with_dead_false live cls) (λ cl m. live_clause_says live d routes n values cl)
      ∙ (all_left live (live_says live d routes n values) alive (dead_false values) (live_same values) cls
      ∙ sym (list_all_map (clause_holds (spread live d routes n values)) (holds (live_says live d routes n values)) (map (numbered d routes n)) cls
      (λ cl m. clause_says d routes n (spread live d routes n values) cl ∙ holds_alike says (live_says live d routes n values) cl (λ l k. spread_says values l.variable (known cl m l k)))))

  -- a clause that doesn't go is true where what is left of it is
  pub clause_spread : (values : ℕ → Bool) (cl : Clause) → KnownAll d routes n cl → denies_dead live cl ≡ false
      → clause_holds values (map (live_numbered live d routes n) (without_dead live cl)) ≡ clause_holds (spread live d routes n values) (map (numbered d routes n) cl)
  clause_spread values cl known stays =
      let alive : Variable → Bool = λ v. values (live_number live d routes n v) in
      let says : Variable → Bool = λ v. spread live d routes n values (number_of d routes n v) in
      live_clause_says live d routes n values (without_dead live cl)
      ∙ (sym (left_alike live (live_says live d routes n values) alive (dead_false values) (live_same values) cl stays)
      ∙ sym (clause_says d routes n (spread live d routes n values) cl ∙ holds_alike says (live_says live d routes n values) cl (λ l k. spread_says values l.variable (known l k))))

  -- ---- the model of a plan

  module _ (plan : List (List Command)) where
    pub live_model_says : (v : Variable) → Known d routes n v → is_dead live v ≡ false → live_model_of live d routes n plan (live_number live d routes n v) ≡ is_so plan v
    live_model_says v k a =
        let s = stands_live live d routes n v k a in
        ap (live_model_of live d routes n plan) s.number ∙ ap (is_so_or_false plan) s.there

    module _ (all : (c : Command) → In c (commands plan) → live c ≡ true) where
      -- what is dead is not so
      pub not_so : (v : Variable) → is_dead live v ≡ true → is_so plan v ≡ false
      not_so (Given c i) h = false_unless (is_so plan (Given c i)) (λ k. true≢false (sym (all c (has_gives (commands plan) c (and_left (has_command plan c) _ k))) ∙ not_true (live c) h))
      not_so (Before e c) h = false_unless (is_so plan (Before e c)) (λ k. (
          let both = and_left (has_command plan e && has_command plan c) _ k in
          let a = all e (has_gives (commands plan) e (and_left (has_command plan e) (has_command plan c) both)) in
          let b = all c (has_gives (commands plan) c (and_right (has_command plan e) (has_command plan c) both)) in
          true≢false (sym (and_both (live e) (live c) a b) ∙ not_true (both_live live (e, c)) h)))
      not_so (By k) h = absurd (true≢false (sym h))

      pub model_spread : (v : ℕ) → spread live d routes n (live_model_of live d routes n plan) v ≡ model_of d routes n plan v
      model_spread zero = refl
      model_spread (suc v) = go (slice_get (variables d routes n) v) refl
        where
          at : (w : Variable) → Known d routes n w → (b : Bool) → is_dead live w ≡ b → live_says live d routes n (live_model_of live d routes n plan) w ≡ is_so plan w
          at w k true e = dead_false (live_model_of live d routes n plan) w e ∙ sym (not_so w e)
          at w k false e = live_same (live_model_of live d routes n plan) w e ∙ live_model_says w k e

          go : (o : Option Variable) → slice_get (variables d routes n) v ≡ o → says_or_false live d routes n (live_model_of live d routes n plan) o ≡ is_so_or_false plan o
          go None e = refl
          go (Some w) e = at w (known_of d routes n w (in_get (variables d routes n) v w e)) (is_dead live w) refl

      -- it makes what is left of clauses true exactly where the plan's model makes them true
      pub model_alike : (cls : List Clause) → ((cl : Clause) → In cl cls → KnownAll d routes n cl)
          → list_all (clause_holds (live_model_of live d routes n plan)) (map (map (live_numbered live d routes n)) (with_dead_false live cls)) ≡ list_all (clause_holds (model_of d routes n plan)) (map (map (numbered d routes n)) cls)
      model_alike cls known =
          clauses_spread (live_model_of live d routes n plan) cls known
          ∙ same_clauses (spread live d routes n (live_model_of live d routes n plan)) (model_of d routes n plan) model_spread (map (map (numbered d routes n)) cls)

      pub clause_of_plan : (cl : Clause) → KnownAll d routes n cl → denies_dead live cl ≡ false
          → clause_holds (live_model_of live d routes n plan) (map (live_numbered live d routes n) (without_dead live cl)) ≡ clause_holds (model_of d routes n plan) (map (numbered d routes n) cl)
      clause_of_plan cl known stays =
          clause_spread (live_model_of live d routes n plan) cl known stays
          ∙ same_clause (spread live d routes n (live_model_of live d routes n plan)) (model_of d routes n plan) model_spread (map (numbered d routes n) cl)
