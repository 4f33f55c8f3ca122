-- The facts of a certificate's clause stand in strictly increasing order.
use Rattle.std.proofs.Common.{◌≡◌, ◌⊎◌, inl, inr, Bool, true, false, not, ◌&&◌, if◌then◌else◌, List, [], ◌∷◌, ◌++◌, flat_map, refl, sym, ap, subst, true≢false}
use Rattle.std.specs.List.{list_all}
use Rattle.rail_base.specs.declared.station.Station.{Station}
use Rattle.rail_base.specs.declared.route.Route.{Route}
use Rattle.rail_base.specs.declared.plan.Command.{Command}
use Rattle.rail_spec.specs.Plans.{all_commands}
use Rattle.rail_base.specs.Members.{all_pairs}
use Rattle.rail_base.proofs.Members.{In, and_left, and_right, and_both, or_left, or_right, list_all_at}
use Rattle.rail_base.proofs.Lists.{in_append, in_flat_map_back}
use Rattle.cone_spec.specs.Validity as cone
use Rattle.cone_spec.specs.Clauses.{Fact, Used, Before, Literal}
use Rattle.cone_spec.proofs.Saying.{is_command_self}
use Rattle.cone_spec.proofs.Sorted.{all_pairs_append, commands_sorted}
use Rattle.cone_clause.proofs.ClauseOrder.{is_fact_before, is_literal_before}
use Rattle.bound_spec.specs.declared.Bound.{Bound}
use Rattle.bound_spec.specs.Clauses.{is_named, is_kept_out, is_before, is_kept_behind, used_literals, before_literals, clause_of_bound}
use Rattle.bound_spec.specs.Validity.{in_design}
use Rattle.bound_clause.proofs.Known.{consistent, one_literal}

-- lists of members in order, of which each is in order, make a list in order
flat_in_order : {X Y : Type 0} (test : Y → Y → Bool) (order : X → X → Bool) (f : X → List Y) (xs : List X) → ((x : X) → In x xs → all_pairs test (f x) ≡ true)
    → ((x y : X) (a b : Y) → order x y ≡ true → In a (f x) → In b (f y) → test a b ≡ true) → all_pairs order xs ≡ true → all_pairs test (flat_map f xs) ≡ true
flat_in_order test order f [] each across h = refl
flat_in_order test order f (x ∷ xs) each across h = all_pairs_append test (f x) (flat_map f xs) (each x (inl refl)) (flat_in_order test order f xs (λ y m. each y (inr m)) across (and_right (list_all (order x) xs) _ h))
    (λ a b m n. let k = in_flat_map_back f xs b n in across x k.0 a b (list_all_at (order x) xs k.0 (and_left (list_all (order x) xs) _ h) k.1) m k.2)

module _ (d : Station) (routes : List Route) (b : Bound) (fits : in_design d routes b ≡ true) where
  -- at most one of two literals is there
  alone : (x y : Bool) (l m : Literal) → not (x && y) ≡ true → all_pairs is_literal_before ((if x then l ∷ [] else []) ++ (if y then m ∷ [] else [])) ≡ true
  alone true true l m h = absurd (true≢false (sym h))
  alone true false l m h = refl
  alone false true l m h = refl
  alone false false l m h = refl

  one_used : (c : Command) (l : Literal) → In l (used_literals d routes b c) → l.fact ≡ Used c
  one_used c l m = go (in_append l (if is_named d routes b c then record { fact = Used c; negated = true } ∷ [] else []) _ m)
    where
      go : In l (if is_named d routes b c then record { fact = Used c; negated = true } ∷ [] else []) ⊎ In l (if is_kept_out d routes b c then record { fact = Used c; negated = false } ∷ [] else []) → l.fact ≡ Used c
      go (inl k) = sym (ap (λ (l : Literal). l.fact) (one_literal d routes b fits (is_named d routes b c) l _ k).1)
      go (inr k) = sym (ap (λ (l : Literal). l.fact) (one_literal d routes b fits (is_kept_out d routes b c) l _ k).1)

  one_before : (e c : Command) (l : Literal) → In l (before_literals d routes b e c) → l.fact ≡ Before e c
  one_before e c l m = go (in_append l (if is_before d routes b e c then record { fact = Before e c; negated = true } ∷ [] else []) _ m)
    where
      go : In l (if is_before d routes b e c then record { fact = Before e c; negated = true } ∷ [] else []) ⊎ In l (if is_kept_behind d routes b e c then record { fact = Before e c; negated = false } ∷ [] else []) → l.fact ≡ Before e c
      go (inl k) = sym (ap (λ (l : Literal). l.fact) (one_literal d routes b fits (is_before d routes b e c) l _ k).1)
      go (inr k) = sym (ap (λ (l : Literal). l.fact) (one_literal d routes b fits (is_kept_behind d routes b e c) l _ k).1)

  alone_used : (c : Command) → In c (all_commands d routes) → all_pairs is_literal_before (used_literals d routes b c) ≡ true
  alone_used c m = alone (is_named d routes b c) (is_kept_out d routes b c) _ _
      (list_all_at (λ c. not (is_named d routes b c && is_kept_out d routes b c)) (all_commands d routes) c (and_left (list_all (λ c. not (is_named d routes b c && is_kept_out d routes b c)) (all_commands d routes)) _ (consistent d routes b fits)) m)

  alone_before : (e c : Command) → In e (all_commands d routes) → In c (all_commands d routes) → all_pairs is_literal_before (before_literals d routes b e c) ≡ true
  alone_before e c m n = alone (is_before d routes b e c) (is_kept_behind d routes b e c) _ _
      (list_all_at (λ c. not (is_before d routes b e c && is_kept_behind d routes b e c)) (all_commands d routes) c
      (list_all_at (λ e. list_all (λ c. not (is_before d routes b e c && is_kept_behind d routes b e c)) (all_commands d routes)) (all_commands d routes) e (and_right (list_all (λ c. not (is_named d routes b c && is_kept_out d routes b c)) (all_commands d routes)) _ (consistent d routes b fits)) m) n)

  both_facts : (l m : Literal) (f g : Fact) → l.fact ≡ f → m.fact ≡ g → is_fact_before f g ≡ true → is_literal_before l m ≡ true
  both_facts l m f g e h k = subst (λ x. is_fact_before x m.fact ≡ true) (sym e) (subst (λ y. is_fact_before f y ≡ true) (sym h) k)

  pub clause_sorted : all_pairs is_literal_before (clause_of_bound d routes b) ≡ true
  clause_sorted = all_pairs_append is_literal_before (flat_map (used_literals d routes b) (all_commands d routes)) (flat_map (λ e. flat_map (before_literals d routes b e) (all_commands d routes)) (all_commands d routes))
      (flat_in_order is_literal_before cone.is_before (used_literals d routes b) (all_commands d routes) alone_used (λ x y a c o m n. both_facts a c (Used x) (Used y) (one_used x a m) (one_used y c n) o) (commands_sorted d routes))
      (flat_in_order is_literal_before cone.is_before (λ e. flat_map (before_literals d routes b e) (all_commands d routes)) (all_commands d routes) of_one across (commands_sorted d routes))
      (λ l m i j.
      let a = in_flat_map_back (used_literals d routes b) (all_commands d routes) l i in
      let e = in_flat_map_back (λ e. flat_map (before_literals d routes b e) (all_commands d routes)) (all_commands d routes) m j in
      let c = in_flat_map_back (before_literals d routes b e.0) (all_commands d routes) m e.2 in
      both_facts l m (Used a.0) (Before e.0 c.0) (one_used a.0 l a.2) (one_before e.0 c.0 m c.2) refl)
    where
      of_one : (e : Command) → In e (all_commands d routes) → all_pairs is_literal_before (flat_map (before_literals d routes b e) (all_commands d routes)) ≡ true
      of_one e i = flat_in_order is_literal_before cone.is_before (before_literals d routes b e) (all_commands d routes) (λ c n. alone_before e c i n)
          (λ x y a c o m n. both_facts a c (Before e x) (Before e y) (one_before e x a m) (one_before e y c n) (or_right (cone.is_before e e) _ (and_both _ _ (is_command_self e) o))) (commands_sorted d routes)

      across : (e f : Command) (l m : Literal) → cone.is_before e f ≡ true → In l (flat_map (before_literals d routes b e) (all_commands d routes)) → In m (flat_map (before_literals d routes b f) (all_commands d routes)) → is_literal_before l m ≡ true
      across e f l m o i j =
          let a = in_flat_map_back (before_literals d routes b e) (all_commands d routes) l i in
          let c = in_flat_map_back (before_literals d routes b f) (all_commands d routes) m j in
          both_facts l m (Before e a.0) (Before f c.0) (one_before e a.0 l a.2) (one_before f c.0 m c.2) (or_left (cone.is_before e f) _ o)
