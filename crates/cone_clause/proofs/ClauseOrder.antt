-- The facts of a cone's clause stand in strictly increasing order.
use Rattle.std.proofs.Common.{◌≡◌, inl, inr, Bool, true, false, ◌&&◌, ◌||◌, if◌then◌else◌, List, [], ◌∷◌, map, flat_map, refl, sym, ap, subst, true≢false}
use Rattle.rail_base.specs.declared.station.Station.{Station}
use Rattle.rail_base.specs.declared.route.Route.{Route}
use Rattle.rail_base.specs.declared.plan.Command.{Command}
use Rattle.cone_spec.specs.declared.Cone.{Cone}
use Rattle.rail_spec.specs.Plans.{route_at, contend, all_commands}
use Rattle.rail_base.specs.Members.{all_pairs}
use Rattle.rail_base.proofs.Members.{In, and_both}
use Rattle.cone_spec.specs.Cones.{is_named, has_pair, is_free, named}
use Rattle.cone_spec.specs.Validity.{is_before, is_pair_before}
use Rattle.cone_spec.specs.Clauses.{Fact, Used, Before, Literal, is_closed, goes_further, used_literals, before_literals, clause_of_cone}
use Rattle.cone_spec.proofs.Saying.{is_command_self}
use Rattle.cone_spec.proofs.Sorted.{all_pairs_append, all_pairs_flat, commands_sorted}
use Rattle.rail_base.proofs.Lists.{in_flat_map_back}

-- what is used comes first, by its command; and then what is given earlier, by the first command and then the second
abbrev pub is_fact_before : Fact → Fact → Bool
is_fact_before (Used c) (Used e) = is_before c e
is_fact_before (Used c) (Before d e) = true
is_fact_before (Before c d) (Used e) = false
is_fact_before (Before a b) (Before c d) = is_pair_before (a, b) (c, d)

abbrev pub is_literal_before : Literal → Literal → Bool
is_literal_before l m = is_fact_before l.fact m.fact

module _ (d : Station) (routes : List Route) (k : Cone) where
  pub one_used : (c : Command) (l : Literal) → In l (used_literals d routes k c) → l.fact ≡ Used c
  one_used c l m = go (is_named k c) (is_closed d routes k c.train && goes_further (map (route_at routes) (named k c.train).path) (route_at routes c.route)) m
    where
      go : (a b : Bool) → In l (if a then record { fact = Used c; negated = true } ∷ [] else if b then record { fact = Used c; negated = false } ∷ [] else []) → l.fact ≡ Used c
      go true b (inl e) = sym (ap (λ (l : Literal). l.fact) e)
      go true b (inr e) = absurd e
      go false true (inl e) = sym (ap (λ (l : Literal). l.fact) e)
      go false true (inr e) = absurd e
      go false false e = absurd e

  pub one_before : (e c : Command) (l : Literal) → In l (before_literals d routes k e c) → l.fact ≡ Before e c
  one_before e c l m = go (has_pair k e c) (is_free k c && contend routes e c) m
    where
      go : (a b : Bool) → In l (if a then record { fact = Before e c; negated = true } ∷ [] else if b then record { fact = Before e c; negated = false } ∷ [] else []) → l.fact ≡ Before e c
      go true b (inl e) = sym (ap (λ (l : Literal). l.fact) e)
      go true b (inr e) = absurd e
      go false true (inl e) = sym (ap (λ (l : Literal). l.fact) e)
      go false true (inr e) = absurd e
      go false false e = absurd e

  alone_used : (c : Command) → all_pairs is_literal_before (used_literals d routes k c) ≡ true
  alone_used c = go (is_named k c) (is_closed d routes k c.train && goes_further (map (route_at routes) (named k c.train).path) (route_at routes c.route))
    where
      go : (a b : Bool) → all_pairs is_literal_before (if a then record { fact = Used c; negated = true } ∷ [] else if b then record { fact = Used c; negated = false } ∷ [] else []) ≡ true
      go true b = refl
      go false true = refl
      go false false = refl

  alone_before : (e c : Command) → all_pairs is_literal_before (before_literals d routes k e c) ≡ true
  alone_before e c = go (has_pair k e c) (is_free k c && contend routes e c)
    where
      go : (a b : Bool) → all_pairs is_literal_before (if a then record { fact = Before e c; negated = true } ∷ [] else if b then record { fact = Before e c; negated = false } ∷ [] else []) ≡ true
      go true b = refl
      go false true = refl
      go false false = refl

  or_left : (a b : Bool) → a ≡ true → (a || b) ≡ true
  or_left true b e = refl
  or_left false b e = absurd (true≢false (sym e))

  or_right : (a b : Bool) → b ≡ true → (a || b) ≡ true
  or_right true b e = refl
  or_right false b e = e

  both_facts : (l m : Literal) (f g : Fact) → l.fact ≡ f → m.fact ≡ g → is_fact_before f g ≡ true → is_literal_before l m ≡ true
  both_facts l m f g e h k = subst (λ x. is_fact_before x m.fact ≡ true) (sym e) (subst (λ y. is_fact_before f y ≡ true) (sym h) k)

  pub clause_sorted : all_pairs is_literal_before (clause_of_cone d routes k) ≡ true
  clause_sorted = all_pairs_append is_literal_before (flat_map (used_literals d routes k) (all_commands d routes)) (flat_map (λ e. flat_map (before_literals d routes k e) (all_commands d routes)) (all_commands d routes))
      (all_pairs_flat is_literal_before is_before (used_literals d routes k) alone_used (λ x y a b o m n. both_facts a b (Used x) (Used y) (one_used x a m) (one_used y b n) o) (all_commands d routes) (commands_sorted d routes))
      (all_pairs_flat is_literal_before is_before (λ e. flat_map (before_literals d routes k e) (all_commands d routes)) of_one across (all_commands d routes) (commands_sorted d routes))
      (λ l m i j.
      let a = in_flat_map_back (used_literals d routes k) (all_commands d routes) l i in
      let b = in_flat_map_back (λ e. flat_map (before_literals d routes k e) (all_commands d routes)) (all_commands d routes) m j in
      let c = in_flat_map_back (before_literals d routes k b.0) (all_commands d routes) m b.2 in
      both_facts l m (Used a.0) (Before b.0 c.0) (one_used a.0 l a.2) (one_before b.0 c.0 m c.2) refl)
    where
      of_one : (e : Command) → all_pairs is_literal_before (flat_map (before_literals d routes k e) (all_commands d routes)) ≡ true
      of_one e = all_pairs_flat is_literal_before is_before (before_literals d routes k e) (alone_before e)
          (λ x y a b o m n. both_facts a b (Before e x) (Before e y) (one_before e x a m) (one_before e y b n) (or_right (is_before e e) _ (and_both _ _ (is_command_self e) o))) (all_commands d routes) (commands_sorted d routes)

      across : (e f : Command) (l m : Literal) → is_before e f ≡ true → In l (flat_map (before_literals d routes k e) (all_commands d routes)) → In m (flat_map (before_literals d routes k f) (all_commands d routes)) → is_literal_before l m ≡ true
      across e f l m o i j =
          let a = in_flat_map_back (before_literals d routes k e) (all_commands d routes) l i in
          let b = in_flat_map_back (before_literals d routes k f) (all_commands d routes) m j in
          both_facts l m (Before e a.0) (Before f b.0) (one_before e a.0 l a.2) (one_before f b.0 m b.2) (or_left (is_before e f) _ o)
