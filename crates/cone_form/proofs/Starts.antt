-- No start is used twice: each route is compared with those before it.
use Rattle.std.proofs.Common.{◌≡◌, ℕ, zero, suc, ◌+◌, ◌<◌, inl, inr, Bool, true, false, not, List, [], ◌∷◌, ◌++◌, map, take, get_or, length, refl, sym, ap, subst, ◌∙◌, arith, true≢false, eqb-true, eq-eqb}
use Rattle.std.specs.List.{list_all, list_any}
use Rattle.std.proofs.lemmas.List.{take_more, map-append}
use Rattle.rail_base.specs.Members.{all_pairs}
use Rattle.rail_base.specs.declared.route.Route.{Route}
use Rattle.rail_base.specs.declared.route.Start.{Start}
use Rattle.rail_base.specs.declared.route.Start.TheVariants as start
use Rattle.rail_base.proofs.Members.{In, and_left, and_right, list_all_at, list_any_gives, list_any_from, false_unless}
use Rattle.rail_spec.specs.Plans.{is_start}
use Rattle.cone_spec.proofs.Sorted.{all_pairs_append}

abbrev differ : Route → Route → Bool
differ r q = not (is_start r.start q.start)

start_sym : (s u : Start) → is_start s u ≡ true → is_start u s ≡ true
start_sym (start.Boundary m) (start.Boundary n) h = eq-eqb n.0 m.0 (sym (eqb-true m.0 n.0 h))
start_sym (start.Boundary m) (start.Signal q) h = h
start_sym (start.Signal s) (start.Boundary n) h = h
start_sym (start.Signal s) (start.Signal q) h = eq-eqb q.0 s.0 (sym (eqb-true s.0 q.0 h))

-- a member before a place, and the member of the place
pairs_before : {X Y : Type 0} (test : Y → Y → Bool) (f : X → Y) (xs : List X) (i : ℕ) (y : Y) (other : X) → i < length xs → all_pairs test (map f xs) ≡ true → In y (map f (take i xs)) → test y (f (get_or xs i other)) ≡ true
pairs_before test f [] i y other l h m = absurd (omega arith)
pairs_before test f (x ∷ xs) zero y other l h m = absurd m
pairs_before {X} {Y} test f (x ∷ xs) (suc i) y other l h (inl e) = subst (λ z. test z (f (get_or xs i other)) ≡ true) e (list_all_at (test (f x)) (map f xs) (f (get_or xs i other)) (and_left (list_all (test (f x)) (map f xs)) _ h) (mapped xs i (omega arith)))
  where
    mapped : (xs : List X) (i : ℕ) → i < length xs → In (f (get_or xs i other)) (map f xs)
    mapped [] i l = absurd (omega arith)
    mapped (x ∷ xs) zero l = inl refl
    mapped (x ∷ xs) (suc i) l = inr (mapped xs i (omega arith))
pairs_before test f (x ∷ xs) (suc i) y other l h (inr m) = pairs_before test f xs i y other (omega arith) (and_right (list_all (test (f x)) (map f xs)) _ h) m

module _ {X : Type 0} (f : X → Route) (xs : List X) (i : ℕ) (other : X) (inside : i < length xs) where
  pub starts_stop : list_any (λ q. is_start (f (get_or xs i other)).start q.start) (map f (take i xs)) ≡ true → false ≡ all_pairs differ (map f xs)
  starts_stop h = sym (false_unless (all_pairs differ (map f xs)) (λ t. go t (list_any_gives (λ q. is_start (f (get_or xs i other)).start q.start) (map f (take i xs)) h)))
    where
      go : all_pairs differ (map f xs) ≡ true → (q : Route) × In q (map f (take i xs)) × (is_start (f (get_or xs i other)).start q.start ≡ true) → ⊥
      go t (q, m, e) = true≢false (sym (pairs_before differ f xs i q other inside t m) ∙ ap not (start_sym (f (get_or xs i other)).start q.start e))

  pub starts_next : list_any (λ q. is_start (f (get_or xs i other)).start q.start) (map f (take i xs)) ≡ false → all_pairs differ (map f (take i xs)) ≡ true → all_pairs differ (map f (take (i + 1) xs)) ≡ true
  starts_next h t = subst (λ rs. all_pairs differ rs ≡ true) (sym whole) (all_pairs_append differ (map f (take i xs)) (f (get_or xs i other) ∷ []) t refl across)
    where
      whole : map f (take (i + 1) xs) ≡ map f (take i xs) ++ f (get_or xs i other) ∷ []
      whole = ap (map f) (take_more xs i other inside) ∙ map-append f (take i xs) (get_or xs i other ∷ [])

      across : (r q : Route) → In r (map f (take i xs)) → In q (f (get_or xs i other) ∷ []) → differ r q ≡ true
      across r q m (inl e) = subst (λ z. differ r z ≡ true) e (ap not (false_unless (is_start r.start (f (get_or xs i other)).start) (λ s. true≢false (sym (list_any_from (λ q. is_start (f (get_or xs i other)).start q.start) (map f (take i xs)) r m (start_sym r.start (f (get_or xs i other)).start s)) ∙ h))))
      across r q m (inr e) = absurd e
