-- Which releases a command of a plan waits for, step by step.
use Rattle.std.proofs.Common.{◌≡◌, ◌⊎◌, inl, inr, ℕ, Option, Some, None, option_and_then, sym, Bool, true, false, List, [], ◌∷◌, ◌++◌, cond, filter, find, flat_map, map, refl, ap, ◌∙◌}
use Rattle.std.specs.Option.{option_or}
use Rattle.std.proofs.lemmas.List.{map-append}
use Rattle.std.proofs.lemmas.List.Concat.{flat_map-append}
use Rattle.std.proofs.lemmas.List.Elements.{filter-append}
use Rattle.std.proofs.lemmas.List.Folds.{find-append}
use Rattle.rail_base.specs.declared.route.Route.{Route}
use Rattle.rail_base.specs.declared.route.RouteNo.{RouteNo}
use Rattle.rail_base.specs.declared.station.SectionNo.{SectionNo}
use Rattle.timing_refuter.specs.Clearings.{is_entry}
use Rattle.rail_base.specs.declared.plan.Command.{Command}
use Rattle.rail_spec.specs.Plans.{commands, precedes}
use Rattle.outcome_words.specs.Waits.{releases_before, releases_by, releases_for}

-- the lists of those that pass a test
kept_or_none : {X Y : Type 0} (test : X → Bool) (f : X → List Y) (xs : List X) → flat_map f (filter test xs) ≡ flat_map (λ x. cond (test x) (f x) []) xs
kept_or_none test f [] = refl
kept_or_none {X} {Y} test f (x ∷ xs) = go (test x) (kept_or_none test f xs)
  where
    go : (b : Bool) → flat_map f (filter test xs) ≡ flat_map (λ y. cond (test y) (f y) []) xs → flat_map f (cond b (x ∷ filter test xs) (filter test xs)) ≡ cond b (f x) [] ++ flat_map (λ y. cond (test y) (f y) []) xs
    go true h = ap (λ ys. f x ++ ys) h
    go false h = h

-- of each command, those that it gives where it precedes
pub for_each : (routes : List Route) (plan : List (List Command)) (c : Command) → releases_for routes plan c ≡ flat_map (releases_before routes plan c) (commands plan)
for_each routes plan c = kept_or_none (λ e. precedes routes plan e c) (releases_by routes c) (commands plan)

-- step by step
flat_map-flat : {X Y : Type 0} (f : X → List Y) (xss : List (List X)) → flat_map f (flat_map (λ xs. xs) xss) ≡ flat_map (flat_map f) xss
flat_map-flat f [] = refl
flat_map-flat f (xs ∷ xss) = flat_map-append f xs (flat_map (λ xs. xs) xss) ∙ ap (λ ys. flat_map f xs ++ ys) (flat_map-flat f xss)

pub by_steps : (routes : List Route) (plan steps : List (List Command)) (c : Command) → flat_map (releases_before routes plan c) (commands steps) ≡ flat_map (flat_map (releases_before routes plan c)) steps
by_steps routes plan steps c = flat_map-flat (releases_before routes plan c) steps

-- of what is made of those of two lists that pass a test, the first that is late is the first of the one, or else of the other
pub late_in_turn : {X Y : Type 0} (late : Y → Bool) (f : X → Y) (test : X → Bool) (xs ys : List X) → find late (map f (filter test (xs ++ ys))) ≡ option_or (find late (map f (filter test xs))) (find late (map f (filter test ys)))
late_in_turn late f test xs ys =
    ap (λ zs. find late (map f zs)) (filter-append test xs ys)
    ∙ ap (find late) (map-append f (filter test xs) (filter test ys))
    ∙ find-append late (map f (filter test xs)) (map f (filter test ys))

-- of two lists of entries the tick of the first that is found
abbrev pub Entry : Type 0
Entry = RouteNo × SectionNo × Option ℕ

pub found_in_first : (r : RouteNo) (z : SectionNo) (xs ys : List Entry) (p : Entry) → find (is_entry r z) xs ≡ Some p → p.2 ≡ option_and_then (λ (e : Entry). e.2) (find (is_entry r z) (xs ++ ys))
found_in_first r z xs ys p e = sym (ap (option_and_then (λ (e : Entry). e.2)) (find-append (is_entry r z) xs ys ∙ ap (λ o. option_or o (find (is_entry r z) ys)) e))

pub found_in_second : (r : RouteNo) (z : SectionNo) (xs ys : List Entry) (o : Option Entry) → find (is_entry r z) xs ≡ None → find (is_entry r z) ys ≡ o → option_and_then (λ (e : Entry). e.2) o ≡ option_and_then (λ (e : Entry). e.2) (find (is_entry r z) (xs ++ ys))
found_in_second r z xs ys o e f = sym (ap (option_and_then (λ (e : Entry). e.2)) (find-append (is_entry r z) xs ys ∙ ap (λ o. option_or o (find (is_entry r z) ys)) e ∙ f))

-- what does not pass, or is not late, is not the first
pub not_first : {X Y : Type 0} (late : Y → Bool) (f : X → Y) (has : X → Bool) (x : X) (xs : List X) → (has x ≡ false) ⊎ (late (f x) ≡ false) → find late (map f (filter has xs)) ≡ find late (map f (filter has (x ∷ xs)))
not_first late f has x xs (inl h) = sym (ap (λ b. find late (map f (cond b (x ∷ filter has xs) (filter has xs)))) h)
not_first late f has x xs (inr l) = go (has x)
  where
    go : (b : Bool) → find late (map f (filter has xs)) ≡ find late (map f (cond b (x ∷ filter has xs) (filter has xs)))
    go true = sym (ap (λ b. cond b (Some (f x)) (find late (map f (filter has xs)))) l)
    go false = refl
