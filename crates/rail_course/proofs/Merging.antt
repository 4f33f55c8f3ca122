-- Waits that are gathered: all are over exactly where each is.
use Rattle.std.proofs.Common.{◌≡◌, ◌⊎◌, inl, inr, ℕ, Bool, true, false, ◌&&◌, List, [], ◌∷◌, ◌++◌, take, get_or, length, ◌+◌, ◌<◌, ◌≤◌, nat_le, refl, sym, ap, subst, ◌∙◌, arith, leb-true, le-leb}
use Rattle.std.specs.List.{list_all}
use Rattle.std.proofs.lemmas.List.Folds.{list_all-append, list_all_more}
use Rattle.rail_base.specs.declared.state.Event.{Event}
use Rattle.rail_base.specs.declared.state.TrainEvent.{TrainEvent}
use Rattle.rail_base.specs.declared.state.TrainState.{TrainState}
use Rattle.rail_base.specs.Events.{has_happened}
use Rattle.rail_base.specs.Members.{In}
use Rattle.rail_base.proofs.Lists.{in_append, in_append_left, in_append_right}
use Rattle.rail_base.proofs.Members.{and_both, and_left, and_right, same_bool}
use Rattle.rail_spec.specs.Dispatches.{ago, past_of, has_come}
use Rattle.rail_course.specs.declared.waits.Wait.{Wait}
use Rattle.rail_course.specs.Waits.{AddsWaits, is_over}

-- ---- of two waits for one command

-- of two events of a train the one farther on comes where both do
farther : (s : TrainState) (e f : Event) → e.granted ≡ f.granted → e.place ≤ f.place → has_happened s f ≡ (has_happened s e && has_happened s f)
farther s e f same less = same_bool (has_happened s f) (has_happened s e && has_happened s f)
    (λ h. let g = and_left (nat_le f.granted s.granted) (nat_le f.place s.x) h in let l = leb-true f.place s.x (and_right (nat_le f.granted s.granted) (nat_le f.place s.x) h) in
    and_both (has_happened s e) (has_happened s f) (and_both (nat_le e.granted s.granted) (nat_le e.place s.x) (subst (λ n. nat_le n s.granted ≡ true) (sym same) g) (le-leb e.place s.x (omega arith))) h)
    (λ h. and_right (has_happened s e) (has_happened s f) h)

pub later_over : (ps : List (List TrainState)) (v w : TrainEvent) → v.train ≡ w.train → v.event.granted ≡ w.event.granted → v.ticks ≡ w.ticks → v.event.place ≤ w.event.place → has_come ps w ≡ (has_come ps v && has_come ps w)
later_over ps v w train granted ticks less =
    farther (ago w.ticks (past_of ps w.train)) v.event w.event granted less
    ∙ ap (λ n. has_happened (ago n (past_of ps w.train)) v.event && has_come ps w) (sym ticks) ∙ ap (λ t. has_happened (ago v.ticks (past_of ps t)) v.event && has_come ps w) (sym train)

and_turned : (a b : Bool) → (a && b) ≡ (b && a)
and_turned true true = refl
and_turned true false = refl
and_turned false true = refl
and_turned false false = refl

pub earlier_over : (ps : List (List TrainState)) (v w : TrainEvent) → v.train ≡ w.train → v.event.granted ≡ w.event.granted → v.ticks ≡ w.ticks → w.event.place ≤ v.event.place → has_come ps v ≡ (has_come ps v && has_come ps w)
earlier_over ps v w train granted ticks less = later_over ps w v (sym train) (sym granted) (sym ticks) less ∙ and_turned (has_come ps w) (has_come ps v)

-- ---- more waits

pub and_true : (a : Bool) → (a && true) ≡ a
and_true true = refl
and_true false = refl

pub and_assoc : (a b c : Bool) → ((a && b) && c) ≡ (a && (b && c))
and_assoc true b c = refl
and_assoc false b c = refl

pub all_push : {X : Type 0} (test : X → Bool) (xs : List X) (x : X) → list_all test (xs ++ x ∷ []) ≡ (list_all test xs && test x)
all_push test xs x = list_all-append test xs (x ∷ []) ∙ ap (λ b. list_all test xs && b) (and_true (test x))

pub in_push : {X : Type 0} (old new : List X) (x y : X) → new ≡ old ++ x ∷ [] → In y new → In y old ⊎ (y ≡ x)
in_push old new x y made m = go (in_append y old (x ∷ []) (subst (In y) made m))
  where
    go : In y old ⊎ ((x ≡ y) ⊎ ⊥) → In y old ⊎ (y ≡ x)
    go (inl k) = inl k
    go (inr (inl e)) = inr (sym e)
    go (inr (inr e)) = absurd e

pub none_more : (waits : List Wait) (Is : Wait → Type 0) (more : List (List TrainState) → Bool) → ((ps : List (List TrainState)) → more ps ≡ true) → AddsWaits waits waits more Is
none_more waits Is more over = record { over = λ ps. sym (and_true (list_all (is_over ps) waits)) ∙ ap (λ b. list_all (is_over ps) waits && b) (sym (over ps)); known = λ w m. inl m }

pub one_more : (old new : List Wait) (wait : Wait) → new ≡ old ++ wait ∷ [] → AddsWaits old new (λ ps. is_over ps wait) (λ w. w ≡ wait)
one_more old new wait made = record { over = λ ps. ap (list_all (is_over ps)) made ∙ all_push (is_over ps) old wait; known = λ w m. in_push old new wait w made m }

-- more and still more
pub and_more : (old mid new : List Wait) (some more : List (List TrainState) → Bool) (Is Was : Wait → Type 0) → AddsWaits old mid some Is → AddsWaits mid new more Was → AddsWaits old new (λ ps. some ps && more ps) (λ w. Is w ⊎ Was w)
and_more old mid new some more Is Was first second = record {
  over = λ ps. second.over ps ∙ ap (λ b. b && more ps) (first.over ps) ∙ and_assoc (list_all (is_over ps) old) (some ps) (more ps);
  known = λ w m. go w (second.known w m);
}
  where
    at : (w : Wait) → In w old ⊎ Is w → In w old ⊎ (Is w ⊎ Was w)
    at w (inl k) = inl k
    at w (inr k) = inr (inl k)

    go : (w : Wait) → In w mid ⊎ Was w → In w old ⊎ (Is w ⊎ Was w)
    go w (inl k) = at w (first.known w k)
    go w (inr k) = inr (inr k)

-- the same said otherwise
pub as_more : (old new : List Wait) (some more : List (List TrainState) → Bool) (Is Was : Wait → Type 0) → ((ps : List (List TrainState)) → some ps ≡ more ps) → ((w : Wait) → Is w → Was w) → AddsWaits old new some Is → AddsWaits old new more Was
as_more old new some more Is Was same so adds = record {
  over = λ ps. adds.over ps ∙ ap (λ b. list_all (is_over ps) old && b) (same ps);
  known = λ w m. go w (adds.known w m);
}
  where
    go : (w : Wait) → In w old ⊎ Is w → In w old ⊎ Was w
    go w (inl k) = inl k
    go w (inr k) = inr (so w k)

-- one in place of two
pub both_more : (old new : List Wait) (first second both : Wait) → new ≡ old ++ both ∷ [] → ((ps : List (List TrainState)) → is_over ps both ≡ (is_over ps first && is_over ps second)) → ((both ≡ first) ⊎ (both ≡ second)) → AddsWaits old new (λ ps. is_over ps first && is_over ps second) (λ w. (w ≡ first) ⊎ (w ≡ second))
both_more old new first second both made over one = as_more old new (λ ps. is_over ps both) (λ ps. is_over ps first && is_over ps second) (λ w. w ≡ both) (λ w. (w ≡ first) ⊎ (w ≡ second)) over go (one_more old new both made)
  where
    at : (w : Wait) → w ≡ both → ((both ≡ first) ⊎ (both ≡ second)) → (w ≡ first) ⊎ (w ≡ second)
    at w e (inl f) = inl (e ∙ f)
    at w e (inr f) = inr (e ∙ f)

    go : (w : Wait) → w ≡ both → (w ≡ first) ⊎ (w ≡ second)
    go w e = at w e one

-- where the last one is taken off before
pub taken_off : (old left new : List Wait) (last wait : Wait) → old ≡ left ++ last ∷ [] → AddsWaits left new (λ ps. is_over ps last && is_over ps wait) (λ w. (w ≡ last) ⊎ (w ≡ wait)) → AddsWaits old new (λ ps. is_over ps wait) (λ w. w ≡ wait)
taken_off old left new last wait was adds = record {
  over = λ ps. adds.over ps ∙ sym (and_assoc (list_all (is_over ps) left) (is_over ps last) (is_over ps wait)) ∙ ap (λ a. a && is_over ps wait) (sym (all_push (is_over ps) left last) ∙ ap (list_all (is_over ps)) (sym was));
  known = λ w m. go w (adds.known w m);
}
  where
    go : (w : Wait) → In w left ⊎ ((w ≡ last) ⊎ (w ≡ wait)) → In w old ⊎ (w ≡ wait)
    go w (inl k) = inl (subst (In w) (sym was) (in_append_left w left (last ∷ []) k))
    go w (inr (inl e)) = inl (subst (In w) (sym was) (in_append_right w left (last ∷ []) (inl (sym e))))
    go w (inr (inr e)) = inr e

-- ---- waits added one after the other

-- one thing more of a list is gone through
pub goes_on : {Y : Type 0} (lets : List (List TrainState) → Y → Bool) (of : Y → Wait → Type 0) (ys : List Y) (i : ℕ) (other : Y) (old mid new : List Wait) → i < length ys
    → AddsWaits mid new (λ ps. lets ps (get_or ys i other)) (of (get_or ys i other))
    → AddsWaits old mid (λ ps. list_all (lets ps) (take i ys)) (λ w. (y : Y) × In y ys × of y w)
    → In (get_or ys i other) ys → AddsWaits old new (λ ps. list_all (lets ps) (take (i + 1) ys)) (λ w. (y : Y) × In y ys × of y w)
goes_on {Y} lets of ys i other old mid new less more before member =
    as_more old new (λ ps. list_all (lets ps) (take i ys) && lets ps (get_or ys i other)) (λ ps. list_all (lets ps) (take (i + 1) ys))
    (λ w. ((y : Y) × In y ys × of y w) ⊎ of (get_or ys i other) w) (λ w. (y : Y) × In y ys × of y w)
    (λ ps. sym (list_all_more (lets ps) ys i other less)) so
    (and_more old mid new (λ ps. list_all (lets ps) (take i ys)) (λ ps. lets ps (get_or ys i other)) (λ w. (y : Y) × In y ys × of y w) (of (get_or ys i other)) before more)
  where
    so : (w : Wait) → ((y : Y) × In y ys × of y w) ⊎ of (get_or ys i other) w → (y : Y) × In y ys × of y w
    so w (inl k) = k
    so w (inr k) = (get_or ys i other, member, k)
