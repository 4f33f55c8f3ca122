-- The numbers of withins of one train.
use Rattle.std.proofs.Common.{◌≡◌, ℕ, zero, suc, ◌≤◌, ◌<◌, ◌⊎◌, inl, inr, min, true, All, List, [], ◌∷◌, take, length, get_or, sym, ap, ◌∙◌, arith, take_all}
use Rattle.rail_base.specs.declared.station.Station.{Station}
use Rattle.rail_base.specs.Admission.{is_admitted}
use Rattle.rail_base.specs.Members.{In}
use Rattle.rail_base.specs.Numbering.{one_to}
use Rattle.rail_base.specs.Stations.{IsTrain, no_within, within_of}
use Rattle.rail_base.proofs.Admitting.{admitted}
use Rattle.rail_base.proofs.Contained.{in_at}
use Rattle.rail_base.proofs.Lists.{in_count_back, in_entry, in_filter_back}
use Rattle.rail_base.proofs.Members.{below_or_not}
use Rattle.time_words.specs.Numbers.{IsWithin}
use Rattle.time_words.specs.Times.{is_of_one_train, own_withins}

in_take : {X : Type 0} (n : ℕ) (xs : List X) (x : X) → In x (take n xs) → In x xs
in_take zero xs x m = absurd m
in_take (suc n) [] x m = absurd m
in_take (suc n) (y ∷ ys) x (inl e) = inl e
in_take (suc n) (y ∷ ys) x (inr m) = inr (in_take n ys x m)

pub all_within : (d : Station) (n : ℕ) → All (IsWithin d) (take n (own_withins d))
all_within d n = λ k e l.
    let x = get_or (take n (own_withins d)) k e in
    let m = in_take n (own_withins d) x (in_at (take n (own_withins d)) k e l) in
    let f = in_filter_back (λ n. is_of_one_train (within_of d n)) (one_to (length d.withins)) x m in
    let c = in_count_back 1 (length d.withins) x f.0 in
    let low = c.0 in
    let high = c.1 in
    (omega arith, omega arith)

pub its_train : (d : Station) → is_admitted d ≡ true → (n : ℕ) → IsWithin d n → IsTrain d (within_of d n).from_train
its_train d adm n w = ((admitted d adm).within (within_of d n) (in_entry no_within d.withins n w.0 w.1)).from.0

pub take_fewer : {X : Type 0} (xs : List X) (n m : ℕ) → m ≡ min (length xs) n → take m xs ≡ take n xs
take_fewer xs n m e = go (below_or_not n (length xs))
  where
    go : (n < length xs) ⊎ (length xs ≤ n) → take m xs ≡ take n xs
    go (inl l) = let same : m ≡ n = omega arith in ap (λ k. take k xs) same
    go (inr l) = take_all m xs (omega arith) ∙ sym (take_all n xs l)
