-- A step's commands, train by train.
use Rattle.std.proofs.Common.{◌≡◌, ℕ, zero, suc, ◌+◌, List, [], ◌∷◌, ◌++◌, map, filter, flat_map, ap, ◌∙◌, arith, append-nil}
use Rattle.std.proofs.lemmas.List.{map-append}
use Rattle.std.proofs.lemmas.List.Concat.{flat_map-append}
use Rattle.rail_base.specs.declared.station.TrainNo.{TrainNo}
use Rattle.rail_base.specs.declared.plan.Command.{Command}
use Rattle.rail_base.specs.Numbering.{count_from, one_to}
use Rattle.rail_spec.specs.Plans.{is_train}

-- the trains with the numbers up to n
abbrev pub first_trains : ℕ → List TrainNo
first_trains n = map (λ m. record { 0 = m }) (one_to n)

-- their commands
abbrev pub given_first : List Command → ℕ → List Command
given_first step n = flat_map (λ t. filter (λ c. is_train c.train t) step) (first_trains n)

counted : (a n : ℕ) → count_from a (n + 1) ≡ count_from a n ++ (a + n) ∷ []
counted a zero = let e : a ≡ a + 0 = omega arith in ap (λ m. m ∷ []) e
counted a (suc n) =
    let e : a + 1 + n ≡ a + suc n = omega arith in
    let one : suc n + 1 ≡ suc (n + 1) = omega arith in
    ap (count_from a) one ∙ ap (λ ms. a ∷ ms) (counted (a + 1) n ∙ ap (λ m. count_from (a + 1) n ++ m ∷ []) e)

pub one_more : {Y : Type 0} (f : Command → Y) (step : List Command) (n : ℕ) → map f (given_first step (n + 1)) ≡ map f (given_first step n) ++ map f (filter (λ c. is_train c.train (record { 0 = n + 1 })) step)
one_more f step n =
    let e : 1 + n ≡ n + 1 = omega arith in
    ap (λ ms. map f (flat_map (λ (t : TrainNo). filter (λ c. is_train c.train t) step) (map (λ m. record { 0 = m }) ms))) (counted 1 n ∙ ap (λ m. one_to n ++ m ∷ []) e)
    ∙ ap (λ ts. map f (flat_map (λ (t : TrainNo). filter (λ c. is_train c.train t) step) ts)) (map-append (λ m. record { 0 = m }) (one_to n) ((n + 1) ∷ []))
    ∙ ap (map f) (flat_map-append (λ (t : TrainNo). filter (λ c. is_train c.train t) step) (first_trains n) (record { 0 = n + 1 } ∷ []))
    ∙ map-append f (given_first step n) _
    ∙ ap (λ cs. map f (given_first step n) ++ map f cs) (append-nil (filter (λ c. is_train c.train (record { 0 = n + 1 })) step))
