-- What is read step by step is what the text spells.
use Rattle.std.proofs.Common.{◌≡◌, ℕ, zero, suc, ◌+◌, ◌-◌, ◌<◌, Bool, true, false, cond, List, [], ◌∷◌, ◌++◌, map, filter, length, take, get_or, Option, None, Some, is_none, Result, Ok, Err, refl, sym, ap, ◌∙◌, arith, add-one}
use Rattle.std.specs.Prelude.{unwrap_or}
use Rattle.std.specs.List.{cons_option}
use Rattle.std.proofs.lemmas.List.{map-append, take_more}
use Rattle.std.proofs.lemmas.List.Elements.{filter_map-append}
use Rattle.rail_base.specs.declared.plan.Command.{Command}
use Rattle.rail_base.specs.Numbering.{count_from, entry, first_of_list}
use Rattle.serde_json.specs.Data.{Data, null}
use Rattle.serde_json.specs.View.{view}
use Rattle.serde_json.specs.declared.value.Value.{Value}
use Rattle.rail_plan.specs.declared.fault.PlanCode.{PlanCode}
use Rattle.rail_plan.specs.declared.fault.PlanCode.TheVariants.{P2}
use Rattle.rail_plan.specs.declared.fault.PlanFault.{PlanFault}
use Rattle.rail_plan.specs.declared.fault.PlanFault.TheVariants as fault
use Rattle.rail_plan.specs.declared.place.PlanPlace.{PlanPlace}
use Rattle.rail_plan.specs.Text.{array_of}
use Rattle.rail_plan.specs.Reading.{GivesOrFails, unless, seen, read_in, values_of}
use Rattle.rail_plan.proofs.Firsts.{count_step}

-- ---- refusals

pub unless_first : {X : Type 0} (code : PlanCode) (ps : List PlanPlace) (p : PlanPlace) (answer : Result X (PlanCode × PlanPlace)) → Some p ≡ first_of_list ps → unless code ps answer ≡ Err (code, p)
unless_first code [] p answer e = cc
unless_first code (q ∷ qs) p answer e = let same : q ≡ p = cc in ap (λ x. Err (code, x)) same

pub unless_none : {X : Type 0} (code : PlanCode) (ps : List PlanPlace) (answer : Result X (PlanCode × PlanPlace)) → None ≡ first_of_list ps → unless code ps answer ≡ answer
unless_none code [] answer e = refl
unless_none code (q ∷ qs) answer e = cc

-- where a step fails all steps fail at the same place
pub step_fails : {S T X Y : Type 0} (v : S → X) (w : T → Y) (e : PlanFault) (ps qs : List PlanPlace) (xs : X) (answer : Result Y (PlanCode × PlanPlace)) → ((p : PlanPlace) → Some p ≡ first_of_list ps → Some p ≡ first_of_list qs) → GivesOrFails v (Err e) (unless P2 ps (Ok xs)) → GivesOrFails w (Err e) (unless P2 qs answer)
step_fails v w fault.Memory ps qs xs answer over h = tt
step_fails v w (fault.Refused code p) [] qs xs answer over h = cc
step_fails v w (fault.Refused code p) (q ∷ ps) qs xs answer over h =
    let same : (P2, q) ≡ (code, p) = cc in
    unless_first P2 qs q answer (over q refl) ∙ ap Err same

-- and where it doesn't it gives its commands
pub step_given : {X : Type 0} (ps : List PlanPlace) (xs ys : X) → unless P2 ps (Ok xs) ≡ Ok ys → (None ≡ first_of_list ps) × (ys ≡ xs)
step_given [] xs ys e = (refl, cc)
step_given (p ∷ ps) xs ys e = cc

-- ---- members by number

pub filter_found : (test : ℕ → Bool) (n i : ℕ) → i < n → test (i + 1) ≡ true → Some (i + 1) ≡ first_of_list (filter test (count_from (i + 1) (n - i)))
filter_found test n i h e = sym (ap (λ ks. first_of_list (filter test ks)) (count_step n i h) ∙ ap (λ b. first_of_list (cond b ((i + 1) ∷ filter test (count_from (i + 1 + 1) (n - (i + 1)))) (filter test (count_from (i + 1 + 1) (n - (i + 1)))))) e)

pub filter_on : (test : ℕ → Bool) (n i : ℕ) → i < n → test (i + 1) ≡ false → first_of_list (filter test (count_from (i + 1) (n - i))) ≡ first_of_list (filter test (count_from (i + 1 + 1) (n - (i + 1))))
filter_on test n i h e = ap (λ ks. first_of_list (filter test ks)) (count_step n i h) ∙ ap (λ b. first_of_list (cond b ((i + 1) ∷ filter test (count_from (i + 1 + 1) (n - (i + 1)))) (filter test (count_from (i + 1 + 1) (n - (i + 1)))))) e

mapped_at : {X Y : Type 0} (f : X → Y) (other : Y) (xs : List X) (i : ℕ) (x : X) → i < length xs → x ≡ get_or xs i x → get_or (map f xs) i other ≡ f x
mapped_at f other [] i x h e = absurd (omega arith)
mapped_at f other (y ∷ ys) zero x h e = ap f (sym e)
mapped_at f other (y ∷ ys) (suc i) x h e = mapped_at f other ys i x (omega arith) e

pub entry_mapped : {X Y : Type 0} (f : X → Y) (other : Y) (xs : List X) (i : ℕ) (x : X) → i < length xs → x ≡ get_or xs i x → entry other (map f xs) (i + 1) ≡ f x
entry_mapped f other xs i x h e = ap (entry other (map f xs)) (add-one i) ∙ mapped_at f other xs i x h e

pub map_more : {X Y : Type 0} (f : X → Y) (xs : List X) (i : ℕ) (x : X) → i < length xs → x ≡ get_or xs i x → map f (take (i + 1) xs) ≡ map f (take i xs) ++ f x ∷ []
map_more f xs i x h e = ap (map f) (take_more xs i x h ∙ ap (λ y. take i xs ++ y ∷ []) (sym e)) ∙ map-append f (take i xs) (x ∷ [])

-- ---- one step

module _ (names : List (List ℕ)) (many : ℕ) where
  pub read_more : (values : List Value) (i : ℕ) (value : Value) (c : Command) → i < length values → value ≡ get_or values i value → Some c ≡ seen names many (view value) → read_in names many (map view (take (i + 1) values)) ≡ read_in names many (map view (take i values)) ++ c ∷ []
  read_more values i value c h e k =
      ap (read_in names many) (map_more view values i value h e)
      ∙ filter_map-append (seen names many) (map view (take i values)) (view value ∷ [])
      ∙ ap (λ cs. read_in names many (map view (take i values)) ++ cs) (one (seen names many (view value)) k)
    where
      one : (o : Option Command) → Some c ≡ o → cons_option o [] ≡ c ∷ []
      one (Some d) k = let same : d ≡ c = cc in ap (λ x. x ∷ []) same
      one None k = cc

  seen_at : (values : List Value) (i : ℕ) (value : Value) → i < length values → value ≡ get_or values i value → seen names many (entry null (map view values) (i + 1)) ≡ seen names many (view value)
  seen_at values i value h e = ap (seen names many) (entry_mapped view null values i value h e)

  pub missing_here : (values : List Value) (i : ℕ) (value : Value) → i < length values → value ≡ get_or values i value → None ≡ seen names many (view value) → is_none (seen names many (entry null (map view values) (i + 1))) ≡ true
  missing_here values i value h e k = ap is_none (seen_at values i value h e ∙ sym k)

  pub not_missing : (values : List Value) (i : ℕ) (value : Value) (c : Command) → i < length values → value ≡ get_or values i value → Some c ≡ seen names many (view value) → is_none (seen names many (entry null (map view values) (i + 1))) ≡ false
  not_missing values i value c h e k = ap is_none (seen_at values i value h e ∙ sym k)

-- ---- all steps

pub values_some : (d : Data) (vs : List Value) → Some (map view vs) ≡ array_of d → map view vs ≡ values_of d
values_some d vs e = ap (λ (o : Option (List Data)). unwrap_or o []) e

pub values_none : (d : Data) → None ≡ array_of d → [] ≡ values_of d
values_none d e = ap (λ (o : Option (List Data)). unwrap_or o []) e

pub ruleset values = (values_some, values_none)
