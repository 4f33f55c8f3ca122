-- The plan that is read from bytes is spelled by them, and no other is.
use Rattle.std.proofs.Common.{◌≡◌, ℕ, nat_le, ◌&&◌, suc, ◌+◌, ◌<◌, inl, inr, Bool, true, false, List, [], ◌∷◌, map, length, position, Option, Some, None, is_none, option_map, option_and_then, Result, Ok, bytes_eq, nat_lt, if◌then◌else◌, refl, sym, ap, ap₂, subst, ◌∙◌, arith, leb-true}
use Rattle.std.specs.Prelude.{codes}
use Rattle.std.specs.List.{filter_map, cons_option, position_or_len}
use Rattle.std.specs.Ordering.{nat_cmp, match_ordering}
use Rattle.std.specs.Cmp.Lexicographic.{slice_cmp}
use Rattle.std.specs.declared.cmp.Ordering.{Ordering}
use Rattle.std.specs.declared.cmp.Ordering.TheVariants.{Less, Equal, Greater}
use Rattle.std.specs.Str.{is_utf8}
use Rattle.std.proofs.lemmas.Map.Lookups.{exact_bytes}
use Rattle.serde_json.specs.Data.{Data, unsigned, number, string, array, object, Items, no_items, item, member, no_members}
use Rattle.serde_json.specs.Read.{read}
use Rattle.serde_json.specs.View.{items_of}
use Rattle.rail_base.specs.declared.station.Station.{Station}
use Rattle.rail_base.specs.declared.station.Train.{Train}
use Rattle.rail_base.specs.declared.station.TrainNo.{TrainNo}
use Rattle.rail_base.specs.declared.route.Route.{Route}
use Rattle.rail_base.specs.declared.route.RouteNo.{RouteNo}
use Rattle.rail_base.specs.declared.plan.Command.{Command}
use Rattle.rail_base.specs.Admission.{is_from}
use Rattle.rail_base.specs.Members.{In}
use Rattle.rail_base.specs.Names.{train_name}
use Rattle.rail_base.specs.Numbering.{entry, one_to}
use Rattle.rail_base.specs.Stations.{no_train}
use Rattle.infra_reader.specs.Names.{number_in}
use Rattle.rail_plan.specs.declared.fault.PlanCode.{PlanCode}
use Rattle.rail_plan.specs.declared.fault.PlanCode.TheVariants.{P2, P3, P4}
use Rattle.rail_plan.specs.declared.place.PlanPlace.{PlanPlace}
use Rattle.rail_plan.specs.declared.place.PlanPlace.TheVariants as place
use Rattle.rail_plan.specs.Text.{Written, json_of, list_of_items, array_of, of_all, with_others, string_of, whole_of, pair_of, two_of, command_of, step_in, text_steps}
use Rattle.rail_plan.specs.Reading.{Refusal, train_names, route_numbered, known, missing, unknown, planned, unless, admitted_plan, plan_of_text, plan_of}
use Rattle.rail_plan.specs.WellFormed.{misplaced}
use Rattle.rail_plan.specs.Executable.{blocked}
use Rattle.rail_plan.proofs.Empties.{none_mapped, none_kept, none_joined, in_one_to}
use Rattle.rail_spelling.specs.Plans.{command_value, step_value, plan_value, SpellsPlan}
use Rattle.rail_spelling.proofs.Entries.{number_of}
use Rattle.rail_spelling.proofs.Numbers.{entry_made, name_back, one_number}
use Rattle.rail_base.proofs.Lists.{in_flat_map}
use Rattle.rail_base.proofs.Members.{and_left, and_right, list_all_at}
use Rattle.rail_spelling.proofs.One.{IsNamed}
use Rattle.rail_plan.proofs.Parsed.{runnable}
use Rattle.rail_spec.specs.Feasible.{is_of, names_only}
use Rattle.rail_spec.specs.Plans.{commands}
use Rattle.rail_base.specs.Admitted.{IsAdmitted}

-- ---- the values of a text

-- a command as it is written
abbrev written_value : Written → Data
written_value w = array (items_of (string w.0 ∷ number (unsigned w.1) ∷ []))

abbrev step_written : List Written → Data
step_written step = array (items_of (map written_value step))

abbrev text_written : List (List Written) → Data
text_written text = object (member (codes "steps") (array (items_of (map step_written text))) no_members)

all_items : (ds : Items) → ds ≡ items_of (list_of_items ds)
all_items no_items = refl
all_items (item d ds) = ap (item d) (all_items ds)

pair_back : (a b : Data) (w : Written) → pair_of (string_of a) (whole_of b) ≡ Some w → (a ≡ string w.0) × (b ≡ number (unsigned w.1))
pair_back (string s) (number (unsigned n)) w e =
    let same : (s, n) ≡ w = cc in
    (ap (λ (w : Written). string w.0) same, ap (λ (w : Written). number (unsigned w.1)) same)
pair_back _ _ w e = absurd (cc)

two_back : (ds : List Data) (w : Written) → two_of ds ≡ Some w → ds ≡ string w.0 ∷ number (unsigned w.1) ∷ []
two_back (a ∷ b ∷ []) w e = let both = pair_back a b w e in ap₂ (λ a b. a ∷ b ∷ []) both.0 both.1
two_back _ w e = absurd (cc)

command_back : (v : Data) (w : Written) → command_of v ≡ Some w → v ≡ written_value w
command_back (array ds) w e = ap array (all_items ds ∙ ap items_of (two_back (list_of_items ds) w e))
command_back _ w e = absurd (cc)

-- what f gives of all, where g goes back
all_back : {X Y : Type 0} (f : X → Option Y) (g : Y → X) → ((x : X) (y : Y) → f x ≡ Some y → x ≡ g y) → (xs : List X) (ys : List Y) → of_all f xs ≡ Some ys → xs ≡ map g ys
all_back f g back [] ys e = let same : [] ≡ ys = cc in ap (map g) same
all_back {X} {Y} f g back (x ∷ xs) ys e = go (f x) (of_all f xs) (back x) (all_back f g back xs) refl refl e
  where
    go : (a : Option Y) (b : Option (List Y)) → ((y : Y) → f x ≡ Some y → x ≡ g y) → ((ys : List Y) → of_all f xs ≡ Some ys → xs ≡ map g ys) → f x ≡ a → of_all f xs ≡ b → with_others a b ≡ Some ys → x ∷ xs ≡ map g ys
    go (Some z) (Some zs) one more first rest k = let same : z ∷ zs ≡ ys = cc in ap₂ (λ w ws. w ∷ ws) (one z first) (more zs rest) ∙ ap (map g) same
    go (Some z) None one more first rest k = absurd (cc)
    go None b one more first rest k = absurd (cc)

step_back : (v : Data) (step : List Written) → step_in v ≡ Some step → v ≡ step_written step
step_back (array ds) step e = ap array (all_items ds ∙ ap items_of (all_back command_of written_value command_back (list_of_items ds) step e))
step_back _ step e = absurd (cc)

steps_back : (v : Data) (text : List (List Written)) → option_and_then (of_all step_in) (array_of v) ≡ Some text → v ≡ array (items_of (map step_written text))
steps_back (array ds) text e = ap array (all_items ds ∙ ap items_of (all_back step_in step_written step_back (list_of_items ds) text e))
steps_back _ text e = absurd (cc)

text_back : (v : Data) (text : List (List Written)) → text_steps v ≡ Some text → v ≡ text_written text
text_back (object (member key v no_members)) text e = go (slice_cmp nat_cmp (codes "steps") key) refl e
  where
    go : (o : Ordering) → slice_cmp nat_cmp (codes "steps") key ≡ o → option_and_then (of_all step_in) (option_and_then array_of (match_ordering o None (Some v) None)) ≡ Some text → object (member key v no_members) ≡ text_written text
    go Equal is k = ap₂ (λ key v. object (member key v no_members)) (sym (exact_bytes (codes "steps") key is)) (steps_back v text k)
    go Less is k = absurd (cc)
    go Greater is k = absurd (cc)
text_back _ text e = absurd (cc)

-- ---- commands that are known

-- where a place is found
found_at : (p : List ℕ → Bool) (names : List (List ℕ)) (i : ℕ) → position p names ≡ Some i → (position_or_len p names ≡ i) × (i < length names)
found_at p names i e = go (nat_lt (position_or_len p names) (length names)) refl e
  where
    go : (b : Bool) → nat_lt (position_or_len p names) (length names) ≡ b → (if b then Some (position_or_len p names) else None) ≡ Some i → (position_or_len p names ≡ i) × (i < length names)
    go true low k = let same : position_or_len p names ≡ i = cc in (same, subst (λ j. j < length names) same (leb-true (suc (position_or_len p names)) (length names) low))
    go false low k = absurd (cc)

module _ (d : Station) (many : ℕ) where
  train_back : (name : List ℕ) (i : ℕ) → position (bytes_eq name) (train_names d) ≡ Some i → train_name d (record { 0 = i + 1 }) ≡ name
  train_back name i e =
      let at = found_at (bytes_eq name) (train_names d) i e in
      let place = at.0 in
      let low = at.1 in
      let number : number_in (train_names d) name ≡ i + 1 = omega arith in
      entry_made (λ (t : Train). t.name) no_train d.trains (i + 1)
      ∙ ap (entry [] (train_names d)) (sym number)
      ∙ name_back (train_names d) name (omega arith)

  known_back : (w : Written) (c : Command) → known (train_names d) many w ≡ Some c → command_value d c ≡ written_value w
  known_back w c e = at_train (position (bytes_eq w.0) (train_names d)) refl e
    where
      at_route : (i : ℕ) → train_name d (record { 0 = i + 1 }) ≡ w.0 → (b : Bool) → option_map (λ (r : RouteNo). record { train = record { 0 = i + 1 }; route = r }) (if b then Some (record { 0 = w.1 }) else None) ≡ Some c → command_value d c ≡ written_value w
      at_route i name true k =
          let same : record { train = record { 0 = i + 1 }; route = record { 0 = w.1 } } ≡ c = cc in
          sym (ap (command_value d) same) ∙ ap (λ name. array (items_of (string name ∷ number (unsigned w.1) ∷ []))) name
      at_route i name false k = absurd (cc)

      at_train : (o : Option ℕ) → position (bytes_eq w.0) (train_names d) ≡ o → option_and_then (λ (t : TrainNo). option_map (λ (r : RouteNo). record { train = t; route = r }) (route_numbered many w.1)) (option_map (λ i. record { 0 = i + 1 }) o) ≡ Some c → command_value d c ≡ written_value w
      at_train None p k = absurd (cc)
      at_train (Some i) p k = at_route i (train_back w.0 i p) (is_from 1 many w.1) k

  -- where all are known, their commands are as they are written
  step_known : (step : List Written) → ((w : Written) → In w step → is_none (known (train_names d) many w) ≡ true → ⊥) → map (command_value d) (filter_map (known (train_names d) many) step) ≡ map written_value step
  step_known [] there = refl
  step_known (w ∷ step) there = go (known (train_names d) many w) refl (step_known step (λ v m. there v (inr m)))
    where
      go : (o : Option Command) → known (train_names d) many w ≡ o → map (command_value d) (filter_map (known (train_names d) many) step) ≡ map written_value step
          → map (command_value d) (cons_option o (filter_map (known (train_names d) many) step)) ≡ map written_value (w ∷ step)
      go (Some c) e rest = ap₂ (λ v vs. v ∷ vs) (known_back w c e) rest
      go None e rest = absurd (there w (inl refl) (ap is_none e))

  text_known : (text : List (List Written)) → ((step : List Written) → In step text → (w : Written) → In w step → is_none (known (train_names d) many w) ≡ true → ⊥) → map (step_value d) (planned (train_names d) many text) ≡ map step_written text
  text_known [] there = refl
  text_known (step ∷ text) there = ap₂ (λ v vs. v ∷ vs) (ap (λ vs. array (items_of vs)) (step_known step (there step (inl refl)))) (text_known text (λ s m. there s (inr m)))

  -- where no place is unknown, all are
  none_unknown : (text : List (List Written)) → unknown (train_names d) many text ≡ [] → (step : List Written) → In step text → (w : Written) → In w step → is_none (known (train_names d) many w) ≡ true → ⊥
  none_unknown text e step m w l none =
      let f = known (train_names d) many in
      let i = number_of [] step text m in
      let at_step = none_joined (λ i. map (place.Command i) (missing f ([], 0) (entry [] text i))) (one_to (length text)) i.0 e (in_one_to (length text) i.0 i.1 i.2) in
      let here = subst (λ step. missing f ([], 0) step ≡ []) i.3 (none_mapped (place.Command i.0) (missing f ([], 0) (entry [] text i.0)) at_step) in
      let j = number_of ([], 0) w step l in
      none_kept (λ j. is_none (f (entry ([], 0) step j))) (one_to (length step)) j.0 here (in_one_to (length step) j.0 j.1 j.2) (ap (λ w. is_none (f w)) j.3 ∙ none)

-- ---- the plan that is read

passes_on : {X : Type 0} (code : PlanCode) (places : List PlanPlace) (next : Result X Refusal) (x : X) → unless code places next ≡ Ok x → (places ≡ []) × (next ≡ Ok x)
passes_on code [] next x e = (refl, e)
passes_on code (p ∷ ps) next x e = absurd (cc)

module _ (d : Station) (routes : List Route) where
  text_read : (text : List (List Written)) (plan : List (List Command)) → plan_of_text d routes (Some text) ≡ Ok plan → text_written text ≡ plan_value d plan
  text_read text plan e =
      let many = length routes in
      let made = planned (train_names d) many text in
      let p2 = passes_on P2 (unknown (train_names d) many text) (admitted_plan d routes made) plan e in
      let p3 = passes_on P3 (misplaced d routes 256 made) _ plan p2.1 in
      let one : Ok made ≡ Ok plan = (passes_on P4 (blocked d routes made) _ plan p3.1).1 in
      let same : made ≡ plan = cc in
      ap (λ vs. object (member (codes "steps") (array (items_of vs)) no_members)) (sym (text_known d many text (none_unknown d many text p2.0)) ∙ ap (map (step_value d)) same)

  pub plan_spelled : (bytes : List ℕ) (plan : List (List Command)) → plan_of d routes bytes ≡ Ok plan → SpellsPlan d bytes plan
  plan_spelled bytes plan e = go (is_utf8 bytes) (read bytes) refl refl e
    where
      at_text : (v : Data) (o : Option (List (List Written))) → text_steps v ≡ o → plan_of_text d routes o ≡ Ok plan → v ≡ plan_value d plan
      at_text v None is k = absurd (cc)
      at_text v (Some text) is k = text_back v text is ∙ text_read text plan k

      go : (b : Bool) (o : Option Data) → is_utf8 bytes ≡ b → read bytes ≡ o → plan_of_text d routes (option_and_then text_steps (if b then o else None)) ≡ Ok plan → SpellsPlan d bytes plan
      go true (Some v) utf8 is k = (utf8, is ∙ ap Some (at_text v (text_steps v) refl k))
      go true None utf8 is k = absurd (cc)
      go false o utf8 is k = absurd (cc)

-- ---- one plan

one_items : {X : Type 0} (f : X → Data) (xs ys : List X) → ((x y : X) → In x xs → f x ≡ f y → x ≡ y) → items_of (map f xs) ≡ items_of (map f ys) → xs ≡ ys
one_items f [] [] one e = refl
one_items f [] (y ∷ ys) one e = absurd (cc)
one_items f (x ∷ xs) [] one e = absurd (cc)
one_items f (x ∷ xs) (y ∷ ys) one e =
    let first : f x ≡ f y = cc in
    let rest : items_of (map f xs) ≡ items_of (map f ys) = cc in
    ap₂ (λ z zs. z ∷ zs) (one x y (inl refl) first) (one_items f xs ys (λ z w m. one z w (inr m)) rest)

module _ (d : Station) (routes : List Route) (named : IsNamed d) (good : IsAdmitted d) where
  one_command : (c k : Command) → is_of d routes c ≡ true → command_value d c ≡ command_value d k → c ≡ k
  one_command c k of e =
      let low = nat_le 1 c.train.0 in
      let high = nat_le c.train.0 (length d.trains) in
      let there = and_left (low && high) (nat_le 1 c.route.0) (and_left (low && high && nat_le 1 c.route.0) (nat_le c.route.0 (length routes)) of) in
      let name : train_name d c.train ≡ train_name d k.train = cc in
      let route : c.route.0 ≡ k.route.0 = cc in
      let number = one_number (λ (t : Train). t.name) no_train refl d.trains c.train.0 k.train.0 good.train_names named.trains
      (leb-true 1 c.train.0 (and_left low high there)) (leb-true c.train.0 (length d.trains) (and_right low high there)) name in
      λ i. record { train = record { 0 = number i }; route = record { 0 = route i } }

  one_step : (step other : List Command) → ((c : Command) → In c step → is_of d routes c ≡ true) → step_value d step ≡ step_value d other → step ≡ other
  one_step step other of e =
      let items : items_of (map (command_value d) step) ≡ items_of (map (command_value d) other) = cc in
      one_items (command_value d) step other (λ c k m. one_command c k (of c m)) items

  one_plan : (plan other : List (List Command)) → names_only d routes plan ≡ true → plan_value d plan ≡ plan_value d other → plan ≡ other
  one_plan plan other of e =
      let items : items_of (map (step_value d) plan) ≡ items_of (map (step_value d) other) = cc in
      one_items (step_value d) plan other (λ step more m. one_step step more (λ c k. list_all_at (is_of d routes) (commands plan) c of (in_flat_map (λ s. s) plan step c m k))) items

  pub spelled_plan_one : (bytes : List ℕ) (plan other : List (List Command)) → plan_of d routes bytes ≡ Ok plan → SpellsPlan d bytes other → other ≡ plan
  spelled_plan_one bytes plan other e spells =
      let own = plan_spelled d routes bytes plan e in
      let both : Some (plan_value d plan) ≡ Some (plan_value d other) = sym own.1 ∙ spells.1 in
      let same : plan_value d plan ≡ plan_value d other = cc in
      sym (one_plan plan other (runnable d routes (option_and_then text_steps (json_of bytes)) plan e).well_formed.named same)
