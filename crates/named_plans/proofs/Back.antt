-- A plan is read from its texts.
use Rattle.std.proofs.Common.{◌≡◌, ℕ, ◌≤◌, ◌<◌, ◌^◌, inl, inr, true, false, List, [], ◌∷◌, ◌++◌, map, length, Option, Some, option_map, option_and_then, Ok, codes, IsUtf8, refl, sym, ap, ap₂, subst, ◌∙◌, arith, append_assoc, append-nil, ◌&&◌, nat_le, leb-true}
use Rattle.std.specs.List.{concat}
use Rattle.std.proofs.lemmas.Str.{IsUtf8-append}
use Rattle.json.specs.Print.{escape_byte, print_from}
use Rattle.json.specs.Spaced.{AreGaps, print_spaced}
use Rattle.json.specs.Token.{begin_object, end_object, begin_array, end_array, key}
use Rattle.json.specs.Tree.{json_tokens, items_tokens}
use Rattle.json.specs.Tree as tree
use Rattle.json.proofs.Printed.Utf8.{IsUtf8-are_ascii}
use Rattle.serde_json.specs.Data.{Data, unsigned, number, string, array, object, member, no_members, Items}
use Rattle.serde_json.specs.Read.{max_depth}
use Rattle.serde_json.specs.View.{items_of}
use Rattle.serde_json.specs.Written.{outline, items_outline, compact_text, items_text}
use Rattle.serde_json.proofs.Texts.{print-outline}
use Rattle.rail_base.specs.declared.station.Station.{Station}
use Rattle.rail_base.specs.declared.plan.Command.{Command}
use Rattle.rail_base.specs.declared.route.RouteNo.{RouteNo}
use Rattle.rail_base.specs.Admission.{is_admitted}
use Rattle.rail_base.specs.Members.{In}
use Rattle.rail_base.specs.Routes.{IsRoute, route_at}
use Rattle.rail_base.specs.Stations.{train_of}
use Rattle.rail_base.proofs.Members.{and_left, and_right, list_all_at}
use Rattle.rail_base.proofs.Lists.{in_flat_map}
use Rattle.rail_plan.specs.Reading.{plan_of, plan_of_text}
use Rattle.rail_plan.specs.Text.{json_of, of_all, with_others, string_of, text_steps}
use Rattle.rail_spec.specs.Feasible.{is_of, names_only, IsRunnable}
use Rattle.rail_spec.specs.Plans.{commands}
use Rattle.rail_spec.specs.Track.{routes_of}
use Rattle.plan_text.specs.Text.{in_file_order, plan_value, plan_text}
use Rattle.plan_text.specs.Text as numbers
use Rattle.plan_text.proofs.Names.{name_is_text}
use Rattle.plan_text.proofs.Ordered.{in_step, train_there}
use Rattle.plan_text.proofs.Plain.{IsPlain, plain_items, shallow, text, parsed}
use Rattle.plan_text.proofs.ReadBack.{all_listed, plain, low, plans_read_back}
use Rattle.plan_names.specs.Shown.{shown}
use Rattle.plan_names.specs.Values.{names_value}
use Rattle.plan_names.proofs.Found.{stood_for}
use Rattle.named_plans.specs.Numbered.{all_shown, number_or_none, names_in, both, command_numbered, step_numbered, plan_numbered, named_plan_of}
use Rattle.named_plans.specs.Text.{command_value, step_value, line_end, step_lines, named_text}
use Rattle.named_plans.proofs.Shown.{texts_at}
use Rattle.named_plans.proofs.Spaced.{Pieces, close, close_tokens, close_gaps, gaps_more, print_close, items_end, items_print, line_read}
use Rattle.named_plans.proofs.Trailing.{feed}

-- ---- lists

given_all : {X Y Z : Type 0} (f : Y → Option Z) (g : X → Y) (h : X → Z) (xs : List X) → ((x : X) → In x xs → f (g x) ≡ Some (h x)) → of_all f (map g xs) ≡ Some (map h xs)
given_all f g h [] each = refl
given_all f g h (x ∷ xs) each = ap₂ with_others (each x (inl refl)) (given_all f g h xs (λ y m. each y (inr m)))

same_list : {X : Type 0} (xs : List X) → map (λ x. x) xs ≡ xs
same_list [] = refl
same_list (x ∷ xs) = ap (λ ys. x ∷ ys) (same_list xs)

names_back : (names : List (List ℕ)) → names_in (names_value names) ≡ Some names
names_back names = ap (of_all string_of) (all_listed (map string names)) ∙ given_all string_of string (λ n. n) names (λ n m. refl) ∙ ap (λ ns. Some ns) (same_list names)

tokens_of_both : (ps qs : Pieces) → map (λ p. p.1) (ps ++ qs) ≡ map (λ p. p.1) ps ++ map (λ p. p.1) qs
tokens_of_both [] qs = refl
tokens_of_both (p ∷ ps) qs = ap (λ ts. p.1 ∷ ts) (tokens_of_both ps qs)

module _ (d : Station) where
  -- ---- the text with names, as its tokens with a line feed before each step

  abbrev items : List Command → Items
  items step = items_of (map (command_value d) (in_file_order d step))

  abbrev value : List (List Command) → Data
  value plan = object (member (codes "steps") (array (items_of (map (step_value d) plan))) no_members)

  abbrev step_pieces : List (List Command) → Pieces
  step_pieces [] = (feed, end_array) ∷ ([], end_object) ∷ []
  step_pieces (s ∷ ss) = (feed, begin_array) ∷ (close (items_tokens (items_outline (items s))) ++ step_pieces ss)

  abbrev pieces : List (List Command) → Pieces
  pieces plan = ([], begin_object) ∷ ([], key (codes "steps")) ∷ ([], begin_array) ∷ step_pieces plan

  step_gaps : (ss : List (List Command)) → AreGaps (step_pieces ss)
  step_gaps [] = ((inr refl, tt), (tt, tt))
  step_gaps (s ∷ ss) = ((inr refl, tt), gaps_more (close (items_tokens (items_outline (items s)))) (step_pieces ss) (close_gaps (items_tokens (items_outline (items s)))) (step_gaps ss))

  step_tokens : (ss : List (List Command)) → map (λ p. p.1) (step_pieces ss) ≡ items_tokens (items_outline (items_of (map (step_value d) ss))) ++ end_object ∷ []
  step_tokens [] = refl
  step_tokens (s ∷ ss) =
      let ts = items_tokens (items_outline (items s)) in
      let us = items_tokens (items_outline (items_of (map (step_value d) ss))) in
      ap (λ l. begin_array ∷ l) (tokens_of_both (close ts) (step_pieces ss) ∙ ap₂ (λ a b. a ++ b) (close_tokens ts) (step_tokens ss) ∙ sym (append_assoc ts us (end_object ∷ [])))

  -- the steps, from behind a bracket
  last_line : List (List Command) → List (List ℕ)
  last_line ss = step_lines d ss ++ codes "]}\n" ∷ []

  behind : (s : List Command) (ss : List (List Command)) → print_spaced true (step_pieces ss) ++ feed ≡ line_end ss ++ concat (step_lines d ss ++ codes "]}\n" ∷ [])
      → (91 ∷ print_spaced false (close (items_tokens (items_outline (items s))) ++ step_pieces ss)) ++ feed ≡ concat (step_lines d (s ∷ ss) ++ codes "]}\n" ∷ [])
  behind s ss later =
      let ts = items_tokens (items_outline (items s)) in
      let written = items_text false (items s) in
      ap (λ l. (91 ∷ l) ++ feed) (print_close false ts (step_pieces ss) ∙ ap₂ (λ a b. a ++ print_spaced b (step_pieces ss)) (items_print (items s)) (items_end (items_outline (items s)) false))
      ∙ ap (λ l. 91 ∷ l) (append_assoc written (print_spaced true (step_pieces ss)) feed ∙ ap (λ l. written ++ l) later)
      ∙ sym (append_assoc (91 ∷ written) (line_end ss) (concat (step_lines d ss ++ codes "]}\n" ∷ [])))

  after : (ss : List (List Command)) → print_spaced true (step_pieces ss) ++ feed ≡ line_end ss ++ concat (step_lines d ss ++ codes "]}\n" ∷ [])
  unfolding print_spaced
  after [] = refl
  after (s ∷ ss) = ap (λ l. 44 ∷ 10 ∷ l) (behind s ss (after ss))

  first : (ss : List (List Command)) → print_spaced false (step_pieces ss) ++ feed ≡ 10 ∷ concat (step_lines d ss ++ codes "]}\n" ∷ [])
  unfolding print_spaced
  first [] = refl
  first (s ∷ ss) = ap (λ l. 10 ∷ l) (behind s ss (after ss))

  as_pieces : (plan : List (List Command)) → print_spaced false (pieces plan) ++ feed ≡ named_text d plan
  unfolding print_spaced escape_byte
  as_pieces plan = ap (λ l. codes "{\"steps\":[" ++ l) (first plan)

  module _ (adm : is_admitted d ≡ true) (plan : List (List Command)) (named : names_only d (routes_of d) plan ≡ true) where
    its_route : (c : Command) → is_of d (routes_of d) c ≡ true → IsRoute (routes_of d) c.route
    its_route c h =
        let train = nat_le 1 c.train.0 && nat_le c.train.0 (length d.trains) in
        (leb-true 1 c.route.0 (and_right train (nat_le 1 c.route.0) (and_left (train && nat_le 1 c.route.0) (nat_le c.route.0 (length (routes_of d))) h)), leb-true c.route.0 (length (routes_of d)) (and_right (train && nat_le 1 c.route.0) (nat_le c.route.0 (length (routes_of d))) h))

    in_plan : (step : List Command) (c : Command) → In step plan → In c (in_file_order d step) → In c (commands plan)
    in_plan step c m n = in_flat_map (λ (s : List Command). s) plan step c m (in_step d step c n)

    route_there : (c : Command) → In c (commands plan) → IsRoute (routes_of d) c.route
    route_there c m = its_route c (list_all_at (is_of d (routes_of d)) (commands plan) c named m)

    -- ---- the value with names

    plain_command : (c : Command) → In c (commands plan) → IsPlain (command_value d c)
    plain_command c m =
        let names = shown d (routes_of d) (route_at (routes_of d) c.route) in
        (name_is_text d adm c.train (train_there d (routes_of d) plan named c m), (plain_items string names (texts_at d adm c.route names (route_there c m) refl), tt))

    plain_step : (step : List Command) → In step plan → IsPlain (step_value d step)
    plain_step step m = plain_items (command_value d) (in_file_order d step) (λ c n. plain_command c (in_plan step c m n))

    plain_value : IsPlain (value plan)
    plain_value = (IsUtf8-are_ascii (codes "steps") refl, plain_items (step_value d) plan plain_step)

    low_value : tree.depth (outline (value plan)) ≤ max_depth
    low_value = let l = shallow (step_value d) plan 3 (λ step. let l = shallow (command_value d) (in_file_order d step) 2 (λ c. let l = shallow string (shown d (routes_of d) (route_at (routes_of d) c.route)) 0 (λ n. omega arith) in omega arith) in omega arith) in omega arith

    -- ---- its text

    end_text : (ss : List (List Command)) → IsUtf8 (line_end ss)
    end_text [] = IsUtf8-are_ascii (codes "\n") refl
    end_text (s ∷ ss) = IsUtf8-are_ascii (codes ",\n") refl

    lines_text : (ss : List (List Command)) → ((s : List Command) → In s ss → In s plan) → IsUtf8 (concat (step_lines d ss ++ codes "]}\n" ∷ []))
    lines_text [] among = IsUtf8-are_ascii (codes "]}\n") refl
    lines_text (s ∷ ss) among =
        IsUtf8-append (compact_text (step_value d s) ++ line_end ss) _
        (IsUtf8-append (compact_text (step_value d s)) (line_end ss) (text (step_value d s) (plain_step s (among s (inl refl)))) (end_text ss))
        (lines_text ss (λ t m. among t (inr m)))

    whole_text : IsUtf8 (named_text d plan)
    whole_text = IsUtf8-append (codes "{\"steps\":[\n") _ (IsUtf8-are_ascii (codes "{\"steps\":[\n") refl) (lines_text plan (λ s m. m))

    named_read : json_of (named_text d plan) ≡ Some (value plan)
    named_read =
        ap json_of (sym (as_pieces plan))
        ∙ line_read (value plan) (pieces plan) (tt, (tt, (tt, step_gaps plan))) (ap (λ ts. begin_object ∷ key (codes "steps") ∷ begin_array ∷ ts) (step_tokens plan)) plain_value low_value
        (subst IsUtf8 (sym (as_pieces plan)) whole_text)

    -- ---- what it says with numbers

    command_back : (c : Command) → In c (commands plan) → command_numbered (all_shown d) (command_value d c) ≡ Some (numbers.command_value d c)
    command_back c m =
        let names = shown d (routes_of d) (route_at (routes_of d) c.route) in
        ap (both (all_shown d) (Some (train_of d c.train).name)) (names_back names)
        ∙ ap both_with (stood_for d adm names c.route (route_there c m, refl))
      where
        both_with : Option RouteNo → Option Data
        both_with o = Some (array (items_of (string (train_of d c.train).name ∷ number (unsigned (number_or_none o)) ∷ [])))

    step_back : (step : List Command) → In step plan → step_numbered (all_shown d) (step_value d step) ≡ Some (numbers.step_value d step)
    step_back step m =
        ap (λ vs. option_array (of_all (command_numbered (all_shown d)) vs)) (all_listed (map (command_value d) (in_file_order d step)))
        ∙ ap option_array (given_all (command_numbered (all_shown d)) (command_value d) (numbers.command_value d) (in_file_order d step) (λ c n. command_back c (in_plan step c m n)))
      where
        option_array : Option (List Data) → Option Data
        option_array o = option_map (λ cs. array (items_of cs)) o

    plan_back : plan_numbered (all_shown d) (value plan) ≡ Some (plan_value d plan)
    plan_back =
        ap (λ vs. option_plan (of_all (step_numbered (all_shown d)) vs)) (all_listed (map (step_value d) plan))
        ∙ ap option_plan (given_all (step_numbered (all_shown d)) (step_value d) (numbers.step_value d) plan step_back)
      where
        option_plan : Option (List Data) → Option Data
        option_plan o = option_map (λ ss. object (member (codes "steps") (array (items_of ss)) no_members)) o

-- ---- the laws

module _ (d : Station) (adm : is_admitted d ≡ true) (few : length (routes_of d) < 2 ^ 32) (plan : List (List Command)) (run : IsRunnable d (routes_of d) 256 plan) where
  numbers_read : json_of (plan_text d plan) ≡ Some (plan_value d plan)
  numbers_read = parsed (plan_value d plan) (plain d adm (routes_of d) plan run.well_formed.named few) (low d adm (routes_of d) plan run.well_formed.named)

  from_value : plan_of_text d (routes_of d) (text_steps (plan_value d plan)) ≡ Ok (map (in_file_order d) plan)
  from_value =
      ap (λ o. plan_of_text d (routes_of d) (option_and_then text_steps o)) (sym numbers_read)
      ∙ plans_read_back d (routes_of d) plan adm few run

  pub named_back : named_plan_of d (named_text d plan) ≡ Ok (map (in_file_order d) plan)
  named_back =
      ap (λ o. plan_of_text d (routes_of d) (option_and_then text_steps (option_and_then (plan_numbered (all_shown d)) o))) (named_read d adm plan run.well_formed.named)
      ∙ ap (λ o. plan_of_text d (routes_of d) (option_and_then text_steps o)) (plan_back d adm plan run.well_formed.named)
      ∙ from_value

  line_is : print_spaced false (close (json_tokens (outline (plan_value d plan)))) ≡ plan_text d plan
  unfolding print_spaced
  line_is =
      let ts = json_tokens (outline (plan_value d plan)) in
      ap (print_spaced false) (sym (append-nil (close ts))) ∙ print_close false ts [] ∙ append-nil (print_from false ts) ∙ print-outline (plan_value d plan)

  pub numbers_back : plan_of d (routes_of d) (plan_text d plan ++ codes "\n") ≡ Ok (map (in_file_order d) plan)
  numbers_back =
      let v = plan_value d plan in
      let ts = json_tokens (outline v) in
      let is_plain = plain d adm (routes_of d) plan run.well_formed.named few in
      let utf8 = IsUtf8-append (plan_text d plan) (codes "\n") (text v is_plain) (IsUtf8-are_ascii (codes "\n") refl) in
      let read = line_read v (close ts) (close_gaps ts) (close_tokens ts) is_plain (low d adm (routes_of d) plan run.well_formed.named) (subst (λ l. IsUtf8 (l ++ feed)) (sym line_is) utf8) in
      ap (λ o. plan_of_text d (routes_of d) (option_and_then text_steps o)) (ap (λ l. json_of (l ++ feed)) (sym line_is) ∙ read)
      ∙ from_value
