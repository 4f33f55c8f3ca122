-- Lines of a text that each define a key, or nothing.
use Rattle.std.proofs.Common.{◌≡◌, ℕ, suc, ◌-◌, ◌<◌, Bool, true, false, not, ◌&&◌, ◌||◌, is_none, ◌==◌, inl, inr, if◌then◌else◌, List, [], ◌∷◌, ◌++◌, length, Option, Some, None, option_map, refl, ap, ◌∙◌, subst, arith}
use Rattle.std.proofs.lemmas.Bool.{cases_Bool, false≢true}
use Rattle.std.proofs.lemmas.Bool.Decides.{nat_tests}
use Rattle.std.specs.List.{list_all, flat_map}
use Rattle.rail_base.specs.Members.{In}
use Rattle.rail_base.proofs.Members.{and_left, and_right, list_all_at, is_false}
use Rattle.toml_parser.specs.Lexical.{first, skip_blank}
use Rattle.toml_parser.proofs.LexicalLemmas.{skip_from-nil}
use Rattle.toml.specs.Data.{Data, same_key, get_member}
use Rattle.toml.specs.Tables.{Nodes, no_nodes, value, close, close_node, get_node, insert, define, key_value, along_header, along_dots, at_key}
use Rattle.toml.specs.Parse.{lines, skip_bom, parse_document}
use Rattle.toml.proofs.Turns.{document_some, lines_end, lines_more}
use Rattle.toml.proofs.Blanks.{skip_newline, skip_within}
use Rattle.toml.proofs.NodeLaws.{get_node-insert}
use Rattle.toml.proofs.ReadLines.{Turn}
use Rattle.design_table.specs.declared.key.Key.{Key}
use Rattle.design_table.specs.Forms.{is_known, has_unknown}
use Rattle.std.proofs.Common.{nat_cmp}
use Rattle.std.specs.Cmp.Lexicographic.{slice_cmp}
use Rattle.design_text.proofs.Lookups.{cases_ordering, same_from, insert_other, get_closed, still_known}

-- a key with its value, if it has one, and the text of both
pub record Part : Type 0 where
  pub at : List ℕ
  pub holds : Option Data
  pub text : List ℕ

-- the text is read as the key with its value; where there is none, it is empty
abbrev pub TextIsRead : List ℕ → List ℕ → Option Data → Type 0
TextIsRead at text None = text ≡ []
TextIsRead at text (Some d) = (rest : List ℕ) → Turn ([], at) (key_value d) (text ++ rest) rest

abbrev pub PartIsRead : Part → Type 0
PartIsRead p = TextIsRead p.at p.text p.holds

-- the texts of all
abbrev pub parts_text : List Part → List ℕ
parts_text parts = flat_map (λ p. p.text) parts

-- the table with a key, if it has a value
abbrev pub added : List ℕ → Option Data → Nodes → Nodes
added at None ns = ns
added at (Some d) ns = insert at (value d) ns

abbrev pub with_parts : List Part → Nodes → Nodes
with_parts [] ns = ns
with_parts (p ∷ ps) ns = with_parts ps (added p.at p.holds ns)

-- no key stands twice
abbrev pub are_distinct : List Part → Bool
are_distinct [] = true
are_distinct (p ∷ ps) = list_all (λ (q : Part). not (same_key q.at p.at)) ps && are_distinct ps

-- the table has none of the keys
abbrev pub AreNew : List Part → Nodes → Type 0
AreNew ps ns = (q : Part) → In q ps → get_node q.at ns ≡ None

-- ---- reading

defined : (root : Nodes) (k : List ℕ) (d : Data) → get_node k root ≡ None → define (root, []) (([], k), key_value d) ≡ Some (insert k (value d) root, [])
unfolding define along_header along_dots at_key
defined root k d none = rw none refl

still_new : (p : Part) (ps : List Part) (ns : Nodes) → list_all (λ (q : Part). not (same_key q.at p.at)) ps ≡ true → AreNew (p ∷ ps) ns → AreNew ps (added p.at p.holds ns)
still_new p ps ns apart new q i = by_value p.holds
  where
    by_value : (o : Option Data) → get_node q.at (added p.at o ns) ≡ None
    by_value None = new q (inr i)
    by_value (Some d) = insert_other q.at p.at (value d) ns (is_false (same_key q.at p.at) (list_all_at (λ (q : Part). not (same_key q.at p.at)) ps q apart i)) ∙ new q (inr i)

-- a part of no value
pass_none : (at : List ℕ) (text rest x : List ℕ) (m : ℕ) (root end : Nodes) → text ≡ [] → (skip_blank x ≡ skip_blank rest → lines m (root, []) x ≡ Some (end, [])) → skip_blank x ≡ skip_blank (text ++ rest) → lines m (root, []) x ≡ Some (end, [])
pass_none at text rest x m root end is_empty more skip = more (skip ∙ ap (λ t. skip_blank (t ++ rest)) is_empty)

-- a part of a value
pass_some : (at : List ℕ) (d : Data) (text rest x : List ℕ) (m : ℕ) (root end : Nodes) → TextIsRead at text (Some d) → get_node at root ≡ None
    → (length (10 ∷ rest) < m - 1 → lines (m - 1) (insert at (value d) root, []) (10 ∷ rest) ≡ Some (end, [])) → skip_blank x ≡ skip_blank (text ++ rest) → length x < m
    → lines m (root, []) x ≡ Some (end, [])
pass_some at d text rest x m root end turn new more skip room =
    let (s, at_start, read, some, shorter, not_bom) = turn rest in
    let same : skip_blank x ≡ s = skip ∙ at_start in
    let other : (length (skip_blank x) == 0) ≡ false = rw same (grind (arith, nat_tests)) in
    let within = skip_within x in
    let size : length (skip_blank x) ≡ length s = ap length same in
    lines_more m (root, []) (insert at (value d) root, []) x (([], at), key_value d) (10 ∷ rest) (omega arith) other (rw same read) (defined root at d new) ∙ more (omega arith)

-- a part, by what is said of the rest
pass_part : (at : List ℕ) (o : Option Data) (text rest x : List ℕ) (m : ℕ) (root end : Nodes) → TextIsRead at text o → get_node at root ≡ None
    → ((n : ℕ) (y : List ℕ) → skip_blank y ≡ skip_blank rest → length y < n → lines n (added at o root, []) y ≡ Some (end, []))
    → skip_blank x ≡ skip_blank (text ++ rest) → length x < m → lines m (root, []) x ≡ Some (end, [])
pass_part at None text rest x m root end reads new more skip room = pass_none at text rest x m root end reads (λ same. more m x same room) skip
pass_part at (Some d) text rest x m root end reads new more skip room = pass_some at d text rest x m root end reads new (λ short. more (m - 1) (10 ∷ rest) (skip_newline rest) short) skip room

pub parts_read : (ps : List Part) (x : List ℕ) (root : Nodes) (m : ℕ) → ((p : Part) → In p ps → PartIsRead p) → are_distinct ps ≡ true → AreNew ps root
    → skip_blank x ≡ skip_blank (parts_text ps) → length x < m → lines m (root, []) x ≡ Some (with_parts ps root, [])
parts_read [] x root m reads distinct new skip room =
    lines_end m (root, []) x (omega arith) (rw (skip, skip_from-nil true false) refl)
parts_read (p ∷ ps) x root m reads distinct new skip room =
    let apart = and_left (list_all (λ (q : Part). not (same_key q.at p.at)) ps) (are_distinct ps) distinct in
    let more_distinct = and_right (list_all (λ (q : Part). not (same_key q.at p.at)) ps) (are_distinct ps) distinct in
    pass_part p.at p.holds p.text (parts_text ps) x m root (with_parts ps (added p.at p.holds root)) (reads p (inl refl)) (new p (inl refl))
    (λ n y same short. parts_read ps y (added p.at p.holds root) n (λ q i. reads q (inr i)) more_distinct (still_new p ps root apart new) same short) skip room

no_skip : (text : List ℕ) → (first text == 239) ≡ false → skip_bom text ≡ text
unfolding skip_bom
no_skip text h = rw h refl

-- a text whose first part has a value
pub document_read : (p : Part) (ps : List Part) (d : Data) → p.holds ≡ Some d → ((q : Part) → In q (p ∷ ps) → PartIsRead q) → are_distinct (p ∷ ps) ≡ true
    → parse_document (parts_text (p ∷ ps)) ≡ Some (close (with_parts (p ∷ ps) no_nodes))
document_read p ps d is reads distinct =
    let text = parts_text (p ∷ ps) in
    let turn = subst (TextIsRead p.at p.text) is (reads p (inl refl)) (parts_text ps) in
    let whole = no_skip text turn.5 in
    document_some text (with_parts (p ∷ ps) no_nodes, []) (rw whole (parts_read (p ∷ ps) text no_nodes (suc (length text)) reads distinct (λ q i. refl) refl (omega arith)))

-- ---- looking up

-- the value of a part, or else the other
abbrev pub or_else : Option Data → Option Data → Option Data
or_else None other = other
or_else (Some d) other = Some d

-- what the parts say of a key
abbrev pub looked_up : List ℕ → List Part → Option Data → Option Data
looked_up q [] other = other
looked_up q (p ∷ ps) other = looked_up q ps (if same_key q p.at then or_else p.holds other else other)

-- keys that are the same have the same bytes
same_keys : (q k : List ℕ) → same_key q k ≡ true → q ≡ k
same_keys q k same =
    elim (cases_ordering (slice_cmp nat_cmp q k)) [
      | inl less ↦ absurd (false≢true (rw less at same))
      | inr more ↦ elim more [
        | inl tie ↦ same_from q k tie
        | inr later ↦ absurd (false≢true (rw later at same))
      ]
    ]

one_added : (q k : List ℕ) (o : Option Data) (ns : Nodes) → option_map close_node (get_node q (added k o ns)) ≡ (if same_key q k then or_else o (option_map close_node (get_node q ns)) else option_map close_node (get_node q ns))
one_added q k None ns =
    elim (cases_Bool (same_key q k)) [
      | inl same ↦ rw same refl
      | inr other ↦ rw other refl
    ]
one_added q k (Some d) ns =
    elim (cases_Bool (same_key q k)) [
      | inl same ↦ rw same (ap (option_map close_node) (inserted same))
      | inr other ↦ rw other (ap (option_map close_node) (insert_other q k (value d) ns other))
    ]
  where
    inserted : same_key q k ≡ true → get_node q (insert k (value d) ns) ≡ Some (value d)
    inserted same = let k_is = same_keys q k same in subst (λ j. get_node q (insert j (value d) ns) ≡ Some (value d)) k_is (get_node-insert q (value d) ns)

all_added : (q : List ℕ) (ps : List Part) (ns : Nodes) → option_map close_node (get_node q (with_parts ps ns)) ≡ looked_up q ps (option_map close_node (get_node q ns))
all_added q [] ns = refl
all_added q (p ∷ ps) ns = all_added q ps (added p.at p.holds ns) ∙ ap (looked_up q ps) (one_added q p.at p.holds ns)

-- what a key holds in the table that is read
pub found_in : (q : List ℕ) (ps : List Part) → get_member q (close (with_parts ps no_nodes)) ≡ looked_up q ps None
found_in q ps = get_closed q (with_parts ps no_nodes) ∙ all_added q ps no_nodes

-- ---- unknown keys

-- the key is known, or has no value
abbrev pub is_fit : List Key → Part → Bool
is_fit known p = is_known known p.at || is_none p.holds

unknown_after : (known : List Key) (ps : List Part) (ns : Nodes) → list_all (is_fit known) ps ≡ true → has_unknown known (close ns) ≡ false → has_unknown known (close (with_parts ps ns)) ≡ false
unknown_after known [] ns all none = none
unknown_after known (p ∷ ps) ns all none =
    unknown_after known ps (added p.at p.holds ns) (and_right (is_fit known p) (list_all (is_fit known) ps) all) (by_value p.holds (and_left (is_fit known p) (list_all (is_fit known) ps) all))
  where
    or_no : (b : Bool) → (b || false) ≡ true → b ≡ true
    or_no true h = refl
    or_no false h = h

    by_value : (o : Option Data) → (is_known known p.at || is_none o) ≡ true → has_unknown known (close (added p.at o ns)) ≡ false
    by_value None fit = none
    by_value (Some d) fit = still_known known p.at (value d) ns (or_no (is_known known p.at) fit) none

pub none_unknown : (known : List Key) (ps : List Part) → list_all (is_fit known) ps ≡ true → has_unknown known (close (with_parts ps no_nodes)) ≡ false
none_unknown known ps all = unknown_after known ps no_nodes all refl
