-- What the text of a plan spells: an object with the one key `steps`, an array of arrays of commands.
use Rattle.std.specs.Prelude.{◌≡◌, ℕ, List, [], ◌∷◌, Option, Some, None, option_and_then, codes, if◌then◌else◌}
use Rattle.std.specs.Str.{is_utf8}
use Rattle.serde_json.specs.Data.{Data, unsigned, number, string, array, object, Items, no_items, item, Members}
use Rattle.serde_json.specs.Data.{no_members, member}
use Rattle.serde_json.specs.Find.{get_member}
use Rattle.serde_json.specs.Read.{read}

-- a command as it is written: the name of a train and the number of a route
abbrev pub Written : Type 0
Written = List ℕ × ℕ

-- the value that the bytes are
abbrev pub json_of : List ℕ → Option Data
json_of bytes = if is_utf8 bytes then read bytes else None

-- the first with the others, where all are there
abbrev pub with_others : {X : Type 0} → Option X → Option (List X) → Option (List X)
with_others (Some x) (Some xs) = Some (x ∷ xs)
with_others _ _ = None

-- what f gives of each, where it gives something of all
abbrev pub of_all : {X Y : Type 0} → (X → Option Y) → List X → Option (List Y)
of_all f [] = Some []
of_all f (x ∷ xs) = with_others (f x) (of_all f xs)

-- the members of an array
abbrev pub list_of_items : Items → List Data
list_of_items no_items = []
list_of_items (item d ds) = d ∷ list_of_items ds

abbrev pub array_of : Data → Option (List Data)
array_of (array ds) = Some (list_of_items ds)
array_of _ = None

-- a text
abbrev pub string_of : Data → Option (List ℕ)
string_of (string s) = Some s
string_of _ = None

-- a whole number from 0 to 2^64 - 1
abbrev pub whole_of : Data → Option ℕ
whole_of (number (unsigned n)) = Some n
whole_of _ = None

-- the two, where both are there
abbrev pub pair_of : Option (List ℕ) → Option ℕ → Option Written
pair_of (Some name) (Some n) = Some (name, n)
pair_of _ _ = None

-- a text and a whole number
abbrev pub two_of : List Data → Option Written
two_of (d ∷ e ∷ []) = pair_of (string_of d) (whole_of e)
two_of _ = None

abbrev pub command_of : Data → Option Written
command_of d = option_and_then two_of (array_of d)

abbrev pub step_in : Data → Option (List Written)
step_in d = option_and_then (of_all command_of) (array_of d)

-- the value at the one key
abbrev pub only_steps : Members → Option Data
only_steps (member k d no_members) = get_member (codes "steps") (member k d no_members)
only_steps _ = None

abbrev pub steps_at : Data → Option Data
steps_at (object ms) = only_steps ms
steps_at _ = None

-- the steps of the text
abbrev pub text_steps : Data → Option (List (List Written))
text_steps d = option_and_then (of_all step_in) (option_and_then array_of (steps_at d))

-- these values spell the steps, or there are none of either
abbrev pub ParseTo : Option (List Data) → Option (List (List Written)) → Type 0
ParseTo (Some ds) steps = (text : List (List Written)) × (steps ≡ Some text) × (of_all step_in ds ≡ Some text)
ParseTo None steps = steps ≡ None
