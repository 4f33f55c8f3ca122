-- The form of a value at a key, and what the value is.
use Rattle.std.specs.Prelude.{ℕ, ℤ, pos, Bool, true, false, not, ◌&&◌, ◌||◌, ◌==◌, nat_le, List, [], ◌∷◌, map, length}
use Rattle.std.specs.Prelude.{Option, Some, None, codes, bytes_eq, if◌then◌else◌}
use Rattle.std.specs.List.{list_all, list_any}
use Rattle.toml.specs.Data.{Data, string, integer, boolean, array, Items, no_items, item, Members, no_members, member}
use Rattle.toml.specs.Data.{get_member}
use Rattle.design_table.specs.declared.field.Form.{Form}
use Rattle.design_table.specs.declared.field.Form.TheVariants as forms
use Rattle.design_table.specs.declared.key.Key.{Key}
use Rattle.design_table.specs.declared.sheet.Side.{Side}
use Rattle.design_table.specs.declared.sheet.Side.TheVariants.{A, B}
use Rattle.design_table.specs.Keys.{key_text}

-- the value at a key of a table
abbrev pub found : Key → Members → Option Data
found key ms = get_member (key_text key) ms

-- the items of an array as a list
abbrev pub list_of_items : Items → List Data
list_of_items no_items = []
list_of_items (item d ds) = d ∷ list_of_items ds

-- ---- names

-- an ASCII letter, a digit, `_` or `-`
abbrev pub is_name_byte : ℕ → Bool
is_name_byte b =
    (nat_le 97 b && nat_le b 122)
    || (nat_le 65 b && nat_le b 90)
    || (nat_le 48 b && nat_le b 57)
    || (b == 95)
    || (b == 45)

-- 1 to 32 of them
abbrev pub is_name_text : List ℕ → Bool
is_name_text s = nat_le 1 (length s) && nat_le (length s) 32 && list_all is_name_byte s

-- the value is a name
abbrev pub is_name_value : Data → Bool
is_name_value (string s) = is_name_text s
is_name_value _ = false

-- the text of a value
abbrev pub name_value : Data → List ℕ
name_value (string s) = s
name_value _ = []

-- there is a name
abbrev pub is_name : Option Data → Bool
is_name (Some d) = is_name_value d
is_name None = false

-- the name that is there
abbrev pub name_of : Option Data → List ℕ
name_of (Some d) = name_value d
name_of None = []

-- ---- sides: `a` or `b`

-- there is one of the two texts
abbrev pub is_side : Option Data → Bool
is_side (Some (string s)) = bytes_eq s (codes "a") || bytes_eq s (codes "b")
is_side _ = false

-- the side that is there
abbrev pub side_of : Option Data → Side
side_of (Some (string s)) = if bytes_eq s (codes "b") then B else A
side_of _ = A

-- ---- whole numbers

-- there is an integer; floats and dates are none
abbrev pub is_whole : Option Data → Bool
is_whole (Some (integer z)) = true
is_whole _ = false

-- the integer that is there
abbrev pub whole_of : Option Data → ℤ
whole_of (Some (integer z)) = z
whole_of _ = pos 0

-- there is an array of integers
abbrev pub is_wholes : Option Data → Bool
is_wholes (Some (array ds)) = list_all (λ d. is_whole (Some d)) (list_of_items ds)
is_wholes _ = false

-- the integers of the array that is there
abbrev pub wholes_of : Option Data → Option (List ℤ)
wholes_of (Some (array ds)) = Some (map (λ d. whole_of (Some d)) (list_of_items ds))
wholes_of _ = None

-- ---- truth values, where an absent one is false

-- there is a truth value, or nothing
abbrev pub is_flag : Option Data → Bool
is_flag None = true
is_flag (Some (boolean b)) = true
is_flag _ = false

-- the truth value that is there
abbrev pub flag_of : Option Data → Bool
flag_of (Some (boolean b)) = b
flag_of _ = false

-- ---- arrays of names

-- there is an array of names
abbrev pub is_names : Option Data → Bool
is_names (Some (array ds)) = list_all is_name_value (list_of_items ds)
is_names _ = false

-- the names of the array that is there
abbrev pub names_of : Option Data → List (List ℕ)
names_of (Some (array ds)) = map name_value (list_of_items ds)
names_of _ = []

-- ---- visits: an array of arrays of names

-- the value is an array of names
abbrev pub is_visit : Data → Bool
is_visit d = is_names (Some d)

-- the names of an array
abbrev pub visit_of : Data → List (List ℕ)
visit_of d = names_of (Some d)

-- there is an array of such arrays
abbrev pub is_visits : Option Data → Bool
is_visits (Some (array ds)) = list_all is_visit (list_of_items ds)
is_visits _ = false

-- the visits that are there
abbrev pub visits_of : Option Data → List (List (List ℕ))
visits_of (Some (array ds)) = map visit_of (list_of_items ds)
visits_of _ = []

-- ---- arrays of entries, where an absent one is empty

-- there is an array, or nothing
abbrev pub is_array : Option Data → Bool
is_array None = true
is_array (Some (array ds)) = true
is_array _ = false

-- the values of the array that is there
abbrev pub items_of : Option Data → List Data
items_of (Some (array ds)) = list_of_items ds
items_of _ = []

-- ---- forms by their names

-- the value at a key, or that there is none, has the form
abbrev pub has_form : Form → Option Data → Bool
has_form forms.Name = is_name
has_form forms.Side = is_side
has_form forms.Whole = is_whole
has_form forms.Flag = is_flag
has_form forms.Names = is_names
has_form forms.Visits = is_visits
has_form forms.Wholes = is_wholes
has_form forms.Array = is_array

-- ---- unknown keys

-- the text is one of these keys
abbrev pub is_known : List Key → List ℕ → Bool
is_known known text = list_any (λ key. bytes_eq (key_text key) text) known

-- a key of the table is none of these
abbrev pub has_unknown : List Key → Members → Bool
has_unknown known no_members = false
has_unknown known (member text d ms) = not (is_known known text) || has_unknown known ms

-- the value at a key that is one of these; at another key nothing is spelled
abbrev pub known_value : List Key → Members → Key → Option Data
known_value known ms key = if is_known known (key_text key) then found key ms else None
