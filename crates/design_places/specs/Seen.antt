-- What the values of the code stand for.
use Rattle.std.specs.Prelude.{ℕ, Bool, false, not, List, bytes_eq, Option, option_map}
use Rattle.std.specs.Borrow.{Bor}
use Rattle.std.specs.Option.{option_map_or}
use Rattle.design_table.specs.Forms.{is_known}
use Rattle.design_table.specs.Keys.{key_text, keys_of, top_keys}
use Rattle.design_places.specs.declared.places.Wanted.{Wanted}
use Rattle.design_places.specs.declared.places.Wanted.TheVariants as wanted
use Rattle.toml_places.specs.Finding.{name_at}

-- a text that is lent
abbrev pub now : Option (Bor (List ℕ)) → Option (List ℕ)
now = option_map (λ text. text.now)

-- the name is the key that is looked for
abbrev pub matches : Wanted → List ℕ → Bool
matches (wanted.Key key) name = bytes_eq name (key_text key)
matches (wanted.UnknownAt kind version) name = not (is_known (keys_of version kind) name)
matches (wanted.UnknownAtTop version) name = not (is_known (top_keys version) name)

-- a text begins with it
abbrev pub is_wanted : Wanted → List ℕ → Bool
is_wanted w text = option_map_or (matches w) (name_at text) false
