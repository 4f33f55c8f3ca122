-- The document as `toml` reads it.
use Rattle.std.specs.Prelude.{◌≡◌, ℕ, List, Option, Some, None, Result, Ok, Err, if◌then◌else◌}
use Rattle.std.specs.Str.{is_utf8}
use Rattle.toml.specs.Data.{Members}
use Rattle.toml.specs.Parse.{parse_document}
use Rattle.design_table.specs.declared.fault.Code.TheVariants.{D01}
use Rattle.design_table.specs.declared.fault.DesignFault.{DesignFault}
use Rattle.design_table.specs.declared.fault.DesignFault.TheVariants as faults
use Rattle.design_table.specs.declared.place.Place.TheVariants.{File}

-- the table of the document; bytes that are not UTF-8 are none
unfoldable pub toml_of : List ℕ → Option Members
toml_of bytes = if is_utf8 bytes then parse_document bytes else None

-- What was read, seen by view, is the table; or there is none, and that is D01 at the file. Want of memory is free.
abbrev pub ReadsToml : {X : Type 0} → (X → Members) → Result X DesignFault → Option Members → Type 0
ReadsToml view (Ok x) document = document ≡ Some (view x)
ReadsToml view (Err (faults.Refused c p)) document = (c ≡ D01) × (p ≡ File) × (document ≡ None)
ReadsToml view (Err faults.Memory) document = Unit {0}
