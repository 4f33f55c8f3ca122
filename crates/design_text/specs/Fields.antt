-- What the fields of the code stand for.
use Rattle.std.specs.Prelude.{ℕ, List, map, codes, decimal}
use Rattle.rail_base.specs.declared.station.Station.{Station}
use Rattle.design_table.specs.declared.key.Key.{Key}
use Rattle.design_text.specs.Texts.{in_quotes, in_brackets, visit_text, sections_text}
use Rattle.design_text.specs.declared.field.Value.{Value}
use Rattle.design_text.specs.declared.field.Value.TheVariants as values
use Rattle.design_text.specs.declared.field.Field.{Field}

-- the text of a value
abbrev pub value_text : Station → Value → List ℕ
value_text d values.True = codes "true"
value_text d (values.Name name) = in_quotes name.now
value_text d (values.Number number) = decimal number
value_text d (values.Visits visits) = in_brackets (map (visit_text d) visits.now)
value_text d (values.Sections sections) = sections_text d sections.now
value_text d (values.Numbers numbers) = in_brackets (map decimal numbers.now)

-- a key with the text of its value
abbrev pub field_of : Station → Field → Key × List ℕ
field_of d field = (field.0, value_text d field.1)
