-- What is asked for, by its bytes.
use Rattle.std.specs.Prelude.{option_map}
use Rattle.why_words.specs.declared.wanted.Wanted.{Wanted as Asking}
use Rattle.why_words.specs.Wanted.{Wanted}

abbrev pub wanted_by : Asking → Wanted
wanted_by w = record {
  steps = w.steps;
  in_time = w.in_time;
  design = w.design.now;
  file = option_map (λ name. name.now) w.file;
}
