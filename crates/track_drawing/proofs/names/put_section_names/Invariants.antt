use Rattle.std.proofs.Common.{◌≡◌, ◌+◌, ◌++◌, take, length}
use Rattle.drawing.specs.Drawing.{LabelsAreApart, words_in}
use Rattle.track_drawing.proofs.names.put_section_names.Given as goal

abbrev pub invariant-loop-index : goal.invariant-loop-index
invariant-loop-index l = record {
  words : words_in l.picture ≡ words_in l.initial.picture ++ take l.index l.sections;
  apart : LabelsAreApart l.initial.picture → LabelsAreApart l.picture;
  size : length l.picture ≡ length l.initial.picture + l.index;
}
