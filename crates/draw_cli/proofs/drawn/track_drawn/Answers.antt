use Rattle.std.proofs.Common.{refl}
use Rattle.draw_cli.proofs.drawn.track_drawn.Goals as goal

pub returns : goal.returns
returns c = record {
  drawing = record {
    status = refl;
    picture = c.in_ok-picture.picture;
    lines = c.in_ok-lines.ensures;
    words_are = c.in_ok-picture.ensures.words;
    within_limit = c.in_ok-picture.ensures.size;
  };
  edges = c.in_ok-picture.ensures.edges;
  apart = c.in_ok-picture.ensures.apart;
}
