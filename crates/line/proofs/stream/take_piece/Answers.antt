use Rattle.std.proofs.Common.{rules, refl}
use Rattle.line.proofs.TakenLaws.{bytes_take}
use Rattle.line.proofs.stream.take_piece.Goals as goal

pub returns : goal.returns
returns g c = record {
  piece = record {
    size = c.read_full-size.result;
    within = c.read_full-size.ensures.inside;
    bytes = bytes_take c.read_full-size.result c.read_full-size.new.area (λ i. search rules);
    total = refl;
    counts = c.counts_in.ensures;
    kept = refl;
  };
  given = c.read_full-size.ensures.given;
}
