use Rattle.std.proofs.Common.{length, ◌≤◌, ◌≡◌, ℕ, List, take, arith, length-take}
use Rattle.line.proofs.stream.pass_piece.Goals as goal

shorter : (xs : List ℕ) (a : List ℕ) {n room : ℕ} → length a ≡ length (take n xs) → n ≤ room → length a ≤ room
shorter xs a {n} {room} e h = omega (arith, length-take n xs)

pub returns : goal.returns
returns g c = record {
  over = record {
    area = c.take_piece.new.area;
    within = shorter _ c.take_piece.new.area c.take_piece.auto.area (omega (arith, c.min-size.ensures));
    piece = c.take_piece.ensures.piece;
  };
  given = c.take_piece.ensures.given;
}
