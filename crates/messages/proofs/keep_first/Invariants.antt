use mathlib.Core.Path.{◌≡◌}
use mathlib.Core.Bool.{true}
use Prim.Native.Nat.{ℕ, ◌≤◌, ◌<◌}
use lib.ListN.{length, get_or}
use Rattle.std.specs.Prelude.{None}
use Rattle.messages.specs.told.Asked.{found_or}
use Rattle.messages.proofs.keep_first.Given as goal

abbrev pub invariant-loop-i : goal.invariant-loop-i
invariant-loop-i g l = record {
  long : length l.found ≡ g.row.N;
  kept : (k : ℕ) → k < l.i → get_or l.found k None ≡ found_or (get_or l.fn.found k None) (get_or l.numbers k 0) l.field.number l.field.value;
  more : (k : ℕ) → k < l.i → get_or l.fn.found k None ≡ None → get_or l.numbers k 0 ≡ l.field.number → l.more ≡ true;
  rest : (k : ℕ) → l.i ≤ k → get_or l.found k None ≡ get_or l.fn.found k None;
}
