use mathlib.Core.Path.{◌≡◌}
use Prim.Native.Nat.{◌-◌, ◌+◌, ◌*◌, ◌^◌, ◌≤◌}
use lib.ListN.{length, drop}
use Rattle.characters.specs.told.CharactersTold.{ranges, go_on}
use Rattle.characters.proofs.go_on.Given as goal

abbrev pub invariant-loop-i : goal.invariant-loop-i
invariant-loop-i l = (go_on (ranges (l.next - l.i) l.low l.high) l.code l.i (drop l.i l.s) ≡ go_on (ranges l.fn.first.following l.fn.first.low l.fn.first.high) l.fn.first.bits l.at (drop l.at l.s)) × ((l.code + 1) * 64 ^ (l.next - l.i) ≤ 2 ^ 24) × (l.i ≤ length l.s)
