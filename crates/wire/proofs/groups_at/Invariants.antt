use mathlib.Core.Path.{◌≡◌}
use Prim.Native.Nat.{◌+◌, ◌≤◌}
use lib.ListN.{length}
use Rattle.wire.specs.Wire.{read_groups}
use Rattle.wire.specs.told.WireTold.{rest_of}
use Rattle.wire.proofs.VarintLaws.{onward}
use Rattle.wire.proofs.groups_at.Given as goal

abbrev pub invariant-loop-count : goal.invariant-loop-count
invariant-loop-count l = record {
  read : onward l.place l.s.base l.s.bytes.now l.at l.count l.groups ≡ read_groups (rest_of l.s.base l.s.bytes.now l.at);
  room : length l.groups ≡ 10;
  inside : l.at + l.count ≤ length l.s.bytes.now;
}
