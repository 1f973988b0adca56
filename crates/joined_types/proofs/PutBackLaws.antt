-- A part of a message that was handed on and is put back: what stands around it is as it was, and what was promised of it holds of it there.
-- Assumes nothing.
use mathlib.Core.Path.{◌≡◌, ap, sym, ◌∙◌}
use mathlib.Core.List.{List, ◌++◌}
use Prim.Native.Nat.{ℕ, ◌-◌, ◌≤◌}
use native.Mathlib.Omega.{arith}
use lib.ListN.{length, take, drop}
use lib.Seq.{length-take-le, take_at, drop_at}
use borrow.Rule.Slice.PartMut.{put_mid, post_of, mid_len, same_len_mid, take_put, drop_put}
use Rattle.foundation.specs.declared.Span.{Span}
use Rattle.wire.specs.Wire.{Message}
use Rattle.schema.specs.told.Alike.{JoinedAs}
use Rattle.joined_types.specs.told.Runs.{SameAround}

module _ (s ys : List ℕ) (p : Span) (h : p.start ≤ p.end) (g : p.end ≤ length s) where
  abbrev pub put : List ℕ
  put = put_mid p.start (p.end - p.start) s ys

  pub put-around : length ys ≡ p.end - p.start → SameAround s put p.start p.end
  put-around n = record {
    many = same_len_mid p.start (p.end - p.start) s ys (n ∙ sym (mid_len p.start p.end s g));
    before = take_put p.start (p.end - p.start) s ys (omega arith);
    after = drop_put p.start p.end s ys h g n;
  }

  put-inside : length ys ≡ p.end - p.start → take (p.end - p.start) (drop p.start put) ≡ ys
  put-inside n =
      ap (take (p.end - p.start)) (drop_at (take p.start s) (ys ++ post_of p.start (p.end - p.start) s) p.start (length-take-le p.start s (omega arith)))
      ∙ take_at ys (post_of p.start (p.end - p.start) s) (p.end - p.start) n

  module _ (P : Message → Message → Type 0) (j : JoinedAs P (take (p.end - p.start) (drop p.start s)) ys) where
    as-many : length ys ≡ p.end - p.start
    as-many = j.many ∙ mid_len p.start p.end s g

    pub put-back : SameAround s put p.start p.end
    put-back = put-around as-many

    pub put-joined : JoinedAs P (take (p.end - p.start) (drop p.start s)) (take (p.end - p.start) (drop p.start put))
    put-joined = rw (put-inside as-many) j
