-- The header is written over the first bytes of a run.
-- Assumes nothing.
use mathlib.Core.Path.{◌≡◌, refl, ◌∙◌}
use mathlib.Core.List.{List}
use Prim.Native.Nat.{ℕ, ◌+◌, ◌-◌, ◌/◌, ◌%◌, ◌≤◌, ◌<◌}
use native.Mathlib.Omega.{arith}
use lib.ListN.{length, get_or, set}
use Rattle.std.proofs.Common.{length-set}
use lib.Seq.{get_or-set_same, get_or-set_other, take-set-le, drop-set-lt}
use Rattle.joined_types.specs.told.Runs.{SameAround, one_field, RunJoined}
use Rattle.joined_types.proofs.HeaderLaws.{header_read}

module _ (s : List ℕ) (from a b c d : ℕ) where
  abbrev one : List ℕ
  one = set s from a

  abbrev two : List ℕ
  two = set one (from + 1) b

  abbrev three : List ℕ
  three = set two (from + 2) c

  abbrev pub with_header : List ℕ
  with_header = set three (from + 3) d

  around-header : (to : ℕ) → from + 4 ≤ to → SameAround s with_header from to
  around-header to h = record {
    many = rw (length-set, length-set, length-set, length-set) refl;
    before = take-set-le from three (from + 3) d (omega arith) ∙ take-set-le from two (from + 2) c (omega arith) ∙ take-set-le from one (from + 1) b (omega arith)
        ∙ take-set-le from s from a (omega arith);
    after = drop-set-lt to three (from + 3) d (omega arith) ∙ drop-set-lt to two (from + 2) c (omega arith) ∙ drop-set-lt to one (from + 1) b (omega arith)
        ∙ drop-set-lt to s from a (omega arith);
  }

  header-bytes : from + 4 ≤ length s → (get_or with_header from 0 ≡ a) × (get_or with_header (from + 1) 0 ≡ b) × (get_or with_header (from + 2) 0 ≡ c) × (get_or with_header (from + 3) 0 ≡ d)
  header-bytes h = (
    get_or-set_other three (from + 3) from d 0 (λ z. omega arith) ∙ get_or-set_other two (from + 2) from c 0 (λ z. omega arith)
        ∙ get_or-set_other one (from + 1) from b 0 (λ z. omega arith)
        ∙ get_or-set_same s from a 0 (omega arith),
    get_or-set_other three (from + 3) (from + 1) d 0 (λ z. omega arith) ∙ get_or-set_other two (from + 2) (from + 1) c 0 (λ z. omega arith)
        ∙ get_or-set_same one (from + 1) b 0 (rw length-set (omega arith)),
    get_or-set_other three (from + 3) (from + 2) d 0 (λ z. omega arith) ∙ get_or-set_same two (from + 2) c 0 (rw (length-set, length-set) (omega arith)),
    get_or-set_same three (from + 3) d 0 (rw (length-set, length-set, length-set) (omega arith)),
  )

pub run_headed : (s : List ℕ) (from to : ℕ) → from + 5 ≤ to → to ≤ length s → to - from - 4 < 2097152
    → RunJoined s (with_header s from 122 ((to - from - 4) % 128 + 128) ((to - from - 4) / 128 % 128 + 128) ((to - from - 4) / 16384)) from to
run_headed s from to h l f =
    let n = to - from - 4 in
    let b = n % 128 + 128 in
    let c = n / 128 % 128 + 128 in
    let d = n / 16384 in
    let around = around-header s from 122 b c d to (omega arith) in
    let bytes = header-bytes s from 122 b c d (omega arith) in
    record {
      around = around;
      run = one_field (header_read (with_header s from 122 b c d) from to (omega arith) (omega (arith, around.many)) f
          (record { tag = bytes.0; first = bytes.1; second = bytes.2; third = bytes.3 }));
    }
