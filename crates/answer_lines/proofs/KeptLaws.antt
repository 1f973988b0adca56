-- The reader answers what is kept of an input as it answers the whole of it.
-- Assumes nothing.
use mathlib.Core.Path.{◌≡◌, refl, sym, ap, ◌∙◌}
use mathlib.Core.Bool.{Bool, true, false}
use mathlib.Core.List.{List, [], ◌∷◌}
use Prim.Native.Nat.{ℕ, zero, suc, ◌+◌, ◌*◌, ◌≤◌, ◌<◌, min}
use native.Mathlib.Omega.{arith}
use borrow.Author.Tests.{lt-ltb, le-ltb, ltb-true, ltb-false}
use lib.Dec.{ltb}
use lib.ListN.{length, take}
use lib.Seq.{get_or-take}
use Rattle.foundation.specs.Results.{d1_too_long, d2_too_long}
use Rattle.inputs.specs.Inputs.{Input, later_fault, fault_of}
use Rattle.inputs.specs.Outcomes.{refusal}
use Rattle.metadata.specs.Read.{reading, read}
use Rattle.line.specs.Input.{number_at, numbers_at, signed_of, d1_count, d2_count, ends_count, counts_of, input_of, d1_place, d2_place, ends_place}
use Rattle.line.specs.told.Taken.{kept_limit}
use Rattle.answer_lines.specs.told.LineTold.{kept_input}

pub length_numbers : (w : ℕ) (bs : List ℕ) (at n : ℕ) → length (numbers_at w bs at n) ≡ n
length_numbers w bs at zero = refl
length_numbers w bs at (suc n) = ap suc (length_numbers w bs (at + w) n)

-- numbers that stand in the beginning
number-take : (w n : ℕ) (bs : List ℕ) (at : ℕ) → at + w ≤ n → number_at w (take n bs) at ≡ number_at w bs at
number-take zero n bs at h = refl
number-take (suc w) n bs at h = rw (get_or-take n bs at 0 (omega arith), number-take w n bs (at + 1) (omega arith))

numbers_take : (w n : ℕ) (bs : List ℕ) (at m : ℕ) → at + w * m ≤ n → numbers_at w (take n bs) at m ≡ numbers_at w bs at m
numbers_take w n bs at zero h = refl
numbers_take w n bs at (suc m) h = rw (number-take w n bs at (omega arith), numbers_take w n bs (at + w) m (omega arith))

-- 1 and 2 are answered by the counts alone
module _ (S T : List ℕ) (i : Input) where
  read-d1-long : 32768 < length i.d1 → read S T i ≡ refusal S T d1_too_long 0
  unfolding read reading fault_of
  read-d1-long h = simp (lt-ltb 32768 (length i.d1) h)

  read-d2-long : length i.d1 ≤ 32768 → 32768 < length i.d2 → read S T i ≡ refusal S T d2_too_long 0
  unfolding read reading fault_of later_fault
  read-d2-long h k = simp (le-ltb 32768 (length i.d1) h, lt-ltb 32768 (length i.d2) k)

  read-many : length i.d1 ≤ 32768 → length i.d2 ≤ 32768 → 4096 < length i.ends → read S T i ≡ refusal S T d2_too_long 0
  unfolding read reading fault_of later_fault
  read-many h k l = simp (le-ltb 32768 (length i.d1) h, le-ltb 32768 (length i.d2) k, lt-ltb 4096 (length i.ends) l)

abbrev input_with : ℕ → ℕ → ℕ → ℕ → List ℕ → List ℕ → List ℕ → Input
input_with k a b c d1 d2 ends = record { k = signed_of k; mv = signed_of a ∷ signed_of b ∷ signed_of c ∷ []; d1 = d1; d2 = d2; ends = ends }

input-same : {k k' a a' b b' c c' : ℕ} {d d' e e' f f' : List ℕ} → k ≡ k' → a ≡ a' → b ≡ b' → c ≡ c' → d ≡ d' → e ≡ e' → f ≡ f'
    → input_with k a b c d e f ≡ input_with k' a' b' c' d' e' f'
input-same p q r s t u v = rw (p, q, r, s, t, u, v)

module _ (S T bs : List ℕ) where
  -- what is handed over, and what was given
  kept : Input
  kept = kept_input (take kept_limit bs) (counts_of bs)

  Same : Type 0
  Same = read S T kept ≡ read S T (input_of bs)

  d1-length : length kept.d1 ≡ min (d1_count bs) 32769
  unfolding kept
  d1-length = length_numbers 2 (take kept_limit bs) (d1_place + 4) (min (d1_count bs) 32769)

  d2-length : length kept.d2 ≡ min (d2_count bs) 32769
  unfolding kept
  d2-length = length_numbers 2 (take kept_limit bs) (d2_place (d1_count bs) + 4) (min (d2_count bs) 32769)

  ends-length : length kept.ends ≡ min (ends_count bs) 4097
  unfolding kept
  ends-length = length_numbers 4 (take kept_limit bs) (ends_place (d1_count bs) (d2_count bs) + 4) (min (ends_count bs) 4097)

  d1-given : length (input_of bs).d1 ≡ d1_count bs
  d1-given = length_numbers 2 bs (d1_place + 4) (d1_count bs)

  d2-given : length (input_of bs).d2 ≡ d2_count bs
  d2-given = length_numbers 2 bs (d2_place (d1_count bs) + 4) (d2_count bs)

  ends-given : length (input_of bs).ends ≡ ends_count bs
  ends-given = length_numbers 4 bs (ends_place (d1_count bs) (d2_count bs) + 4) (ends_count bs)

  -- within the limits all of it is kept
  all-kept : d1_count bs ≤ 32768 → d2_count bs ≤ 32768 → ends_count bs ≤ 4096 → kept ≡ input_of bs
  unfolding kept
  all-kept h k l =
      let a : min (d1_count bs) 32769 ≡ d1_count bs = omega arith in
      let b : min (d2_count bs) 32769 ≡ d2_count bs = omega arith in
      let c : min (ends_count bs) 4097 ≡ ends_count bs = omega arith in
      input-same (number-take 4 kept_limit bs 0 (omega arith)) (number-take 4 kept_limit bs 4 (omega arith))
      (number-take 4 kept_limit bs 8 (omega arith)) (number-take 4 kept_limit bs 12 (omega arith))
      (units-kept 2 (d1_place + 4) a (omega arith)) (units-kept 2 (d2_place (d1_count bs) + 4) b (omega arith))
      (units-kept 4 (ends_place (d1_count bs) (d2_count bs) + 4) c (omega arith))
    where
      units-kept : (w at : ℕ) {m n : ℕ} → m ≡ n → at + w * n ≤ kept_limit → numbers_at w (take kept_limit bs) at m ≡ numbers_at w bs at n
      units-kept w at {m} {n} e f = ap (numbers_at w (take kept_limit bs) at) e ∙ numbers_take w kept_limit bs at n f

  pub read_kept : read S T (kept_input (take kept_limit bs) (counts_of bs)) ≡ read S T (input_of bs)
  unfolding kept Same
  read_kept =
      long-d1 (ltb 32768 (d1_count bs)) refl
    where
      many : d1_count bs ≤ 32768 → d2_count bs ≤ 32768 → (t : Bool) → ltb 4096 (ends_count bs) ≡ t → Same
      many h k true e =
          let l : 4096 < ends_count bs = ltb-true _ _ e in
          read-many S T kept (omega (arith, d1-length)) (omega (arith, d2-length)) (omega (arith, ends-length))
          ∙ sym (read-many S T (input_of bs) (omega (arith, d1-given)) (omega (arith, d2-given)) (omega (arith, ends-given)))
      many h k false e = ap (read S T) (all-kept h k (ltb-false _ _ e))

      long-d2 : d1_count bs ≤ 32768 → (t : Bool) → ltb 32768 (d2_count bs) ≡ t → Same
      long-d2 h true e =
          let l : 32768 < d2_count bs = ltb-true _ _ e in
          read-d2-long S T kept (omega (arith, d1-length)) (omega (arith, d2-length))
          ∙ sym (read-d2-long S T (input_of bs) (omega (arith, d1-given)) (omega (arith, d2-given)))
      long-d2 h false e = many h (ltb-false _ _ e) (ltb 4096 (ends_count bs)) refl

      long-d1 : (t : Bool) → ltb 32768 (d1_count bs) ≡ t → Same
      long-d1 true e =
          let l : 32768 < d1_count bs = ltb-true _ _ e in
          read-d1-long S T kept (omega (arith, d1-length)) ∙ sym (read-d1-long S T (input_of bs) (omega (arith, d1-given)))
      long-d1 false e = long-d2 (ltb-false _ _ e) (ltb 32768 (d2_count bs)) refl
