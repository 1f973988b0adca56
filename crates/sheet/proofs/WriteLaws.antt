-- What is written into an area: of a number, what is left to write from here on gives the whole; of bytes, as much as there is room for.
-- Assumes nothing.
use mathlib.Core.Path.{◌≡◌, refl, sym, ap, ◌∙◌}
use mathlib.Core.List.{List, ◌++◌, append-nil, append_assoc}
use Prim.Native.Nat.{ℕ, zero, suc, ◌+◌, ◌*◌, ◌/◌, ◌%◌, ◌≤◌, ◌<◌}
use native.Mathlib.Nat.{add-zero, add-suc}
use native.Mathlib.Numerals.{add-one}
use native.Mathlib.Omega.{arith}
use lib.ListN.{length, get_or, take, drop, set, drop_of_length-le, take-append-drop}
use lib.Dec.{leb}
use lib.Seq.{sets, sets-eq, drop-cons, drop-drop, take_all, length-take-le}
use borrow.Rule.Slice.PartMut.{put_mid}
use borrow.Author.Tests.{leb-true, leb-false}
use mathlib.Core.Bool.{Bool, true, false}
use Rattle.foundation.specs.Digits.{little}
use Rattle.foundation.proofs.DigitLaws.{digits_append, digits_mod}
use Rattle.foundation.proofs.OverlayLaws.{sets_out, sets_clipped, sets_front}

-- the byte and what is left of the number
pub number_step : (whole area : List ℕ) (i left less rest : ℕ) → left ≡ suc less → whole ≡ sets area i (little left rest)
    → whole ≡ sets (set area i (rest % 256)) (i + 1) (little less (rest / 256))
number_step whole area i left less rest h e = e ∙ rw (h, add-one)

-- nothing is left, or no room
pub number_end : (whole area : List ℕ) (i left rest : ℕ) → (0 < left → length area ≤ i) → whole ≡ sets area i (little left rest) → area ≡ whole
number_end whole area i zero rest h e = sym e
number_end whole area i (suc left) rest h e = sym (e ∙ sets_out (little (suc left) rest) area i (h (omega arith)))

-- the same by what is left alone
pub number-end : (whole area : List ℕ) (i left rest : ℕ) → left ≤ 0 → whole ≡ sets area i (little left rest) → area ≡ whole
number-end whole area i left rest h e = number_end whole area i left rest (λ k. absurd (omega (arith, h, k))) e

-- bytes written one after the other: what is left to write from a place on gives the whole
module _ (src : List ℕ) where
  pub copy_start : (area : List ℕ) (at : ℕ) → sets area at src ≡ sets area (at + 0) src
  copy_start area at = rw add-zero

  pub copy_step : (whole area : List ℕ) (at i : ℕ) → i < length src → whole ≡ sets area (at + i) (drop i src)
      → whole ≡ sets (set area (at + i) (get_or src i 0)) (at + (i + 1)) (drop (i + 1) src)
  copy_step whole area at i h e = e ∙ rw (drop-cons src i 0 h, add-one, add-suc)

  pub copy_end : (whole area : List ℕ) (at i : ℕ) → length src ≤ i → whole ≡ sets area (at + i) (drop i src) → area ≡ whole
  copy_end whole area at i h e = sym (e ∙ rw (drop_of_length-le src h))

-- what there is no room for may be left out
pub put-part : (src area : List ℕ) (at room : ℕ) → length area ≤ at + room → room ≤ length src → sets area at (take room src) ≡ sets area at src
put-part src area at room h k =
    sym (sets_clipped (take room src) (drop room src) area at (rw (length-take-le room src k) h))
    ∙ ap (λ (vs : List ℕ). sets area at vs) (take-append-drop room src)

-- as much as there is room for serves as all of it
pub put-fitted : (src area : List ℕ) (at size : ℕ) → size ≤ length src → (size < length src → length area ≤ at + size)
    → sets area at (take size src) ≡ sets area at src
put-fitted src area at size k g = all-or-room (leb (length src) size) refl
  where
    all-or-room : (t : Bool) → leb (length src) size ≡ t → sets area at (take size src) ≡ sets area at src
    all-or-room true t = ap (sets area at) (take_all size src (leb-true (length src) size t))
    all-or-room false t = put-part src area at size (g (leb-false (length src) size t)) k

-- A part of the area, from `at` on, became as much of `src` as there is room for.
pub put-in : (src area part : List ℕ) (at size n : ℕ) → at + size ≤ length area → size ≤ length src → n ≡ size → part ≡ take size src
    → (size < length src → length area ≤ at + size) → put_mid at n area part ≡ sets area at src
put-in src area part at size n h k e f g =
    let z : length part ≡ size = ap length f ∙ length-take-le size src k in
    rw e (ap (λ (l : List ℕ). take at area ++ (part ++ l)) (drop-drop size at area ∙ ap (λ (m : ℕ). drop (at + m) area) (sym z)))
    ∙ sym (append_assoc (take at area) part _)
    ∙ sym (sets-eq part area at (rw z h))
    ∙ ap (sets area at) f
    ∙ put-fitted src area at size k g

-- what is as long as the area stands in its place
pub put-over : (src area : List ℕ) → length area ≡ length src → sets area 0 src ≡ src
put-over src area h = sets_front src area (omega (arith, h)) ∙ rw (drop_of_length-le area (rest-none h), append-nil)
  where
    rest-none : length area ≡ length src → length area ≤ length src
    rest-none e = omega (arith, e)

-- offset and length, written as one number
pub ref-number : (offset size : ℕ) → little 4 (offset % 65536 + 65536 * (size % 65536)) ≡ little 2 offset ++ little 2 size
ref-number offset size =
    digits_append 256 2 2 offset (size % 65536) (omega arith)
    ∙ ap (λ (ds : List ℕ). little 2 offset ++ ds) (digits_mod 256 2 size (omega arith))
