-- Laws of what both conversions answer, at each of their returns.
-- Assumes nothing.
use mathlib.Core.Path.{◌≡◌, sym, ap, ◌∙◌}
use mathlib.Core.List.{List, ◌∷◌}
use mathlib.Core.Option.{Option, none}
use Prim.Native.Nat.{ℕ, ◌+◌, ◌-◌, ◌*◌, ◌/◌, ◌≤◌, ◌<◌}
use native.Mathlib.Omega.{arith}
use borrow.Author.Tests.{lt-ltb, le-ltb}
use lib.ListN.{length, drop, take, length-map, length-drop}
use lib.Seq.{sets, take_all, take-append_seam}
use Rattle.foundation.proofs.DigitLaws.{length_digits}
use Rattle.foundation.proofs.OverlayLaws.{sets_front}
use Rattle.encoding.specs.Encoding.{byte_string_marker, unpacked}
use Rattle.encoding.proofs.EncodingLaws.{after_marker, length-unpacked}
use Rattle.std.specs.Prelude.{Result, Ok, Err}
use Rattle.converter.specs.Conversions.{ConversionFault, old_units, conversion}
use Rattle.converter.specs.told.ConversionTold.{checked_told, converted_by}
use Rattle.converter.specs.declared.ConvertFault.{ConvertFault}
use Rattle.converter.specs.declared.ConvertFault.TheVariants.{NoRoom}

-- what the check found, and what is then answered
pub check_none : (o : Option ConversionFault) {r : Result (Unit {0}) ConvertFault} (u : Unit {0}) → o ≡ checked_told r → r ≡ Ok u → o ≡ none
check_none o u e f = e ∙ ap checked_told f

pub refused_told : (area units : List ℕ) (o : Option ConversionFault) {r : Result (Unit {0}) ConvertFault} {fault : ConvertFault}
    → o ≡ checked_told r → r ≡ Err fault → conversion area o units ≡ converted_by (Err fault) area
refused_told area units o e f = ap (λ (x : Option ConversionFault). conversion area x units) (e ∙ ap checked_told f)

module _ (area units : List ℕ) {o : Option ConversionFault} (sound : o ≡ none) (n : ℕ) (is : n ≡ length units) where
  pub short-told : length area < n → conversion area o units ≡ converted_by (Err NoRoom) area
  short-told h = rw (sound, lt-ltb (length area) (length units) (omega arith))

  pub placed-told : (after : List ℕ) → n ≤ length area → after ≡ sets area 0 units → conversion area o units ≡ converted_by (Ok n) after
  placed-told after h a =
      let r : length units ≤ length area = omega arith in
      rw (sound, le-ltb (length area) (length units) r, is, a, sets_front units area r)

-- lengths of both forms
pub length_marked : (d1 : List ℕ) → 7 * length d1 / 8 + 1 ≡ length (byte_string_marker ∷ unpacked d1)
length_marked d1 = omega (arith, length-unpacked d1)

pub length-packed : (bs : List ℕ) → (8 * length bs + 6) / 7 ≡ length (old_units bs)
unfolding old_units
length-packed bs = sym (simp (length-map, length_digits))

-- what stands after the marker, as `&d1[1..]` has it
pub after_marker_lem : (d1 : List ℕ) → after_marker d1 ≡ drop 1 d1
after_marker_lem d1 = take_all (length d1 - 1) (drop 1 d1) (omega (arith, length-drop 1 d1))

pub after-length : (d1 : List ℕ) → length (after_marker d1) ≡ length d1 - 1
after-length d1 = ap length (after_marker_lem d1) ∙ length-drop 1 d1

pub length_old : (d1 : List ℕ) → (8 * length (after_marker d1) + 6) / 7 ≡ length (old_units (drop 1 d1))
length_old d1 = length-packed (after_marker d1) ∙ ap (λ (bs : List ℕ). length (old_units bs)) (after_marker_lem d1)

-- the bytes at the front of an area that they were unpacked into
pub front_bytes : (bs before after : List ℕ) (n : ℕ) → after ≡ sets before 0 bs → n ≡ length bs → n ≤ length before → take n after ≡ bs
front_bytes bs before after n e l h = rw (e, sets_front bs before (omega arith), l) (take-append_seam bs (drop (length bs) before))
