-- What was converted comes back by the other conversion.
-- Assumes nothing.
use mathlib.Core.Path.{◌≡◌, refl, sym, ap, ◌∙◌}
use mathlib.Core.Bool.{Bool, true, false}
use mathlib.Core.List.{List, [], ◌∷◌}
use mathlib.Core.Option.{Option, none, some}
use Prim.Native.Nat.{ℕ, ◌+◌, ◌-◌, ◌*◌, ◌/◌, ◌≤◌, ◌<◌}
use native.Mathlib.Omega.{arith}
use borrow.Author.Tests.{le-ltb}
use lib.Dec.{ltb}
use lib.ListN.{length, get_or, drop, length-drop}
use lib.Seq.{take-append_seam}
use Rattle.std.specs.Prelude.{if◌then◌else◌}
use Rattle.foundation.proofs.EveryLaws.{all_drop}
use Rattle.foundation.proofs.DigitLaws.{Below}
use Rattle.foundation.specs.Results.{ok}
use Rattle.encoding.specs.Encoding.{byte_string_marker, unpacked, first_above255, decoded}
use Rattle.encoding.proofs.EncodingLaws.{none_above, length-unpacked, decoded-marked, decoded_old}
use Rattle.converter.specs.Conversions.{
  ConversionFault,
  too_many_units,
  nothing_there,
  wrong_form,
  unit_above255,
  first_unit_zero,
  units_area_too_short,
  old_units,
  old_fault,
  new_fault,
  Conversion,
  not_converted,
  placed_units,
  converted_to,
  conversion,
  old_to_new,
  new_to_old,
}
use Rattle.converter.specs.Statements.{old_bytes_limit, written_units, ComesBackNew, ComesBackOld, AsPacked}
use Rattle.converter.proofs.FaultLaws.{old-long, old-fine, new-other, first-unit}
use Rattle.converter.proofs.CaseLaws.{OldReady, NewReady, old_ready_lem, new_ready_lem}
use Rattle.converter.proofs.ConversionLaws.{length-packed, after_marker_lem}
use Rattle.converter.proofs.RoundTrips.{packed_back, unpacked-back, back-packed, packed-below, unpacked-below}

-- an accepted answer: there was no cause, and the units stand at the area's front
accepted-at : (area units : List ℕ) (o : Option ConversionFault) → (conversion area o units).number ≡ 0
    → (o ≡ none) × (written_units (conversion area o units) ≡ units)
accepted-at area units none z = (refl, go (ltb (length area) (length units)) z)
  where
    go : (t : Bool) → (if t then not_converted area units_area_too_short else placed_units area units).number ≡ 0
        → written_units (if t then not_converted area units_area_too_short else placed_units area units) ≡ units
    go true e = absurd (omega arith)
    go false e = take-append_seam units (drop (length units) area)
accepted-at area units (some too_many_units) z = absurd (omega arith)
accepted-at area units (some nothing_there) z = absurd (omega arith)
accepted-at area units (some wrong_form) z = absurd (omega arith)
accepted-at area units (some (unit_above255 unit)) z = absurd (omega arith)
accepted-at area units (some first_unit_zero) z = absurd (omega arith)
accepted-at area units (some units_area_too_short) z = absurd (omega arith)

pub old_accepted : (area d1 : List ℕ) (a : Conversion) → old_to_new area d1 ≡ a → a.number ≡ 0
    → OldReady d1 × (written_units a ≡ byte_string_marker ∷ unpacked d1)
unfolding old_to_new
old_accepted area d1 a e z =
    let h = accepted-at area (byte_string_marker ∷ unpacked d1) (old_fault d1) (ap (λ (x : Conversion). x.number) e ∙ z) in
    (old_ready_lem d1 h.0, ap written_units (sym e) ∙ h.1)

pub new_accepted : (area d1 : List ℕ) (a : Conversion) → new_to_old area d1 ≡ a → a.number ≡ 0
    → NewReady d1 × (written_units a ≡ old_units (drop 1 d1))
unfolding new_to_old
new_accepted area d1 a e z =
    let h = accepted-at area (old_units (drop 1 d1)) (new_fault d1) (ap (λ (x : Conversion). x.number) e ∙ z) in
    (new_ready_lem d1 h.0, ap written_units (sym e) ∙ h.1)

none_of : (us : List ℕ) → Below 256 us → first_above255 us ≡ none
unfolding first_above255
none_of [] h = refl
none_of (u ∷ us) h = let l : u ≤ 255 = omega (arith, h.0) in simp (le-ltb _ _ l) (none_of us h.1)

marked-is : (d1 : List ℕ) → (length d1 ≡ 0 → ⊥) → get_or d1 0 0 ≡ byte_string_marker → d1 ≡ byte_string_marker ∷ drop 1 d1
marked-is [] t e = absurd (t refl)
marked-is (u ∷ us) t e = ap (λ (x : ℕ). x ∷ us) e

-- a marked d1 and its old form
module _ (d1 : List ℕ) (r : NewReady d1) where
  old-length : (8 * (length d1 - 1) + 6) / 7 ≡ length (old_units (drop 1 d1))
  old-length = omega (arith, length-packed (drop 1 d1), length-drop 1 d1)

  more-than-one : 2 ≤ length d1
  more-than-one = let t = r.there in let m = r.more in omega arith

  pub packed-ready : length d1 ≤ 1 + old_bytes_limit → OldReady (old_units (drop 1 d1))
  packed-ready h = record {
    within = omega (arith, old-length);
    there = λ z. omega (arith, old-length, more-than-one);
    unmarked = λ z. r.other (omega (arith, first-unit d1 r.there r.more));
    bytes = none_of (old_units (drop 1 d1)) (packed-below (drop 1 d1));
  }

  pub packed-same : unpacked (old_units (drop 1 d1)) ≡ drop 1 d1
  packed-same = packed_back (drop 1 d1) (all_drop (λ u. u < 256) 1 d1 (none_above d1 r.bytes))

  pub back-new : (area : List ℕ) → length d1 ≤ 1 + old_bytes_limit → old_to_new area (old_units (drop 1 d1)) ≡ converted_to area d1
  unfolding old_to_new
  back-new area h =
      let o = packed-ready h in
      let e : byte_string_marker ∷ unpacked (old_units (drop 1 d1)) ≡ d1 =
      ap (λ (us : List ℕ). byte_string_marker ∷ us) packed-same ∙ sym (marked-is d1 r.there r.marked) in
      ap (λ (x : Option ConversionFault). conversion area x (byte_string_marker ∷ unpacked (old_units (drop 1 d1))))
      (old-fine (old_units (drop 1 d1)) o.within o.there o.unmarked o.bytes)
      ∙ ap (converted_to area) e

  pub back_long : (area : List ℕ) → 1 + old_bytes_limit < length d1 → old_to_new area (old_units (drop 1 d1)) ≡ not_converted area too_many_units
  unfolding old_to_new
  back_long area h =
      ap (λ (x : Option ConversionFault). conversion area x (byte_string_marker ∷ unpacked (old_units (drop 1 d1))))
      (old-long (old_units (drop 1 d1)) (omega (arith, old-length)))

-- an old d1 and its form with the marker
module _ (d1 : List ℕ) (r : OldReady d1) where
  pub unpacked-bytes : first_above255 (byte_string_marker ∷ unpacked d1) ≡ none
  unpacked-bytes = none_of (byte_string_marker ∷ unpacked d1) (omega arith, unpacked-below d1)

  back-ready : AsPacked d1 → new_fault (byte_string_marker ∷ unpacked d1) ≡ none
  back-ready p =
      let m = byte_string_marker ∷ unpacked d1 in
      let t = r.there in
      let first : 0 < length d1 = omega arith in
      let more : length m ≡ 1 → ⊥ = λ e. omega (arith, length-unpacked d1, p.no_fewer 0 first) in
      let there : length m ≡ 0 → ⊥ = λ e. omega arith in
      let same : get_or (old_units (unpacked d1)) 0 0 ≡ get_or d1 0 0 = ap (λ (us : List ℕ). get_or us 0 0) (unpacked-back d1 r.there p) in
      new-other m (omega (arith, length-unpacked d1, r.within)) there refl more unpacked-bytes
      λ o. r.unmarked (omega (arith, same, first-unit m there more))

  pub back-old : AsPacked d1 → (area : List ℕ) → new_to_old area (byte_string_marker ∷ unpacked d1) ≡ converted_to area d1
  unfolding new_to_old
  back-old p area =
      ap (λ (x : Option ConversionFault). conversion area x (old_units (unpacked d1))) (back-ready p)
      ∙ ap (converted_to area) (unpacked-back d1 r.there p)

  pub back-only : (area : List ℕ) → length d1 ≤ length area → new_to_old area (byte_string_marker ∷ unpacked d1) ≡ converted_to area d1 → AsPacked d1
  back-only area h e =
      let fits : converted_to area d1 ≡ placed_units area d1 = rw (le-ltb (length area) (length d1) h) in
      let w = new_accepted area (byte_string_marker ∷ unpacked d1) (placed_units area d1) (e ∙ fits) refl in
      back-packed d1 r.there (sym w.1 ∙ take-append_seam d1 (drop (length d1) area))

-- both forms are decoded to the same bytes
decoded_marker : (bs : List ℕ) → first_above255 (byte_string_marker ∷ bs) ≡ none → decoded (byte_string_marker ∷ bs) ≡ ok bs
decoded_marker bs h =
    let there : length (byte_string_marker ∷ bs) ≡ 0 → ⊥ = λ e. omega arith in
    decoded-marked (byte_string_marker ∷ bs) there h refl ∙ ap ok (after_marker_lem (byte_string_marker ∷ bs))

decoded-ready : (us : List ℕ) → OldReady us → decoded us ≡ ok (unpacked us)
decoded-ready us o = decoded_old us o.there o.bytes o.unmarked

pub old_decoded : (d1 : List ℕ) → OldReady d1 → decoded d1 ≡ decoded (byte_string_marker ∷ unpacked d1)
old_decoded d1 r = decoded-ready d1 r ∙ sym (decoded_marker (unpacked d1) (unpacked-bytes d1 r))

pub new_decoded : (d1 : List ℕ) → NewReady d1 → length d1 ≤ 1 + old_bytes_limit → decoded d1 ≡ decoded (old_units (drop 1 d1))
new_decoded d1 r h =
    let m = marked-is d1 r.there r.marked in
    let bytes : first_above255 (byte_string_marker ∷ drop 1 d1) ≡ none = ap first_above255 (sym m) ∙ r.bytes in
    ap decoded m ∙ decoded_marker (drop 1 d1) bytes
    ∙ sym (decoded-ready (old_units (drop 1 d1)) (packed-ready d1 r h) ∙ ap ok (packed-same d1 r))

pub comes_back_new : (area d1 : List ℕ) (a : Conversion) → new_to_old area d1 ≡ a → a.number ≡ 0 → ComesBackNew d1 a
comes_back_new area d1 a e z =
    let h = new_accepted area d1 a e z in
    record {
      same = λ l other. ap (old_to_new other) h.1 ∙ back-new d1 h.0 other l;
      more = λ l other. ap (old_to_new other) h.1 ∙ back_long d1 h.0 other l;
    }

pub comes_back_old : (area d1 : List ℕ) (a : Conversion) → old_to_new area d1 ≡ a → a.number ≡ 0 → ComesBackOld d1 a
comes_back_old area d1 a e z =
    let h = old_accepted area d1 a e z in
    record {
      same = λ p other. ap (new_to_old other) h.1 ∙ back-old d1 h.0 p other;
      only = λ other l f. back-only d1 h.0 other l (ap (new_to_old other) (sym h.1) ∙ f);
    }
