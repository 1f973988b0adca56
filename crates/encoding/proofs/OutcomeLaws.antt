-- Laws of what `decode` answers: at each of its returns, and what a caller learns.
-- Assumes nothing.
use mathlib.Core.Path.{◌≡◌, refl, ap, ◌∙◌}
use mathlib.Core.Logic.{◌⊎◌, inl, inr, ⊎_elim}
use mathlib.Core.Bool.{Bool, true, false}
use mathlib.Core.List.{List, ◌++◌}
use mathlib.Core.Option.{some}
use Prim.Native.Nat.{ℕ, ◌≤◌, ◌<◌}
use native.Mathlib.Nat.{le_refl}
use native.Mathlib.Omega.{arith}
use borrow.Author.Tests.{lt-ltb, le-ltb, ltb-true}
use lib.Dec.{ltb}
use lib.ListN.{length, get_or, drop, length-drop, length-append}
use lib.Seq.{sets, take-append_seam}
use Rattle.std.specs.Prelude.{if◌then◌else◌, Ok, Err, Some, None}
use Rattle.std.specs.Prelude as std
use Rattle.foundation.specs.Results.{Cause, d1_too_long, empty_payload, not_a_byte, Res, ok, refused}
use Rattle.foundation.proofs.ChoiceLaws.{if_ind}
use Rattle.foundation.proofs.OverlayLaws.{sets_front}
use Rattle.encoding.specs.Encoding.{unit_limit, byte_string_marker, unpacked, first_above255, decoded}
use Rattle.encoding.specs.told.Outcome.{limited, Decoded, decoded_cause, DecodeTold, tells, above_of}
use Rattle.encoding.specs.declared.DecodeError.TheVariants.{TooLong, Empty, NotAByte, NoRoom}
use Rattle.encoding.proofs.EncodingLaws.{above_unit, above_nothing, after_marker, decoded-empty, decoded_above, decoded-marked, decoded_old, decoded_ind, length-unpacked}

module _ (us : List ℕ) where
  pub limited-long : unit_limit < length us → limited us ≡ refused d1_too_long 0
  unfolding limited
  limited-long h = simp (lt-ltb _ _ h)

  module _ (within : length us ≤ unit_limit) where
    pub limited-within : limited us ≡ decoded us
    unfolding limited
    limited-within = simp (le-ltb _ _ within)

    pub limited-empty : length us ≡ 0 → limited us ≡ refused empty_payload 0
    limited-empty h = limited-within ∙ decoded-empty us h

    pub limited-above : {r : std.Option ℕ} {unit : ℕ} → r ≡ above_of (first_above255 us) → r ≡ Some unit
        → limited us ≡ refused (not_a_byte unit) 0
    limited-above e f = limited-within ∙ decoded_above us (above_unit (first_above255 us) e f)

    module _ (some-there : length us ≡ 0 → ⊥) {r : std.Option ℕ} (found : r ≡ above_of (first_above255 us)) (nothing : r ≡ None) where
      pub limited-marked : get_or us 0 0 ≡ byte_string_marker → limited us ≡ ok (after_marker us)
      limited-marked e = limited-within ∙ decoded-marked us some-there (above_nothing (first_above255 us) found nothing) e

      pub limited-old : (get_or us 0 0 ≡ byte_string_marker → ⊥) → limited us ≡ ok (unpacked us)
      limited-old e = limited-within ∙ decoded_old us some-there (above_nothing (first_above255 us) found nothing) e

-- what is told at each return of `decode`
pub told-refused : (us area : List ℕ) (answer : Decoded) {cause : Cause} → limited us ≡ refused cause 0 → decoded_cause answer ≡ some cause
    → DecodeTold (limited us) area area answer
told-refused us area answer e h = rw e (h, refl)

pub told-short : (us area bytes : List ℕ) (n : ℕ) → limited us ≡ ok bytes → n ≡ length bytes → length area < n
    → DecodeTold (limited us) area area (Err NoRoom)
told-short us area bytes n e l h = rw (e, lt-ltb (length area) (length bytes) (omega arith)) (refl, refl)

pub told-bytes : (us before after bytes : List ℕ) (n : ℕ) → limited us ≡ ok bytes → n ≡ length bytes → n ≤ length before → after ≡ sets before 0 bytes
    → DecodeTold (limited us) before after (Ok n)
told-bytes us before after bytes n e l h a =
    let r : length bytes ≤ length before = omega arith in
    rw (e, le-ltb (length before) (length bytes) r) (ap Ok l, a ∙ sets_front bytes before r)

-- bytes within the room, or a refusal that has no place
abbrev Plain : ℕ → Res (List ℕ) → Type 0
Plain n (ok bytes) = length bytes ≤ n
Plain n (refused cause place) = place ≡ 0

plain : (us : List ℕ) (n : ℕ) → length us ≤ n → Plain n (limited us)
unfolding limited
plain us n h =
    if_ind (Plain n) (ltb unit_limit (length us)) (λ t. refl) λ t.
    decoded_ind (Plain n) us refl (λ unit. refl) (λ e. omega (arith, length-drop 1 us)) λ e. omega (arith, length-unpacked us)

cause_tells : (answer : Decoded) (area : List ℕ) {cause : Cause} → decoded_cause answer ≡ some cause → tells answer area ≡ some (refused cause 0)
cause_tells (Ok n) area e = cc
cause_tells (Err TooLong) area e = cc
cause_tells (Err Empty) area e = cc
cause_tells (Err (NotAByte unit)) area e = cc
cause_tells (Err NoRoom) area e = cc

-- d1 with bytes: there was no room, or they stand at the area's front
two_ways : (before after bytes : List ℕ) (answer : Decoded) → DecodeTold (ok bytes) before after answer
    → ((answer ≡ Err NoRoom) × (length before < length bytes)) ⊎ ((answer ≡ Ok (length bytes)) × (after ≡ bytes ++ drop (length bytes) before))
two_ways before after bytes answer t = go (ltb (length before) (length bytes)) refl t.0 t.1
  where
    go : (b : Bool) → ltb (length before) (length bytes) ≡ b
        → answer ≡ (if b then Err NoRoom else Ok (length bytes))
        → after ≡ (if b then before else bytes ++ drop (length bytes) before)
        → ((answer ≡ Err NoRoom) × (length before < length bytes)) ⊎ ((answer ≡ Ok (length bytes)) × (after ≡ bytes ++ drop (length bytes) before))
    go true e f g = inl (f, ltb-true (length before) (length bytes) e)
    go false e f g = inr (f, g)

told-tells : (n : ℕ) (x : Res (List ℕ)) (before after : List ℕ) (answer : Decoded) → Plain n x → DecodeTold x before after answer
    → (answer ≡ Err NoRoom) ⊎ (tells answer after ≡ some x)
told-tells n (ok bytes) before after answer h t =
    ⊎_elim (λ w. inl w.0) (λ w. inr (rw (w.0, w.1, take-append_seam bytes (drop (length bytes) before)))) (two_ways before after bytes answer t)
told-tells n (refused cause place) before after answer h t = inr (cause_tells answer after t.0 ∙ rw h)

-- the bytes stand inside the area
pub told-inside : (x : Res (List ℕ)) (before after : List ℕ) {answer : Decoded} {n : ℕ} → DecodeTold x before after answer → answer ≡ Ok n → n ≤ length after
told-inside (ok bytes) before after {answer} {n} t e =
    ⊎_elim (λ w. let b = w.0 in let z : ◌≡◌ {A = ℕ} 0 1 = cc in absurd (omega arith))
    (λ w.
    let b = w.0 in
    let l : n ≡ length bytes = cc in
    omega (arith, ap length w.1, length-append bytes (drop (length bytes) before)))
    (two_ways before after bytes answer t)
told-inside (refused cause place) before after t e = let z : ◌≡◌ {A = ℕ} 0 1 = cc in absurd (omega arith)

module _ (us before after : List ℕ) (answer : Decoded) (t : DecodeTold (limited us) before after answer) where
  -- an area as long as d1 has room
  pub told-room : length us ≤ length before → answer ≡ Err NoRoom → ⊥
  told-room room e = go (limited us) (plain us (length before) room) t
    where
      go : (x : Res (List ℕ)) → Plain (length before) x → DecodeTold x before after answer → ⊥
      go (ok bytes) h f =
          ⊎_elim (λ w. let l = w.1 in omega arith) (λ w. let b = w.0 in let z : ◌≡◌ {A = ℕ} 0 1 = cc in omega arith)
          (two_ways before after bytes answer f)
      go (refused cause place) h f = let z : ◌≡◌ {A = ℕ} 0 1 = cc in omega arith

  -- in an arm of a `match` on the answer
  pub limited-arm : (arm : Decoded) {x : Res (List ℕ)} → answer ≡ arm → tells arm after ≡ some x → limited us ≡ x
  limited-arm arm e f =
      let g = ap (λ (r : Decoded). tells r after) e in
      ⊎_elim (λ w. cc) (λ w. cc) (told-tells (length us) (limited us) before after answer (plain us (length us) (le_refl (length us))) t)

  -- For d1 within its limit and an area as long as d1 is, the answer and the area tell what d1 is decoded to.
  pub decoded-told : length us ≤ unit_limit → length us ≤ length before → tells answer after ≡ some (decoded us)
  decoded-told within room =
      ⊎_elim (λ e. absurd (told-room room e)) (λ d. d ∙ ap some (limited-within us within))
      (told-tells (length before) (limited us) before after answer (plain us (length before) room) t)
