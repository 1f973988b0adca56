-- Fields that are found at once, what is asked of a message after fields that were skipped, and what a walk over some fields of it (wire's `Fields`) tells of
-- them, one step at a time.
-- Assumes nothing.
use mathlib.Core.Path.{◌≡◌, refl, ap, ◌∙◌, subst}
use mathlib.Core.List.{List, []}
use Prim.Native.Nat.{ℕ, ◌+◌, ◌-◌, ◌/◌, ◌%◌, ◌≤◌, ◌<◌}
use native.Mathlib.Omega.{arith}
use lib.ListN.{length, get_or}
use Rattle.std.specs.Prelude.{Option, Some, None, Result, Ok, Err}
use Rattle.foundation.specs.declared.Span.{Span}
use Rattle.wire.specs.Wire.{read_field, cut}
use Rattle.wire.specs.Messages.{values, bodies_of}
use Rattle.wire.specs.told.WireTold.{rest_of, FieldTold, ShortRead, ShortField, SkipTold, GivesField, FieldsNext}
use Rattle.wire.specs.declared.WireError.{WireError}
use Rattle.wire.specs.declared.WireValue.{WireValue}
use Rattle.wire.specs.declared.WireValue.TheVariants as wire
use Rattle.wire.specs.declared.Field as code
use Rattle.foundation.specs.declared.Read.{Read}
use Rattle.wire.proofs.SkipLaws.{short-varint, short-body, skip-leads}
use Rattle.wire.proofs.WalkLaws.{field-inside, cut-end, cut-refused}
use Rattle.messages.specs.told.Asked.{CheckedTold, FoundTold, FoundFrom, FoundAt, found_or, bodies, piece_if, NextBodyTold}
use Rattle.messages.proofs.CheckLaws.{checked-field, skip-checked}
use Rattle.messages.proofs.FindLaws.{Occur, find-start, find-end, find-on, find-never, find-found, find-passed, find-whole}
use Rattle.messages.proofs.SeenLaws.{SeenBefore, seen_end, seen_never, seen_next}
use Rattle.messages.proofs.BodyLaws.{BodiesLeft, bodies-start, next-on, bodies-end, bodies-never, bodies-on, bodies-here}

-- a field whose tag and the varint after it have one or two bytes each, found
module _ (s : List ℕ) (k at : ℕ) {tag first : Read ℕ} (t : ShortRead s at tag) (v : ShortRead s tag.next first) (z : 8 ≤ tag.value) (d : tag.value / 8 ≡ k) where
  here : {w : WireValue} {end : ℕ} → ShortField s at (record { value = record { number = tag.value / 8; value = w }; next = end }) → FoundAt s k at (Some w)
  here {w} {end} f = (
    omega (arith, f.later, f.inside),
    end,
    λ base. subst (λ (n : ℕ). FieldTold base s (read_field (rest_of base s at)) (Ok (record { value = record { number = n; value = w }; next = end }))) d (f.is base),
  )

  pub found-varint : tag.value % 8 ≡ 0 → FoundAt s k at (Some (wire.Varint first.value))
  found-varint e = here (short-varint s at t v z e)

  pub found-body : tag.value % 8 ≡ 2 → first.value ≤ length s - first.next
      → FoundAt s k at (Some (wire.Body (record { start = first.next; end = first.next + first.value })))
  found-body e f = here (short-body s at t v z e f)

-- what holds from the place after skipped fields holds from the first
module _ (base : ℕ) {s ks : List ℕ} {at next : ℕ} (t : SkipTold s ks at next) (i : ℕ) (h : i < length ks) where
  abbrev k : ℕ
  k = get_or ks i 0

  pub occur-skipped : (start : ℕ) → Occur k base s start at → Occur k base s start next
  occur-skipped start = skip-leads base t i h (λ m rest. values k m ≡ values k rest) (λ m a b e q. q ∙ e) (rest_of base s start)

  pub found-skipped : {r : Option WireValue} → FoundFrom base s k next r → FoundFrom base s k at r
  found-skipped = find-on k base s at next (occur-skipped at (find-start k base s at))

  pub whole-skipped : at ≡ 0 → {r : Option WireValue} → FoundFrom base s k next r → FoundTold base s k r
  whole-skipped z f = find-whole k base s at z (found-skipped f)

  seen-skipped : (f : Option WireValue) → SeenBefore k base s at f → SeenBefore k base s next f
  seen-skipped (Some v) o = o
  seen-skipped None o = occur-skipped 0 o

  pub bodies-skipped : (start : ℕ) → BodiesLeft k base s start at → BodiesLeft k base s start next
  bodies-skipped start = skip-leads base t i h (λ m rest. bodies k m ≡ bodies k rest) (λ m a b e q. q ∙ ap bodies_of e) (rest_of base s start)

  pub next-skipped : {r : Option Span} → NextBodyTold base s k next r → NextBodyTold base s k at r
  next-skipped = next-on k base s at next t.later (bodies-skipped at (bodies-start k base s at))

-- a walk that stood at `at`, and after the step at `next`
module _ (base : ℕ) (s ks : List ℕ) {at next : ℕ} where
  module _ (i : ℕ) (h : i < length ks) where
    -- at its end
    module _ (t : FieldsNext base s ks at None next) where
      pub occur-over : Occur (get_or ks i 0) base s 0 at → FoundTold base s (get_or ks i 0) None
      occur-over o = find-whole (get_or ks i 0) base s 0 refl (find-end (get_or ks i 0) base s 0 next (occur-skipped base t.gives.0 i h 0 o) t.gives.1)

      pub seen-over : (f : Option WireValue) → SeenBefore (get_or ks i 0) base s at f → FoundTold base s (get_or ks i 0) f
      seen-over f o = seen_end (get_or ks i 0) base s next t.gives.1 f (seen-skipped base t.gives.0 i h f o)

      pub bodies-over : (start : ℕ) → BodiesLeft (get_or ks i 0) base s start at → NextBodyTold base s (get_or ks i 0) start None
      bodies-over start o = bodies-end (get_or ks i 0) base s start next (bodies-skipped base t.gives.0 i h start o) t.gives.1

    module _ {r : Result code.Field WireError} (t : FieldsNext base s ks at (Some r) next) where
      there : {q : Result code.Field WireError} → r ≡ q → FieldsNext base s ks at (Some q) next
      there g = subst (λ (q : Result code.Field WireError). FieldsNext base s ks at (Some q) next) g t

      -- at a field that is refused
      module _ {e : WireError} (g : r ≡ Err e) where
        pub occur-never : Occur (get_or ks i 0) base s 0 at → FoundTold base s (get_or ks i 0) None
        occur-never o = let x = (there g).gives in
            find-whole (get_or ks i 0) base s 0 refl (find-never (get_or ks i 0) base s 0 x.0 (occur-skipped base x.1 i h 0 o) e x.3 x.2)

        pub seen-never : (f : Option WireValue) → SeenBefore (get_or ks i 0) base s at f → FoundTold base s (get_or ks i 0) f
        seen-never f o = let x = (there g).gives in seen_never (get_or ks i 0) base s x.0 x.2 e x.3 f (seen-skipped base x.1 i h f o)

        pub bodies-refused : (start : ℕ) → BodiesLeft (get_or ks i 0) base s start at → NextBodyTold base s (get_or ks i 0) start None
        bodies-refused start o = let x = (there g).gives in bodies-never (get_or ks i 0) base s start x.0 (bodies-skipped base x.1 i h start o) e x.3 x.2

      -- at a field
      module _ {f : code.Field} (g : r ≡ Ok f) where
        pub occur-found : Occur (get_or ks i 0) base s 0 at → f.number ≡ get_or ks i 0 → FoundTold base s (get_or ks i 0) (Some f.value)
        occur-found o q = let x = (there g).gives in
            find-whole (get_or ks i 0) base s 0 refl (find-found (get_or ks i 0) base s 0 x.0 (occur-skipped base x.1 i h 0 o) (record { value = f; next = next }) x.3 x.2 q)

        pub occur-passed : Occur (get_or ks i 0) base s 0 at → (f.number ≡ get_or ks i 0 → ⊥) → Occur (get_or ks i 0) base s 0 next
        occur-passed o = let x = (there g).gives in find-passed (get_or ks i 0) base s 0 x.0 (occur-skipped base x.1 i h 0 o) (record { value = f; next = next }) x.3 x.2

        pub seen-next : (v : Option WireValue) → SeenBefore (get_or ks i 0) base s at v → {w : Option WireValue} → w ≡ found_or v (get_or ks i 0) f.number f.value
            → SeenBefore (get_or ks i 0) base s next w
        seen-next v o = let x = (there g).gives in seen_next (get_or ks i 0) base s x.0 x.2 (record { value = f; next = next }) x.3 v (seen-skipped base x.1 i h v o)

        module _ (start : ℕ) (b : BodiesLeft (get_or ks i 0) base s start at) {p : Option Span} (q : p ≡ piece_if (get_or ks i 0) f.number f.value) where
          pub bodies-passed : p ≡ None → BodiesLeft (get_or ks i 0) base s start next
          bodies-passed z = let x = (there g).gives in
              bodies-on (get_or ks i 0) base s start x.0 (bodies-skipped base x.1 i h start b) (record { value = f; next = next }) x.3 x.2 q z

          pub bodies-found : start ≤ at → {part : Span} → p ≡ Some part → NextBodyTold base s (get_or ks i 0) start (Some part)
          bodies-found l z = let x = (there g).gives in
              let m = x.1.later in
              bodies-here (get_or ks i 0) base s start x.0 (bodies-skipped base x.1 i h start b) (record { value = f; next = next }) x.3 x.2 q (omega arith) z

  -- what a step gives, by the code's tests of it
  pub given : {r q : Result code.Field WireError} → FieldsNext base s ks at (Some r) next → r ≡ q → GivesField base s ks at (Some q) next
  given {r} {q} t g = (subst (λ (x : Result code.Field WireError). FieldsNext base s ks at (Some x) next) g t).gives

  -- a walk goes on
  pub step-later : {f : code.Field} {r : Result code.Field WireError} → FieldsNext base s ks at (Some r) next → r ≡ Ok f → at ≤ next
  step-later {f} t g =
      let x = (subst (λ (q : Result code.Field WireError). FieldsNext base s ks at (Some q) next) g t).gives in
      let h = field-inside base s x.0 (record { value = f; next = next }) x.3 (omega (arith, x.2)) in
      let m = x.1.later in
      omega arith

-- the same of a message that is cut
module _ (base : ℕ) (s ks : List ℕ) {at next : ℕ} where
  pub checked-over : FieldsNext base s ks at None next → CheckedTold (cut (rest_of base s at)) (Ok tt)
  checked-over t = skip-checked base t.gives.0 (Ok tt) ([], cut-end base s next t.gives.1)

  module _ {r : Result code.Field WireError} (t : FieldsNext base s ks at (Some r) next) where
    pub checked-refused : {e : WireError} → r ≡ Err e → CheckedTold (cut (rest_of base s at)) (Err e)
    checked-refused {e} g =
        let x = (subst (λ (q : Result code.Field WireError). FieldsNext base s ks at (Some q) next) g t).gives in
        skip-checked base x.1 (Err e) (cut-refused base s x.0 e x.3 x.2)

    pub checked-next : {f : code.Field} → r ≡ Ok f → (c : Result Unit WireError) → CheckedTold (cut (rest_of base s next)) c → CheckedTold (cut (rest_of base s at)) c
    checked-next {f} g c d =
        let x = (subst (λ (q : Result code.Field WireError). FieldsNext base s ks at (Some q) next) g t).gives in
        skip-checked base x.1 c (checked-field base s x.0 (record { value = f; next = next }) x.3 x.2 c d)
