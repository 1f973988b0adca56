-- Repeated numbers, one after the other.
-- Assumes nothing.
use mathlib.Core.Path.{◌≡◌, refl, ap, sym, ◌∙◌, subst}
use mathlib.Core.List.{List, [], ◌∷◌, ◌++◌}
use Prim.Native.Nat.{ℕ, ◌+◌, ◌-◌, ◌≤◌, ◌<◌}
use native.Mathlib.Omega.{arith}
use lib.ListN.{length, take, drop, length-drop}
use Rattle.foundation.specs.Results.{Res, ok, refused, ◌>>=◌, Part, ◌from◌, got}
use Rattle.wire.specs.Wire.{Value, read_varint, read_field, Message, cut, packed}
use Rattle.wire.specs.Messages.{values, varints_in, joined, varints}
use Rattle.wire.specs.told.WireTold.{SkipTold, wire_refused, rest_of, value_of, Inside, SpanInside, FieldTold}
use Rattle.messages.specs.told.Asked.{CheckedTold}
use Rattle.messages.specs.told.Repeated.{first_two, first_two_of, two_told, pushed, pushed_all, pushed_to}
use Rattle.std.specs.Prelude.{Result, Ok, Err}
use Rattle.wire.specs.declared.WireError.{WireError}
use Rattle.wire.specs.declared.WireValue.{WireValue}
use Rattle.wire.specs.declared.WireValue.TheVariants as wire
use Rattle.wire.specs.declared.Field as code
use Rattle.foundation.specs.declared.Read.{Read}
use Rattle.foundation.specs.declared.Span.{Span}
use Rattle.messages.specs.declared.repeated.Two.{Two}
use Rattle.messages.specs.declared.repeated.Two.TheVariants.{Neither, Both}
use Rattle.wire.proofs.Progress.{none_empty, packed_none, packed_next}
use Rattle.wire.proofs.SkipLaws.{skip-leads}
use Rattle.wire.proofs.WalkLaws.{bind_ok, byte_left, Leads, leads-start, leads-next, leads-never, leads-end, values-found, values-passed}
use Rattle.messages.proofs.BodyLaws.{part_told}

both_stay : (a b : ℕ) (ns : List ℕ) → pushed_all (Both a b) ns ≡ Both a b
both_stay a b [] = refl
both_stay a b (n ∷ ns) = both_stay a b ns

pub pushed-first : (ns : List ℕ) → pushed_all Neither ns ≡ first_two ns
pushed-first [] = refl
pushed-first (a ∷ []) = refl
pushed-first (a ∷ b ∷ ns) = both_stay _ _ ns

pub pushed_two : (r : Res (List ℕ)) → pushed_to Neither r ≡ first_two_of r
pushed_two (ok ns) = ap (λ (t : Two). ok t) (pushed-first ns)
pushed_two (refused c p) = refl

pushed-append : (t : Two) (ns more : List ℕ) → pushed_all t (ns ++ more) ≡ pushed_all (pushed_all t ns) more
pushed-append t [] more = refl
pushed-append t (n ∷ ns) more = pushed-append (pushed t n) ns more

-- a packed run
one-pushed : (t : Two) (n : ℕ) (r : Res (List ℕ)) → pushed_to t (r >>= λ ns. ok (n ∷ ns)) ≡ pushed_to (pushed t n) r
one-pushed t n (ok ns) = refl
one-pushed t n (refused c p) = refl

module _ (base : ℕ) (s : List ℕ) (i : ℕ) (t : Two) where
  pub run_end : length s ≤ i → pushed_to t (packed (rest_of base s i)) ≡ ok t
  run_end h = ap (pushed_to t) (packed_none (rest_of base s i) (none_empty (drop i s) (rw length-drop (omega arith))))

  module _ (h : i < length s) where
    pub run-next : (x : Read ℕ) → read_varint (rest_of base s i) ≡ got x.value (rest_of base s x.next)
        → pushed_to t (packed (rest_of base s i)) ≡ pushed_to (pushed t x.value) (packed (rest_of base s x.next))
    run-next x e =
        let on : packed (rest_of base s i) ≡ (packed (rest_of base s x.next) >>= λ ns. ok (x.value ∷ ns)) = packed_next (rest_of base s i) (byte_left s i h) ∙ rw e in
        ap (pushed_to t) on ∙ one-pushed t x.value (packed (rest_of base s x.next))

    pub run-refused : (error : WireError) → read_varint (rest_of base s i) ≡ wire_refused error → pushed_to t (packed (rest_of base s i)) ≡ wire_refused error
    run-refused error e =
        let on : packed (rest_of base s i) ≡ wire_refused error = packed_next (rest_of base s i) (byte_left s i h) ∙ rw e in
        ap (pushed_to t) on

-- the values of a field
value_pushed : (t u : Two) (v : Value) (vs : List Value) → pushed_to t (varints_in v) ≡ ok u
    → pushed_to t (joined (v ∷ vs)) ≡ pushed_to u (joined vs)
unfolding joined
value_pushed t u v vs e = go (varints_in v) (joined vs) e
  where
    go : (r q : Res (List ℕ)) → pushed_to t r ≡ ok u → pushed_to t (r >>= λ ns. q >>= λ more. ok (ns ++ more)) ≡ pushed_to u q
    go (refused c p) q e = let z : ◌≡◌ {A = ℕ} 0 1 = cc in absurd (omega arith)
    go (ok ns) (refused c p) e = refl
    go (ok ns) (ok more) e =
        let f : pushed_all t ns ≡ u = cc in ap (λ (x : Two). ok x) (pushed-append t ns more ∙ ap (λ (x : Two). pushed_all x more) f)

value_not : (t : Two) (v : Value) (vs : List Value) (error : WireError) → pushed_to t (varints_in v) ≡ wire_refused error
    → pushed_to t (joined (v ∷ vs)) ≡ wire_refused error
unfolding joined
value_not t v vs error e = go (varints_in v) (joined vs) e
  where
    go : (r q : Res (List ℕ)) → pushed_to t r ≡ wire_refused error → pushed_to t (r >>= λ ns. q >>= λ more. ok (ns ++ more)) ≡ wire_refused error
    go (refused c p) q e = e
    go (ok ns) q e = let z : ◌≡◌ {A = ℕ} 0 1 = cc in absurd (omega arith)

-- the walk: what is pushed from a place on is all
abbrev pub Pushing : ℕ → ℕ → List ℕ → ℕ → Two → Type 0
Pushing k base s at t = Leads (λ m rest. pushed_to Neither (varints k m) ≡ pushed_to t (varints k rest)) (◌from◌ base s) (rest_of base s at)

module _ (k base : ℕ) (s : List ℕ) where
  pub pushing-start : Pushing k base s 0 Neither
  pushing-start = leads-start (λ m rest. pushed_to Neither (varints k m) ≡ pushed_to Neither (varints k rest)) base s λ m. refl

  module _ (at : ℕ) (t : Two) (o : Pushing k base s at t) where
    pub pushing-end : length s ≤ at → (m : Message) → cut (◌from◌ base s) ≡ ok m → first_two_of (varints k m) ≡ ok t
    unfolding varints values joined
    pushing-end h m w = sym (pushed_two (varints k m)) ∙ leads-end _ (◌from◌ base s) base s at o h m w

    R : Message → Message → Type 0
    R m rest = pushed_to Neither (varints k m) ≡ pushed_to t (varints k rest)

    pub pushing-skipped : {next : ℕ} → SkipTold s (k ∷ []) at next → Pushing k base s next t
    unfolding varints R
    pushing-skipped h = skip-leads base h 0 (omega arith) R (λ m a b e c. c ∙ ap (λ (vs : List Value). pushed_to t (joined vs)) e) (◌from◌ base s) o

    pub pushing-never : {A : Type 0} (error : WireError) → FieldTold base s (read_field (rest_of base s at)) (Err error) → at < length s
        → (m : Message) → cut (◌from◌ base s) ≡ ok m → A
    unfolding R
    pushing-never error e h = leads-never (◌from◌ base s) base s at error e h R o

    module _ (y : Read code.Field) (e : FieldTold base s (read_field (rest_of base s at)) (Ok y)) (h : at < length s) where
      abbrev pub v : Value
      v = value_of base s y.value.value

      pub pushing-passed : (y.value.number ≡ k → ⊥) → Pushing k base s y.next t
      unfolding varints R
      pushing-passed q =
          leads-next (◌from◌ base s) base s at y e h R R o λ m rest c. c ∙ ap (λ (vs : List Value). pushed_to t (joined vs)) (values-passed k v rest q)

      module _ (q : y.value.number ≡ k) {x : Result Two WireError} (p : pushed_to t (varints_in v) ≡ two_told x) where
        pub pushing-next : {u : Two} → x ≡ Ok u → Pushing k base s y.next u
        unfolding varints R
        pushing-next {u} z =
            let S : Message → Message → Type 0 = λ m rest. pushed_to Neither (varints k m) ≡ pushed_to u (varints k rest) in
            leads-next (◌from◌ base s) base s at y e h R S o λ m rest c.
            c ∙ ap (λ (vs : List Value). pushed_to t (joined vs)) (values-found k v rest q) ∙ value_pushed t u v (values k rest) (p ∙ ap two_told z)

        pub pushing-refused : {error : WireError} → x ≡ Err error → (m : Message) → cut (◌from◌ base s) ≡ ok m
            → first_two_of (varints k m) ≡ two_told (Err error)
        unfolding varints R
        pushing-refused {error} z m w =
            let S : Message → Message → Type 0 = λ m rest. pushed_to Neither (varints k m) ≡ wire_refused error in
            let l = leads-next (◌from◌ base s) base s at y e h R S o λ m rest c.
            c ∙ ap (λ (vs : List Value). pushed_to t (joined vs)) (values-found k v rest q) ∙ value_not t v (values k rest) error (p ∙ ap two_told z) in
            sym (pushed_two (varints k m)) ∙ (l m w).2

-- that the numbers are sound, whatever they are
module _ (r : Res (List ℕ)) {x : Result Two WireError} (e : first_two_of r ≡ two_told x) where
  pub two-sound : {t : Two} → x ≡ Ok t → CheckedTold r (Ok tt)
  two-sound g = let b = bind_ok r first_two (e ∙ ap two_told g) in (b.0, b.1)

  pub two_refused : {error : WireError} → x ≡ Err error → CheckedTold r (Err error)
  two_refused {error} g = go r (e ∙ ap two_told g)
    where
      go : (r : Res (List ℕ)) → first_two_of r ≡ wire_refused error → r ≡ wire_refused error
      go (ok ns) e = let z : ◌≡◌ {A = ℕ} 0 1 = cc in absurd (omega arith)
      go (refused c p) e = cc

-- the code's answer to a value
module _ (base : ℕ) (s : List ℕ) (t : Two) {v : WireValue} where
  pub push-varint : {n : ℕ} {u : Two} → v ≡ wire.Varint n → u ≡ pushed t n → pushed_to t (varints_in (value_of base s v)) ≡ ok u
  push-varint g e = ap (λ (w : WireValue). pushed_to t (varints_in (value_of base s w))) g ∙ ap (λ (x : Two). ok x) (sym e)

  pub push-fixed : {w n : ℕ} → v ≡ wire.Fixed w n → pushed_to t (varints_in (value_of base s v)) ≡ ok t
  push-fixed g = ap (λ (w : WireValue). pushed_to t (varints_in (value_of base s w))) g

  module _ {x : Span} (g : v ≡ wire.Body x) (i : Inside s v) where
    pub body-inside : SpanInside s x
    body-inside = subst (Inside s) g i

    pub push-body : {b : ℕ} {bytes : List ℕ} → (b ≡ base + x.start) × (bytes ≡ take (x.end - x.start) (drop x.start s)) → (r : Result Two WireError)
        → pushed_to t (packed (◌from◌ b bytes)) ≡ two_told r → pushed_to t (varints_in (value_of base s v)) ≡ two_told r
    push-body e r w =
        ap (λ (w : WireValue). pushed_to t (varints_in (value_of base s w))) g ∙ ap (λ (p : Part). pushed_to t (packed p)) (sym (part_told base s x e)) ∙ w
