-- The first occurrences of several fields by one walk: what is known of each before a place.
-- Assumes nothing.
use mathlib.Core.Path.{◌≡◌, refl, ap, sym, subst, ◌∙◌}
use mathlib.Core.Bool.{Bool, true, false}
use mathlib.Core.List.{List}
use Prim.Native.Nat.{ℕ, ◌≤◌, ◌<◌}
use borrow.Author.Tests.{eqb-true, eqb-false}
use lib.Dec.{eqb}
use lib.ListN.{length}
use Rattle.std.specs.Prelude.{if◌then◌else◌}
use Rattle.wire.specs.Wire.{read_field}
use Rattle.wire.specs.told.WireTold.{rest_of, FieldTold}
use Rattle.messages.specs.told.Asked.{FoundTold, found_or}
use Rattle.std.specs.Prelude.{Option, Some, None}
use Rattle.wire.specs.declared.WireError.{WireError}
use Rattle.wire.specs.declared.WireValue.{WireValue}
use Rattle.wire.specs.declared.Field as code
use Rattle.foundation.specs.declared.Read.{Read}
use Rattle.std.specs.Prelude.{Ok, Err}
use Rattle.messages.proofs.FindLaws.{Occur, find-start, find-end, find-never, find-found, find-passed, find-whole}

-- What was found of field k before a place is its first occurrence. Where nothing was found, that is the first from the place on.
abbrev pub SeenBefore : ℕ → ℕ → List ℕ → ℕ → Option WireValue → Type 0
SeenBefore k base s at (Some v) = FoundTold base s k (Some v)
SeenBefore k base s at None = Occur k base s 0 at

module _ (k base : ℕ) (s : List ℕ) where
  pub seen_start : SeenBefore k base s 0 None
  seen_start = find-start k base s 0

  module _ (at : ℕ) where
    -- what was found before a place is what is found in the whole
    pub seen-found : (f : Option WireValue) → (f ≡ None → ⊥) → SeenBefore k base s at f → FoundTold base s k f
    seen-found (Some v) d t = t
    seen-found None d t = absurd (d refl)

    pub seen_end : length s ≤ at → (f : Option WireValue) → SeenBefore k base s at f → FoundTold base s k f
    seen_end h (Some v) t = t
    seen_end h None t = find-whole k base s 0 refl (find-end k base s 0 at t h)

    module _ (h : at < length s) where
      pub seen_never : (error : WireError) → FieldTold base s (read_field (rest_of base s at)) (Err error) → (f : Option WireValue) → SeenBefore k base s at f
          → FoundTold base s k f
      seen_never error e (Some v) t = t
      seen_never error e None t = find-whole k base s 0 refl (find-never k base s 0 at t error e h)

      pub seen_next : (x : Read code.Field) → FieldTold base s (read_field (rest_of base s at)) (Ok x) → (f : Option WireValue) → SeenBefore k base s at f
          → {r : Option WireValue} → r ≡ found_or f k x.value.number x.value.value → SeenBefore k base s x.next r
      seen_next x e (Some w) t q = subst (SeenBefore k base s x.next) (sym q) t
      seen_next x e None t {r} q = go (eqb x.value.number k) refl
        where
          picked : (b : Bool) → eqb x.value.number k ≡ b → r ≡ (if b then Some x.value.value else None)
          picked b c = q ∙ ap (λ (b : Bool). if b then Some x.value.value else None) c

          go : (b : Bool) → eqb x.value.number k ≡ b → SeenBefore k base s x.next r
          go true c = subst (SeenBefore k base s x.next) (sym (picked true c)) (find-whole k base s 0 refl (find-found k base s 0 at t x e h (eqb-true x.value.number k c)))
          go false c = subst (SeenBefore k base s x.next) (sym (picked false c)) (find-passed k base s 0 at t x e h (eqb-false x.value.number k c))
