-- Each reader takes a byte at least, so that repeating it until its part is used up is never stopped by the bound on its steps: the laws of
-- `every`, `cut` and `packed` without that bound.
-- Assumes nothing.
use mathlib.Core.Path.{◌≡◌, refl, sym, ap, ◌∙◌}
use mathlib.Core.Bool.{true, false}
use mathlib.Core.List.{List, [], ◌∷◌}
use Prim.Native.Nat.{ℕ, zero, suc, ◌≤◌, ◌<◌}
use native.Mathlib.Omega.{arith}
use native.Mathlib.Nat.{le_refl}
use lib.ListN.{length}
use Rattle.std.specs.Prelude.{if◌then◌else◌}
use Rattle.foundation.specs.Results.{Res, ok, ◌>>=◌, Part, Got}
use Rattle.foundation.proofs.ChoiceLaws.{if_ind}
use Rattle.foundation.proofs.ResultLaws.{Gives, gives_bind, gives_weaken, bind_same}
use Rattle.wire.specs.Wire.{is_empty, repeated, every, read_varint, read_field, cut, packed}
use Rattle.wire.proofs.Readers.{after_shorter, varint-after, field-after}

-- the reader leaves fewer bytes than it finds
abbrev pub Takes : {A : Type 0} → (Part → Res (Got A)) → Type 0
Takes read = (p : Part) → Gives (λ g. length g.1.bytes < length p.bytes) (read p)

pub varint-takes : Takes read_varint
varint-takes p = gives_weaken _ _ (read_varint p) (varint-after p) λ g a. omega (arith, after_shorter a)

pub field-takes : Takes read_field
field-takes p = gives_weaken _ _ (read_field p) (field-after p) λ g a. omega (arith, after_shorter a.1)

-- a part is used up or has a byte

pub none_empty : (bs : List ℕ) → length bs ≤ 0 → is_empty bs ≡ true
none_empty [] h = refl
none_empty (b ∷ bs) h = absurd (omega arith)

pub some_not_empty : (bs : List ℕ) → 1 ≤ length bs → is_empty bs ≡ false
some_not_empty [] h = absurd (omega arith)
some_not_empty (b ∷ bs) h = refl

module _ {A : Type 0} (read : Part → Res (Got A)) where
  pub repeated-none : (k : ℕ) (p : Part) → is_empty p.bytes ≡ true → repeated read k p ≡ ok []
  unfolding repeated
  repeated-none zero p h = refl
  repeated-none (suc k) p h = rw h

  pub every-none : (p : Part) → is_empty p.bytes ≡ true → every read p ≡ ok []
  every-none p = repeated-none (length p.bytes) p

  -- Q is what the reader gives of a part, P goes by it from what is read of the rest to what is read of the part
  module _ (P : Part → List A → Type 0) (Q : Part → Got A → Type 0)
      (none : (p : Part) → P p [])
      (one : (p : Part) → Gives (Q p) (read p))
      (step : (p : Part) (g : Got A) (xs : List A) → Q p g → P g.1 xs → P p (g.0 ∷ xs)) where
    repeated-gives : (k : ℕ) (p : Part) → Gives (P p) (repeated read k p)
    unfolding repeated
    repeated-gives zero p = none p
    repeated-gives (suc k) p =
        if_ind (Gives (P p)) (is_empty p.bytes) (λ t. none p) λ t.
        gives_bind (Q p) (P p) (read p) _ (one p) λ g q.
        gives_bind (P g.1) (P p) (repeated read k g.1) _ (repeated-gives k g.1) λ xs h. step p g xs q h

    pub every-gives : (p : Part) → Gives (P p) (every read p)
    every-gives p = repeated-gives (length p.bytes) p

module _ {A : Type 0} (read : Part → Res (Got A)) (takes : Takes read) where
  -- it matters only how parts with fewer bytes go on
  rests-same : (p : Part) (f g : Part → Res (List A)) → ((q : Part) → length q.bytes < length p.bytes → f q ≡ g q)
      → (read p >>= λ (x, rest). f rest >>= λ xs. ok (x ∷ xs)) ≡ (read p >>= λ (x, rest). g rest >>= λ xs. ok (x ∷ xs))
  rests-same p f g e =
      bind_same (read p) _ _ (gives_weaken _ _ (read p) (takes p) λ a l. ap (λ (r : Res (List A)). r >>= λ xs. ok (a.0 ∷ xs)) (e a.1 l))

  -- two bounds that are both enough give the same
  repeated-same : (j k : ℕ) (p : Part) → length p.bytes ≤ j → length p.bytes ≤ k → repeated read j p ≡ repeated read k p
  unfolding repeated
  repeated-same zero k p h l = sym (repeated-none read k p (none_empty p.bytes h))
  repeated-same (suc j) zero p h l = repeated-none read (suc j) p (none_empty p.bytes l)
  repeated-same (suc j) (suc k) p h l =
      let rests = rests-same p (repeated read j) (repeated read k) λ q s. repeated-same j k q (omega arith) (omega arith) in
      ap (λ (r : Res (List A)). if is_empty p.bytes then ok [] else r) rests

  -- the bound never decides
  pub repeated-enough : (k : ℕ) (p : Part) → length p.bytes ≤ k → repeated read k p ≡ every read p
  repeated-enough k p h = repeated-same k (length p.bytes) p h (le_refl _)

  pub every-next : (p : Part) → 1 ≤ length p.bytes → every read p ≡ (read p >>= λ (x, rest). every read rest >>= λ xs. ok (x ∷ xs))
  unfolding repeated
  every-next p h =
      let n = length p.bytes in
      let rests = rests-same p (repeated read n) (every read) λ q s. repeated-enough n q (omega arith) in
      sym (repeated-enough (suc n) p (omega arith)) ∙ rw (some_not_empty p.bytes h) rests

  -- each of what is read took a byte
  pub every-few : (p : Part) → Gives (λ xs. length xs ≤ length p.bytes) (every read p)
  every-few = every-gives read (λ p xs. length xs ≤ length p.bytes) _ (λ p. omega arith) takes λ p g xs t h. omega arith

-- of a message
pub cut_none : (p : Part) → is_empty p.bytes ≡ true → cut p ≡ ok []
unfolding cut
cut_none = every-none read_field

pub cut_next : (p : Part) → 1 ≤ length p.bytes → cut p ≡ (read_field p >>= λ (f, rest). cut rest >>= λ fs. ok (f ∷ fs))
unfolding cut
cut_next = every-next read_field field-takes

pub cut_few : (p : Part) → Gives (λ m. length m ≤ length p.bytes) (cut p)
unfolding cut
cut_few = every-few read_field field-takes

-- of a packed run
pub packed_none : (p : Part) → is_empty p.bytes ≡ true → packed p ≡ ok []
unfolding packed
packed_none = every-none read_varint

pub packed_next : (p : Part) → 1 ≤ length p.bytes → packed p ≡ (read_varint p >>= λ (n, rest). packed rest >>= λ ns. ok (n ∷ ns))
unfolding packed
packed_next = every-next read_varint varint-takes
