-- What two words hold is what was put into them.
-- Assumes nothing.
use mathlib.Core.Path.{◌≡◌, refl, ap, sym, ◌∙◌}
use mathlib.Core.Bool.{Bool, true, false}
use Prim.Native.Nat.{ℕ, ◌+◌, ◌-◌, ◌*◌, ◌/◌, ◌%◌, ◌≤◌, ◌<◌}
use native.Mathlib.Omega.{arith}
use native.Mathlib.Nat.{mod-eq_of_lt}
use borrow.Author.Tests.{eq-eqb, ne_eqb}
use lib.Dec.{eqb}
use Rattle.std.specs.Prelude.{if◌then◌else◌, Option, Some, None}
use Rattle.record_names.specs.told.Note.{source_kind, source_of, noted_part, noted_name, noted, class_size, class_of, noted_class, NameFits}
use Rattle.names.specs.told.Name.{operation_of, operation_number, OfBytes}
use Rattle.names.specs.declared.name.Name.{Name}
use Rattle.names.specs.declared.name.Source.{Source}
use Rattle.names.specs.declared.name.Source.TheVariants.{Payload, Predefined, D2}
use Rattle.names.specs.declared.name.Operation.{Operation}
use Rattle.names.specs.declared.name.Operation.TheVariants.{Nothing, InternalToClassId, DescToClassId}
use Rattle.foundation.specs.declared.Span.{Span}

pub noted-no : None ≡ noted 0 0
unfolding noted
noted-no = refl

pub class-no : None ≡ noted_class 0 0
unfolding noted_class
class-no = refl

pub noted-absent : Some None ≡ noted 0 1
unfolding noted
noted-absent = refl

pub class-absent : Some None ≡ noted_class 0 1
unfolding noted_class
class-absent = refl

same_part : {a a' b b' : ℕ} → a ≡ a' → b ≡ b' → ◌≡◌ {A = Span} (record { start = a; end = b }) (record { start = a'; end = b' })
same_part e1 e2 = rw (e1, e2)

same_name : {s s' : Source} {p p' : Span} {f f' t t' z z' : ℕ} {o o' : Operation} {q q' : Bool} → s ≡ s' → p ≡ p' → f ≡ f' → t ≡ t' → o ≡ o' → q ≡ q' → z ≡ z'
    → ◌≡◌ {A = Name} (record { source = s; part = p; from = f; to = t; operation = o; qualified = q; size = z })
    (record { source = s'; part = p'; from = f'; to = t'; operation = o'; qualified = q'; size = z' })
same_name e1 e2 e3 e4 e5 e6 e7 = rw (e1, e2, e3, e4, e5, e6, e7)

-- A source and an operation by their numbers.
source-is : (s : Source) → OfBytes s → source_of (source_kind s) ≡ s
source-is Payload o = refl
source-is Predefined o = refl
source-is D2 o = absurd o

kind-fits : (s : Source) → (2 ≤ source_kind s) × (source_kind s < 4)
kind-fits Payload = (omega arith, omega arith)
kind-fits Predefined = (omega arith, omega arith)
kind-fits D2 = (omega arith, omega arith)

operation-is : (o : Operation) → operation_of (operation_number o) ≡ o
operation-is Nothing = refl
operation-is InternalToClassId = refl
operation-is DescToClassId = refl

operation-fits : (o : Operation) → operation_number o < 4
operation-fits Nothing = omega arith
operation-fits InternalToClassId = omega arith
operation-fits DescToClassId = omega arith

low : (d n k : ℕ) → d < 4 → k ≡ d + 4 * n → (k % 4 ≡ d) × (k / 4 ≡ n)
low d n k h e = (omega arith, omega arith)

character : (d n k : ℕ) → d < 2097152 → k ≡ d + 2097152 * n → (k % 2097152 ≡ d) × (k / 2097152 ≡ n)
character d n k h e = (omega arith, omega arith)

half : (d n k : ℕ) → d < 65536 → k ≡ d + 65536 * n → (k % 65536 ≡ d) × (k / 65536 ≡ n)
half d n k h e = (omega arith, omega arith)

-- The first word.
module _ (p q : Span) (place : ℕ) (hs : p.start < 65536) (he : p.end < 65536) (ha : q.start < 65536) (hb : q.end < 65536)
    (e : place ≡ p.start + 65536 * p.end + 4294967296 * (q.start + 65536 * q.end)) where
  place-nested : place ≡ p.start + 65536 * (p.end + 65536 * (q.start + 65536 * q.end))
  place-nested = omega arith

  p0 : (place % 65536 ≡ p.start) × (place / 65536 ≡ p.end + 65536 * (q.start + 65536 * q.end))
  p0 = half p.start (p.end + 65536 * (q.start + 65536 * q.end)) place hs place-nested

  p1 : (place / 65536 % 65536 ≡ p.end) × (place / 65536 / 65536 ≡ q.start + 65536 * q.end)
  p1 = half p.end (q.start + 65536 * q.end) (place / 65536) he p0.1

  p2 : (place / 65536 / 65536 % 65536 ≡ q.start) × (place / 65536 / 65536 / 65536 ≡ q.end)
  p2 = half q.start q.end (place / 65536 / 65536) ha p1.1

  pub name-part : noted_part place ≡ p
  name-part = same_part p0.0 p1.0

  pub class-part : noted_part (place / 65536 / 65536) ≡ q
  class-part = same_part p2.0 (ap (λ (x : ℕ). x % 65536) p2.1 ∙ mod-eq_of_lt hb)

nested : (k o f t z : ℕ) → k + 4 * o + 16 * (f + 2097152 * (t + 2097152 * z)) ≡ k + 4 * (o + 4 * (f + 2097152 * (t + 2097152 * z)))
nested k o f t z = omega arith

module _ (n : Name) (q : Span) (place steps : ℕ) (h : NameFits n) (ha : q.start < 65536) (hb : q.end < 65536)
    (p : place ≡ n.part.start + 65536 * n.part.end + 4294967296 * (q.start + 65536 * q.end))
    (s : steps ≡ source_kind n.source + 4 * operation_number n.operation + 16 * (n.from + 2097152 * (n.to + 2097152 * n.size))) where
  abbrev op : ℕ
  op = operation_number n.operation

  l0 : (steps % 4 ≡ source_kind n.source) × (steps / 4 ≡ op + 4 * (n.from + 2097152 * (n.to + 2097152 * n.size)))
  l0 =
      low (source_kind n.source) (op + 4 * (n.from + 2097152 * (n.to + 2097152 * n.size))) steps (kind-fits n.source).1
      (s ∙ nested (source_kind n.source) op n.from n.to n.size)

  name-is : noted_name place steps ≡ n
  name-is =
      let l1 = low op (n.from + 2097152 * (n.to + 2097152 * n.size)) (steps / 4) (operation-fits n.operation) l0.1 in
      let l2 = character n.from (n.to + 2097152 * n.size) (steps / 4 / 4) h.from l1.1 in
      let l3 = character n.to n.size (steps / 4 / 4 / 2097152) h.to l2.1 in
      same_name (ap source_of l0.0 ∙ source-is n.source h.source) (name-part n.part q place h.start h.end ha hb p)
      l2.0 l3.0 (ap operation_of l1.0 ∙ operation-is n.operation) (sym h.qualified) l3.1

  others : (k : ℕ) → k < 2 → eqb (steps % 4) k ≡ false
  others k l = ne_eqb (steps % 4) k λ e. more (source_kind n.source) (kind-fits n.source).0 (sym l0.0 ∙ e)
    where
      more : (kind : ℕ) → 2 ≤ kind → kind ≡ k → ⊥
      more kind g e = omega arith

  pub words-told : (noted place steps ≡ Some (Some n)) × (noted_class place steps ≡ Some (Some (class_of n q)))
  unfolding noted noted_class
  words-told =
      let c = class-part n.part q place h.start h.end ha hb p in
      let z = others 0 (omega arith) in
      let o = others 1 (omega arith) in (
        rw (z, o) (ap (λ (m : Name). Some (Some m)) name-is),
        rw (z, o) (ap (λ (p : Span). Some (Some (class_of (noted_name place steps) p))) c ∙ ap (λ (m : Name). Some (Some (class_of m q))) name-is),
      )

-- Words taken apart.
module _ (place steps : ℕ) where
  pub noted-none : steps % 4 ≡ 0 → None ≡ noted place steps
  unfolding noted
  noted-none h = rw (eq-eqb (steps % 4) 0 h)

  pub noted-some : (steps % 4 ≡ 0 → ⊥) → (steps % 4 ≡ 1 → ⊥) → Some (Some (noted_name place steps)) ≡ noted place steps
  unfolding noted
  noted-some h k = rw (ne_eqb (steps % 4) 0 h, ne_eqb (steps % 4) 1 k)

-- The size of a class name.
module _ (size start first : ℕ) where
  pub class_same : first ≡ start → size ≡ class_size size start first
  class_same e = rw (eq-eqb first start e)

  pub class-less : (first ≡ start → ⊥) → {r : ℕ} → r ≡ size - 2 → r ≡ class_size size start first
  class-less h e = rw (ne_eqb first start h) e

-- The class name, by the name.
module _ (place steps : ℕ) where
  abbrev part : Span
  part = noted_part (place / 65536 / 65536)

  pub class-none : noted place steps ≡ None → None ≡ noted_class place steps
  unfolding noted noted_class
  class-none = go (eqb (steps % 4) 0) (eqb (steps % 4) 1) (noted_name place steps)
    where
      go : (a b : Bool) (n : Name) → (if a then None else if b then Some None else Some (Some n)) ≡ None
          → None ≡ (if a then None else if b then Some None else Some (Some (class_of n part)))
      go true b n e = refl
      go false true n e = cc
      go false false n e = cc

  module _ {o : Option Name} (e : noted place steps ≡ Some o) where
    pub class-absent-too : o ≡ None → Some None ≡ noted_class place steps
    unfolding noted noted_class
    class-absent-too g = go (eqb (steps % 4) 0) (eqb (steps % 4) 1) (noted_name place steps) e
      where
        go : (a b : Bool) (n : Name) → (if a then None else if b then Some None else Some (Some n)) ≡ Some o
            → Some None ≡ (if a then None else if b then Some None else Some (Some (class_of n part)))
        go true b n f = cc
        go false true n f = refl
        go false false n f = cc

    pub class-some : {n : Name} → o ≡ Some n → Some (Some (class_of n part)) ≡ noted_class place steps
    unfolding noted noted_class
    class-some {n} g = go (eqb (steps % 4) 0) (eqb (steps % 4) 1) (noted_name place steps) e
      where
        go : (a b : Bool) (m : Name) → (if a then None else if b then Some None else Some (Some m)) ≡ Some o
            → Some (Some (class_of n part)) ≡ (if a then None else if b then Some None else Some (Some (class_of m part)))
        go true b m f = cc
        go false true m f = cc
        go false false m f = let z : n ≡ m = cc in ap (λ (x : Name). Some (Some (class_of x part))) z
