-- The name that a record builds, step by step.
-- Assumes nothing.
use mathlib.Core.Path.{◌≡◌, refl, ap, sym, ◌∙◌, subst}
use mathlib.Core.Logic.{inl, inr}
use mathlib.Core.Bool.{Bool, true, false, ◌&&◌, ◌||◌}
use mathlib.Core.List.{List, [], ◌∷◌}
use mathlib.Core.Option.{Option, none, some}
use Prim.Native.Nat.{ℕ, ◌+◌, ◌-◌, ◌^◌, ◌≤◌, ◌<◌}
use native.Mathlib.Omega.{arith}
use borrow.Author.Tests.{lt-ltb, le-ltb, eqb-true, ltb-true, leb-true}
use lib.Dec.{eqb, leb, ltb}
use lib.ListN.{length, drop, length-drop}
use Rattle.std.specs.Prelude.{if◌then◌else◌, MatchOption, Some, None}
use Rattle.foundation.specs.Choices.{if_some, is_some, map_option, IfSome}
use Rattle.foundation.specs.Texts.{Text}
use Rattle.foundation.proofs.ChoiceLaws.{and_right}
use Rattle.messages.specs.told.Asked.{piece_told, PieceInside, index_told}
use Rattle.messages.specs.declared.repeated.Two.{Two}
use Rattle.messages.specs.declared.repeated.Two.TheVariants.{Neither, One, Both}
use Rattle.characters.specs.Characters.{is_scalar, from_utf8}
use Rattle.characters.specs.told.Places.{part_from, place_of}
use Rattle.characters.specs.told.CharactersTold.{place_told}
use Rattle.characters.proofs.PartLaws.{part-part, part-short, rest-is}
use Rattle.characters.specs.Splits.{substring_of}
use Rattle.characters.proofs.TestLaws.{under, above}
use Rattle.characters.proofs.TestLaws.{within as between-is}
use Rattle.characters.proofs.SplitLaws.{place-within, substring-source}
use Rattle.names.specs.Records as definition
use Rattle.names.specs.Records.{base_text, text_of, predefined_text, substituted, replace_of, without_ends, operated, stepped}
use Rattle.names.specs.told.Name.{predefined_list, operation_of, turned, dropped, OfBytes, source_text, named_text, name_text}
use Rattle.names.specs.told.RecordTold.{both_numbers, record_told}
use Rattle.names.specs.told.Stream.{listed_text, base_of}
use Rattle.record_names.specs.told.Steps.{SubstringTold, PieceFits, base_in, text_in, BaseTold, StepTold, LeftTold, with_steps, turned_steps}
use Rattle.names.specs.declared.name.Name.{Name}
use Rattle.names.specs.declared.name.Source.{Source}
use Rattle.names.specs.declared.name.Source.TheVariants.{Payload, Predefined, D2}
use Rattle.names.specs.declared.name.Operation.{Operation}
use Rattle.names.specs.declared.name.Operation.TheVariants.{Nothing, InternalToClassId, DescToClassId}
use Rattle.names.specs.declared.records.Record.{Record}
use Rattle.record_names.specs.told.Ends.{EndsTold}
use Rattle.record_names.proofs.EndsLaws.{text-dropped}
use Rattle.foundation.specs.declared.Span.{Span}
use Rattle.std.specs.declared.option.Option as rust
use Rattle.std.specs.Option as options
use Rattle.std.specs.Char.{InScalarRange, OutOfScalarRange}
use Rattle.record_names.specs.declared.base.Base.{Base}
use Rattle.names.proofs.NameLaws.{source-bytes}

-- A part of what begins at `from`, as a part of the whole.
abbrev pub within : ℕ → Span → Span
within from p = record { start = from + p.start; end = from + p.end }

abbrev span : ℕ → ℕ → Span
span a b = record { start = a; end = b }

pub moved_is : (from : ℕ) (p r : Span) → (r.start ≡ p.start + from) × (r.end ≡ p.end + from) → r ≡ within from p
moved_is from p r e =
    let s : r.start ≡ from + p.start = omega (arith, e.0) in
    let t : r.end ≡ from + p.end = omega (arith, e.1) in
    ap (λ (x : ℕ). span x r.end) s ∙ ap (span (from + p.start)) t

-- Tests of numbers.
pub scalar-is : (r : rust.Option ℕ) (c : ℕ) → MatchOption r (OutOfScalarRange c) (λ x. InScalarRange c) → options.is_some r ≡ is_scalar c
unfolding is_scalar
scalar-is None c (inl h) = rw (le-ltb c 0xd800 h.0, under 0xe000 0x10ffff c (omega (arith, h.1)))
scalar-is None c (inr h) = rw (le-ltb c 0xd800 (omega arith), above 0xe000 0x10ffff c (omega arith))
scalar-is (Some x) c (inl h) = rw (lt-ltb c 0xd800 h)
scalar-is (Some x) c (inr h) = rw (le-ltb c 0xd800 (omega (arith, h.0)), between-is 0xe000 0x10ffff c h.0 h.1)

pub scalar_least : (c : ℕ) → is_scalar c ≡ true → c < 2097152
unfolding is_scalar
scalar_least c h = go (ltb c 0xd800) refl
  where
    go : (b : Bool) → ltb c 0xd800 ≡ b → c < 2097152
    go true e = omega (arith, ltb-true c 0xd800 e)
    go false e = omega (arith, leb-true c 0x10ffff (and_right (leb 0xe000 c) (leb c 0x10ffff) (rw e at h)))

-- The part that a substring is.
module _ (s : List ℕ) (first last : ℕ) where
  pub sub-backward : last < first → SubstringTold s first last None
  sub-backward h = record { is = substring-source first last s ∙ rw (lt-ltb last first h); inside = tt }

  module _ (h : first ≤ last) {p : rust.Option ℕ} (e : place_told p ≡ place_of first s) where
    pub sub-outside : p ≡ None → SubstringTold s first last None
    sub-outside g = record { is = substring-source first last s ∙ rw (le-ltb last first h, ← e, g); inside = tt }

    module _ {a : ℕ} (g : p ≡ Some a) where
      at : place_of first s ≡ some a
      at = sym e ∙ ap place_told g

      pub sub-start : a ≤ length s
      sub-start = subst (IfSome λ k. k ≤ length s) at (place-within s first)

      module _ {q : rust.Option ℕ} (f : place_told q ≡ place_of (last - first) (part_from a (length s) s)) where
        pub sub-past : q ≡ None → SubstringTold s first last None
        sub-past i =
            let z : place_of (last - first) (drop a s) ≡ none = ap (place_of (last - first)) (sym (rest-is s a)) ∙ sym f ∙ ap place_told i in
            record { is = substring-source first last s ∙ rw (le-ltb last first h, at, z); inside = tt }

        module _ {k : ℕ} (i : q ≡ Some k) where
          size : place_of (last - first) (drop a s) ≡ some k
          size = ap (place_of (last - first)) (sym (rest-is s a)) ∙ sym f ∙ ap place_told i

          pub sub-end : a + k ≤ length s
          sub-end =
              let w : k ≤ length (drop a s) = subst (IfSome λ k. k ≤ length (drop a s)) size (place-within (drop a s) (last - first)) in
              omega (arith, length-drop a s, sub-start)

          pub sub_is : SubstringTold s first last (Some record { start = a; end = a + k })
          sub_is =
              let z : a + k - a ≡ k = omega arith in
              record {
                is = substring-source first last s ∙ rw (le-ltb last first h, at, size, z);
                inside = (omega arith, sub-end);
              }

-- What is made of bytes.
pub of_bytes : (s : Source) → (s ≡ D2 → ⊥) → OfBytes s
of_bytes Payload h = tt
of_bytes Predefined h = tt
of_bytes D2 h = absurd (h refl)

-- What a record's text is made of.
module _ (from : ℕ) (index : rust.Option ℕ) {string : rust.Option Span} where
  pub base-string : {p : Span} → string ≡ Some p → BaseTold from string index (Some record { source = Payload; part = within from p; no_units = λ e. subst OfBytes e tt })
  unfolding source_text
  base-string {p} g payload d2 end h =
      let i = subst (PieceInside (part_from from end payload)) g h in
      rw g (ap (λ (l : List ℕ). some (from_utf8 l)) (part-part payload from end p.start p.end i.0 i.1))

  module _ (g : string ≡ None) where
    pub base-nothing : index ≡ None → BaseTold from string index None
    base-nothing i payload d2 end h = rw (g, i)

    module _ {n : ℕ} (i : index ≡ Some n) (r : rust.Option Span) (e : listed_text r ≡ predefined_text n) where
      pub base-past : r ≡ None → BaseTold from string index None
      base-past q payload d2 end h = rw (g, i, ← e, q)

      pub base-listed : {p : Span} → r ≡ Some p → BaseTold from string index (Some record { source = Predefined; part = p; no_units = λ e. subst OfBytes e tt })
      unfolding source_text
      base-listed q payload d2 end h = rw (g, i, ← e, q)

-- A substring of what it is made of, and what is between its first and its last character.
module _ (payload s : List ℕ) (base : Base) (e : s ≡ part_from base.part.start base.part.end (base_of base.source payload predefined_list)) where
  -- the base itself, and a part of it
  abbrev whole : List ℕ
  whole = base_of base.source payload predefined_list

  text-at : (d2 : List ℕ) (p : Span) → source_text payload d2 base.source p ≡ from_utf8 (part_from p.start p.end whole)
  text-at d2 p = source-bytes payload d2 base.source p (of_bytes base.source base.no_units)

  all-of : (d2 : List ℕ) → base_in payload d2 base ≡ from_utf8 s
  all-of d2 = text-at d2 base.part ∙ ap from_utf8 (sym e)

  abbrev pub inner : Span → Base
  inner p = record { source = base.source; part = within base.part.start p; no_units = base.no_units }

  inner-is : (p : Span) → p.start ≤ p.end → p.end ≤ length s → (d2 : List ℕ) → base_in payload d2 (inner p) ≡ from_utf8 (part_from p.start p.end s)
  inner-is p h i d2 =
      let f : part_from p.start p.end s ≡ part_from (base.part.start + p.start) (base.part.start + p.end) whole =
      ap (part_from p.start p.end) e ∙ part-part whole base.part.start base.part.end p.start p.end h (subst (λ (x : List ℕ). p.end ≤ length x) e i) in
      text-at d2 (within base.part.start p) ∙ ap from_utf8 (sym f)

  module _ (first last : ℕ) where
    pub part_none : SubstringTold s first last None → StepTold payload (substring_of first last) base None
    part_none t d2 = rw (all-of d2) t.is

    pub part-some : {p : Span} → SubstringTold s first last (Some p) → StepTold payload (substring_of first last) base (Some (inner p))
    part-some {p} t d2 = rw (all-of d2) (t.is ∙ ap some (sym (inner-is p t.inside.0 t.inside.1 d2)))

  pub inner-same : EndsTold s None → LeftTold payload base without_ends base
  inner-same t d2 = rw (all-of d2) t

  pub inner_cut : {p : Span} → EndsTold s (Some p) → LeftTold payload base without_ends (inner p)
  inner_cut {p} t d2 = rw (all-of d2) (t.0 ∙ sym (inner-is p t.1 t.2 d2))

  pub inner-ends : {p : Span} → EndsTold s (Some p) → (p.start ≤ p.end) × (p.end ≤ base.part.end - base.part.start)
  inner-ends t = (t.1, omega (arith, t.2, ap length e, part-short whole base.part.start base.part.end))

-- The part that an operation leaves.
module _ (payload : List ℕ) (base : Base) where
  pub left-whole : (op : Operation) → (op ≡ DescToClassId → ⊥) → LeftTold payload base (dropped op) base
  left-whole Nothing f d2 = refl
  left-whole InternalToClassId f d2 = refl
  left-whole DescToClassId f d2 = absurd (f refl)

  pub left-inner : (op : Operation) → op ≡ DescToClassId → (r : Base) → LeftTold payload base without_ends r → LeftTold payload base (dropped op) r
  left-inner op e r t = subst (λ (o : Operation). LeftTold payload base (dropped o) r) (sym e) t

-- The substring of a record, if it has one.
pub sub_both : (payload : List ℕ) (base : Base) {two : Two} {a b : ℕ} (r : rust.Option Base) → two ≡ Both a b
    → StepTold payload (substring_of a b) base r → StepTold payload (stepped substring_of (both_numbers two)) base r
sub_both payload base r e t = rw e t

pub sub_none : (payload : List ℕ) (base : Base) (two : Two) → both_numbers two ≡ none → StepTold payload (stepped substring_of (both_numbers two)) base (Some base)
sub_none payload base two e d2 = rw e

-- Replacement, and what an operation turns into dots.
pub same-substituted : (t : Text) → substituted 0 0 t ≡ t
same-substituted [] = refl
same-substituted (c ∷ t) = ap (λ (x : ℕ). x ∷ substituted 0 0 t) (go (eqb c 0) refl) ∙ ap (λ (x : Text). c ∷ x) (same-substituted t)
  where
    go : (b : Bool) → eqb c 0 ≡ b → (if b then 0 else c) ≡ c
    go true e = sym (eqb-true c 0 e)
    go false e = refl

pub not-both : (two : Two) → ((a b : ℕ) → two ≡ Both a b → ⊥) → both_numbers two ≡ none
not-both Neither h = refl
not-both (One a) h = refl
not-both (Both a b) h = absurd (h a b refl)

module _ (payload d2 : List ℕ) (base : Base) (op : Operation) where
  abbrev steps_of : ℕ → ℕ → Name
  steps_of from to = record { source = base.source; part = base.part; from = from; to = to; operation = op; qualified = false; size = 0 }

  named-is : (from to : ℕ) → named_text payload d2 (steps_of from to) ≡ turned op (substituted from to (base_in payload d2 base))
  unfolding named_text
  named-is from to = refl

  pub steps-none : (two : Two) → both_numbers two ≡ none → name_text payload d2 (Some (steps_of 0 0)) ≡ turned_steps (both_numbers two) op (base_in payload d2 base)
  steps-none two q = rw q (ap some (named-is 0 0 ∙ ap (turned op) (same-substituted (base_in payload d2 base))))

  pub steps-both : {two : Two} {a b : ℕ} → two ≡ Both a b → is_scalar a ≡ true → is_scalar b ≡ true
      → name_text payload d2 (Some (steps_of a b)) ≡ turned_steps (both_numbers two) op (base_in payload d2 base)
  unfolding replace_of
  steps-both {two} {a} {b} q s t = rw (q, s, t) (ap some (named-is a b))

pub steps-absent : (op : Operation) {two : Two} {a b : ℕ} → two ≡ Both a b → is_scalar a && is_scalar b ≡ false → (t : Text) → none ≡ turned_steps (both_numbers two) op t
unfolding replace_of
steps-absent op q f t = rw (q, f)

-- A record's text, from what it is made of.
text-is : (r : definition.Record)
    → text_of r ≡ if_some (if_some (base_text r) none (stepped substring_of r.substring)) none (with_steps r.replaced r.operation)
unfolding text_of
text-is r = go (base_text r)
  where
    go : (o : Option Text)
        → if_some o none (λ base. if_some (stepped substring_of r.substring base) none λ part. map_option (operated r.operation) (stepped replace_of r.replaced part))
        ≡ if_some (if_some o none (stepped substring_of r.substring)) none (with_steps r.replaced r.operation)
    go none = refl
    go (some t) = refl

module _ (payload : List ℕ) (from : ℕ) (read : Record) (x : rust.Option Base) (t : BaseTold from read.string read.predefined x)
    (d2 : List ℕ) (end : ℕ) (h : PieceInside (part_from from end payload) read.string) where
  abbrev told : definition.Record
  told = record_told from (part_from from end payload) read

  base-is : base_text told ≡ text_in payload d2 x
  unfolding base_text
  base-is = t payload d2 end h

  pub record-nothing : x ≡ None → none ≡ text_of told
  record-nothing g = rw (text-is told, base-is, g)

  module _ {base : Base} (g : x ≡ Some base) (y : rust.Option Base)
      (u : StepTold payload (stepped substring_of (both_numbers read.substring)) base y) where
    part-is : if_some (base_text told) none (stepped substring_of told.substring) ≡ text_in payload d2 y
    part-is = ap (λ (o : Option Text). if_some o none (stepped substring_of told.substring)) (base-is ∙ ap (text_in payload d2) g) ∙ u d2

    pub record-cut : y ≡ None → none ≡ text_of told
    record-cut q = rw (text-is told, part-is, q)

    pub record-built : {part : Base} (left : Base) → y ≡ Some part → {k : Operation} → k ≡ operation_of read.operation → LeftTold payload part (dropped k) left → (n : rust.Option Name)
        → name_text payload d2 n ≡ turned_steps (both_numbers read.replaced) k (base_in payload d2 left)
        → name_text payload d2 n ≡ text_of told
    record-built {part} left q {k} o l n e =
        e
        ∙ ap (turned_steps told.replaced k) (sym (l d2))
        ∙ ap (λ (i : Operation). turned_steps told.replaced i (dropped i (base_in payload d2 part))) o
        ∙ sym (text-dropped told.replaced told.operation (base_in payload d2 part))
        ∙ sym (text-is told ∙ ap (λ (o : Option Text). if_some o none (with_steps told.replaced told.operation)) (part-is ∙ ap (text_in payload d2) q))

-- Whether a record decides.
module _ (string : rust.Option Span) (index : rust.Option ℕ) (from : ℕ) (s : List ℕ) where
  pub decides-string : {p : Span} → string ≡ Some p → true ≡ is_some (piece_told from s string) || is_some (index_told index)
  decides-string e = rw e

  pub decides-index : {b : Bool} → string ≡ None → b ≡ is_some (index_told index) → b ≡ is_some (piece_told from s string) || is_some (index_told index)
  decides-index e g = rw e g

-- A piece of a part of some bytes has places among them.
pub piece-fits : (bytes : List ℕ) (start end : ℕ) → start ≤ end → end < 2 ^ 64 → (p : rust.Option Span) → PieceInside (part_from start end bytes) p → PieceFits start p
piece-fits bytes start end h l (Some p) i = (i.0, omega (arith, i.1, part-short bytes start end))
piece-fits bytes start end h l None i = tt
