-- A record's name with its size, and the words for it.
-- Assumes nothing.
use mathlib.Core.Path.{◌≡◌, refl, ap, sym, ◌∙◌, subst}
use mathlib.Core.Bool.{Bool, true, false}
use mathlib.Core.List.{List, []}
use mathlib.Core.Option.{some}
use Prim.Native.Nat.{ℕ, ◌+◌, ◌-◌}
use native.Mathlib.Omega.{arith}
use native.Mathlib.Nat.{le_refl, min-eq_left, min-eq_right}
use lib.Dec.{eqb}
use lib.ListN.{length}
use Rattle.std.specs.Prelude.{if◌then◌else◌, min, Option, Some, None}
use Rattle.foundation.specs.Texts.{Text}
use Rattle.characters.specs.Characters.{utf8, from_utf8}
use Rattle.characters.specs.told.Places.{part_from}
use Rattle.characters.proofs.UnitLaws.{units-ended}
use Rattle.characters.proofs.TestLaws.{below}
use Rattle.names.proofs.NameLaws.{part-rest, source-bytes}
use Rattle.names.proofs.FittedLaws.{sized-is}
use Rattle.names.specs.Records.{substituted}
use Rattle.names.specs.told.Name.{predefined_list, turned, OfBytes, source_text, named_text}
use Rattle.names.specs.told.Stream.{base_of, name_bytes}
use Rattle.names.specs.declared.name.Name.{Name}
use Rattle.names.specs.declared.name.Source.{Source}
use Rattle.names.specs.declared.name.Source.TheVariants.{Payload, Predefined, D2}
use Rattle.names.specs.declared.name.Operation.TheVariants.{Nothing}
use Rattle.foundation.specs.declared.Span.{Span}
use Rattle.record_names.specs.told.Steps.{BytesName}
use Rattle.record_names.specs.told.Note.{class_size, class_of, WordsTold}
use Rattle.record_names.specs.told.ClassNames.{qualified_part, class_text, part_size, ClassTold}
use Rattle.record_names.specs.told.Named.{NamedIs, ClassIs, NamedTold, WordsFor, RecordWords}
use Rattle.record_names.specs.told.Sized.{limit_of, clipped_part, clipped_name, SizeTold, with_size}
use Rattle.record_names.proofs.WordLaws.{noted-no, class-no, noted-absent, class-absent}
use Rattle.record_names.specs.declared.note.Words.{Words}

-- a part, as far as its bytes go
part-min : (l : List ℕ) (start end : ℕ) → part_from (min start end) end l ≡ part_from start end l
part-min l start end = below end start (λ h. rw (min-eq_left {n = start} {m = end} (omega arith)) refl) λ h. rw (min-eq_right h) (units-ended l end end (le_refl end) ∙ sym (units-ended l start end h))

part_clipped : (l : List ℕ) (start end : ℕ) → part_from start (min end (length l)) l ≡ part_from start end l
part_clipped l start end = below (length l) end (λ h. rw (min-eq_left {n = end} {m = length l} (omega arith)) refl) λ h. rw (min-eq_right h) (part-rest l start end h)

part_same : (l : List ℕ) (start end : ℕ) → part_from (min start (min end (length l))) (min end (length l)) l ≡ part_from start end l
part_same l start end = part-min l start (min end (length l)) ∙ part_clipped l start end

list_length : length predefined_list ≡ 878
unfolding predefined_list
list_length = refl

-- A name says the same with its size.
two : (size whole part : ℕ) (t : Bool) → ((size ≡ 0 → ⊥) → size ≡ whole) → whole ≡ part + (if t then 0 else 2)
    → ((if t then size else size - 2) ≡ 0 → ⊥) → (if t then size else size - 2) ≡ part
two size whole part true h e n = let z = h n in omega arith
two size whole part false h e n = let z = h (λ y. n (omega arith)) in omega arith

module _ (bytes : List ℕ) (n : Name) (b : OfBytes n.source) where
  size_same : n.size ≡ 0 → (size : ℕ) → ((size ≡ 0 → ⊥) → size ≡ part_size bytes n n.part) → (d2 : List ℕ)
      → named_text bytes d2 (with_size n size) ≡ named_text bytes d2 n
  unfolding named_text
  size_same z size s d2 =
      rw (source-bytes bytes d2 n.source n.part b, z, sized-is size (substituted n.from n.to (from_utf8 (part_from n.part.start n.part.end (base_of n.source bytes predefined_list)))) s)

  -- How many bytes a name takes that has no step but the replacement.
  abbrev pub unstepped : Name
  unstepped = record { source = n.source; part = n.part; from = n.from; to = n.to; operation = Nothing; qualified = false; size = 0 }

  unstepped_size : length (name_bytes bytes [] (Some unstepped) false) ≡ length (utf8 (substituted n.from n.to (source_text bytes [] n.source n.part)))
  unfolding name_bytes named_text turned
  unstepped_size = refl

  pub size_is : (size : ℕ) → size ≡ 0 + length (name_bytes bytes [] (Some unstepped) false) → size ≡ part_size bytes n n.part
  size_is size e =
      let z : 0 + length (name_bytes bytes [] (Some unstepped) false) ≡ length (name_bytes bytes [] (Some unstepped) false) = omega arith in
      e ∙ z ∙ unstepped_size ∙ ap (λ (t : Text). length (utf8 (substituted n.from n.to t))) (source-bytes bytes [] n.source n.part b)

-- The clipped name is the same name.
module _ (bytes : List ℕ) where
  source-same : (d2 : List ℕ) (source : Source) (p : Span) → OfBytes source
      → source_text bytes d2 source (clipped_part (limit_of source (length bytes)) p) ≡ source_text bytes d2 source p
  unfolding source_text
  source-same d2 Payload p o = ap from_utf8 (part_same bytes p.start p.end)
  source-same d2 Predefined p o =
      ap (λ (k : ℕ). from_utf8 (part_from (min p.start (min p.end k)) (min p.end k) predefined_list)) (sym list_length)
      ∙ ap from_utf8 (part_same predefined_list p.start p.end)
  source-same d2 D2 p o = absurd o

  clip-same : (d2 : List ℕ) (n : Name) → BytesName n → named_text bytes d2 (clipped_name (length bytes) n) ≡ named_text bytes d2 n
  unfolding named_text
  clip-same d2 n b = rw (b.4, source-same d2 n.source n.part b.0)

  clip-bytes : (n : Name) → BytesName n → BytesName (clipped_name (length bytes) n)
  clip-bytes n b = (b.0, b.1, b.2, b.3, refl)

  -- What is noted of a record: nothing of one that doesn't decide, or has no text.
  pub words-none : {d : Option (Option Name)} → d ≡ None → WordsFor bytes d (record { place = 0; steps = 0 })
  words-none e r f = record {
    is = λ units. subst (NamedIs bytes units r) noted-no (subst (NamedIs bytes units r) e (f units));
    class = λ units. subst (ClassIs bytes units r) class-no (subst (NamedIs bytes units r) e (f units));
  }

  pub words-absent : {d : Option (Option Name)} → d ≡ Some None → WordsFor bytes d (record { place = 0; steps = 1 })
  words-absent e r f =
      let y : (units : List ℕ) → NamedIs bytes units r (Some None) = λ units. subst (NamedIs bytes units r) e (f units) in
      record {
        is = λ units. subst (NamedIs bytes units r) noted-absent (y units);
        class = λ units. subst (ClassIs bytes units r) class-absent ((y units).0, ap class_text (y units).1);
      }

  -- else its name, clipped, with its size, and the part that is left of it as a class name
  module _ {d : Option (Option Name)} {n c q : Name} (e : d ≡ Some (Some n)) (b : BytesName n) (f : c ≡ clipped_name (length bytes) n)
      (k : ClassTold bytes c q) {size : ℕ} (s : SizeTold bytes c size) where
    made : BytesName c
    made = rw f (clip-bytes n b)

    text-size : (d2 : List ℕ) → named_text bytes d2 (with_size c size) ≡ named_text bytes d2 c
    text-size d2 = size_same bytes c made.0 made.4 size s.is d2

    class-size : (d2 : List ℕ) → named_text bytes d2 (class_of (with_size c size) q.part) ≡ named_text bytes d2 q
    class-size d2 =
        size_same bytes (qualified_part c q.part) made.0 refl (class_size size c.part.start q.part.start) least-two d2
        ∙ ap (named_text bytes d2) (sym k.part)
      where
        least-two : (class_size size c.part.start q.part.start ≡ 0 → ⊥) → class_size size c.part.start q.part.start ≡ part_size bytes c q.part
        least-two z = two size (part_size bytes c c.part) (part_size bytes c q.part) (eqb q.part.start c.part.start) s.is k.size z

    pub words-some : {z : Name} → z ≡ with_size c size → {w : Words} → WordsTold z q.part w → WordsFor bytes d w
    words-some {z} g {w} t r x =
        let y : (units : List ℕ) → NamedIs bytes units r (Some (Some n)) = λ units. subst (NamedIs bytes units r) e (x units) in
        let same : (units : List ℕ) → named_text bytes units n ≡ named_text bytes units c = λ units. sym (ap (named_text bytes units) f ∙ clip-same units n b) in
        record {
          is = λ units.
              subst (NamedIs bytes units r) (sym t.0)
              (rw g ((y units).0, (y units).1 ∙ ap some (same units ∙ sym (text-size units))));
          class = λ units.
              subst (ClassIs bytes units r) (sym t.1)
              (rw g ((y units).0, ap class_text ((y units).1 ∙ ap some (same units)) ∙ ap some (sym (class-size units ∙ k.is units))));
        }

-- What is noted of a record, by its message.
pub record_words : (bytes : List ℕ) {start end : ℕ} (d : Option (Option Name)) → NamedTold bytes start end d → {w : Words} → WordsFor bytes d w → RecordWords bytes start end w
record_words bytes d t f r b = f r λ units. rw b.is (t.is b.message b.cuts units)
