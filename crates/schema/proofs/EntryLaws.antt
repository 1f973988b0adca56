-- Look-ups: an entry of the type table by its index, a name by the index in a field.
-- Assumes nothing.
use mathlib.Core.Path.{◌≡◌, refl, ap, sym, subst, ◌∙◌}
use mathlib.Core.List.{List}
use mathlib.Core.Option.{Option, none, some}
use Prim.Native.Nat.{ℕ, ◌+◌, ◌≤◌, ◌<◌}
use native.Mathlib.Omega.{arith}
use lib.ListN.{length, drop, get_or, get_elem?}
use lib.Seq.{get_or-drop}
use Rattle.foundation.specs.Choices.{if_some}
use Rattle.foundation.specs.Results.{Res, ok}
use Rattle.foundation.specs.Texts.{Text}
use Rattle.foundation.proofs.PresenceLaws.{elem_none, elem_there}
use Rattle.wire.specs.Wire.{Message}
use Rattle.messages.specs.told.Asked.{index_told}
use Rattle.characters.specs.told.Places.{part_from}
use Rattle.names.specs.told.Index.{start_of, end_of, PairPartTold}
use Rattle.names.specs.Names.{Names, strings_from, d2_string}
use Rattle.schema.specs.Reading.{pure, lift}
use Rattle.schema.specs.told.Alike.{SameAtLast, JoinedAs, DeepestOf}
use Rattle.schema.specs.told.SchemaTold.{EntryAt, EntriesOf, NamesOf}
use Rattle.schema.specs.told.TypesTold.{EntryInside, EntryBelow, EntryPlaced, EntryTold}
use Rattle.std.specs.declared.option.Option as rust
use Rattle.std.specs.declared.option.Option.TheVariants.{Some, None}
use Rattle.foundation.specs.declared.Span.{Span}
use Rattle.messages.specs.told.Asked.{span}

module _ (payload notes : List ℕ) (first count i : ℕ) {j : ℕ} (e : j ≡ i) where
  pub entry_past : count ≤ j → EntryTold payload (drop first notes) count i None
  entry_past h = record {
    is = λ types o. elem_none types i (omega (arith, o.many));
    inside = tt;
    below = tt;
    placed = λ below ordered short. absurd (omega arith);
  }

  there : get_or (drop first notes) i 0 ≡ get_or notes (first + j) 0
  there = get_or-drop first notes i 0 ∙ ap (λ (k : ℕ). get_or notes (first + k) 0) (sym e)

  at : (types : List Message) → EntriesOf payload (drop first notes) count types → (m : Message) → get_elem? types i ≡ some m
      → EntryAt payload (start_of (get_or notes (first + j) 0)) (end_of (get_or notes (first + j) 0)) m
  at types o m q = subst (λ (p : ℕ). EntryAt payload (start_of p) (end_of p) m) there (o.each i m q)

  nowhere : (types : List Message) → ((m : Message) → get_elem? types i ≡ some m → ⊥) → get_elem? types i ≡ none
  nowhere types h = go (get_elem? types i) refl
    where
      go : (o : Option Message) → get_elem? types i ≡ o → o ≡ none
      go none q = refl
      go (some m) q = absurd (h m q)

  pub entry-part : j < count → (r : rust.Option Span) → PairPartTold (get_or notes (first + j) 0) (length payload) r
      → EntryTold payload (drop first notes) count i r
  entry-part h (Some p) (f, g, k, l) = record {
    is = λ types o. let m = elem_there types i (omega (arith, o.many)) in (m.0, m.1, rw (f, g) (at types o m.0 m.1).cuts);
    inside = (k, l);
    below = omega arith;
    placed = (f ∙ ap start_of (sym there), g ∙ ap end_of (sym there));
  }
  entry-part h None u = record {
    is = λ types o. nowhere types λ m q. let x = at types o m q in u x.ordered x.inside;
    inside = tt;
    below = tt;
    placed = λ below ordered short. absurd (u (rw (← there) ordered) (rw (← there) short));
  }

-- the names that are lent
pub names-are : {payload d2 ends notes : List ℕ} {count : ℕ} {n : Names} → NamesOf payload d2 ends notes count n
    → n ≡ record { records = n.records; d2 = d2_string (strings_from 0 ends d2) }
names-are {n = n} o = ap (λ (f : ℕ → Res (Option Text)). record { records = n.records; d2 = f }) o.strings

-- a name by its index, as `name_in` and `class_name_in` are
module _ (look : ℕ → Res (Option Text)) {o : Option ℕ} {y : rust.Option ℕ} (e : o ≡ index_told y) (l : ℕ) where
  pub looked-none : y ≡ None → {t : Option Text} → t ≡ none → if_some o (pure none) (λ i. lift (look i)) l ≡ ok (t, l)
  looked-none g h = rw (e, g, h)

  pub looked-up : {i : ℕ} → y ≡ Some i → {t : Option Text} → look i ≡ ok t → if_some o (pure none) (λ i. lift (look i)) l ≡ ok (t, l)
  looked-up g h = rw (e, g, h)

pub entry_in : (payload entries : List ℕ) (count i : ℕ) {x : rust.Option Span} → EntryTold payload entries count i x → {a b : ℕ} → x ≡ Some (span a b)
    → (a ≤ b) × (b ≤ length payload)
entry_in payload entries count i t g = subst (EntryInside payload) g t.inside

pub entry_below : (payload entries : List ℕ) (count i : ℕ) {x : rust.Option Span} → EntryTold payload entries count i x → {a b : ℕ} → x ≡ Some (span a b)
    → i < count
entry_below payload entries count i t g = subst (EntryBelow count i) g t.below

-- As it is joined where no look-up is left.
pub entry_joined : (payload entries : List ℕ) (count i : ℕ) {x : rust.Option Span} → EntryTold payload entries count i x → {a b : ℕ} → x ≡ Some (span a b)
    → {deepest : List ℕ} → DeepestOf payload deepest entries count → JoinedAs SameAtLast (part_from a b payload) (part_from a b deepest)
entry_joined payload entries count i t {a} {b} g d =
    let entry = get_or entries i 0 in
    let inside = entry_in payload entries count i t g in
    let place : (a ≡ start_of entry) × (b ≡ end_of entry) = subst (EntryPlaced payload entries count i) g t.placed in
    rw (place.0, place.1) (d.each i (entry_below payload entries count i t g) (rw (← place.0, ← place.1) inside.0) (rw (← place.1) inside.1))
