-- What one look-up marks, and the name in a field.
-- Assumes nothing.
use mathlib.Core.Path.{◌≡◌, refl, ap, sym, ◌∙◌}
use mathlib.Core.Logic.{◌⊎◌, inl, inr}
use mathlib.Core.Bool.{Bool, true, false, ◌&&◌}
use mathlib.Core.List.{List, [], ◌∷◌}
use mathlib.Core.Option.{none, some}
use Prim.Native.Nat.{ℕ, suc, ◌-◌, ◌≤◌, ◌<◌}
use native.Mathlib.Omega.{arith}
use lib.Dec.{eqb, ltb}
use lib.ListN.{length, get_or, set, drop}
use borrow.Author.Tests.{le-ltb, eqb-true}
use Rattle.std.proofs.lemmas.List.{get_or-set_same, get_or-set_other, length-set}
use Rattle.std.proofs.lemmas.Bool.{eqb-false}
use Rattle.std.specs.Option as found
use Rattle.std.specs.declared.option.Option as rust
use Rattle.std.specs.declared.option.Option.TheVariants.{Some, None}
use Rattle.foundation.specs.Choices.{map_option}
use Rattle.foundation.specs.Results as Results
use Rattle.foundation.specs.Results.{Res, ok, refused, ◌from◌}
use Rattle.foundation.specs.Texts.{Text}
use Rattle.wire.specs.Wire.{Message, cut}
use Rattle.wire.specs.Messages.{index}
use Rattle.messages.specs.told.Asked.{index_told}
use Rattle.names.specs.Records.{Record, dotted}
use Rattle.names.specs.Names.{strings_from, d2_string, string, unwrapped, qualified_name}
use Rattle.names.specs.told.Name.{named_text, name_text}
use Rattle.names.specs.declared.name.Name.{Name}
use Rattle.lookup.specs.told.Lookups.{NotesOf, decided_in}
use Rattle.schema.specs.Reading.{pure, lift, name_in, class_name_in}
use Rattle.schema.specs.told.SchemaTold.{Lent}
use Rattle.strings.proofs.Agree.{Lookup, Asks, Leaves, asks-first}
use Rattle.strings.proofs.LookupLaws.{undecided-asks, undecided-leaves, decided-leaves}
use Rattle.string_marks.specs.told.MarksTold.{MarkedBy, Marks, AllMarked, names_by, strings_in, StringMarked, NameMarked}
use Rattle.string_marks.proofs.MarkLaws.{marks-same}

pub many_strings : (at : ℕ) (ends units : List ℕ) → length (strings_from at ends units) ≡ length ends
unfolding strings_from
many_strings at [] units = refl
many_strings at (e ∷ ends) units = ap suc (many_strings e ends (drop (e - at) units))

both_false : (a : Bool) → (a && false) ≡ false
both_false true = refl
both_false false = refl

-- What a look-up asks for: as a reading that counts types, and with something made of it.
module _ {A : Type 0} (ss : List (List ℕ)) (r : Lookup → Res A) (used used' : List ℕ) (many : length used' ≡ length used) (h : AllMarked ss r used used') where
  given : (x : Res A) (l l' : ℕ) (a : A) → lift x l ≡ ok (a, l') → (t : A) × (x ≡ ok t)
  given (ok t) l l' a q = (t, refl)
  given (refused c p) l l' a q = let z : ◌≡◌ {A = ℕ} 0 1 = cc in absurd (omega arith)

  lifted : (l n : ℕ) → (Asks ss n r × (get_or used' n 0 ≡ 1)) ⊎ (Leaves ss n r × (get_or used' n 0 ≡ get_or used n 0))
      → MarkedBy ss n (λ s. lift (r s)) l (get_or used n 0) (get_or used' n 0)
  unfolding Leaves
  lifted l n (inl (k, v)) = inl (asks-first ss r (λ s a. pure a l) n k, v)
  lifted l n (inr (k, v)) = inr (λ c p. ap (λ (x : Res A). lift x l) (k c p), v)

  pub lift-marked : Marks ss (λ s. lift (r s)) used used'
  lift-marked = record {
    many = λ l l' a q. many;
    each = λ l l' a q n b. let g = given (r (d2_string ss)) l l' a q in lifted l n (h g.0 g.1 n b);
  }

module _ {A B : Type 0} (ss : List (List ℕ)) (r : Lookup → Res A) (f : A → B) (used used' : List ℕ) (h : AllMarked ss r used used') where
  given-of : (x : Res A) (b : B) → Results.◌>>=◌ x (λ t. ok (f t)) ≡ ok b → (t : A) × (x ≡ ok t)
  given-of (ok t) b q = (t, refl)
  given-of (refused c p) b q = let z : ◌≡◌ {A = ℕ} 0 1 = cc in absurd (omega arith)

  made : (n : ℕ) → (Asks ss n r × (get_or used' n 0 ≡ 1)) ⊎ (Leaves ss n r × (get_or used' n 0 ≡ get_or used n 0))
      → (Asks ss n (λ s. Results.◌>>=◌ (r s) λ t. ok (f t)) × (get_or used' n 0 ≡ 1)) ⊎ (Leaves ss n (λ s. Results.◌>>=◌ (r s) λ t. ok (f t)) × (get_or used' n 0 ≡ get_or used n 0))
  unfolding Leaves
  made n (inl (k, v)) = inl (asks-first ss r (λ s t. ok (f t)) n k, v)
  made n (inr (k, v)) = inr (λ c p. ap (λ (x : Res A). Results.◌>>=◌ x (λ t. ok (f t))) (k c p), v)

  pub made-marked : AllMarked ss (λ s. Results.◌>>=◌ (r s) λ t. ok (f t)) used used'
  made-marked b q n i = let g = given-of (r (d2_string ss)) b q in made n (h g.0 g.1 n i)

module _ (e : Lent) (i : ℕ) (used : List ℕ) where
  -- nothing is looked up
  left_all : (records : List Record) → ((n : ℕ) → Leaves (strings_in e) n (λ s. string (names_by records s) i))
      → AllMarked (strings_in e) (λ s. string (names_by records s) i) used used
  left_all records h a q n b = inr (h n, refl)

  -- no string has this index
  pub past-marked : length e.ends ≤ i → StringMarked e i used used
  past-marked h = record { many = refl; is = λ records notes. left_all records λ n. go records n (decided_in records i) refl }
    where
      none_there : (n : ℕ) → (eqb i n && ltb i (length (strings_in e))) ≡ false
      none_there n = ap (λ (b : Bool). eqb i n && b) (le-ltb i (length (strings_in e)) (omega (arith, h, many_strings 0 e.ends e.d2))) ∙ both_false (eqb i n)

      go : (records : List Record) (n : ℕ) (b : Bool) → decided_in records i ≡ b → Leaves (strings_in e) n (λ s. string (names_by records s) i)
      go records n true q = decided-leaves (strings_in e) records i n q
      go records n false q = undecided-leaves (strings_in e) records i n q (none_there n)

  -- a record decides
  pub decided-marked : ((records : List Record) → NotesOf e.payload e.notes e.tables.records records → true ≡ decided_in records i) → StringMarked e i used used
  decided-marked h = record { many = refl; is = λ records notes. left_all records λ n. decided-leaves (strings_in e) records i n (sym (h records notes)) }

  -- no record decides, and the string is there
  module _ (h : i < length e.ends) (d : (records : List Record) → NotesOf e.payload e.notes e.tables.records records → false ≡ decided_in records i) where
    pub put-marked : StringMarked e i used (set used i 1)
    put-marked = record { many = length-set used i 1; is = λ records notes a q n b. go records notes n b (eqb i n) refl }
      where
        go : (records : List Record) → NotesOf e.payload e.notes e.tables.records records → (n : ℕ) → n < length used → (b : Bool) → eqb i n ≡ b
            → (Asks (strings_in e) n (λ s. string (names_by records s) i) × (get_or (set used i 1) n 0 ≡ 1))
            ⊎ (Leaves (strings_in e) n (λ s. string (names_by records s) i) × (get_or (set used i 1) n 0 ≡ get_or used n 0))
        go records notes n b true q = let s : n ≡ i = sym (eqb-true i n q) in rw s (inl (
          undecided-asks (strings_in e) records i (sym (d records notes)) (omega (arith, h, many_strings 0 e.ends e.d2)),
          get_or-set_same used i 1 0 (omega (arith, b, s)),
        ))
        go records notes n b false q = inr (
          undecided-leaves (strings_in e) records i n (sym (d records notes)) (ap (λ (x : Bool). x && ltb i (length (strings_in e))) q),
          get_or-set_other used i n 1 0 (λ z. eqb-false i n q (sym z)),
        )

-- The name in a field: none, or the one at its index.
module _ (e : Lent) (base : ℕ) (msg : List ℕ) (k : ℕ) (used : List ℕ) (x : rust.Option ℕ) (found : (m : Message) → cut (◌from◌ base msg) ≡ ok m → index k m ≡ index_told x) where
  pub nameless-marked : x ≡ None → NameMarked e base msg k used used
  unfolding name_in class_name_in
  nameless-marked g = record {
    name = record { is = λ records table o m c. rw (found m c ∙ ap index_told g) (marks-same (pure none) used) };
    class = record { is = λ records table o m c. rw (found m c ∙ ap index_told g) (marks-same (pure none) used) };
  }

  pub named-marked : {used' : List ℕ} {i : ℕ} → x ≡ Some i → StringMarked e i used used' → NameMarked e base msg k used used'
  unfolding name_in class_name_in qualified_name
  named-marked {used'} {i} g h = record {
    name = record { is = λ records table o m c. rw (found m c ∙ ap index_told g) (lift-marked (strings_in e) (λ s. string (names_by records s) i) used used' h.many (h.is records o.names.records)) };
    class = record {
      is = λ records table o m c.
          rw (found m c ∙ ap index_told g)
          (lift-marked (strings_in e) (λ s. qualified_name (names_by records s) i) used used' h.many
          (made-marked (strings_in e) (λ s. string (names_by records s) i) (map_option λ u. dotted (unwrapped u)) used used' (h.is records o.names.records)));
    };
  }

-- a name that is there
pub there : (payload units : List ℕ) (r : rust.Option Name) → found.is_some r ≡ true → (t : Text) × (name_text payload units r ≡ some t)
there payload units (Some n) e = (named_text payload units n, refl)
there payload units None e = let z : ◌≡◌ {A = ℕ} 0 1 = cc in absurd (omega arith)

pub not_there : (payload units : List ℕ) (r : rust.Option Name) → found.is_some r ≡ false → name_text payload units r ≡ none
not_there payload units (Some n) e = let z : ◌≡◌ {A = ℕ} 0 1 = cc in absurd (omega arith)
not_there payload units None e = refl
