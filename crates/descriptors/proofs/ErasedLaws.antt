-- The part of a type at its position: what each answer tells, from what the calls told.
-- Assumes nothing.
use mathlib.Core.Path.{◌≡◌, refl, ap, sym, subst, ◌∙◌}
use mathlib.Core.Bool.{Bool, true, ◌||◌}
use mathlib.Core.List.{List, [], ◌∷◌, ◌++◌, map}
use Rattle.std.specs.Prelude as std
use Rattle.std.specs.Prelude.{Some, None}
use mathlib.Core.Option.{Option, none, some}
use Prim.Native.Nat.{ℕ, suc, ◌+◌, ◌-◌, ◌≤◌, ◌<◌}
use native.Mathlib.Nat.{zero-add}
use native.Mathlib.Numerals.{add-one}
use native.Mathlib.Omega.{arith}
use lib.ListN.{length, take, drop, get_or, set, length-append}
use lib.Dec.{T, ltb}
use lib.Seq.{sets, take-append_seam}
use Rattle.foundation.specs.Choices.{if_some, map_option, IfSome}
use Rattle.foundation.specs.Results.{ok, ◌from◌}
use Rattle.foundation.specs.Texts.{Text}
use Rattle.foundation.proofs.ChoiceLaws.{if_ind}
use Rattle.foundation.proofs.ResultLaws.{Gives}
use Rattle.foundation.proofs.OverlayLaws.{sets_then, sets_front}
use Rattle.fields.specs.Fields.{Type-nullable, Type-class_name}
use Rattle.wire.specs.Wire.{Message, cut}
use Rattle.wire.specs.Messages.{index, flag}
use Rattle.characters.specs.Characters.{is_scalar, width, from_utf16, utf8_of, utf8}
use Rattle.characters.specs.told.Places.{part_from}
use Rattle.characters.specs.WellFormed.{Units}
use Rattle.characters.specs.told.CharactersTold.{Characters}
use Rattle.characters.proofs.TestLaws.{scalar_below}
use Rattle.names.specs.Names.{qualified_name}
use Rattle.names.specs.told.Name.{fitted, is_measured, sized, named_text, name_text}
use Rattle.names.specs.told.Stream as stream
use Rattle.names.specs.told.Stream.{change_of, changed, sized_bytes, name_bytes}
use Rattle.names.specs.declared.name.Name.{Name}
use Rattle.names.specs.declared.name.Change.{Change}
use Rattle.names.specs.declared.name.Source.TheVariants.{D2}
use Rattle.names.proofs.NameLaws.{source-units, name-parts}
use Rattle.names.proofs.PresentLaws.{name-most}
use Rattle.names.proofs.FittedLaws.{fitted_ind, zeros-first}
use Rattle.names.proofs.ScalarLaws.{StringsOfCharacters, qualified-characters, d2_characters, substituted-keeps}
use Rattle.declaration_rows.specs.Declarations.{invariant, Ty}
use Rattle.schema.specs.Reading.{pure, lift, Scope, class_name_in}
use Rattle.schema.specs.told.SchemaTold.{Lent, NamesOf, Scoped, Stands}
use Rattle.schema.specs.told.TypesTold.{or_nullable}
use Rattle.schema.specs.told.PlacesTold.{TypeFound}
use Rattle.schema.proofs.StandsLaws.{stands-cut}
use Rattle.schema.proofs.FoundLaws.{bind_given, first-same}
use Rattle.schema.proofs.GivenLaws.{Entered, type_entered}
use Rattle.erasure.specs.Erasure.{slashed, meaning_of, Erased, class, array_of, first_erased, erased, of_type, erased_return, print, print_returned}
use Rattle.erasure.specs.told.ErasureTold.{Means, PutSized, PutPart, fixed_told, part_at, printed_told, PrintsAs}
use Rattle.erasure.specs.declared.Meaning.{Meaning}
use Rattle.erasure.specs.declared.Meaning.TheVariants.{Other}
use Rattle.erasure.specs.declared.Position.{Position}
use Rattle.erasure.specs.declared.Position.TheVariants.{Parameter, Element, Return}
use Rattle.erasure.specs.declared.Part.{Part}
use Rattle.erasure.specs.declared.Printed.{Printed}
use Rattle.erasure.specs.declared.Printed.TheVariants as prints
use Rattle.erasure.proofs.ListedLaws.{too_long, no_kotlin, means_none}
use Rattle.erasure.proofs.PartLaws.{first-at, element_at, return_at, part-told, part-short}
use Rattle.descriptors.specs.told.DefaultsTold.{erased_at}
use Rattle.descriptors.specs.told.ErasedTold.{TypePartIs, PrintedPut, TypePartTold}
use Rattle.descriptors.specs.declared.erased.TypePart.{TypePart}
use Rattle.descriptors.specs.declared.erased.TypePart.TheVariants as type_part

-- A name's bytes, with slashes for dots.
pub name-short : (payload d2 : List ℕ) (name : Name) → length payload ≤ 32768 → length d2 ≤ 32768 → length (name_bytes payload d2 (Some name) true) ≤ 131072
name-short payload d2 name f g = name-most payload d2 name 32768 f g (omega arith) true

name-slashed : (payload d2 : List ℕ) (name : Name) → name_bytes payload d2 (Some name) true ≡ utf8 (slashed (named_text payload d2 name))
unfolding name_bytes
name-slashed payload d2 name = refl

-- A name that is no part of the table: its first character isn't k.
first_byte : (c : ℕ) (bs : List ℕ) → get_or (utf8_of c ++ bs) 0 0 ≡ 0x6b → c ≡ 0x6b
unfolding utf8_of
first_byte c bs =
    let P : List ℕ → Type 0 = λ l. get_or (l ++ bs) 0 0 ≡ 0x6b → c ≡ 0x6b in
    if_ind P (ltb c 0x80) (λ t e. e) λ t.
    if_ind P (ltb c 0x800) (λ t e. absurd (omega arith)) λ t.
    if_ind P (ltb c 0x10000) (λ t e. absurd (omega arith)) λ t e. absurd (omega arith)

first_of : (c : ℕ) (u : Text) → get_or (utf8 (c ∷ u)) 0 0 ≡ 0x6b → c ≡ 0x6b
unfolding utf8
first_of c u = first_byte c (utf8 u)

-- a text by its noted size begins as it does, or with a zero
sized-first : (size c : ℕ) (t : Text) → get_or (utf8 (sized size (c ∷ t))) 0 0 ≡ 0x6b → c ≡ 0x6b
sized-first size c t =
    let P : Text → Type 0 = λ u. get_or (utf8 u) 0 0 ≡ 0x6b → c ≡ 0x6b in
    if_ind P (is_measured size) (λ m. fitted_ind P size c t (first_of c (fitted (size - width c) t)) λ e. absurd (zeros-first size e)) λ m. first_of c t

pub not_listed : (payload d2 : List ℕ) (name : Name) → name.source ≡ D2 → {h : Change} → h ≡ change_of (Some name) true
    → {code : ℕ} {rest : Text} → from_utf16 (part_from name.part.start name.part.end d2) ≡ code ∷ rest → {c : ℕ} → c ≡ changed h code → (c ≡ 0x6b → ⊥)
    → Means (name_bytes payload d2 (Some name) true) Other
unfolding utf8
not_listed payload d2 name s {h} e {code} {rest} f {c} q g =
    let bytes : name_bytes payload d2 (Some name) true ≡ sized_bytes name.size h (code ∷ rest) =
    name-parts payload d2 name true e ∙ ap (sized_bytes name.size h) (source-units payload d2 name.source name.part s ∙ f) in
    let other : get_or (name_bytes payload d2 (Some name) true) 0 0 ≡ 0x6b → ⊥ =
    λ k. g (q ∙ sized-first name.size (changed h code) (map (changed h) rest) (ap (λ (l : List ℕ). get_or l 0 0) (sym bytes) ∙ k)) in
    means_none (name_bytes payload d2 (Some name) true) (no_kotlin other)

-- What a name means, by its bytes in an area that holds every listed name.
module _ (bytes : List ℕ) {before area : List ℕ} {size : ℕ} (p : stream.PutText bytes 0 size before area) where
  pub means-long : 36 < size → Means bytes Other
  means-long h = means_none bytes (too_long (omega (arith, p.place)))

  short-taken : length before ≡ 36 → size ≤ 36 → take size area ≡ bytes
  short-taken f h =
      let fits : length bytes ≤ length before = omega (arith, p.place) in
      let e : size ≡ length bytes = p.place ∙ zero-add (length bytes) in
      rw (e, p.written, sets_front bytes before fits) (take-append_seam bytes (drop (length bytes) before))

  pub means-short : length before ≡ 36 → size ≤ 36 → (r : Meaning) → Means (take size area) r → Means bytes r
  means-short f h r m n c u = m n c (u ∙ sym (short-taken f h))

-- L, a name and ; one after the other.
pub class-put : (bytes : List ℕ) (at : ℕ) {next : ℕ} {A A₁ A₂ A₃ : List ℕ} → A₁ ≡ set A at 0x4c → stream.PutText bytes (at + 1) next A₁ A₂
    → A₃ ≡ set A₂ next 0x3b → PutSized (0x4c ∷ (bytes ++ (0x3b ∷ []))) at (next + 1 - at) A A₃
class-put bytes at {next} {A} {A₁} {A₂} {A₃} e p q = record {
  size = omega (arith, p.place, length-append bytes (0x3b ∷ []));
  area =
      let last : A₃ ≡ sets A₂ next (0x3b ∷ []) = q in
      sets_then bytes (0x3b ∷ []) A₁ (at + 1) p.written p.place last
      ∙ ap (λ (l : List ℕ). sets l (at + 1) (bytes ++ (0x3b ∷ []))) e
      ∙ ap (λ (i : ℕ). sets (set A at 0x4c) i (bytes ++ (0x3b ∷ []))) (add-one at);
}

-- What is printed of a type whose class name is there.
array-text : (inner : Option Erased) → map_option print_returned (map_option (λ e. of_type (array_of e)) inner) ≡ map_option (λ e. 0x5b ∷ print e) inner
unfolding print
array-text none = refl
array-text (some e) = refl

class-text : (payload d2 : List ℕ) (name : Name)
    → print_returned (of_type (class (slashed (named_text payload d2 name)))) ≡ 0x4c ∷ (name_bytes payload d2 (Some name) true ++ (0x3b ∷ []))
unfolding print
class-text payload d2 name = ap (λ (l : List ℕ). 0x4c ∷ (l ++ (0x3b ∷ []))) (sym (name-slashed payload d2 name))

by_answer : {x y : std.Option Printed} → x ≡ y → (n : Text) (inner : Option Erased)
    → map_option print_returned (printed_told (slashed n) inner x) ≡ map_option print_returned (printed_told (slashed n) inner y)
by_answer e n inner = ap (λ (y : std.Option Printed). map_option print_returned (printed_told (slashed n) inner y)) e

abbrev told_name : Lent → Name → Text
told_name e name = named_text e.payload e.d2 name

module _ (e : Lent) (name : Name) {printed : Printed} {at : ℕ} {A A' : List ℕ} where
  pub printed-fixed : {part : Part} {r : ℕ} → printed ≡ prints.Fixed part → PutPart part at r A A' → PrintedPut e name printed at (type_part.Whole r) A A'
  printed-fixed {part} q p = record {
    within = omega (arith, p.size, part-short part);
    is = λ inner. (print_returned (fixed_told part), by_answer (ap Some q) (told_name e name) inner, p);
  }

  pub printed-array : printed ≡ prints.ThroughArray → A' ≡ set A at 0x5b → PrintedPut e name printed at type_part.Bracket A A'
  printed-array f q = record { within = tt; is = λ inner. (by_answer (ap Some f) (told_name e name) inner ∙ array-text inner, record { size = refl; area = q }) }

  pub printed-class : length e.payload ≤ 32768 → length e.d2 ≤ 32768 → printed ≡ prints.ClassItself → {r : ℕ}
      → PutSized (0x4c ∷ (name_bytes e.payload e.d2 (Some name) true ++ (0x3b ∷ []))) at r A A' → PrintedPut e name printed at (type_part.Whole r) A A'
  printed-class f g q p = record {
    within = omega (arith, p.size, length-append (name_bytes e.payload e.d2 (Some name) true) (0x3b ∷ []), name-short e.payload e.d2 name f g);
    is = λ inner. (0x4c ∷ (name_bytes e.payload e.d2 (Some name) true ++ (0x3b ∷ [])), by_answer (ap Some q) (told_name e name) inner ∙ ap some (class-text e.payload e.d2 name), p);
  }

pub printed-nothing : (e : Lent) (name : Name) {printed : std.Option Printed} (at : ℕ) (A A' : List ℕ) → printed ≡ None → (inner : Option Erased)
    → TypePartIs (map_option print_returned (printed_told (slashed (told_name e name)) inner printed)) inner at None A A'
printed-nothing e name at A A' q inner = by_answer q (told_name e name) inner

-- The erasure of a type at its position, by its name.
erased-named : (position : Position) (t : Ty) (n : Text) → t.name ≡ some n
    → erased_at position t ≡ part_at position t.nullable (first_erased true t.arguments) (meaning_of n)
unfolding erased
erased-named Parameter t n e = rw e (first-at invariant t.nullable n t.arguments _)
erased-named Element t n e = rw e (element_at invariant t.nullable n t.arguments _)
erased-named Return t n e = return_at t n e

erased_nameless : (position : Position) (t : Ty) → t.name ≡ none → erased_at position t ≡ none
unfolding erased first_erased erased_return
erased_nameless Parameter t e = rw e
erased_nameless Element t e = rw e
erased_nameless Return t e = rw e

-- Class names are made of characters, if d2 is made of 16-bit units.
pub units_each : (l : List ℕ) → ((i : ℕ) → get_or l i 0 < 65536) → Units l
units_each [] h = tt
units_each (u ∷ us) h = (h 0, units_each us λ i. h (suc i))

lent-strings : (e : Lent) (c : Scope) → Scoped e c → Units e.d2 → StringsOfCharacters c.names
lent-strings e c o u i = rw o.names.strings (d2_characters e.ends e.d2 u i)

class_characters : (c : Scope) (k : ℕ) (m : Message) (l b : ℕ) (n : Text) → StringsOfCharacters c.names → class_name_in c k m l ≡ ok (some n, b) → Characters n
unfolding class_name_in
class_characters c k m l b n s e = go (index k m) e
  where
    go : (o : Option ℕ) → if_some o (pure none) (λ i. lift (qualified_name c.names i)) l ≡ ok (some n, b) → Characters n
    go none e = let f : none ≡ some n = first-same e in let z : ◌≡◌ {A = ℕ} 0 1 = cc in absurd (omega arith)
    go (some i) e =
        let p = bind_given (qualified_name c.names i) (λ a. pure a l) e in
        subst (Gives (IfSome Characters)) (p.1 ∙ ap ok (first-same p.2)) (qualified-characters c.names s i)

slashed_characters : (n : Text) → Characters n → Characters (slashed n)
slashed_characters n = substituted-keeps (λ c. T (is_scalar c)) 0x2e 0x2f n (scalar_below 0x2f (omega arith))

-- One type.
module _ (e : Lent) (msg : List ℕ) (base : ℕ) (nullable : Bool) (position : Position) (at : ℕ) (found : std.Option Name)
    (i : (c : Scope) → NamesOf e.payload e.d2 e.ends e.notes e.tables.records c.names
    → (m : Message) → cut (◌from◌ base msg) ≡ ok m → (l : ℕ)
    → class_name_in c Type-class_name m l ≡ ok (name_text e.payload e.d2 found, l)) where
  module _ {source : List ℕ} (st : Stands source msg base) (c : Scope) (o : Scoped e c) (left : ℕ) (t : Ty)
      (f : TypeFound source c base (base + length msg) left t) where
    entered : Entered c f.depth f.message t
    entered = type_entered c f.depth f.message t f.before f.after f.given

    name-is : {x : std.Option Name} → found ≡ x → t.name ≡ name_text e.payload e.d2 x
    name-is w =
        ap (λ (t : Ty). t.name) entered.is
        ∙ first-same (sym entered.named ∙ i c o.names f.message (stands-cut st f.at) entered.between)
        ∙ ap (name_text e.payload e.d2) w

    name-characters : Units e.d2 → {name : Name} → found ≡ Some name → Characters (named_text e.payload e.d2 name)
    name-characters u {name} w =
        class_characters c Type-class_name f.message 0 0 (named_text e.payload e.d2 name) (lent-strings e c o u)
        (i c o.names f.message (stands-cut st f.at) 0 ∙ ap (λ (x : std.Option Name). pure (name_text e.payload e.d2 x) 0) w)

  pub type-absent : found ≡ None → {A A' : List ℕ} → (source : List ℕ) → Stands source msg base
      → TypePartTold source e base (base + length msg) nullable position at None A A'
  type-absent w source st = record {
    within = tt;
    is = λ c o left t f. ap (map_option print_returned) (erased_nameless position (or_nullable nullable t) (name-is st c o left t f w));
  }

  module _ {name : Name} (w : found ≡ Some name) (units : Units e.d2) (meaning : Meaning) (m : Means (name_bytes e.payload e.d2 (Some name) true) meaning)
      {either : Bool} (n : (m : Message) → cut (◌from◌ base msg) ≡ ok m → (nullable || flag Type-nullable m) ≡ either)
      (printed : std.Option Printed) (p : PrintsAs meaning either position printed) where
    type-printed : {source : List ℕ} (st : Stands source msg base) (c : Scope) (o : Scoped e c) (left : ℕ) (t : Ty)
        (f : TypeFound source c base (base + length msg) left t)
        → erased_at position (or_nullable nullable t) ≡ printed_told (slashed (told_name e name)) (first_erased true t.arguments) printed
    type-printed st c o left t f =
        let inner = first_erased true t.arguments in
        let either_is : (nullable || t.nullable) ≡ either =
        ap (λ (t : Ty). nullable || t.nullable) (entered st c o left t f).is ∙ n f.message (stands-cut st f.at) in
        erased-named position (or_nullable nullable t) (told_name e name) (name-is st c o left t f w)
        ∙ ap (λ (b : Bool). part_at position b inner (meaning_of (told_name e name))) either_is
        ∙ part-told position either inner meaning printed (slashed (told_name e name)) m p
        (slashed_characters (told_name e name) (name-characters st c o left t f units w))
        (sym (name-slashed e.payload e.d2 name))

    pub type-nothing : printed ≡ None → {A A' : List ℕ} → (source : List ℕ) → Stands source msg base
        → TypePartTold source e base (base + length msg) nullable position at None A A'
    type-nothing q source st = record {
      within = tt;
      is = λ c o left t f.
          ap (map_option print_returned) (type-printed st c o left t f) ∙ by_answer q (told_name e name) (first_erased true t.arguments);
    }

    pub type-part : {here : Printed} → printed ≡ Some here → {r : TypePart} {A A' : List ℕ}
        → PrintedPut e name here at r A A' → (source : List ℕ) → Stands source msg base
        → TypePartTold source e base (base + length msg) nullable position at (Some r) A A'
    type-part {here} v {r} {A} {A'} q source st = record {
      within = q.within;
      is = λ c o left t f.
          let same : erased_at position (or_nullable nullable t) ≡ printed_told (slashed (told_name e name)) (first_erased true t.arguments) (Some here) =
          type-printed st c o left t f ∙ ap (printed_told (slashed (told_name e name)) (first_erased true t.arguments)) v in
          subst (λ y. TypePartIs (map_option print_returned y) (first_erased true t.arguments) at (Some r) A A') (sym same)
          (q.is (first_erased true t.arguments));
    }
