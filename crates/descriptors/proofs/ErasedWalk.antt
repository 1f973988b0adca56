-- The walk from an array to its first kept argument: what was written up to here, and what is still to be.
-- Assumes nothing.
use mathlib.Core.Path.{◌≡◌, refl, ap, sym, subst, ◌∙◌}
use mathlib.Core.Bool.{Bool, true, false, ◌||◌}
use mathlib.Core.List.{List, [], ◌∷◌, ◌++◌, append_assoc}
use Rattle.std.specs.Prelude as std
use mathlib.Core.Option.{Option, none, some}
use Prim.Native.Nat.{ℕ, ◌+◌, ◌-◌, ◌≤◌, ◌<◌}
use native.Mathlib.Nat.{mul-le-mul_right}
use native.Mathlib.Omega.{arith}
use lib.ListN.{length, length-append}
use Rattle.foundation.specs.Choices.{All, map_option}
use Rattle.foundation.proofs.OverlayLaws.{sets_then}
use Rattle.characters.specs.told.Places.{part_from}
use Rattle.declaration_rows.specs.Declarations.{Ty, Argument, types_of}
use Rattle.schema.specs.Reading.{Scope}
use Rattle.schema.specs.Types.{max_depth}
use Rattle.schema.specs.told.Alike.{ArgumentTwin}
use Rattle.schema.specs.told.SchemaTold.{Lent, Scoped, EntryAt, Stands}
use Rattle.schema.specs.told.TypesTold.{or_nullable}
use Rattle.schema.specs.told.PlacesTold.{read_in, TableOf, Twins, EntryTwins, InlineTwins, FoundTypeInside, reach, FoundTypeFalls, head_type, Unnamed, ElementTold, ArgumentFound}
use Rattle.schema.specs.declared.FoundType.{FoundType}
use Rattle.schema.proofs.StandsLaws.{part-stands, part-ends}
use Rattle.schema.proofs.GivenLaws.{Entered, type_entered}
use Rattle.joined_types.proofs.TwinPlaces.{arguments-twins, read-payload, read-long, inner-read}
use Rattle.erasure.specs.Erasure.{Erased, first_erased, of_type, print, print_returned}
use Rattle.erasure.specs.told.ErasureTold.{PutSized}
use Rattle.erasure.specs.declared.Position.{Position}
use Rattle.erasure.specs.declared.Position.TheVariants.{Element}
use Rattle.std.specs.Prelude.{Some, None}
use Rattle.descriptors.specs.told.DefaultsTold.{erased_at, ReadFound, ErasedTold}
use Rattle.descriptors.specs.told.ErasedTold.{TypePartIs, TypePartWithin, TypePartTold}
use Rattle.descriptors.specs.declared.erased.TypePart.{TypePart}
use Rattle.descriptors.specs.declared.erased.TypePart.TheVariants as type_part

-- the text of a type at its position
abbrev pub text_at : Position → Bool → Ty → Option (List ℕ)
text_at position nullable t = map_option print_returned (erased_at position (or_nullable nullable t))

-- a text with another before it
abbrev pub after : List ℕ → Option (List ℕ) → Option (List ℕ)
after front o = map_option (λ text. front ++ text) o

after_none : (o : Option (List ℕ)) → after [] o ≡ o
after_none none = refl
after_none (some text) = refl

after_both : (front next : List ℕ) (o : Option (List ℕ)) → after front (after next o) ≡ after (front ++ next) o
after_both front next none = refl
after_both front next (some text) = ap some (sym (append_assoc front next text))

-- one text after the other
put_then : {text text' : List ℕ} {at next r n : ℕ} {A A₁ A₂ : List ℕ} → PutSized text at r A A₁ → next ≡ at + r → PutSized text' next n A₁ A₂
    → PutSized (text ++ text') at (r + n) A A₂
put_then {text} {text'} {at} {next} {r} {n} {A} p e q = record {
  size = omega (arith, p.size, q.size, length-append text text');
  area = sets_then text text' A at p.area (e ∙ ap (λ (k : ℕ). at + k) p.size) q.area;
}

-- The first kept argument as an element.
first_none : (ts : List Argument) → Unnamed (head_type ts) → first_erased true (types_of ts) ≡ none
unfolding first_erased
first_none [] e = refl
first_none (a ∷ ts) e = rw e

element_text : (ts : List Argument) (t : Ty) → head_type ts ≡ some t
    → map_option (λ e. 0x5b ∷ print e) (first_erased true (types_of ts)) ≡ after (0x5b ∷ []) (map_option print_returned (erased_at Element t))
unfolding first_erased
element_text [] t e = let z : ◌≡◌ {A = ℕ} 0 1 = cc in absurd (omega arith)
element_text (a ∷ ts) t e =
    let same : a.type ≡ t = some_same e in
    subst (λ (x : Ty). map_option (λ e. 0x5b ∷ print e) (first_erased true (types_of (a ∷ ts))) ≡ after (0x5b ∷ []) (map_option print_returned (erased_at Element x))) same
    (bracket (first_erased true (types_of (a ∷ ts))))
  where
    some_same : {A : Type 0} {a b : A} → some a ≡ some b → a ≡ b
    some_same e = cc

    bracket : (o : Option Erased) → map_option (λ e. 0x5b ∷ print e) o ≡ after (0x5b ∷ []) (map_option print_returned (map_option of_type o))
    bracket none = refl
    bracket (some e) = refl

-- Of a whole text, what was written of it up to here, and the type that comes next.
pub record Rest (whole : Option (List ℕ)) (e : Lent) (c : Scope) (at : ℕ) (A₀ : List ℕ) (first last : ℕ) (said : Bool) (deep : ℕ) (inside : Bool)
    (here : Position) (next : ℕ) (A : List ℕ) : Type 0 where
  pub front : List ℕ
  pub put : PutSized front at (next - at) A₀ A
  pub type : Ty
  pub found : ReadFound e c first last deep inside type
  pub is : whole ≡ after front (text_at here said type)

-- The loop: as many [ were written as arrays were passed.
pub record Walking (e : Lent) (start end : ℕ) (nullable : Bool) (left : ℕ) (in_table : Bool) (position : Position) (at : ℕ) (A₀ : List ℕ) (first last : ℕ)
    (said : Bool) (deep : ℕ) (inside : Bool) (here : Position) (next : ℕ) (A : List ℕ) : Type 0 where
  pub later : at ≤ next
  pub far : next + reach deep first last ≤ at + reach left start end
  pub rest : (c : Scope) → Scoped e c → (t : Ty) → ReadFound e c start end left in_table t
      → Rest (text_at position nullable t) e c at A₀ first last said deep inside here next A

-- The message of a type, cut out of the bytes in which it is read.
module _ (e : Lent) (many : length e.deepest ≡ length e.payload) (inside : Bool) (deep : ℕ) {bytes msg : List ℕ} {base start end : ℕ}
    (r : bytes ≡ read_in e.payload e.deepest inside deep) (b : (base ≡ start) × (msg ≡ part_from start end bytes))
    (h : start ≤ end) (k : end ≤ length e.payload) where
  abbrev source : List ℕ
  source = read_in e.payload e.deepest inside deep

  long : length source ≡ length e.payload
  long = read-long e.payload e.deepest inside deep many

  located : Stands source msg base × (base + length msg ≡ end)
  located =
      let within : end ≤ length source = omega (arith, long, k) in
      rw (b.0, b.1, r) (part-stands source start end h within, part-ends source start end h within)

  pub part-here : {nullable : Bool} {position : Position} {at : ℕ} {t : std.Option TypePart} {A A' : List ℕ}
      → ((source : List ℕ) → Stands source msg base → TypePartTold source e base (base + length msg) nullable position at t A A')
      → TypePartTold source e start end nullable position at t A A'
  part-here {nullable} {position} {at} {t} {A} {A'} told =
      subst (λ (n : ℕ). TypePartTold source e n end nullable position at t A A') b.0
      (subst (λ (n : ℕ). TypePartTold source e base n nullable position at t A A') located.1 (told source located.0))

  pub argument-here : {left : ℕ} {t : std.Option FoundType}
      → ((source : List ℕ) → length source ≡ length e.payload → Stands source msg base
      → ArgumentFound source e.payload e.notes e.tables base (base + length msg) left t)
      → ArgumentFound source e.payload e.notes e.tables start end left t
  argument-here {left} {t} told =
      subst (λ (n : ℕ). ArgumentFound source e.payload e.notes e.tables n end left t) b.0
      (subst (λ (n : ℕ). ArgumentFound source e.payload e.notes e.tables base n left t) located.1 (told source long located.0))

module _ {e : Lent} {start end : ℕ} {nullable : Bool} {left : ℕ} {in_table : Bool} {position : Position} {at : ℕ} {A₀ : List ℕ} {first last : ℕ} {said : Bool}
    {deep : ℕ} {inside : Bool} {here : Position} {next : ℕ} {A : List ℕ}
    (w : Walking e start end nullable left in_table position at A₀ first last said deep inside here next A) where
  -- how many [ there can be
  pub walking-few : left ≤ 64 → end ≤ length e.payload → length e.payload ≤ 32768 → next ≤ at + 2129984
  walking-few h g k = omega (arith, w.far, mul-le-mul_right 32769 h)

  module _ {r : std.Option TypePart} {A₁ : List ℕ} (p : TypePartTold (read_in e.payload e.deepest inside deep) e first last said here next r A A₁) where
    part-is : (c : Scope) → Scoped e c → (u : Ty) → ReadFound e c first last deep inside u → {y : std.Option TypePart} → r ≡ y
        → TypePartIs (text_at here said u) (first_erased true u.arguments) next y A A₁
    part-is c o u f q =
        subst (λ (y : std.Option TypePart). TypePartIs (text_at here said u) (first_erased true u.arguments) next y A A₁) q (p.is c o deep u f.found)

    whole-short : {size : ℕ} → r ≡ Some (type_part.Whole size) → size ≤ 131093
    whole-short q = subst TypePartWithin q p.within

    pub walking-whole : left ≤ 64 → end ≤ length e.payload → length e.payload ≤ 32768 → {size : ℕ} → r ≡ Some (type_part.Whole size)
        → ErasedTold e start end left nullable in_table position at (Some (next + size - at)) A₀ A₁
    walking-whole h g k {size} q = record {
      within = omega (arith, walking-few h g k, whole-short q);
      is = λ c o t i.
          let u = w.rest c o t i in
          let x = part-is c o u.type u.found q in
          let sum : next - at + size ≡ next + size - at = omega (arith, w.later) in
          let both = put_then u.put (omega (arith, w.later)) x.2 in (
            u.front ++ x.0,
            u.is ∙ ap (after u.front) x.1,
            subst (λ (n : ℕ). PutSized (u.front ++ x.0) at n A₀ A₁) sum both,
          );
    }

    pub walking-absent : r ≡ None → ErasedTold e start end left nullable in_table position at None A₀ A₁
    walking-absent q = record {
      within = tt;
      is = λ c o t i. let u = w.rest c o t i in u.is ∙ ap (after u.front) (part-is c o u.type u.found q);
    }

    module _ (q : r ≡ Some type_part.Bracket) {less : ℕ} (l : less ≡ deep - 1) {s : std.Option FoundType}
        (a : ArgumentFound (read_in e.payload e.deepest inside deep) e.payload e.notes e.tables first last less s) where
      -- the first kept argument of the type here
      module _ (c : Scope) (o : Scoped e c) (u : Ty) (f : ReadFound e c first last deep inside u) where
        abbrev among : List ℕ
        among = read_in e.payload e.deepest inside deep

        given : Entered c f.found.depth f.found.message u
        given = type_entered c f.found.depth f.found.message u f.found.before f.found.after f.found.given

        argument_told : ElementTold among e.payload c (head_type given.types) s
            × ((deepest : List ℕ) → length deepest ≡ length among → All (ArgumentTwin first (part_from first last deepest)) given.arguments
            → InlineTwins among deepest s)
        argument_told =
            let table : TableOf e.payload e.notes e.tables c = record { entries = o.entries; nullable = o.nullable } in
            let deeper : less ≡ max_depth - (f.found.depth + 1) = omega (arith, f.found.deep) in
            a.is c table f.found.message f.found.at given.arguments given.cuts (f.found.depth + 1) deeper given.types given.before given.between given.given

        argument_is : {y : std.Option FoundType} → s ≡ y → ElementTold among e.payload c (head_type given.types) y
        argument_is g = subst (ElementTold among e.payload c (head_type given.types)) g argument_told.0

        inner-is : first_erased true u.arguments ≡ first_erased true (types_of given.types)
        inner-is = ap (λ (t : Ty). first_erased true t.arguments) given.is

        text-is : text_at here said u ≡ map_option (λ e. 0x5b ∷ print e) (first_erased true (types_of given.types))
        text-is = (part-is c o u f q).0 ∙ ap (map_option (λ e. 0x5b ∷ print e)) inner-is

        -- inline in a type of the table, while a look-up is left
        inline_there : {x : FoundType} → s ≡ Some x → inside ≡ true → 1 < deep → x.is_entry ≡ false → Twins e.payload e.deepest x.part.start x.part.end
        inline_there {x} g i k n =
            let same : among ≡ e.payload = read-payload e.payload e.deepest inside deep k in
            let at : EntryAt e.payload first last f.found.message = subst (λ (l : List ℕ). EntryAt l first last f.found.message) same f.found.at in
            let all = arguments-twins e.payload e.deepest first last (f.twins i k) at given.cuts in
            let long : length e.deepest ≡ length among = o.deepest.many ∙ ap length (sym same) in
            let inline : InlineTwins among e.deepest (Some x) = subst (InlineTwins among e.deepest) g (argument_told.1 e.deepest long all) in
            subst (λ (l : List ℕ). Twins l e.deepest x.part.start x.part.end) same (inline n)

        argument_read : {x : FoundType} (g : s ≡ Some x) → x.reached.left ≤ less
            → ReadFound e c x.part.start x.part.end x.reached.left (inside || x.is_entry) (argument_is g).0
        argument_read {x} g h =
            let entry = subst (EntryTwins e.payload e.notes e.tables) g a.twins in
            let it = inner-read e.payload e.deepest o.deepest.many c x.part.start x.part.end x.reached.left inside x.is_entry (omega (arith, h, l))
            (λ i. entry i e.deepest o.deepest) (inline_there g) (argument_is g).1 in
            record { found = it.0; twins = it.1 }

      pub walking-empty : s ≡ None → ErasedTold e start end left nullable in_table position at None A₀ A₁
      walking-empty g = record {
        within = tt;
        is = λ c o t i.
            let u = w.rest c o t i in
            let none_kept = first_none (given c o u.type u.found).types (argument_is c o u.type u.found g) in
            u.is ∙ ap (after u.front) (text-is c o u.type u.found ∙ ap (map_option (λ e. 0x5b ∷ print e)) none_kept);
      }

      module _ {x : FoundType} (g : s ≡ Some x) where
        pub found-inside : (x.part.start ≤ x.part.end) × (x.part.end ≤ length e.payload)
        found-inside = subst (FoundTypeInside e.payload) g a.inside

        falls : (x.reached.left ≤ less) × (reach x.reached.left x.part.start x.part.end < reach less first last)
        falls = subst (FoundTypeFalls less first last) g a.falls

        pub walking-less : reach x.reached.left x.part.start x.part.end < reach deep first last
        walking-less = let h : less ≤ deep = omega arith in omega (arith, falls.1, mul-le-mul_right 32769 h)

        pub walking_on : {now : Bool} → now ≡ (inside || x.is_entry)
            → Walking e start end nullable left in_table position at A₀ x.part.start x.part.end x.reached.nullable x.reached.left now Element (next + 1) A₁
        walking_on {now} same =
            let sum : next - at + 1 ≡ next + 1 - at = omega (arith, w.later) in
            record {
              later = omega (arith, w.later);
              far = omega (arith, w.far, walking-less);
              rest = λ c o t i.
                  let u = w.rest c o t i in
                  let v = argument_is c o u.type u.found g in
                  let both = put_then u.put (omega (arith, w.later)) (part-is c o u.type u.found q).1 in
                  record {
                    front = u.front ++ (0x5b ∷ []);
                    put = subst (λ (n : ℕ). PutSized (u.front ++ (0x5b ∷ [])) at n A₀ A₁) sum both;
                    type = v.0;
                    found =
                        subst (λ (b : Bool). ReadFound e c x.part.start x.part.end x.reached.left b v.0) (sym same)
                        (argument_read c o u.type u.found g falls.0);
                    is =
                        u.is
                        ∙ ap (after u.front)
                        (text-is c o u.type u.found ∙ element_text (given c o u.type u.found).types (or_nullable x.reached.nullable v.0) v.2)
                        ∙ after_both u.front (0x5b ∷ []) (text_at Element x.reached.nullable v.0);
                  };
            }
