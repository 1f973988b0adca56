-- The parts of a declaration's types and of its parameters, from what the calls told.
-- Assumes nothing.
use mathlib.Core.Path.{◌≡◌, refl, sym, ap, subst, ◌∙◌}
use mathlib.Core.Bool.{false}
use mathlib.Core.List.{List, []}
use Rattle.std.specs.Prelude.{if◌then◌else◌}
use mathlib.Core.Option.{Option, some}
use Prim.Native.Nat.{ℕ, ◌+◌, ◌-◌, ◌*◌, ◌≤◌, ◌<◌}
use native.Mathlib.Nat.{add-zero, add_assoc}
use native.Mathlib.Omega.{arith}
use lib.ListN.{length, take, drop}
use Rattle.foundation.specs.Choices.{map_option}
use Rattle.foundation.specs.Results.{ok}
use Rattle.fields.specs.Fields.{ValueParameter-type, ValueParameter-type_id}
use Rattle.wire.specs.Wire.{Message, cut}
use Rattle.wire.specs.Messages.{cut_all, messages}
use Rattle.wire.specs.told.WireTold.{rest_of, part_between}
use Rattle.messages.specs.told.Asked.{bodies, NextIs, NextBodyTold, PieceInside, PieceAfter}
use Rattle.wire.proofs.WalkLaws.{whole, ok_same}
use Rattle.declaration_rows.specs.Declarations.{Ty, Parameter}
use Rattle.schema.specs.Reading.{Scope, each}
use Rattle.schema.specs.Types.{max_depth}
use Rattle.schema.specs.Members.{parameter_in, parameters_in}
use Rattle.schema.specs.told.SchemaTold.{Lent, Scoped, EntryAt, Stands}
use Rattle.schema.specs.told.TypesTold.{or_nullable}
use Rattle.schema.specs.told.PlacesTold.{TableOf, TypeFound, FoundTypeTold, EntryTwins, FoundTypeInside, FoundTypeFalls, DeclaredFound}
use Rattle.schema.specs.declared.FoundType.{FoundType}
use Rattle.schema.proofs.ListLaws.{First, cut-first}
use Rattle.schema.proofs.StandsLaws.{stands-cut, stands-entry, body-stands}
use Rattle.joined_types.proofs.TwinPlaces.{inner-read}
use Rattle.erasure.specs.Erasure.{print_returned}
use Rattle.erasure.specs.declared.Position.{Position}
use Rattle.erasure.specs.declared.Position.TheVariants as position
use Rattle.std.specs.Prelude as std
use Rattle.std.specs.Prelude.{Some, None}
use Rattle.descriptors.specs.told.DefaultsTold.{erased_at, part_cost, PartWithin, PartTold, ReadFound, ErasedTold, parameters_part, ParametersTold}
use Rattle.descriptors.specs.told.PartsTold.{PartRoom, Gave, PartOf, TypeGiven, type_part, preceded}
use Rattle.descriptors.proofs.GivenLaws.{parameters-given, FirstParameter, first-given, none-given, parameter_type}
use Rattle.descriptors.proofs.JoinLaws.{both, parameters_cons, text_none, text_then, told_then, told_absent, told_same, preceded-sum}
use Rattle.foundation.specs.declared.Span.{Span}
use Rattle.messages.specs.told.Asked.{span}

-- A declaration's own type at its position, by the place of its message.
module _ (e : Lent) (at : ℕ) (position : Position) {start end inline indexed : ℕ} {x : std.Option FoundType}
    (t : DeclaredFound e.payload e.notes e.tables start end inline indexed x) where
  place : {y : std.Option FoundType} → x ≡ y → (c : Scope) → Scoped e c → (m : Message) → EntryAt e.payload start end m → (o : Option Ty)
      → TypeGiven inline indexed c m o → FoundTypeTold e.payload e.payload c o y
  place g c s m k o h =
      let table : TableOf e.payload e.notes e.tables c = record { entries = s.entries; nullable = s.nullable } in
      subst (FoundTypeTold e.payload e.payload c o) g (t.is c table m k o h.before h.after h.is)

  pub type-nowhere : x ≡ None → {A A₁ : List ℕ} → PartOf (TypeGiven inline indexed) (type_part position) part_cost e start end at None A A₁
  type-nowhere g = record { within = tt; is = λ c s m k o h. rw (place g c s m k o h) }

  module _ {y : FoundType} (g : x ≡ Some y) where
    pub type-inside : (y.part.start ≤ y.part.end) × (y.part.end ≤ length e.payload) × (y.reached.left ≤ max_depth)
    type-inside =
        let i = subst (FoundTypeInside e.payload) g t.inside in
        (i.0, i.1, (subst (FoundTypeFalls max_depth start end) g t.falls).0)

    -- found where it is read
    type-read : (c : Scope) → Scoped e c → (u : Ty) → TypeFound (if y.is_entry then e.payload else e.payload) c y.part.start y.part.end y.reached.left u
        → ReadFound e c y.part.start y.part.end y.reached.left y.is_entry u
    type-read c s u f =
        let entry = subst (EntryTwins e.payload e.notes e.tables) g t.twins in
        let it = inner-read e.payload e.deepest s.deepest.many c y.part.start y.part.end y.reached.left false y.is_entry {deep = y.reached.left + 1}
        (omega arith) (λ i. entry i e.deepest s.deepest) (λ i. absurd (cc)) f in
        record { found = it.0; twins = it.1 }

    pub type-there : {r : std.Option ℕ} {A A₁ : List ℕ}
        → ErasedTold e y.part.start y.part.end y.reached.left y.reached.nullable y.is_entry position at r A A₁
        → PartOf (TypeGiven inline indexed) (type_part position) part_cost e start end at r A A₁
    type-there {r} {A} {A₁} p = record {
      within = p.within;
      is = λ c s m k o h.
          let f = place g c s m k o h in
          told_same {x = map_option print_returned (erased_at position (or_nullable y.reached.nullable f.0))} {y = type_part position o} at r A A₁
          (ap (type_part position) (sym f.2))
          (p.is c s f.0 (type-read c s f.0 f.1));
    }

-- The walk over the parameters: what is right from here on is right from the start.
pub record PartsLeft (c : Scope) (msg : List ℕ) (base number at : ℕ) (ps : List Parameter) (A₀ : List ℕ) (here size : ℕ) (A : List ℕ) : Type 0 where
  pub rest : Message
  pub left : List Message
  pub cuts : cut (rest_of base msg here) ≡ ok rest
  pub many : cut_all (bodies number rest) ≡ ok left
  pub later : List Parameter
  pub reads : Gave (each (parameter_in c) left) later
  pub told : (r : std.Option ℕ) (A₁ : List ℕ) → PartTold (parameters_part later) (at + size) r A A₁ → PartTold (parameters_part ps) at (preceded size r) A₀ A₁

pub record Parting (e : Lent) (msg : List ℕ) (base number at : ℕ) (A₀ : List ℕ) (here size : ℕ) (A : List ℕ) : Type 0 where
  pub inside : here ≤ length msg
  pub few : size ≤ part_cost * here
  pub going : (c : Scope) → Scoped e c → (m : Message) → EntryAt e.payload base (base + length msg) m → (ps : List Parameter)
      → Gave (parameters_in c number m) ps → PartsLeft c msg base number at ps A₀ here size A

told-start : (o : Option (List ℕ)) (at : ℕ) (r : std.Option ℕ) (A A₁ : List ℕ) → PartTold o (at + 0) r A A₁ → PartTold o at (preceded 0 r) A A₁
told-start o at (Some n) A A₁ (t, e, p) = (t, e, text_then (text_none at A) p)
told-start o at None A A₁ e = e

pub parts-start : (e : Lent) (msg : List ℕ) (base number at : ℕ) (A₀ : List ℕ) → Stands e.payload msg base → Parting e msg base number at A₀ 0 0 A₀
unfolding messages
parts-start e msg base number at A₀ st = record {
  inside = omega arith;
  few = omega arith;
  going = λ c s m k ps g.
      let l = parameters-given c number m g in
      record {
        rest = m;
        left = l.all;
        cuts = ap cut (whole base msg) ∙ stands-cut st k;
        many = l.cuts;
        later = ps;
        reads = l.given;
        told = λ r A₁ p. told-start (parameters_part ps) at r A₀ A₁ p;
      };
}

module _ {e : Lent} {msg : List ℕ} {base number at : ℕ} {A₀ : List ℕ} {here size : ℕ} {A : List ℕ} (p : Parting e msg base number at A₀ here size A)
    {x : std.Option Span} (t : NextBodyTold base msg number here x) where
  next-is : {y : std.Option Span} → x ≡ y → {c : Scope} {ps : List Parameter} (g : PartsLeft c msg base number at ps A₀ here size A)
      → NextIs base msg number g.rest y
  next-is q g = subst (NextIs base msg number g.rest) q (t.is g.rest g.cuts)

  pub parts-end : x ≡ None → ParametersTold e base (base + length msg) number at (Some size) A₀ A
  unfolding cut_all
  parts-end q = record {
    within = omega (arith, p.few, p.inside);
    is = λ c s m k ps l b h.
        let g = p.going c s m k ps (record { before = l; after = b; is = h }) in
        let none_left : g.left ≡ [] = ok_same (sym g.many ∙ ap cut_all (next-is q g)) in
        let done : g.later ≡ [] = none-given c (subst (λ (ms : List Message). Gave (each (parameter_in c) ms) g.later) none_left g.reads) in
        let last : PartTold (parameters_part g.later) (at + size) (Some 0) A A =
        told_same {x = some []} {y = parameters_part g.later} (at + size) (Some 0) A A (ap parameters_part (sym done)) ([], refl, text_none (at + size) A) in
        subst (λ (n : ℕ). PartTold (parameters_part ps) at (Some n) A₀ A) (add-zero size) (g.told (Some 0) A last);
  }

  module _ {a b : ℕ} (q : x ≡ Some (span a b)) where
    pub part_in : (a ≤ b) × (b ≤ length msg) × (here < b)
    part_in = let i = subst (PieceInside msg) q t.inside in (i.0, i.1, subst (PieceAfter here) q t.later)

    pub part_room : PartRoom e msg base (part_cost * length msg) at
        → PartRoom e (take (b - a) (drop a msg)) (base + a) part_cost (at + size)
    part_room h = record {
      payload-short = h.payload-short;
      d2-short = h.d2-short;
      stands = body-stands h.stands a b part_in.0 part_in.1;
      room = omega (arith, part_in, p.few, h.room);
    }

    module _ (st : Stands e.payload msg base) {r : std.Option ℕ} {A₁ : List ℕ}
        (u : PartOf (TypeGiven ValueParameter-type ValueParameter-type_id) (type_part position.Parameter) part_cost e (base + a) (base + a + length (take (b - a) (drop a msg))) (at + size) r A A₁) where
      -- what is told of the parameter, and of those after it
      module _ (c : Scope) (s : Scoped e c) (m : Message) (k : EntryAt e.payload base (base + length msg) m) (ps : List Parameter)
          (g : PartsLeft c msg base number at ps A₀ here size A) where
        the_rest : Message
        the_rest = (next-is q g).0

        one : First (part_between base msg a b) (bodies number the_rest) g.left
        unfolding the_rest
        one = cut-first (part_between base msg a b) (bodies number (next-is q g).0) g.left (ap cut_all (sym (next-is q g).2) ∙ g.many)

        first : FirstParameter c one.first one.others g.later
        first =
            first-given c one.first one.others
            (subst (λ (ms : List Message). Gave (each (parameter_in c) ms) g.later) one.are g.reads)

        both-are : both (type_part position.Parameter first.one.type) (parameters_part first.others) ≡ parameters_part g.later
        both-are = sym (ap parameters_part first.are ∙ parameters_cons first.one first.others)

        first-told : {y : std.Option ℕ} → r ≡ y → PartTold (type_part position.Parameter first.one.type) (at + size) y A A₁
        first-told w =
            subst (λ (y : std.Option ℕ). PartTold (type_part position.Parameter first.one.type) (at + size) y A A₁) w
            (u.is c s one.first (stands-entry (body-stands st a b part_in.0 part_in.1) one.cuts) first.one.type (parameter_type c one.first first.first))

      pub parts-absent : r ≡ None → ParametersTold e base (base + length msg) number at None A₀ A₁
      parts-absent w = record {
        within = tt;
        is = λ c s m k ps l b h.
            let g = p.going c s m k ps (record { before = l; after = b; is = h }) in
            let none_of = told_absent (type_part position.Parameter (first c s m k ps g).one.type) (parameters_part (first c s m k ps g).others) (first-told c s m k ps g w) in
            g.told None A₁ (sym (both-are c s m k ps g) ∙ none_of);
      }

      pub parts_next : {more : ℕ} → r ≡ Some more → Parting e msg base number at A₀ b (size + more) A₁
      unfolding the_rest
      parts_next {more} w =
          let i : more ≤ part_cost = subst (PartWithin part_cost) w u.within in
          record {
            inside = part_in.1;
            few = omega (arith, part_in, p.few);
            going = λ c s m k ps l.
                let g = p.going c s m k ps l in
                let f = first c s m k ps g in
                record {
                  rest = the_rest c s m k ps g;
                  left = (one c s m k ps g).others;
                  cuts = (next-is q g).1;
                  many = (one c s m k ps g).many;
                  later = f.others;
                  reads = f.later;
                  told = λ y A₂ v.
                      let v' = subst (λ (n : ℕ). PartTold (parameters_part f.others) n y A₁ A₂) (sym (add_assoc at size more)) v in
                      let two = told_then (type_part position.Parameter f.one.type) (parameters_part f.others) (at + size) more y A A₁ A₂ (first-told c s m k ps g w) v' in
                      let all = told_same {x = both (type_part position.Parameter f.one.type) (parameters_part f.others)} {y = parameters_part g.later} (at + size) (preceded more y) A A₂ (both-are c s m k ps g) two in
                      subst (λ (r : std.Option ℕ). PartTold (parameters_part ps) at r A₀ A₂) (preceded-sum size more y) (g.told (preceded more y) A₂ all);
                };
          }
