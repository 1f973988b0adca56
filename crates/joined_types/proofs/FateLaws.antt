-- The walks of `join_type` and `join_argument`: what stands in their loops, and each step by what becomes of the field.
-- Assumes nothing.
use mathlib.Core.Path.{◌≡◌, refl, ap, sym, subst, ◌∙◌}
use mathlib.Core.Bool.{Bool, true, false}
use mathlib.Core.List.{List}
use Prim.Native.Nat.{ℕ, zero, suc, ◌+◌, ◌-◌, ◌≤◌, ◌<◌}
use native.Mathlib.Omega.{arith}
use borrow.Rule.Slice.PartMut.{put_mid}
use lib.Dec.{eqb}
use lib.ListN.{length, take, drop}
use Rattle.std.specs.Prelude.{◌||◌, Result, Ok}
use Rattle.foundation.specs.Results.{◌from◌}
use Rattle.foundation.specs.declared.Read.{Read}
use Rattle.foundation.specs.declared.Span.{Span}
use Rattle.fields.specs.Fields.{Type-argument, Type-nullable, Type-class_name, Type-Argument-projection, Type-Argument-type, Type-Argument-type_id}
use Rattle.wire.specs.Wire.{read_field, Message, cut}
use Rattle.wire.specs.told.WireTold.{rest_of, part_between, value_of, told_field, Inside, FieldTold, FieldAt, piece_of}
use Rattle.wire.specs.declared.WireError.{WireError}
use Rattle.wire.specs.declared.WireValue.{WireValue}
use Rattle.wire.specs.declared.WireValue.TheVariants as wire
use Rattle.wire.specs.declared.Field as code
use Rattle.wire.proofs.WalkLaws.{field-inside}
use Rattle.joined_types.specs.declared.Fate.{Fate}
use Rattle.joined_types.specs.declared.Fate.TheVariants as fate
use Rattle.joined_types.specs.declared.TypeSeen.{TypeSeen}
use Rattle.joined_types.specs.declared.ArgumentSeen.{ArgumentSeen}
use Rattle.schema.specs.told.Alike.{Dropped, SameType, SameArgument, JoinedAs}
use Rattle.joined_types.specs.told.Runs.{RunJoined}
use Rattle.joined_types.specs.told.Fates.{NoArgument, TypeFate, ArgumentFate}
use Rattle.joined_types.proofs.JoiningLaws.{Lasting, Joining, same_field_read, joining_start, joining_run, joining_passed, joining_kept, joining_body, joining_end}
use Rattle.joined_types.proofs.PutBackLaws.{put, put-back, put-joined}
use Rattle.joined_types.proofs.RestLaws.{Unasked}
use Rattle.schema.proofs.AlikeLaws.{alike-itself, type-itself}
use Rattle.joined_types.proofs.TypeRestLaws.{
  TypeRest,
  ArgumentRest,
  types_whole,
  argument_whole,
  type_lasting,
  type_kept,
  type_body,
  type_passed,
  argument_lasting,
  argument_kept,
  argument_body,
  argument_passed,
}

-- In a walk that stands at a place of t, a field that the code has read there.
module _ {t : List ℕ} {at : ℕ} (inside : at ≤ length t) {r : Result (Read code.Field) WireError} (f : FieldAt 0 t at r) {x : Read code.Field} (g : r ≡ Ok x) where
  field_told : FieldTold 0 t (read_field (rest_of 0 t at)) (Ok x)
  field_told = (subst (FieldAt 0 t at) g f).inside inside

  field_steps : (at < x.next) × (x.next ≤ length t)
  field_steps = let i = field-inside 0 t at x field_told inside in (omega arith, i.1)

  field-begins : at < length t
  field-begins = let i = field_steps in omega (arith, i.0, i.1)

  -- the same after the run before it is joined
  module _ {t' : List ℕ} {run : ℕ} (j : RunJoined t t' run at) where
    told-joined : FieldTold 0 t' (read_field (rest_of 0 t' at)) (Ok x)
    told-joined = same_field_read 0 t' t at (sym j.around.after) (sym j.around.many) x inside field_told

    body-inside : {p : Span} → x.value.value ≡ wire.Body p → (p.start ≤ p.end) × (p.end ≤ length t')
    body-inside e = let i = subst (Inside t') e told-joined.1 in (i.0, i.1)

-- After the step fewer bytes are left.
pub walk_falls : {W R R' : Message → Message → Type 0} {s t t' : List ℕ} {run run' at : ℕ} {r : Result (Read code.Field) WireError} {x : Read code.Field}
    → Joining W R s t run at → FieldAt 0 t at r → r ≡ Ok x → Joining W R' s t' run' x.next → length t' - x.next < length t - at
walk_falls w f g z = let i = field_steps (rw w.many w.inside) f g in omega (arith, i.0, i.1, w.many, z.many)

-- The walk over a type's message s, of which t is what it is now.
abbrev pub TypeWalk : ℕ → ℕ → List ℕ → List ℕ → TypeSeen → ℕ → ℕ → Type 0
TypeWalk n levels s t seen = Joining (SameType n levels) (TypeRest (SameType n (levels - 1)) n seen.named seen.flagged) s t

-- at level 0 it stays
pub type_unjoined : (n levels : ℕ) (s : List ℕ) → JoinedAs (SameType n levels) s s
type_unjoined n levels s = record { many = refl; alike = λ base. alike-itself (SameType n levels) (type-itself n levels) (cut (◌from◌ base s)) }

pub type_begin : (n levels : ℕ) (s : List ℕ) → (levels ≡ 0 → ⊥) → TypeWalk n levels s s (record { named = false; flagged = false }) 0 0
type_begin n zero s h = absurd (h refl)
type_begin n (suc k) s h =
    let e : suc k - 1 ≡ k = omega arith in
    rw e (joining_start (SameType n (suc k)) (TypeRest (SameType n k) n false false) s (types_whole n k))

unasked : (n base : ℕ) (t : List ℕ) (v : WireValue) → NoArgument n t (piece_of v) → Unasked (Dropped n) (value_of base t v)
unasked n base t (wire.Varint k) h = tt
unasked n base t (wire.Fixed w k) h = tt
unasked n base t (wire.Body p) h = h (base + p.start)

module _ (n levels : ℕ) {s t : List ℕ} {seen : TypeSeen} {run at : ℕ} (w : TypeWalk n levels s t seen run at) where
  type_inside : at ≤ length t
  type_inside = rw w.many w.inside

  same : (m : Message) → SameType n (levels - 1) m m
  same = type-itself n (levels - 1)

  lasting : Lasting (TypeRest (SameType n (levels - 1)) n seen.named seen.flagged)
  lasting = type_lasting (SameType n (levels - 1)) same n seen.named seen.flagged

  -- the walk is over
  pub type_over : {t' : List ℕ} → RunJoined t t' run at → JoinedAs (SameType n levels) s t'
  type_over j = joining_end lasting.same (joining_run lasting w j)

  module _ {r : Result (Read code.Field) WireError} (f : FieldAt 0 t at r) {x : Read code.Field} (g : r ≡ Ok x) where
    pub type_joins : {d : Fate} → TypeFate n t seen x.value d → d ≡ fate.Joined → TypeWalk n levels s t seen run x.next
    type_joins c e =
        let j = subst (TypeFate n t seen x.value) e c in
        joining_passed lasting w 0 x (field_told type_inside f g) (field-begins type_inside f g) λ base.
        type_passed (SameType n (levels - 1)) same n seen.named seen.flagged (told_field base t x.value) j.named j.flagged λ q. unasked n base t x.value.value (j.argument q)

    module _ {t' : List ℕ} (j : RunJoined t t' run at) where
      begins : at < length t'
      begins = rw j.around.many (field-begins type_inside f g)

      pub type_keeps : {seen' : TypeSeen} → (seen'.named ≡ (seen.named || eqb x.value.number Type-class_name)) × (seen'.flagged ≡ (seen.flagged || eqb x.value.number Type-nullable))
          → TypeWalk n levels s t' seen' x.next x.next
      type_keeps a =
          joining_kept (joining_run lasting w j) 0 x (told-joined type_inside f g j) begins λ base.
          type_kept (SameType n (levels - 1)) same n seen.named seen.flagged (told_field base t' x.value) a.0 a.1

      module _ {d : Fate} (c : TypeFate n t seen x.value d) {p : Span} (e : d ≡ fate.Inner p) where
        is-argument : (x.value.number ≡ Type-argument) × (x.value.value ≡ wire.Body p)
        is-argument = subst (TypeFate n t seen x.value) e c

        type_bounds : (p.start ≤ p.end) × (p.end ≤ length t')
        type_bounds = body-inside type_inside f g j is-argument.1

        pub type_inner : {ys : List ℕ} → JoinedAs (SameArgument n (levels - 1)) (take (p.end - p.start) (drop p.start t')) ys
            → TypeWalk n levels s (put_mid p.start (p.end - p.start) t' ys) seen x.next x.next
        type_inner {ys} a =
            let b = type_bounds in
            let Q = SameArgument n (levels - 1) in
            joining_body (joining_run lasting w j) 0 x (told-joined type_inside f g j) begins is-argument.1 (put-back t' ys p b.0 b.1 Q a) λ base.
            rw is-argument.0
            (type_body (SameType n (levels - 1)) same n seen.named seen.flagged (part_between base t' p.start p.end)
            (part_between base (put t' ys p b.0 b.1) p.start p.end) ((put-joined t' ys p b.0 b.1 Q a).alike (base + p.start)))

-- The walk over an argument's message.
abbrev pub ArgumentWalk : ℕ → ℕ → List ℕ → List ℕ → ArgumentSeen → ℕ → ℕ → Type 0
ArgumentWalk n levels s t seen = Joining (SameArgument n levels) (ArgumentRest (SameType n levels) seen.projected seen.inlined seen.indexed) s t

pub argument_begin : (n levels : ℕ) (s : List ℕ) → ArgumentWalk n levels s s (record { projected = false; inlined = false; indexed = false }) 0 0
argument_begin n levels s =
    joining_start (SameArgument n levels) (ArgumentRest (SameType n levels) false false false) s (argument_whole (SameType n levels))

or_false : (b : Bool) → (b || false) ≡ b
or_false true = refl
or_false false = refl

or_true : (b : Bool) → (b || true) ≡ true
or_true true = refl
or_true false = refl

module _ (n levels : ℕ) {s t : List ℕ} {seen : ArgumentSeen} {run at : ℕ} (w : ArgumentWalk n levels s t seen run at) where
  argument_inside : at ≤ length t
  argument_inside = rw w.many w.inside

  argument-lasting : Lasting (ArgumentRest (SameType n levels) seen.projected seen.inlined seen.indexed)
  argument-lasting = argument_lasting (SameType n levels) (type-itself n levels) seen.projected seen.inlined seen.indexed

  pub argument_over : {t' : List ℕ} → RunJoined t t' run at → JoinedAs (SameArgument n levels) s t'
  argument_over j = joining_end argument-lasting.same (joining_run argument-lasting w j)

  module _ {r : Result (Read code.Field) WireError} (f : FieldAt 0 t at r) {x : Read code.Field} (g : r ≡ Ok x) where
    pub argument_joins : {d : Fate} → ArgumentFate seen x.value d → d ≡ fate.Joined → ArgumentWalk n levels s t seen run x.next
    argument_joins c e =
        let j = subst (ArgumentFate seen x.value) e c in
        joining_passed argument-lasting w 0 x (field_told argument_inside f g) (field-begins argument_inside f g) λ base.
        argument_passed (SameType n levels) (type-itself n levels) seen.projected seen.inlined seen.indexed (told_field base t x.value) j.projected j.inlined j.indexed

    module _ {t' : List ℕ} (j : RunJoined t t' run at) where
      argument-begins : at < length t'
      argument-begins = rw j.around.many (field-begins argument_inside f g)

      module _ {seen' : ArgumentSeen} (a : (seen'.projected ≡ (seen.projected || eqb x.value.number Type-Argument-projection))
          × (seen'.inlined ≡ (seen.inlined || eqb x.value.number Type-Argument-type)) × (seen'.indexed ≡ (seen.indexed || eqb x.value.number Type-Argument-type_id))) where
        pub argument_keeps : ArgumentWalk n levels s t' seen' x.next x.next
        argument_keeps =
            joining_kept (joining_run argument-lasting w j) 0 x (told-joined argument_inside f g j) argument-begins λ base.
            argument_kept (SameType n levels) (type-itself n levels) seen.projected seen.inlined seen.indexed (told_field base t' x.value) a.0 a.1 a.2

        module _ {d : Fate} (c : ArgumentFate seen x.value d) {p : Span} (e : d ≡ fate.Inner p) where
          is-inline : (x.value.number ≡ Type-Argument-type) × (x.value.value ≡ wire.Body p)
          is-inline = subst (ArgumentFate seen x.value) e c

          projected-as : seen'.projected ≡ seen.projected
          projected-as = a.0 ∙ rw is-inline.0 (or_false seen.projected)

          inlined-as : seen'.inlined ≡ true
          inlined-as = a.1 ∙ rw is-inline.0 (or_true seen.inlined)

          indexed-as : seen'.indexed ≡ seen.indexed
          indexed-as = a.2 ∙ rw is-inline.0 (or_false seen.indexed)

          pub argument_inner : {ys : List ℕ} → JoinedAs (SameType n levels) (take (p.end - p.start) (drop p.start t')) ys
              → ArgumentWalk n levels s (put_mid p.start (p.end - p.start) t' ys) seen' x.next x.next
          argument_inner {ys} i =
              let b = body-inside argument_inside f g j is-inline.1 in
              let Q = SameType n levels in
              joining_body (joining_run argument-lasting w j) 0 x (told-joined argument_inside f g j) argument-begins is-inline.1 (put-back t' ys p b.0 b.1 Q i) λ base.
              rw (is-inline.0, projected-as, inlined-as, indexed-as)
              (argument_body Q (type-itself n levels) seen.projected seen.inlined seen.indexed (part_between base t' p.start p.end)
              (part_between base (put t' ys p b.0 b.1) p.start p.end) (ap (λ (k : ℕ). (base + p.start, k)) (sym (put-joined t' ys p b.0 b.1 Q i).many))
              ((put-joined t' ys p b.0 b.1 Q i).alike (base + p.start)))
