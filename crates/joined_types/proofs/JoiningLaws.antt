-- A walk over a message that joins the runs of fields which no reading asks for. What is known at a place looks forward: if what is left from there on is alike,
-- then the whole is.
-- Assumes nothing.
use mathlib.Core.Path.{◌≡◌, refl, ap, sym, ◌∙◌}
use mathlib.Core.List.{List, ◌∷◌}
use Prim.Native.Nat.{ℕ, ◌+◌, ◌-◌, ◌≤◌, ◌<◌}
use native.Mathlib.Omega.{arith}
use lib.ListN.{length, take, drop}
use lib.Seq.{drop-drop}
use Rattle.std.specs.Prelude.{Ok}
use Rattle.foundation.specs.Results.{Res, ok, refused, ◌>>=◌, ◌from◌, got}
use Rattle.foundation.specs.declared.Read.{Read}
use Rattle.foundation.specs.declared.Span.{Span}
use Rattle.foundation.proofs.ResultLaws.{gives-ok}
use Rattle.wire.specs.Wire.{Value, body, Field, field, read_field, Message, cut}
use Rattle.wire.specs.told.WireTold.{rest_of, part_between, value_of, told_field, Inside, FieldTold}
use Rattle.wire.specs.declared.WireValue.{WireValue}
use Rattle.wire.specs.declared.WireValue.TheVariants as wire
use Rattle.wire.specs.declared.Field as code
use Rattle.wire.proofs.Later.{Later, field-later}
use Rattle.wire.proofs.WalkLaws.{whole, field-inside, cut_field}
use Rattle.messages.proofs.BodyLaws.{body_next}
use Rattle.schema.specs.told.Alike.{Alike, JoinedAs}
use Rattle.joined_types.specs.told.Runs.{SameAround, OneField, unchanged, one_field, RunJoined, joined_field}
use Rattle.schema.proofs.AlikeLaws.{alike-itself, alike_weaken}
use Rattle.joined_types.proofs.FieldLaws.{take_fewer, take_later, goes_by, field_kept, field_anywhere}

-- A relation of two messages that holds with one field more before each of them, or before the first alone.
abbrev pub Carries : (Message → Message → Type 0) → (Message → Message → Type 0) → Field → Field → Type 0
Carries R' R f f' = (m m' : Message) → R' m m' → R (f ∷ m) (f' ∷ m')

abbrev pub Passes : (Message → Message → Type 0) → Field → Type 0
Passes R f = (m m' : Message) → R m m' → R (f ∷ m) m'

-- A relation that holds of a message and itself, with any field before both, and with a joined field before the second.
pub record Lasting (R : Message → Message → Type 0) : Type 0 where
  pub same : (m : Message) → R m m
  pub either : (f : Field) → Carries R R f f
  pub joined : (v : Value) (m m' : Message) → R m m' → R m (field 15 v ∷ m')

-- the same of readings
alike_both : (R' R : Message → Message → Type 0) (f f' : Field) (r r' : Res Message) → Carries R' R f f' → Alike R' r r'
    → Alike R (r >>= λ m. ok (f ∷ m)) (r' >>= λ m. ok (f' ∷ m))
alike_both R' R f f' (ok m) (ok m') k a = k m m' a
alike_both R' R f f' (ok m) (refused c p) k a = a
alike_both R' R f f' (refused c p) r' k a = ap (λ (r : Res Message). r >>= λ m. ok (f' ∷ m)) a

alike_old : (R : Message → Message → Type 0) (f : Field) (r r' : Res Message) → Passes R f → Alike R r r' → Alike R (r >>= λ m. ok (f ∷ m)) r'
alike_old R f (ok m) (ok m') k a = k m m' a
alike_old R f (ok m) (refused c p) k a = a
alike_old R f (refused c p) r' k a = a

alike_new : (R : Message → Message → Type 0) (f : Field) (r r' : Res Message) → ((m m' : Message) → R m m' → R m (f ∷ m')) → Alike R r r'
    → Alike R r (r' >>= λ m. ok (f ∷ m))
alike_new R f (ok m) (ok m') k a = k m m' a
alike_new R f (ok m) (refused c p) k a = a
alike_new R f (refused c p) r' k a = ap (λ (r : Res Message). r >>= λ m. ok (f ∷ m)) a

-- what is left of s from a place on, and of t from another
abbrev pub AlikeFrom : (Message → Message → Type 0) → List ℕ → ℕ → List ℕ → ℕ → Type 0
AlikeFrom R s a t b = (base : ℕ) → Alike R (cut (rest_of base s a)) (cut (rest_of base t b))

-- A message was s and is t now. The walk stands at the place `at`; the fields from `run` to there are not joined yet, and from `run` on nothing has changed.
-- Let u be what the message becomes. If R holds of what is left of s from `at` on and of what is left of u, W holds of s and u: if the run became one field,
-- that is left of u from `run` on but for that field; if it stays, from `at` on.
pub record Joining (W R : Message → Message → Type 0) (s t : List ℕ) (run at : ℕ) : Type 0 where
  pub many : length t ≡ length s
  pub rest : drop run t ≡ drop run s
  pub order : run ≤ at
  pub inside : at ≤ length s
  pub one : (u : List ℕ) → length u ≡ length s → take run u ≡ take run t → AlikeFrom R s at u run → JoinedAs W s u
  pub stays : (u : List ℕ) → length u ≡ length s → take at u ≡ take at t → AlikeFrom R s at u at → JoinedAs W s u

pub joining_start : (W R : Message → Message → Type 0) (s : List ℕ) → ((m m' : Message) → R m m' → W m m') → Joining W R s s 0 0
joining_start W R s h = record {
  many = refl;
  rest = refl;
  order = omega arith;
  inside = omega arith;
  one = λ u n e a. all u n a;
  stays = λ u n e a. all u n a;
}
  where
    all : (u : List ℕ) → length u ≡ length s → AlikeFrom R s 0 u 0 → JoinedAs W s u
    all u n a = record {
      many = n;
      alike = λ base. alike_weaken R W (cut (◌from◌ base s)) (cut (◌from◌ base u)) h (rw (← whole base s, ← whole base u) (a base));
    }

-- at the end, and at a field that is refused
pub joining_end : {W R : Message → Message → Type 0} {s t : List ℕ} {at : ℕ} → ((m : Message) → R m m) → Joining W R s t at at → JoinedAs W s t
joining_end {W} {R} {s} {t} {at} h j = j.stays t j.many refl λ base. rw j.rest (alike-itself R h (cut (rest_of base s at)))

pub drop_later : (j k : ℕ) (s t : List ℕ) → j ≤ k → drop j t ≡ drop j s → drop k t ≡ drop k s
drop_later j k s t h e =
    let n : j + (k - j) ≡ k = omega arith in
    rw (← n, ← drop-drop (k - j) j t, ← drop-drop (k - j) j s, e)

-- A field that is read at a place of t, in an s that is the same from there on.
module _ (base : ℕ) (s t : List ℕ) (at : ℕ) (e : drop at t ≡ drop at s) (many : length t ≡ length s) where
  same_value : (v : WireValue) → Inside t v → Later (base + at) (value_of base t v) → (value_of base t v ≡ value_of base s v) × Inside s v
  same_value (wire.Varint n) i l = (refl, tt)
  same_value (wire.Fixed w n) i l = (refl, tt)
  same_value (wire.Body p) i l =
      let f : drop p.start t ≡ drop p.start s = drop_later at p.start s t (omega arith) e in
      (ap (λ (bs : List ℕ). body (◌from◌ (base + p.start) (take (p.end - p.start) bs))) f, (i.0, omega (arith, i.1), i.2))

  module _ (x : Read code.Field) (h : at ≤ length t) (f : FieldTold base t (read_field (rest_of base t at)) (Ok x)) where
    is_same : (value_of base t x.value.value ≡ value_of base s x.value.value) × Inside s x.value.value
    is_same = same_value x.value.value f.1 (gives-ok (λ g. Later (base + at) g.0.value) f.0 (field-later (rest_of base t at)))

    same_told : told_field base t x.value ≡ told_field base s x.value
    same_told = ap (λ (v : Value). field x.value.number v) is_same.0

    pub same_field_read : FieldTold base s (read_field (rest_of base s at)) (Ok x)
    same_field_read =
        let i = field-inside base t at x f h in
        let to : drop x.next t ≡ drop x.next s = drop_later at x.next s t (omega arith) e in
        let place : rest_of base t at ≡ rest_of base s at = ap (λ (bs : List ℕ). ◌from◌ (base + at) bs) e in (
          ap read_field (sym place) ∙ f.0 ∙ ap (λ (g : Field). got g (rest_of base t x.next)) same_told
              ∙ ap (λ (bs : List ℕ). got (told_field base s x.value) (◌from◌ (base + x.next) bs)) to,
          is_same.1,
        )

-- A field that is read at a place of t, in a t' that is the same up to its body or its end, and in a u that is as t' up to its end.
module _ (b : ℕ) (t : List ℕ) (at : ℕ) (x : Read code.Field) (e : FieldTold b t (read_field (rest_of b t at)) (Ok x)) where
  -- the end of a body is the field's end
  body_ends : (v : WireValue) → x.value.value ≡ v → Inside t v → goes_by v x.next ≤ x.next
  body_ends (wire.Varint n) g i = omega arith
  body_ends (wire.Fixed w n) g i = omega arith
  body_ends (wire.Body p) g i = let n = body_next b t at x e g in omega (arith, i.0)

  goes-in : goes_by x.value.value x.next ≤ x.next
  goes-in = body_ends x.value.value refl e.1

  body_begins : (v : WireValue) → at < x.next → Later (b + at) (value_of b t v) → at < goes_by v x.next
  body_begins (wire.Varint n) h l = h
  body_begins (wire.Fixed w n) h l = h
  body_begins (wire.Body p) h l = omega arith

  goes-on : at < length t → at < goes_by x.value.value x.next
  goes-on h =
      let i = field-inside b t at x e (omega arith) in
      body_begins x.value.value (omega arith) (gives-ok (λ g. Later (b + at) g.0.value) e.0 (field-later (rest_of b t at)))

  module _ (t' u : List ℕ) (many : length u ≡ length t) (first : take (goes_by x.value.value x.next) t' ≡ take (goes_by x.value.value x.next) t)
      (whole : take x.next u ≡ take x.next t') (base : ℕ) where
    as-read : (v : WireValue) → x.value.value ≡ v → Inside t v → value_of base u v ≡ value_of base t' v
    as-read (wire.Varint n) g i = refl
    as-read (wire.Fixed w n) g i = refl
    as-read (wire.Body p) g i =
        let n = body_next b t at x e g in
        let to : x.next ≡ p.start + (p.end - p.start) = omega (arith, i.0) in
        let f : take (p.start + (p.end - p.start)) u ≡ take (p.start + (p.end - p.start)) t' = rw (← to) whole in
        ap (λ (bs : List ℕ). body (◌from◌ (base + p.start) bs)) (take_later p.start (p.end - p.start) u t' f)

    as-told : told_field base u x.value ≡ told_field base t' x.value
    as-told = ap (λ (v : Value). field x.value.number v) (as-read x.value.value refl e.1)

    there : FieldTold base u (read_field (rest_of base u at)) (Ok x)
    there = field_kept b t u at x e many (take_fewer (goes_by x.value.value x.next) x.next u t' goes-in whole ∙ first) base

    cut-there : at < length t → cut (rest_of base u at) ≡ (cut (rest_of base u x.next) >>= λ m. ok (told_field base t' x.value ∷ m))
    cut-there h = rw (sym as-told) (cut_field base u at x there (omega arith))

module _ {W R : Message → Message → Type 0} {s t : List ℕ} {run at : ℕ} (j : Joining W R s t run at) where
  old-rest : drop at t ≡ drop at s
  old-rest = drop_later run at s t j.order j.rest

  module _ (b : ℕ) (x : Read code.Field) (e : FieldTold b t (read_field (rest_of b t at)) (Ok x)) (h : at < length t) where
    in-old : (base : ℕ) → FieldTold base s (read_field (rest_of base s at)) (Ok x)
    in-old base = same_field_read base s t at old-rest j.many x (omega arith) (field_anywhere b t at x e base)

    old-told : (base : ℕ) → told_field base t x.value ≡ told_field base s x.value
    old-told base = same_told base s t at old-rest j.many x (omega arith) (field_anywhere b t at x e base)

    old_cut : (base : ℕ) → cut (rest_of base s at) ≡ (cut (rest_of base s x.next) >>= λ m. ok (told_field base t x.value ∷ m))
    old_cut base = rw (old-told base) (cut_field base s at x (in-old base) (omega (arith, j.many)))

-- what is not kept
module _ {W R : Message → Message → Type 0} {s t : List ℕ} {run at : ℕ} (l : Lasting R) (j : Joining W R s t run at) where
  -- the run becomes one field, or stays as it is
  pub joining_run : {t' : List ℕ} → RunJoined t t' run at → Joining W R s t' at at
  joining_run {t'} r = record {
    many = r.around.many ∙ j.many;
    rest = r.around.after ∙ old-rest j;
    order = omega arith;
    inside = j.inside;
    one = λ u n f a. next u n f a r.run;
    stays = λ u n f a. next u n f a r.run;
  }
    where
      next : (u : List ℕ) → length u ≡ length s → take at u ≡ take at t' → AlikeFrom R s at u at → OneField t t' run at → JoinedAs W s u
      next u n f a (unchanged e) = j.stays u n (f ∙ ap (take at) e) a
      next u n f a (one_field e) =
          let x = joined_field run at in
          let many : length u ≡ length t' = n ∙ sym (r.around.many ∙ j.many) in
          let i = field-inside 0 t' run x (e 0) (omega (arith, j.order, j.inside)) in
          j.one u n (take_fewer run at u t' j.order f ∙ r.around.before) λ base.
          rw (cut-there 0 t' run x (e 0) t' u many refl f base (omega arith))
          (alike_new R (told_field base t' x.value) (cut (rest_of base s at)) (cut (rest_of base u at)) (l.joined (value_of base t' x.value.value)) (a base))

  -- the step over a field that is not kept
  module _ (b : ℕ) (x : Read code.Field) (e : FieldTold b t (read_field (rest_of b t at)) (Ok x)) (h : at < length t) where
    pub joining_passed : ((base : ℕ) → Passes R (told_field base t x.value)) → Joining W R s t run x.next
    joining_passed p =
        let i = field-inside b t at x e (omega arith) in
        record {
          many = j.many;
          rest = j.rest;
          order = omega (arith, j.order);
          inside = omega (arith, j.many);
          one = λ u n f a. j.one u n f λ base. rw (old_cut j b x e h base) (alike_old R (told_field base t x.value) (cut (rest_of base s x.next)) (cut (rest_of base u run)) (p base) (a base));
          stays = λ u n f a. j.stays u n (take_fewer at x.next u t (omega arith) f) λ base.
              rw (old_cut j b x e h base, cut-there b t at x e t u (n ∙ sym j.many) refl f base h)
              (alike_both R R (told_field base t x.value) (told_field base t x.value) (cut (rest_of base s x.next)) (cut (rest_of base u x.next)) (l.either (told_field base t x.value)) (a base));
        }

-- the step over a field that is kept: what stands before it is joined, and its body, if it has one, may become another
module _ {W R R' : Message → Message → Type 0} {s t : List ℕ} {at : ℕ} (j : Joining W R s t at at) (b : ℕ) (x : Read code.Field)
    (e : FieldTold b t (read_field (rest_of b t at)) (Ok x)) (h : at < length t) where
  joining-field : (t' : List ℕ) → length t' ≡ length t → take (goes_by x.value.value x.next) t' ≡ take (goes_by x.value.value x.next) t → drop x.next t' ≡ drop x.next t
      → ((base : ℕ) → Carries R' R (told_field base t x.value) (told_field base t' x.value)) → Joining W R' s t' x.next x.next
  joining-field t' many first after k =
      let i = field-inside b t at x e (omega arith) in
      record {
        many = many ∙ j.many;
        rest = after ∙ drop_later at x.next s t (omega arith) j.rest;
        order = omega arith;
        inside = omega (arith, j.many);
        one = next;
        stays = next;
      }
    where
      next : (u : List ℕ) → length u ≡ length s → take x.next u ≡ take x.next t' → AlikeFrom R' s x.next u x.next → JoinedAs W s u
      next u n f a =
          let m : length u ≡ length t = n ∙ sym j.many in
          let g = goes-on b t at x e h in
          let before = take_fewer at (goes_by x.value.value x.next) u t (omega arith)
          (take_fewer (goes_by x.value.value x.next) x.next u t' (goes-in b t at x e) f ∙ first) in
          j.stays u n before λ base.
          rw (old_cut j b x e h base, cut-there b t at x e t' u m first f base h)
          (alike_both R' R (told_field base t x.value) (told_field base t' x.value) (cut (rest_of base s x.next)) (cut (rest_of base u x.next)) (k base) (a base))

  pub joining_kept : ((base : ℕ) → Carries R' R (told_field base t x.value) (told_field base t x.value)) → Joining W R' s t x.next x.next
  joining_kept k = joining-field t refl refl refl k

  pub joining_body : {p : Span} {t' : List ℕ} → x.value.value ≡ wire.Body p → SameAround t t' p.start p.end
      → ((base : ℕ) → Carries R' R (field x.value.number (body (part_between base t p.start p.end))) (field x.value.number (body (part_between base t' p.start p.end))))
      → Joining W R' s t' x.next x.next
  joining_body {p} {t'} g a k =
      let first : take (goes_by x.value.value x.next) t' ≡ take (goes_by x.value.value x.next) t = rw g a.before in
      let after : drop x.next t' ≡ drop x.next t = rw (← body_next b t at x e g) a.after in
      joining-field t' a.many first after λ base. rw g (k base)
