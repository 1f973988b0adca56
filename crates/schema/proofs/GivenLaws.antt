-- A type that a reading has given: the bound on nested types decides nothing, and what its message says.
-- Assumes nothing.
use mathlib.Core.Path.{◌≡◌, refl, sym}
use mathlib.Core.Bool.{Bool, true, false}
use mathlib.Core.List.{List, [], ◌∷◌}
use mathlib.Core.Option.{Option, none, some}
use Prim.Native.Nat.{ℕ, zero, suc, ◌+◌}
use lib.Dec.{eqb, ltb}
use lib.ListN.{get_elem?}
use Rattle.std.specs.Prelude.{if◌then◌else◌}
use Rattle.foundation.specs.Choices.{if_some}
use Rattle.foundation.specs.Results.{Res, ok, refused}
use Rattle.foundation.specs.Texts.{Text}
use Rattle.fields.specs.Fields.{Type-argument, Type-nullable, Type-class_name}
use Rattle.wire.specs.Wire.{Message}
use Rattle.wire.specs.Messages.{index, flag, message, messages}
use Rattle.declaration_rows.specs.Declarations.{star, Ty, Argument, types_of}
use Rattle.schema.specs.Reading.{Read, pure, ◌>>=◌, lift, enter, kept, Scope, class_name_in, allowance}
use Rattle.schema.specs.Types.{Walk, max_depth, resolve_at, type_in, projection_in, argument_in, parse_at, type_at}
use Rattle.schema.proofs.FoundLaws.{never_given, bind_given, first-same}

-- What a reading gives, another gives too.
record Upto {A : Type 0} (m m' : Read A) : Type 0 where
  at : (l : ℕ) (r : A × ℕ) → m l ≡ ok r → m' l ≡ ok r

upto_refl : {A : Type 0} (m : Read A) → Upto m m
upto_refl m = record { at = λ l r e. e }

upto_bind : {A B : Type 0} {m m' : Read A} {f f' : A → Read B} → Upto m m' → ((a : A) → Upto (f a) (f' a)) → Upto (m >>= f) (m' >>= f')
upto_bind {m} {m'} {f} {f'} h g = record {
  at = λ l r e. let p = bind_given (m l) (λ q. f q.0 q.1) e in rw (h.at l p.0 p.1) ((g p.0.0).at p.0.1 r p.2);
}

upto_enter : {A : Type 0} {m m' : Read A} → Upto m m' → Upto (enter m) (enter m')
upto_enter {A} {m} {m'} h = record { at = entered }
  where
    entered : (l : ℕ) (r : A × ℕ) → enter m l ≡ ok r → enter m' l ≡ ok r
    entered zero r e = e
    entered (suc l) r e = h.at l r e

upto_if_some : {A B : Type 0} (o : Option A) {m m' : Read B} {f f' : A → Read B} → Upto m m' → ((a : A) → Upto (f a) (f' a))
    → Upto (if_some o m f) (if_some o m' f')
upto_if_some none h g = h
upto_if_some (some a) h g = g a

upto_if : {A : Type 0} (t : Bool) {m m' o o' : Read A} → Upto m m' → Upto o o' → Upto (if t then m else o) (if t then m' else o')
upto_if true h g = h
upto_if false h g = g

upto_kept : {A : Type 0} {f f' : Message → Read (Option A)} → ((m : Message) → Upto (f m) (f' m)) → (ms : List Message) → Upto (kept f ms) (kept f' ms)
unfolding kept
upto_kept h [] = upto_refl (pure [])
upto_kept h (m ∷ ms) = upto_bind (h m) λ a. upto_bind (upto_kept h ms) λ xs. upto_refl _

module _ (w w' : Walk) (h : (d : ℕ) (m : Message) → Upto (w d m) (w' d m)) (s : Scope) where
  upto-resolve_at : (d i : ℕ) → Upto (resolve_at w s d i) (resolve_at w' s d i)
  unfolding resolve_at
  upto-resolve_at d i =
      let found = upto_if_some (get_elem? s.table.types i) (upto_refl (pure none)) λ m. upto_bind (h (d + 1) m) λ t. upto_refl _ in
      upto_if (ltb d max_depth) found (upto_refl (pure none))

  upto-argument_in : (d : ℕ) (m : Message) → Upto (argument_in w s d m) (argument_in w' s d m)
  unfolding argument_in type_in
  upto-argument_in d m =
      upto_if (eqb (projection_in m) star) (upto_refl _) (
      upto_bind (
      upto_bind (upto_refl (lift (message _ m))) λ t.
      upto_if_some t (upto_if_some (index _ m) (upto_refl (pure none)) (upto-resolve_at d)) λ i. upto_bind (h d i) λ it. upto_refl _) λ t. upto_refl _)

  upto-parse_at : (d : ℕ) (m : Message) → Upto (parse_at w s d m) (parse_at w' s d m)
  unfolding parse_at
  upto-parse_at d m =
      upto_enter (
      upto_bind (upto_refl (lift (messages _ m))) λ arguments. upto_bind (upto_kept (upto-argument_in (d + 1)) arguments) λ ts. upto_refl _)

-- What is given within a bound is given within the next.
more_fuel : (k : ℕ) (s : Scope) (d : ℕ) (m : Message) → Upto (type_at k s d m) (type_at (suc k) s d m)
unfolding type_at
more_fuel zero s d m = record { at = λ l r e. never_given e }
more_fuel (suc k) s d m = upto-parse_at (type_at k s) (type_at (suc k) s) (more_fuel k s) s d m

lift-given : {A B : Type 0} (r : Res A) (f : A → Read B) (l : ℕ) {b : B × ℕ} → (lift r >>= f) l ≡ ok b → (a : A) × (r ≡ ok a) × (f a l ≡ ok b)
lift-given (ok a) f l e = (a, refl, e)
lift-given (refused c p) f l e = never_given e

-- of a type that is given: its arguments' messages, the kept arguments, its name
pub record Entered (c : Scope) (d : ℕ) (m : Message) (t : Ty) : Type 0 where
  pub arguments : List Message
  pub cuts : messages Type-argument m ≡ ok arguments
  pub types : List Argument
  pub before : ℕ
  pub between : ℕ
  pub given : kept (argument_in (type_at allowance c) c (d + 1)) arguments before ≡ ok (types, between)
  pub name : Option Text
  pub after : ℕ
  pub named : class_name_in c Type-class_name m between ≡ ok (name, after)
  pub is : t ≡ record { nullable = flag Type-nullable m; name = name; arguments = types_of types }

parsed : (c : Scope) (d : ℕ) (m : Message) (t : Ty) (l b : ℕ) → parse_at (type_at allowance c) c d m l ≡ ok (t, b) → Entered c d m t
unfolding parse_at
parsed c d m t zero b e = never_given e
parsed c d m t (suc l) b e =
    let typed : List Argument → Option Text → Ty = λ ts name. record { nullable = flag Type-nullable m; name = name; arguments = types_of ts } in
    let named : List Argument → Read Ty = λ ts. class_name_in c Type-class_name m >>= λ name. pure (typed ts name) in
    let p = lift-given (messages Type-argument m) (λ ms. kept (argument_in (type_at allowance c) c (d + 1)) ms >>= named) l e in
    let q = bind_given (kept (argument_in (type_at allowance c) c (d + 1)) p.0 l) (λ r. named r.0 r.1) p.2 in
    let r = bind_given (class_name_in c Type-class_name m q.0.1) (λ r. pure (typed q.0.0 r.0) r.1) q.2 in
    record {
      arguments = p.0;
      cuts = p.1;
      types = q.0.0;
      before = l;
      between = q.0.1;
      given = q.1;
      name = r.0.0;
      after = r.0.1;
      named = r.1;
      is = sym (first-same r.2);
    }

pub type_entered : (c : Scope) (d : ℕ) (m : Message) (t : Ty) (l b : ℕ) → type_at allowance c d m l ≡ ok (t, b) → Entered c d m t
unfolding type_at
type_entered c d m t l b e = parsed c d m t l b ((more_fuel allowance c d m).at l (t, b) e)
