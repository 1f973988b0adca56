-- The rows of arguments that wait, and what each step leaves of them.
-- Assumes nothing.
use mathlib.Core.Path.{◌≡◌, refl, ap, sym, subst, ◌∙◌}
use mathlib.Core.Bool.{false}
use mathlib.Core.List.{List, [], ◌∷◌, ◌++◌, append-nil, append_assoc}
use mathlib.Core.Option.{Option, none, some}
use Prim.Native.Nat.{ℕ, zero, suc, ◌+◌}
use native.Mathlib.Omega.{arith}
use Rattle.foundation.specs.Choices.{map_option}
use Rattle.foundation.specs.Results as Results
use Rattle.foundation.specs.Results.{Res, ok, refused, Cause}
use Rattle.fields.specs.Fields.{Type-Argument-type, Type-Argument-type_id}
use Rattle.wire.specs.Wire.{Message}
use Rattle.wire.specs.Messages.{message, index}
use Rattle.wire.proofs.WalkLaws.{ok_same}
use Rattle.sheet.specs.Rows.{Row, sheet_from, texts}
use Rattle.sheet.specs.told.Put.{PutRows}
use Rattle.sheet.specs.declared.State.{State}
use Rattle.sheet.proofs.PutLaws.{put_none, rows_then}
use Rattle.declaration_rows.specs.Declarations.{star, Ty, Argument, projected, blank}
use Rattle.schema.specs.Reading.{Read, pure, enter, keep, kept, Scope, allowance}
use Rattle.schema.specs.Types.{resolve_at, type_in, projection_in, argument_in, type_at}
use Rattle.declaration_rows.specs.Rows.{argument_role, types_rows}
use Rattle.schema.specs.told.ArgumentTold.{NoStar}
use Rattle.schema.specs.told.SchemaTold.{WalkedTold, PickedTold}
use Rattle.schema.specs.told.TypesTold.{or_nullable, rows_in, picked_of}
use Rattle.schema.proofs.ArgumentLaws.{types_cons, argument-star, argument-typed}
use Rattle.type_references.specs.told.Pending.{rows_read, prefixed, shown_rows, kept_rows, argument_rows, Wait, waits, pending}
use Rattle.std.specs.declared.option.Option.TheVariants.{Some, None}
use Rattle.std.specs.declared.result.Result.TheVariants.{Ok, Err}
use Rattle.schema.specs.told.SchemaTold.{Walked, Picked}

-- Some rows, then those that are read.
pub prefixed_none : (r : Res (List Row × ℕ)) → prefixed [] r ≡ r
prefixed_none (ok r) = refl
prefixed_none (refused k p) = refl

pub prefixed-both : (a b : List Row) (r : Res (List Row × ℕ)) → prefixed (a ++ b) r ≡ prefixed a (prefixed b r)
prefixed-both a b (ok r) = rw (append_assoc a b r.0)
prefixed-both a b (refused k p) = refl

-- What was read, from the rows that it comes to.
module _ {A : Type 0} (rows : A → List Row) where
  pub rows_ok : (r : Res (A × ℕ)) {R : List Row} {b : ℕ} → rows_read rows r ≡ ok (R, b) → (a : A) × (r ≡ ok (a, b)) × (rows a ≡ R)
  rows_ok (ok r) {R} {b} e =
      let f : ◌≡◌ {A = List Row × ℕ} (rows r.0, r.1) (R, b) = ok_same e in
      (r.0, ap (λ (q : List Row × ℕ). ok (r.0, q.1)) f, ap (λ (q : List Row × ℕ). q.0) f)
  rows_ok (refused k p) e = let z : ◌≡◌ {A = ℕ} 0 1 = cc in absurd (omega arith)

  pub rows-refused : (r : Res (A × ℕ)) {k : Cause} {p : ℕ} → rows_read rows r ≡ refused k p → r ≡ refused k p
  rows-refused (ok r) e = let z : ◌≡◌ {A = ℕ} 0 1 = cc in absurd (omega arith)
  rows-refused (refused k p) e = cc

  -- rows that are written
  pub walked-done : (r : Res (A × ℕ)) {R : List Row} {b : ℕ} → rows_read rows r ≡ ok (R, b) → {s s' : State} {S S' T T' : List ℕ}
      → PutRows R b s s' S S' T T' → WalkedTold r rows s (Ok s') S S' T T'
  walked-done r {R} {b} e {s} {s'} {S} {S'} {T} {T'} p =
      let f = rows_ok r e in
      (f.0, b, f.1, subst (λ (rs : List Row). PutRows rs b s s' S S' T T') (sym f.2) p)

  -- rows of its own, then those of another reading
  pub walked_then : {B : Type 0} (rows' : B → List Row) (r : Res (A × ℕ)) (r' : Res (B × ℕ)) (own : List Row) → rows_read rows r ≡ prefixed own (rows_read rows' r')
      → {s s₁ : State} {S S₁ T T₁ : List ℕ} → PutRows own s₁.types s s₁ S S₁ T T₁ → (w : Walked) (S₂ T₂ : List ℕ) → WalkedTold r' rows' s₁ w S₁ S₂ T₁ T₂
      → WalkedTold r rows s w S S₂ T T₂
  walked_then rows' r r' own e p (Ok s') S₂ T₂ (a, b, f, q) = walked-done r (e ∙ rw f) (rows_then own (rows' a) p q)
  walked_then rows' r r' own e p (Err stop) S₂ T₂ f = rows-refused r (e ∙ rw f)

-- some rows, then those of what is read after them
abbrev followed : Res (List Row × ℕ) → Read (List Row) → Res (List Row × ℕ)
followed (ok r) later = prefixed r.0 (later r.1)
followed (refused k p) later = refused k p

followed_prefixed : (own : List Row) (r : Res (List Row × ℕ)) (later : Read (List Row)) → followed (prefixed own r) later ≡ prefixed own (followed r later)
followed_prefixed own (ok r) later = prefixed-both own r.0 (later r.1)
followed_prefixed own (refused k p) later = refl

followed_both : (r : Res (List Row × ℕ)) (f g : Read (List Row)) → followed (followed r f) g ≡ followed r (λ b. followed (f b) g)
followed_both (ok r) f g = followed_prefixed r.0 (f r.1) g
followed_both (refused k p) f g = refl

-- the type of an argument, and the argument that a type makes
abbrev pub argument_type : Scope → ℕ → Message → Read (Option Ty)
argument_type c d m = type_in (type_at allowance c) c d Type-Argument-type Type-Argument-type_id m

abbrev pub with_projection : ℕ → Res (Option Ty × ℕ) → Res (Option Argument × ℕ)
with_projection p r = Results.◌>>=◌ r λ q. pure (map_option (projected p) q.0) q.1

-- of an argument, and of those after it
kept_rows_lem : (f : Message → Read (Option Argument)) (m : Message) (ms : List Message) (l : ℕ)
    → rows_read argument_rows (kept f (m ∷ ms) l) ≡ followed (rows_read kept_rows (f m l)) λ b. rows_read argument_rows (kept f ms b)
unfolding kept
kept_rows_lem f m ms l = go (f m l)
  where
    one : (o : Option Argument) (r : Res (List Argument × ℕ))
        → rows_read argument_rows (Results.◌>>=◌ r λ q. pure (keep o q.0) q.1) ≡ prefixed (kept_rows o) (rows_read argument_rows r)
    one none (ok q) = refl
    one (some t) (ok q) = ap (λ (rs : List Row). ok (rs, q.1)) (sym (types_cons argument_role t q.0))
    one o (refused k p) = refl

    go : (r : Res (Option Argument × ℕ))
        → rows_read argument_rows (Results.◌>>=◌ r λ a. Results.◌>>=◌ (kept f ms a.1) λ q. pure (keep a.0 q.0) q.1)
        ≡ followed (rows_read kept_rows r) λ b. rows_read argument_rows (kept f ms b)
    go (ok a) = one a.0 (kept f ms a.1)
    go (refused k p) = refl

module _ (c : Scope) (d : ℕ) (ws : List Wait) (l : ℕ) where
  -- the rows of the innermost arguments, then those of the others
  pending-is : (ms : List Message) → pending c (waits d ms ∷ ws) l ≡ followed (rows_read argument_rows (kept (argument_in (type_at allowance c) c d) ms l)) (pending c ws)
  unfolding pending
  pending-is ms = go (kept (argument_in (type_at allowance c) c d) ms l)
    where
      one : (rs : List Row) (r : Res (List Row × ℕ)) → Results.◌>>=◌ r (λ q. pure (rs ++ q.0) q.1) ≡ prefixed rs r
      one rs (ok q) = refl
      one rs (refused k p) = refl

      go : (r : Res (List Argument × ℕ))
          → Results.◌>>=◌ r (λ a. Results.◌>>=◌ (pending c ws a.1) λ q. pure (argument_rows a.0 ++ q.0) q.1) ≡ followed (rows_read argument_rows r) (pending c ws)
      go (ok a) = one (argument_rows a.0) (pending c ws a.1)
      go (refused k p) = refl

  pub pending-end : pending c (waits d [] ∷ ws) l ≡ pending c ws l
  unfolding kept types_rows
  pending-end = pending-is [] ∙ prefixed_none (pending c ws l)

module _ (c : Scope) (d : ℕ) (ws : List Wait) (l : ℕ) (m : Message) (ms : List Message) where
  pending-first : pending c (waits d (m ∷ ms) ∷ ws) l
      ≡ followed (rows_read kept_rows (argument_in (type_at allowance c) c d m l)) (pending c (waits d ms ∷ ws))
  pending-first =
      pending-is c d ws l (m ∷ ms)
      ∙ ap (λ (r : Res (List Row × ℕ)). followed r (pending c ws)) (kept_rows_lem (argument_in (type_at allowance c) c d) m ms l)
      ∙ followed_both (rows_read kept_rows (argument_in (type_at allowance c) c d m l)) (λ b. rows_read argument_rows (kept (argument_in (type_at allowance c) c d) ms b)) (pending c ws)
      ∙ go (rows_read kept_rows (argument_in (type_at allowance c) c d m l))
    where
      go : (r : Res (List Row × ℕ))
          → followed r (λ b. followed (rows_read argument_rows (kept (argument_in (type_at allowance c) c d) ms b)) (pending c ws)) ≡ followed r (pending c (waits d ms ∷ ws))
      go (ok r) = ap (prefixed r.0) (sym (pending-is c d ws r.1 ms))
      go (refused k p) = refl

  pub pending-dropped : argument_in (type_at allowance c) c d m l ≡ ok (none, l) → pending c (waits d (m ∷ ms) ∷ ws) l ≡ pending c (waits d ms ∷ ws) l
  pending-dropped e = pending-first ∙ rw e (prefixed_none (pending c (waits d ms ∷ ws) l))

  pub pending-kept : {a : Argument} {b : ℕ} → argument_in (type_at allowance c) c d m l ≡ ok (some a, b)
      → pending c (waits d (m ∷ ms) ∷ ws) l ≡ prefixed (shown_rows a) (pending c (waits d ms ∷ ws) b)
  pending-kept e = pending-first ∙ rw e

  pub pending-refused : {k : Cause} {p : ℕ} → argument_in (type_at allowance c) c d m l ≡ refused k p → pending c (waits d (m ∷ ms) ∷ ws) l ≡ refused k p
  pending-refused e = pending-first ∙ rw e

  -- a type inline
  inline-rows : {p : ℕ} → NoStar p m → {inner : Message} → message Type-Argument-type m ≡ ok (some inner)
      → rows_read kept_rows (argument_in (type_at allowance c) c d m l)
      ≡ rows_read (λ t. rows_in argument_role p (or_nullable false t)) (type_at allowance c d inner l)
  unfolding type_in
  inline-rows {p} n {inner} e =
      ap (λ (r : Read (Option Argument)). rows_read kept_rows (r l)) (argument-typed (type_at allowance c) c d m n)
      ∙ rw e (go (type_at allowance c d inner l))
    where
      go : (r : Res (Ty × ℕ))
          → rows_read kept_rows (with_projection p (Results.◌>>=◌ r λ q. pure (some q.0) q.1)) ≡ rows_read (λ t. rows_in argument_role p (or_nullable false t)) r
      go (ok r) = refl
      go (refused k p) = refl

  pub pending-entered : {p : ℕ} → NoStar p m → {inner : Message} → message Type-Argument-type m ≡ ok (some inner) → (own : List Row) (ms' : List Message) (l' : ℕ)
      → rows_read (λ t. rows_in argument_role p (or_nullable false t)) (type_at allowance c d inner l)
      ≡ prefixed own (rows_read argument_rows (kept (argument_in (type_at allowance c) c (d + 1)) ms' l'))
      → pending c (waits d (m ∷ ms) ∷ ws) l ≡ prefixed own (pending c (waits (d + 1) ms' ∷ (waits d ms ∷ ws)) l')
  pending-entered n {inner} e own ms' l' f =
      let inside = rows_read argument_rows (kept (argument_in (type_at allowance c) c (d + 1)) ms' l') in
      pending-first
      ∙ ap (λ (r : Res (List Row × ℕ)). followed r (pending c (waits d ms ∷ ws))) (inline-rows n e ∙ f)
      ∙ followed_prefixed own inside (pending c (waits d ms ∷ ws))
      ∙ ap (prefixed own) (sym (pending-is c (d + 1) (waits d ms ∷ ws) l' ms'))

-- A star.
pub star-read : (c : Scope) (d : ℕ) (m : Message) (l : ℕ) → projection_in m ≡ star → {r : Res (Argument × ℕ)} → enter (pure (projected star blank)) l ≡ r
    → argument_in (type_at allowance c) c d m l ≡ Results.◌>>=◌ r λ q. pure (some q.0) q.1
star-read c d m l h {r} e = ap (λ (x : Read (Option Argument)). x l) (argument-star (type_at allowance c) c d m h) ∙ go l e
  where
    go : (l : ℕ) → enter (pure (projected star blank)) l ≡ r → enter (pure (some (projected star blank))) l ≡ Results.◌>>=◌ r λ q. pure (some q.0) q.1
    go zero f = ap (λ (x : Res (Argument × ℕ)). Results.◌>>=◌ x λ q. pure (some q.0) q.1) f
    go (suc l) f = ap (λ (x : Res (Argument × ℕ)). Results.◌>>=◌ x λ q. pure (some q.0) q.1) f

-- The type of another argument, by where it is.
module _ (c : Scope) (d : ℕ) (m : Message) (l : ℕ) where
  type-uncut : {k : Cause} {p : ℕ} → message Type-Argument-type m ≡ refused k p → argument_type c d m l ≡ refused k p
  unfolding type_in
  type-uncut e = rw e

  type-unentered : {inner : Message} → message Type-Argument-type m ≡ ok (some inner) → {k : Cause} {p : ℕ}
      → type_at allowance c d inner l ≡ refused k p → argument_type c d m l ≡ refused k p
  unfolding type_in
  type-unentered e f = rw (e, f)

  type-entered : {inner : Message} → message Type-Argument-type m ≡ ok (some inner) → {t : Ty} {b : ℕ}
      → type_at allowance c d inner l ≡ ok (t, b) → argument_type c d m l ≡ ok (some t, b)
  unfolding type_in
  type-entered e f = rw (e, f)

  module _ (e : message Type-Argument-type m ≡ ok none) where
    pub type-nowhere : index Type-Argument-type_id m ≡ none → argument_type c d m l ≡ ok (none, l)
    unfolding type_in
    type-nowhere f = rw (e, f)

    pub type-indexed : {i : ℕ} → index Type-Argument-type_id m ≡ some i → argument_type c d m l ≡ resolve_at (type_at allowance c) c d i l
    unfolding type_in
    type-indexed f = rw (e, f)

  -- the argument that it makes
  module _ {p : ℕ} (n : NoStar p m) where
    pub argument-reads : argument_in (type_at allowance c) c d m l ≡ with_projection p (argument_type c d m l)
    argument-reads = ap (λ (r : Read (Option Argument)). r l) (argument-typed (type_at allowance c) c d m n)

    pub argument-uncut : {k : Cause} {q : ℕ} → message Type-Argument-type m ≡ refused k q → argument_in (type_at allowance c) c d m l ≡ refused k q
    argument-uncut e = argument-reads ∙ ap (with_projection p) (type-uncut e)

    pub argument-unentered : {inner : Message} → message Type-Argument-type m ≡ ok (some inner) → {k : Cause} {q : ℕ}
        → type_at allowance c d inner l ≡ refused k q → argument_in (type_at allowance c) c d m l ≡ refused k q
    argument-unentered e f = argument-reads ∙ ap (with_projection p) (type-unentered e f)

    module _ (e : message Type-Argument-type m ≡ ok none) where
      pub argument-nowhere : index Type-Argument-type_id m ≡ none → argument_in (type_at allowance c) c d m l ≡ ok (none, l)
      argument-nowhere f = argument-reads ∙ ap (with_projection p) (type-nowhere e f)

      pub argument-indexed : {i : ℕ} → index Type-Argument-type_id m ≡ some i
          → argument_in (type_at allowance c) c d m l ≡ with_projection p (resolve_at (type_at allowance c) c d i l)
      argument-indexed f = argument-reads ∙ ap (with_projection p) (type-indexed e f)

-- a type inline that is read on its own
pub inline-told : (c : Scope) (d : ℕ) (m : Message) {p : ℕ} → NoStar p m → {inner : Message} → message Type-Argument-type m ≡ ok (some inner)
    → (s : State) (w : Walked) (S S' T T' : List ℕ)
    → WalkedTold (type_at allowance c d inner s.types) (λ t. rows_in argument_role p (or_nullable false t)) s w S S' T T'
    → PickedTold (argument_in (type_at allowance c) c d m s.types) shown_rows s (picked_of w) S S' T T'
inline-told c d m {p} n {inner} e s (Ok s') S S' T T' (t, b, f, put) =
    (projected p t, b, argument-reads c d m s.types n ∙ ap (with_projection p) (type-entered c d m s.types e f), put)
inline-told c d m n e s (Err stop) S S' T T' f = argument-unentered c d m s.types n e f

-- What may not be there, as an argument of that projection.
pub picked_projected : (p : ℕ) (r : Res (Option Ty × ℕ)) (s : State) (z : Picked) (S S' T T' : List ℕ) → PickedTold r (rows_in argument_role p) s z S S' T T'
    → PickedTold (with_projection p r) shown_rows s z S S' T T'
picked_projected p r s (Ok (Some s')) S S' T T' (t, b, e, put) = (projected p t, b, ap (with_projection p) e, put)
picked_projected p r s (Ok None) S S' T T' (e, f, g) = (ap (with_projection p) e, f, g)
picked_projected p r s (Err stop) S S' T T' e = ap (with_projection p) e

-- A walk of arguments that wait: the rows written so far, then those of what waits, are the whole's.
pub record Continues (whole : Res (List Row × ℕ)) (c : Scope) (ws : List Wait) (s₀ s : State) (S₀ S T₀ T : List ℕ) : Type 0 where
  pub rows : List Row
  pub written : PutRows rows s.types s₀ s S₀ S T₀ T
  pub same : whole ≡ prefixed rows (pending c ws s.types)

pub continues_start : (c : Scope) (d : ℕ) (ms : List Message) (s : State) (S T : List ℕ)
    → Continues (rows_read argument_rows (kept (argument_in (type_at allowance c) c d) ms s.types)) c (waits d ms ∷ []) s s S S T T
unfolding pending sheet_from texts
continues_start c d ms s S T = record {
  rows = [];
  written = put_none s S T;
  same = sym (prefixed_none (pending c (waits d ms ∷ []) s.types) ∙ pending-is c d [] s.types ms ∙ go (rows_read argument_rows (kept (argument_in (type_at allowance c) c d) ms s.types)));
}
  where
    go : (r : Res (List Row × ℕ)) → followed r (pure []) ≡ r
    go (ok r) = rw (append-nil r.0)
    go (refused k p) = refl

module _ {whole : Res (List Row × ℕ)} {c : Scope} {s₀ s : State} {S₀ S T₀ T : List ℕ} where
  -- what waits, said otherwise
  pub continues-same : {ws vs : List Wait} → Continues whole c ws s₀ s S₀ S T₀ T → pending c ws s.types ≡ pending c vs s.types
      → Continues whole c vs s₀ s S₀ S T₀ T
  continues-same g e = record { rows = g.rows; written = g.written; same = g.same ∙ ap (prefixed g.rows) e }

  -- rows of what waits, written
  pub continues-written : {ws : List Wait} → Continues whole c ws s₀ s S₀ S T₀ T → (vs : List Wait) (own : List Row) (s' : State) (S' T' : List ℕ)
      → pending c ws s.types ≡ prefixed own (pending c vs s'.types) → PutRows own s'.types s s' S S' T T'
      → Continues whole c vs s₀ s' S₀ S' T₀ T'
  continues-written g vs own s' S' T' e p = record {
    rows = g.rows ++ own;
    written = rows_then g.rows own g.written p;
    same = g.same ∙ ap (prefixed g.rows) e ∙ sym (prefixed-both g.rows own (pending c vs s'.types));
  }

  pub continues-refused : {ws : List Wait} → Continues whole c ws s₀ s S₀ S T₀ T → {k : Cause} {p : ℕ} → pending c ws s.types ≡ refused k p
      → whole ≡ refused k p
  continues-refused g e = g.same ∙ ap (prefixed g.rows) e

  pub continues-done : (g : Continues whole c [] s₀ s S₀ S T₀ T) → whole ≡ ok (g.rows, s.types)
  unfolding pending
  continues-done g = g.same ∙ rw (append-nil g.rows)
