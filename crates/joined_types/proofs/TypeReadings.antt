-- Types of which the told word says that they are alike are read alike, at every depth, with type tables that are alike.
-- Assumes nothing.
use mathlib.Core.Path.{◌≡◌, refl, ap, sym}
use mathlib.Core.Bool.{Bool, true, false, not}
use mathlib.Core.List.{List, [], ◌∷◌}
use mathlib.Core.Option.{Option, none, some}
use Prim.Native.Nat.{ℕ, zero, suc, ◌+◌, ◌≤◌}
use native.Mathlib.Omega.{arith}
use lib.Dec.{eqb, ltb}
use lib.ListN.{length, get_elem?}
use Rattle.std.specs.Prelude.{if◌then◌else◌}
use Rattle.foundation.specs.Choices.{if_some, map_option}
use Rattle.foundation.specs.Results.{refused, too_many_types}
use Rattle.fields.specs.Fields.{Type-argument, Type-nullable, Type-class_name, Type-Argument-projection, Type-Argument-type, Type-Argument-type_id}
use Rattle.wire.specs.Wire.{Value, Message}
use Rattle.wire.specs.Messages.{value, as_varint, as32, varint_of, index, flag, message, messages}
use Rattle.names.specs.Names.{Names, string, qualified_name}
use Rattle.declaration_rows.specs.Declarations.{star, Ty, Argument, projected, blank, types_of}
use Rattle.schema.specs.Reading.{Read, pure, ◌>>=◌, lift, enter, Scope, name_in, class_name_in, allowance}
use Rattle.schema.specs.Types.{Walk, max_depth, nullable_from, resolve_at, type_in, projection_of, projection_in, argument_in, parse_at, type_at, declared_type}
use Rattle.schema.specs.told.Alike.{Alike, AlikeOption, NoEntry, Dropped, Thinned, ArgumentsBy, TypesBy, SameType, SameArgument, SameTypes, no_entries, next_entry}
use Rattle.schema.proofs.AlikeLaws.{alike-itself, option-itself, by-itself, type-itself}
use Rattle.joined_types.proofs.SameReads.{SameRead, same-path, same-read, same-then, same-enter, same-if, same-bind, same-if_some, alike-then, alike-if_some, thinned-kept}

-- What is read of a field goes by its first value.
module _ (i : ℕ) (m m' : Message) (e : value i m ≡ value i m') where
  pub same-varint_of : varint_of i m ≡ varint_of i m'
  unfolding varint_of
  same-varint_of = ap (λ (v : Option Value). if_some v none as_varint) e

  pub same-index : index i m ≡ index i m'
  unfolding index
  same-index = ap (λ (v : Option ℕ). if_some v none as32) same-varint_of

  pub same-flag : flag i m ≡ flag i m'
  unfolding flag
  same-flag = ap (λ (v : Option ℕ). if_some v false λ n. not (eqb n 0)) same-varint_of

-- Names go by the scope's names and the field's index.
module _ (s s' : Scope) (e : s.names ≡ s'.names) (n : ℕ) where
  pub same-name_in : (m : Message) → SameRead (name_in s n m) (name_in s' n m)
  unfolding name_in
  same-name_in m = same-path (ap (λ (x : Names). if_some (index n m) (pure none) λ i. lift (string x i)) e)

  pub same-class_name_in : (m m' : Message) → index n m ≡ index n m' → SameRead (class_name_in s n m) (class_name_in s' n m')
  unfolding class_name_in
  same-class_name_in m m' i =
      same-then (same-path (ap (λ (o : Option ℕ). if_some o (pure none) λ i. lift (qualified_name s.names i)) i))
      (same-path (ap (λ (x : Names). if_some (index n m') (pure none) λ i. lift (qualified_name x i)) e))

-- What holds of two types alike down to some depth: their inline types are alike down to some depth too.
types-by : (n k : ℕ) (m m' : Message) → SameType n k m m' → (j : ℕ) × TypesBy (SameType n j) n m m'
unfolding SameType
types-by n zero m m' e = (0, rw (sym e) (by-itself (SameType n 0) n (type-itself n 0) m))
types-by n (suc k) m m' t = (k, t)

-- entries of two tables
entries-alike : {n k : ℕ} {ms ms' : List Message} → SameTypes n k ms ms' → (i : ℕ) → AlikeOption (SameType n k) (get_elem? ms i) (get_elem? ms' i)
entries-alike no_entries i = refl
entries-alike (next_entry t ts) zero = t
entries-alike (next_entry t ts) (suc i) = entries-alike ts i

past_entries : (ms : List Message) (i : ℕ) → length ms ≤ i → get_elem? ms i ≡ none
past_entries [] i h = refl
past_entries (m ∷ ms) zero h = absurd (omega arith)
past_entries (m ∷ ms) (suc i) h = past_entries ms i (omega arith)

-- Two scopes with the same names and with tables alike.
pub record SameScope (k : ℕ) (s s' : Scope) : Type 0 where
  pub names : s.names ≡ s'.names
  pub first : s.table.first_nullable ≡ s'.table.first_nullable
  pub types : SameTypes (length s.table.types) k s.table.types s'.table.types

module _ (k : ℕ) (s s' : Scope) (e : SameScope k s s') where
  abbrev Entry : ℕ → Message → Message → Type 0
  Entry = SameType (length s.table.types)

  module _ (w w' : Walk) (c : (d j : ℕ) (m m' : Message) → Entry j m m' → SameRead (w d m) (w' d m')) where
    same-resolve_at : (d i : ℕ) → SameRead (resolve_at w s d i) (resolve_at w' s' d i)
    unfolding resolve_at
    same-resolve_at d i =
        let found = alike-if_some (Entry k) (get_elem? s.table.types i) (get_elem? s'.table.types i) (entries-alike e.types i) (same-read (pure none)) λ m m' t.
        same-bind (c (d + 1) k m m' t) λ t. same-path (ap (λ (o : Option ℕ). pure (some (nullable_from o i t))) e.first) in
        same-if (ltb d max_depth) found (same-read (pure none))

    same-type_in : (d inline indexed j : ℕ) (m m' : Message) → Alike (AlikeOption (Entry j)) (message inline m) (message inline m')
        → index indexed m ≡ index indexed m' → SameRead (type_in w s d inline indexed m) (type_in w' s' d inline indexed m')
    unfolding type_in
    same-type_in d inline indexed j m m' a i =
        alike-then (AlikeOption (Entry j)) (message inline m) (message inline m') a λ o o' h.
        alike-if_some (Entry j) o o' h (by-index (index indexed m) (index indexed m') i) λ t t' h. same-bind (c d j t t' h) λ it. same-read (pure (some it))
      where
        by-index : (o o' : Option ℕ) → o ≡ o' → SameRead (if_some o (pure none) (resolve_at w s d)) (if_some o' (pure none) (resolve_at w' s' d))
        by-index o o' p =
            same-then (same-if_some o (same-read (pure none)) (same-resolve_at d))
            (same-path (ap (λ (x : Option ℕ). if_some x (pure none) (resolve_at w' s' d)) p))

    same-argument_in : (d j : ℕ) (m m' : Message) → SameArgument (length s.table.types) j m m' → SameRead (argument_in w s d m) (argument_in w' s' d m')
    unfolding argument_in projection_in
    same-argument_in d j m m' a =
        go (projection_of (varint_of Type-Argument-projection m)) (projection_of (varint_of Type-Argument-projection m'))
        (ap projection_of (same-varint_of Type-Argument-projection m m' a.projection))
      where
        read : Walk → Scope → Message → ℕ → Read (Option Argument)
        read walk scope x p = if eqb p star then enter (pure (some (projected star blank))) else (type_in walk scope d Type-Argument-type Type-Argument-type_id x >>= λ t. pure (map_option (projected p) t))

        go : (p p' : ℕ) → p ≡ p' → SameRead (read w s m p) (read w' s' m' p')
        go p p' q =
            same-then (
            same-if (eqb p star) (same-read (enter (pure (some (projected star blank))))) (
            same-bind (same-type_in d Type-Argument-type Type-Argument-type_id j m m' a.inline (same-index Type-Argument-type_id m m' a.indexed)) λ t.
            same-read (pure (map_option (projected p) t)))) (same-path (ap (read w' s' m') q))

    -- an argument that is dropped
    dropped-argument : (d : ℕ) (m : Message) → Dropped (length s.table.types) m → SameRead (argument_in w s d m) (pure none)
    unfolding argument_in type_in resolve_at
    dropped-argument d m a = rw (a.other, a.inline) (go (index Type-Argument-type_id m) a.indexed)
      where
        read : Option ℕ → Read (Option Argument)
        read o = if_some o (pure none) (resolve_at w s d) >>= λ t. pure (map_option (projected (projection_in m)) t)

        either : (t : Bool) → SameRead ((if t then pure none else pure none) >>= λ t. pure (map_option (projected (projection_in m)) t)) (pure none)
        either true = same-read (pure none)
        either false = same-read (pure none)

        go : (o : Option ℕ) → NoEntry (length s.table.types) o → SameRead (read o) (pure none)
        go none h = same-read (pure none)
        go (some i) h = rw (past_entries s.table.types i h) (either (ltb d max_depth))

    same-parse_at : (d j : ℕ) (m m' : Message) → TypesBy (Entry j) (length s.table.types) m m' → SameRead (parse_at w s d m) (parse_at w' s' d m')
    unfolding parse_at
    same-parse_at d j m m' t =
        same-enter (
        alike-then (Thinned (ArgumentsBy (Entry j)) (Dropped (length s.table.types))) (messages Type-argument m) (messages Type-argument m') t.arguments λ xs ys h.
        same-bind (
        thinned-kept (ArgumentsBy (Entry j)) (Dropped (length s.table.types)) (argument_in w s (d + 1)) (argument_in w' s' (d + 1)) (same-argument_in (d + 1) j)
        (dropped-argument (d + 1)) h) λ ts.
        same-bind (same-class_name_in s s' e.names Type-class_name m m' (same-index Type-class_name m m' t.name)) λ name.
        same-path (ap (λ (b : Bool). pure (record { nullable = b; name = name; arguments = types_of ts })) (same-flag Type-nullable m m' t.nullable)))

  -- a type at every depth, whatever number of types may be nested
  pub same-type_at : (k d j : ℕ) (m m' : Message) → SameType (length s.table.types) j m m' → SameRead (type_at k s d m) (type_at k s' d m')
  unfolding type_at
  same-type_at zero d j m m' t = same-read (refused-one d)
    where
      refused-one : ℕ → Read Ty
      refused-one d l = refused too_many_types 0
  same-type_at (suc k) d j m m' t =
      let p = types-by (length s.table.types) j m m' t in
      record { at = (same-parse_at (type_at k s) (type_at k s') (same-type_at k) d p.0 m m' p.1).at }

  -- a declaration's own type, which isn't in the table
  pub same-declared_type : (inline indexed : ℕ) (m : Message) → SameRead (declared_type s inline indexed m) (declared_type s' inline indexed m)
  unfolding declared_type
  same-declared_type inline indexed m =
      same-type_in (type_at allowance s) (type_at allowance s') (same-type_at allowance) 0 inline indexed 0 m m
      (alike-itself (AlikeOption (Entry 0)) (option-itself (Entry 0) (type-itself (length s.table.types) 0)) (message inline m)) refl
