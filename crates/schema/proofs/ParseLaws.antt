-- A type: its own fields, its arguments, its record.
-- Assumes nothing.
use mathlib.Core.Path.{◌≡◌, ap, ◌∙◌}
use mathlib.Core.Bool.{Bool}
use mathlib.Core.List.{List, ◌∷◌, append-nil}
use mathlib.Core.Option.{Option}
use Prim.Native.Nat.{ℕ, zero, suc, ◌+◌, ◌-◌, ◌≤◌}
use native.Mathlib.Omega.{arith}
use lib.ListN.{length, take, drop, length-take, length-drop}
use Rattle.foundation.specs.Results.{ok}
use Rattle.foundation.specs.Texts.{Text}
use Rattle.fields.specs.Fields.{Type-argument, Type-nullable, Type-class_name}
use Rattle.wire.specs.Wire.{Message}
use Rattle.wire.specs.Messages.{flag, messages}
use Rattle.wire.specs.declared.WireError.{WireError}
use Rattle.sheet.specs.Rows.{row}
use Rattle.declaration_rows.specs.Declarations.{no_types, and_type, Ty, Argument, types_of}
use Rattle.schema.specs.Reading.{pure, ◌>>=◌, lift, kept, Scope, class_name_in, allowance}
use Rattle.schema.specs.Types.{argument_in, parse_at, type_at}
use Rattle.declaration_rows.specs.Rows.{argument_role, type_cells, types_rows}
use Rattle.schema.specs.told.SchemaTold.{stop_refused}
use Rattle.schema.specs.declared.Stop.TheVariants as stop
use Rattle.schema.proofs.TypeNext.{type_next}
use Rattle.schema.proofs.ArgumentLaws.{types-many}

-- A part of a slice: how long it is, and that it ends where the slice does or before.
part-short : (l : List ℕ) (a b : ℕ) → a ≤ b → b ≤ length l → length (take (b - a) (drop a l)) ≡ b - a
part-short l a b h k = rw (length-take, length-drop) (omega arith)

pub part-inside : (l : List ℕ) (base a b : ℕ) {n : ℕ} → base + length l ≤ n → a ≤ b → b ≤ length l → base + a + length (take (b - a) (drop a l)) ≤ n
part-inside l base a b h p q = omega (arith, part-short l a b p q)

pub entry_inside : (l : List ℕ) (a b : ℕ) → a ≤ b → b ≤ length l → a + length (take (b - a) (drop a l)) ≤ length l
entry_inside l a b p q = omega (arith, part-short l a b p q)

-- no type is left
pub type_none : (c : Scope) (d : ℕ) (m : Message) (n : ℕ) → n ≡ 0 → type_at allowance c d m n ≡ stop_refused stop.TooManyTypes
unfolding parse_at
type_none c d m n h = ap (type_at allowance c d m) h ∙ type_next allowance c d m 0 (omega arith)

-- a type is entered
unfoldable pub of_fields : Message → Option Text → List Argument → Ty
of_fields m name ts = record { nullable = flag Type-nullable m; name = name; arguments = types_of ts }

pub type_entered : (c : Scope) (d : ℕ) (m : Message) (n : ℕ) → 1 ≤ n → n ≤ allowance → type_at allowance c d m n
    ≡ (lift (messages Type-argument m) >>= λ ms.
    kept (argument_in (type_at allowance c) c (d + 1)) ms >>= λ ts. class_name_in c Type-class_name m >>= λ name. pure (of_fields m name ts)) (n - 1)
unfolding parse_at of_fields
type_entered c d m zero h l = absurd (omega arith)
type_entered c d m (suc n) h l = let one_less : suc n - 1 ≡ n = omega arith in rw one_less (type_next allowance c d m (suc n) l)

module _ (c : Scope) (d : ℕ) (m : Message) (n : ℕ) (h : 1 ≤ n) (l : n ≤ allowance) where
  pub type-uncut : (error : WireError) → messages Type-argument m ≡ stop_refused (stop.Wire error) → type_at allowance c d m n ≡ stop_refused (stop.Wire error)
  type-uncut error e = type_entered c d m n h l ∙ rw e

  module _ {ms : List Message} (e : messages Type-argument m ≡ ok ms) {k : ℕ} (f : k ≡ n - 1) where
    pub type-done : {ts : List Argument} {b : ℕ} {name : Option Text} → kept (argument_in (type_at allowance c) c (d + 1)) ms k ≡ ok (ts, b)
        → class_name_in c Type-class_name m b ≡ ok (name, b) → type_at allowance c d m n ≡ ok (of_fields m name ts, b)
    type-done g p = type_entered c d m n h l ∙ rw (e, ← f, g, p)

-- a type's record, with its count, and its arguments' after it
pub type_rows_lem : (role projection : ℕ) (nullable : Bool) (name : Option Text) (ts : List Argument) (count : ℕ) → count ≡ length ts
    → row 6 (type_cells role nullable name count projection) ∷ types_rows argument_role (types_of ts)
    ≡ types_rows role (and_type projection nullable name (types_of ts) no_types)
unfolding types_rows
type_rows_lem role projection nullable name ts count e = rw (append-nil, e, types-many ts)
