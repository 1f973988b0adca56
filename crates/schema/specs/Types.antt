-- Types: metadata.proto's Type, Type.Argument and TypeTable.
-- Assumes nothing.
use Rattle.std.specs.Prelude.{false, ◌||◌, [], ℕ, zero, suc, ◌+◌, eqb, ltb, leb, if◌then◌else◌}
use Rattle.std.proofs.Math.Option.{Option, none, some}
use Rattle.std.proofs.Math.ListN.{get_elem?}
use Rattle.foundation.specs.Choices.{if_some, map_option}
use Rattle.foundation.specs.Results.{refused, too_many_types}
use Rattle.fields.specs.Fields.{Type-argument, Type-nullable, Type-class_name, Type-Argument-projection, Type-Argument-type, Type-Argument-type_id, TypeTable-type, TypeTable-first_nullable}
use Rattle.wire.specs.Wire.{Message}
use Rattle.wire.specs.Messages.{varint_of, index, flag, message, messages}
use Rattle.declaration_rows.specs.Declarations.{invariant, star, Ty, Argument, projected, blank, types_of}
use Rattle.schema.specs.Reading.{Read, pure, ◌>>=◌, lift, enter, kept, TypeTable, Scope, class_name_in, allowance}

-- lookups at this depth or deeper yield no type
abbrev pub max_depth : ℕ
max_depth = 64

-- how a type is read: its depth, its message
abbrev pub Walk : Type 0
Walk = ℕ → Message → Read Ty

-- Table entries from first_nullable on are nullable, whatever their own flag says; those before it by their own flag (Kotlin's
-- reader leaves an entry's own flag aside).
abbrev pub nullable_from : Option ℕ → ℕ → Ty → Ty
nullable_from first i t =
    record { nullable = if_some first false (λ f. leb f i) || t.nullable; name = t.name; arguments = t.arguments }

-- the table's entry i at depth d, its type one deeper; none past the table or too deep
unfoldable pub resolve_at : Walk → Scope → ℕ → ℕ → Read (Option Ty)
resolve_at walk s d i =
    let found = if_some (get_elem? s.table.types i) (pure none) λ m.
    walk (d + 1) m >>= λ t. pure (some (nullable_from s.table.first_nullable i t)) in
    if ltb d max_depth then found else pure none

-- A type in a message: inline in one field, else by its index in another. The depth of an inline one is never tested.
unfoldable pub type_in : Walk → Scope → ℕ → ℕ → ℕ → Message → Read (Option Ty)
type_in walk s d inline indexed m =
    lift (message inline m) >>= λ t.
    if_some t (if_some (index indexed m) (pure none) (resolve_at walk s d)) λ inner. walk d inner >>= λ it. pure (some it)

-- An argument's projection: its number if that is one of the four, with all its 64 bits, and else invariant.
abbrev pub projection_of : Option ℕ → ℕ
projection_of number = if_some number invariant λ p. if leb p star then p else invariant

unfoldable pub projection_in : Message → ℕ
projection_in m = projection_of (varint_of Type-Argument-projection m)

-- An argument that is no star is kept if its type is there.
abbrev pub type_argument : Walk → Scope → ℕ → Message → Read (Option Argument)
type_argument walk s d m =
    type_in walk s d Type-Argument-type Type-Argument-type_id m >>= λ t. pure (map_option (projected (projection_in m)) t)

-- A star is entered as a type is, and kept. Its type is unread: a broken one refuses nothing, and no index is looked up.
unfoldable pub argument_in : Walk → Scope → ℕ → Message → Read (Option Argument)
argument_in walk s d m = if eqb (projection_in m) star then enter (pure (some (projected star blank))) else type_argument walk s d m

-- A type: entered once its own fields are cut, then its arguments, then its name.
unfoldable pub parse_at : Walk → Scope → Walk
parse_at walk s d m =
    enter (
    lift (messages Type-argument m) >>= λ arguments.
    kept (argument_in walk s (d + 1)) arguments >>= λ ts.
    class_name_in s Type-class_name m >>= λ name.
    pure (record { nullable = flag Type-nullable m; name = name; arguments = types_of ts }))

-- At most k types nested in one another. Each takes one of those that may be entered, so that k is no limit where no more are left:
-- the law `type_next`.
unfoldable pub type_at : ℕ → Scope → Walk
type_at zero s d m left = refused too_many_types 0
type_at (suc k) s d m left = parse_at (type_at k s) s d m left

-- a declaration's own type, at depth 0
unfoldable pub declared_type : Scope → ℕ → ℕ → Message → Read (Option Ty)
declared_type s = type_in (type_at allowance s) s 0

abbrev pub no_table : TypeTable
no_table = record { types = []; first_nullable = none }

-- the type table in field n of a class or package
unfoldable pub type_table_in : ℕ → Message → Read TypeTable
type_table_in n m =
    lift (message n m) >>= λ t.
    if_some t (pure no_table) λ table.
    lift (messages TypeTable-type table) >>= λ types. pure (record { types = types; first_nullable = index TypeTable-first_nullable table })
