-- What finding a type tells that stands in another or in the type table: whatever is marked of it is marked of what holds it, where it is read at all.
-- Assumes nothing.
use Rattle.std.specs.Prelude.{◌≡◌, Bool, true, List, ℕ, suc, ◌+◌, ◌*◌, ◌≤◌, length, Some, None}
use Rattle.std.specs.declared.option.Option as rust
use Rattle.schema.specs.told.SchemaTold.{Lent}
use Rattle.string_marks.specs.told.MarksTold.{TypeMarked, ArgumentMarked, LookedMarked}
use Rattle.string_marks.specs.declared.types.Inner.{Inner}

-- How far a walk from a type goes at most: the bytes of its message, and for each look-up that the depth allows one more than there are decoded bytes.
unfoldable pub steps : (left payload bytes : ℕ) → ℕ
steps left payload bytes = left * suc payload + bytes

-- A type that stands in the type table lies in the decoded bytes.
abbrev pub TableInside : Lent → (in_table : Bool) → (base : ℕ) → List ℕ → Type 0
TableInside e in_table base msg = in_table ≡ true → base + length msg ≤ length e.payload

abbrev pub InnerInside : Lent → rust.Option Inner → Type 0
InnerInside e (Some x) = TableInside e x.in_table x.msg.base x.msg.bytes.now
InnerInside e None = Unit {0}

-- The walk from what was found goes no further.
abbrev pub InnerFalls : (left payload bytes : ℕ) → rust.Option Inner → Type 0
InnerFalls left payload bytes (Some x) = steps x.left payload (length x.msg.bytes.now) ≤ steps left payload bytes
InnerFalls left payload bytes None = Unit {0}

-- By a relation to marks before and after: it holds of whatever the type that was found marks, or of marks that stay where none was found.
abbrev pub InnerMarks : Lent → (List ℕ → List ℕ → Type 0) → rust.Option Inner → Type 0
InnerMarks e P (Some x) = (used used' : List ℕ) → TypeMarked e x.msg.base x.msg.bytes.now x.left x.in_table used used' → P used used'
InnerMarks e P None = (used : List ℕ) → P used used

-- A type by its message: whatever is marked where it is read is marked of it.
pub record PartInner (e : Lent) (base : ℕ) (msg : List ℕ) (left : ℕ) (in_table : Bool) (x : Inner) : Type 0 where
  pub falls : steps x.left (length e.payload) (length x.msg.bytes.now) ≤ steps left (length e.payload) (length msg)
  pub inside : TableInside e x.in_table x.msg.base x.msg.bytes.now
  pub is : (used used' : List ℕ) → TypeMarked e x.msg.base x.msg.bytes.now x.left x.in_table used used' → TypeMarked e base msg left in_table used used'

-- the type at an index of the type table
pub record EntryInner (e : Lent) (index left : ℕ) (r : rust.Option Inner) : Type 0 where
  pub falls : InnerFalls left (length e.payload) 0 r
  pub inside : InnerInside e r
  pub is : InnerMarks e (LookedMarked e index left) r

-- the type of an argument, which stands in the type table or not
pub record ArgumentInner (e : Lent) (base : ℕ) (msg : List ℕ) (left : ℕ) (in_table : Bool) (r : rust.Option Inner) : Type 0 where
  pub falls : InnerFalls left (length e.payload) (length msg) r
  pub inside : InnerInside e r
  pub is : InnerMarks e (ArgumentMarked e base msg left in_table) r
