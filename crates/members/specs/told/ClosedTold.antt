-- What the writers of the record tell that closes a constructor or function.
-- Assumes nothing.
use Rattle.std.specs.Prelude.{◌≡◌, List, [], ◌∷◌, ℕ, ◌+◌, ◌-◌, ◌*◌}
use Rattle.std.proofs.Math.Option.{Option, some}
use Rattle.foundation.specs.Results.{ok}
use Rattle.wire.specs.Wire.{Message}
use Rattle.sheet.specs.told.Put.{PutRows}
use Rattle.sheet.specs.declared.State.{State}
use Rattle.schema.specs.Reading.{Read, Scope}
use Rattle.schema.specs.told.SchemaTold.{Lent, Scoped, EntryAt}
use Rattle.schema.specs.told.MembersTold.{Within}
use Rattle.declaration_rows.specs.Declarations.{Constructor, Function}
use Rattle.declaration_rows.specs.Rows.{constructor_rows, function_rows}
use Rattle.sheet.specs.Rows.{Row}
use Rattle.std.specs.declared.option.Option as rust
use Rattle.foundation.specs.Choices.{map_option}
use Rattle.schema.specs.Members.{constructor_in, function_in}
use Rattle.descriptors.specs.Defaults.{Parts, constructor_parts, function_parts, descriptor, default_row, closed_constructor, closed_function}
use Rattle.descriptors.specs.told.PartsTold.{Gave, PartOf}
use Rattle.members.specs.declared.closed.Callable.{Callable}
use Rattle.members.specs.declared.closed.Callable.TheVariants as callable
use Rattle.descriptors.specs.told.DefaultsTold.{part_cost}

-- A constructor or a function, by which of them it is: how it is read, its rows, the parts of its descriptor, its rows with the record.
abbrev pub Declared : Callable → Type 0
Declared callable.Constructor = Constructor
Declared callable.Function = Function

abbrev pub callable_in : (k : Callable) → Scope → Message → Read (Option (Declared k))
callable_in callable.Constructor = constructor_in
callable_in callable.Function = function_in

abbrev pub callable_rows : (k : Callable) → Declared k → List Row
callable_rows callable.Constructor = constructor_rows
callable_rows callable.Function = function_rows

abbrev pub callable_parts : (k : Callable) → Declared k → Option Parts
callable_parts callable.Constructor = constructor_parts
callable_parts callable.Function = function_parts

abbrev pub callable_closed : (k : Callable) → Declared k → List Row
callable_closed callable.Constructor = closed_constructor
callable_closed callable.Function = closed_function

-- the descriptor of what a reading has kept
abbrev pub DefaultOf : {D : Type 0} → (Scope → Message → Read (Option D)) → (D → Option Parts) → Lent → ℕ → ℕ → ℕ → rust.Option ℕ → List ℕ → List ℕ → Type 0
DefaultOf read parts e start end at r A A₁ =
    PartOf (λ c m d. Gave (read c m) (some d)) (λ d. map_option descriptor (parts d)) (part_cost * (4 + (end - start))) e start end at r A A₁

-- how many bytes the record takes at most, with its text, of a message of n bytes
abbrev pub close_cost : ℕ → ℕ
close_cost n = part_cost * (4 + n) + 5

-- the record of what was read of the message from start to end
pub record CloseTold {D : Type 0} (read : Scope → Message → Read (Option D)) (parts : D → Option Parts) (e : Lent) (start end : ℕ) (s s' : State)
    (S S' T T' : List ℕ) : Type 0 where
  pub spends : Within (close_cost (end - start)) s s'
  pub is : (c : Scope) → Scoped e c → (m : Message) → EntryAt e.payload start end m → (d : D) (l b : ℕ) → read c m l ≡ ok (some d, b)
      → PutRows (default_row (parts d) ∷ []) s.types s s' S S' T T'
