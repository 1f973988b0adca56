-- A list of a body, by the field that its code is given.
-- Assumes nothing.
use mathlib.Core.Path.{◌≡◌, subst}
use mathlib.Core.List.{List}
use Prim.Native.Nat.{ℕ}
use Rattle.schema.specs.Members.{list_in}
use Rattle.schema.specs.told.SchemaTold.{Lent}
use Rattle.members.specs.Lists.{member_in}
use Rattle.members.specs.declared.list.Member.{Member}
use Rattle.string_marks.specs.told.MarksTold.{MarksIn}

pub list-marked : {e : Lent} {base : ℕ} {msg : List ℕ} {u v : List ℕ} (k : Member) {number field : ℕ} → number ≡ field
    → MarksIn e base msg (λ c. list_in (member_in k c) number) u v → MarksIn e base msg (λ c. list_in (member_in k c) field) u v
list-marked {e} {base} {msg} {u} {v} k q g = subst (λ (n : ℕ). MarksIn e base msg (λ c. list_in (member_in k c) n) u v) q g
