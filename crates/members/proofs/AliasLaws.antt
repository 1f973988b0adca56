-- Type aliases in code.
-- Assumes nothing.
use mathlib.Core.Path.{◌≡◌, sym, subst}
use mathlib.Core.List.{List, [], ◌∷◌}
use mathlib.Core.Option.{Option, none, some}
use Prim.Native.Nat.{ℕ, ◌+◌, ◌*◌}
use native.Mathlib.Omega.{arith}
use lib.ListN.{length}
use Rattle.declaration_rows.specs.declared.Role.TheVariants as roles
use Rattle.foundation.specs.Results as Results
use Rattle.foundation.specs.Results.{ok, ◌from◌}
use Rattle.foundation.specs.Texts.{Text}
use Rattle.fields.specs.Fields.{TypeAlias-flags, TypeAlias-name, TypeAlias-underlying_type, TypeAlias-underlying_type_id, TypeAlias-expanded_type, TypeAlias-expanded_type_id}
use Rattle.wire.specs.Wire.{Message, cut}
use Rattle.names.specs.told.Name.{named_text}
use Rattle.std.specs.declared.option.Option.TheVariants.{Some}
use Rattle.names.specs.declared.name.Name.{Name}
use Rattle.sheet.specs.Rows.{Row, row}
use Rattle.sheet.specs.told.Put.{PutRows}
use Rattle.sheet.specs.declared.State.{State}
use Rattle.sheet.proofs.PutLaws.{put-types}
use Rattle.declaration_rows.specs.Declarations.{Ty, Alias}
use Rattle.declaration_rows.specs.Rows.{alias_rows}
use Rattle.declaration_rows.specs.told.Written.{cell_limit, alias_cells}
use Rattle.declaration_rows.proofs.WrittenLaws.{row_room, alias-small}
use Rattle.declaration_rows.proofs.RecordLaws.{alias-put}
use Rattle.schema.specs.Reading.{pure, Scope, name_in}
use Rattle.schema.specs.Types.{declared_type}
use Rattle.schema.specs.Members.{flags_in, alias_in}
use Rattle.schema.specs.told.SchemaTold.{Lent, Scoped}
use Rattle.schema.specs.told.TypesTold.{picked_of}
use Rattle.schema.specs.told.MembersTold.{Affords, Within, member_cost, MemberTold}
use Rattle.members.specs.told.PairsTold.{pair_in, pair_rows, PairTold}
use Rattle.members.specs.declared.pairs.TypePair.{TypePair}
use Rattle.schema.proofs.CountLaws.{within_less, affords-places}
use Rattle.members.proofs.PairLaws.{both-joined, pair-told}
use Rattle.schema.specs.told.SchemaTold.{Walked, Picked}

-- what an alias's record takes
abbrev record_cost : ℕ
record_cost = 1 + 2 * cell_limit

module _ {e : Lent} {n : ℕ} {s s₁ : State} (h : Affords e n s) (name : Name) (flags : ℕ) {S S₁ T T₁ : List ℕ}
    (p : PutRows (row 8 (alias_cells (some (named_text e.payload e.d2 name)) flags) ∷ []) s.types s s₁ S S₁ T T₁) where
  pub alias-within : Within record_cost s s₁
  alias-within =
      let r = row_room (alias_cells (some (named_text e.payload e.d2 name)) flags) (alias-small (affords-places h) (Some name) flags) (affords-places h) 8 p in
      record { counts = omega (arith, r.places, put-types p); types = omega (arith, put-types p) }

-- An alias.
abbrev alias_pair : TypePair
alias_pair = record {
  first = record { inline = TypeAlias-underlying_type; indexed = TypeAlias-underlying_type_id; role = roles.Underlying };
  second = record { inline = TypeAlias-expanded_type; indexed = TypeAlias-expanded_type_id; role = roles.Expanded };
}

alias_of : Text → Message → Option Ty × Option Ty → Alias
alias_of name m ts = record { name = name; flags = flags_in TypeAlias-flags m; underlying = ts.0; expanded = ts.1 }

pub alias_none : (c : Scope) (m : Message) (l : ℕ) → name_in c TypeAlias-name m l ≡ ok (none, l) → alias_in c m l ≡ ok (none, l)
unfolding alias_in
alias_none c m l i = rw i

alias_some : (c : Scope) (m : Message) (l : ℕ) (t : Text) → name_in c TypeAlias-name m l ≡ ok (some t, l)
    → alias_in c m l ≡ Results.◌>>=◌ (pair_in alias_pair c m l) (λ p. pure (some (alias_of t m p.0)) p.1)
unfolding alias_in alias_of
alias_some c m l t i =
    rw i (
    both-joined (declared_type c TypeAlias-underlying_type TypeAlias-underlying_type_id m)
    (declared_type c TypeAlias-expanded_type TypeAlias-expanded_type_id m) (λ underlying expanded. alias_of t m (underlying, expanded)) l)

abbrev alias_record : Text → Message → Row
alias_record t m = row 8 (alias_cells (some t) (flags_in TypeAlias-flags m))

alias_puts : (t : Text) (m : Message) (ts : Option Ty × Option Ty) {b b' : ℕ} {s s₁ s₂ : State} {S S₁ S₂ T T₁ T₂ : List ℕ}
    → PutRows (alias_record t m ∷ []) b s s₁ S S₁ T T₁ → PutRows (pair_rows alias_pair ts) b' s₁ s₂ S₁ S₂ T₁ T₂
    → PutRows (alias_rows (alias_of t m ts)) b' s s₂ S S₂ T T₂
unfolding alias_of
alias_puts t m ts p q = alias-put (alias_of t m ts) p q

module _ {e : Lent} {msg : List ℕ} {base : ℕ} {s : State} (name : Name)
    (i : (c : Scope) → Scoped e c → (m : Message) → cut (◌from◌ base msg) ≡ ok m → (l : ℕ)
    → name_in c TypeAlias-name m l ≡ ok (some (named_text e.payload e.d2 name), l))
    (afford : Affords e (member_cost (length msg)) s) (flags : ℕ)
    (d : (m : Message) → cut (◌from◌ base msg) ≡ ok m → flags_in TypeAlias-flags m ≡ flags) {s₁ : State} {S S₁ T T₁ : List ℕ}
    (p : PutRows (row 8 (alias_cells (some (named_text e.payload e.d2 name)) flags) ∷ []) s.types s s₁ S S₁ T T₁) where
  pub alias-told : {w : Walked} {r : Picked} {S₂ T₂ : List ℕ} → PairTold alias_pair e msg base s₁ w S₁ S₂ T₁ T₂ → r ≡ picked_of w
      → MemberTold alias_in alias_rows (member_cost (length msg)) e msg base s r S S₂ T T₂
  alias-told =
      let t = named_text e.payload e.d2 name in
      pair-told alias_in alias_rows (member_cost (length msg)) e msg base s alias_pair (alias_of t) (alias_record t)
      (λ c o m k l. alias_some c m l t (i c o m k l)) (within_less (member_cost (length msg)) (omega arith) (alias-within afford name flags p)) (put-types p)
      (λ m k. subst (λ (v : ℕ). PutRows (row 8 (alias_cells (some t) v) ∷ []) s.types s s₁ S S₁ T T₁) (sym (d m k)) p)
      λ m ts b s₂ S₂ T₂ f z. alias_puts t m ts f z
