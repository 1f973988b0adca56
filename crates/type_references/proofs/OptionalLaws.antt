-- A declaration's own type, which may not be there.
-- Assumes nothing.
use mathlib.Core.Path.{◌≡◌, refl, sym, subst}
use mathlib.Core.List.{List}
use mathlib.Core.Option.{none, some}
use Prim.Native.Nat.{ℕ}
use Rattle.foundation.specs.Results.{ok, ◌from◌}
use Rattle.wire.specs.Wire.{Message, cut}
use Rattle.sheet.specs.Rows.{sheet_from, texts}
use Rattle.sheet.specs.told.Put.{PutRows}
use Rattle.sheet.specs.declared.State.{State}
use Rattle.sheet.proofs.PutLaws.{put_none}
use Rattle.declaration_rows.specs.Declarations.{invariant}
use Rattle.schema.specs.Reading.{Scope}
use Rattle.schema.specs.Types.{declared_type}
use Rattle.declaration_rows.specs.Rows.{type_rows}
use Rattle.schema.specs.told.SchemaTold.{Lent, Scoped, PickedSpends, PickedTold}
use Rattle.schema.specs.told.TypesTold.{rows_in, picked_of, ResolveTold, DeclaredTold}
use Rattle.type_references.specs.told.OptionalTold.{optional_of, LookedTold, OptionalTold}
use Rattle.schema.specs.declared.Stop.{Stop}
use Rattle.schema.proofs.TypeLaws.{spends_none}
use Rattle.std.specs.declared.option.Option.TheVariants.{Some, None}
use Rattle.std.specs.declared.result.Result.TheVariants.{Ok, Err}
use Rattle.schema.specs.told.SchemaTold.{Walked, Picked}

none_put : (role : ℕ) (s : State) (S T : List ℕ) → PutRows (type_rows role none) s.types s s S S T T
unfolding sheet_from texts
none_put role s S T = put_none s S T

module _ {e : Lent} {msg : List ℕ} {base inline by_index role : ℕ} {s : State} {r : Picked} {S S' T T' : List ℕ}
    (t : DeclaredTold e msg base inline by_index role s r S S' T T') where
  here : {y : Picked} → r ≡ y → (c : Scope) → Scoped e c → (m : Message) → cut (◌from◌ base msg) ≡ ok m
      → PickedTold (declared_type c inline by_index m s.types) (rows_in role invariant) s y S S' T T'
  here g c o m k = subst (λ (y : Picked). PickedTold (declared_type c inline by_index m s.types) (rows_in role invariant) s y S S' T T') g (t.is c o m k)

  optional-kept : {s' : State} → r ≡ Ok (Some s') → OptionalTold e msg base inline by_index role s (Ok s') S S' T T'
  optional-kept g = record {
    spends = subst (PickedSpends s) g t.spends;
    is = λ c o m k. let h = here g c o m k in (some h.0, h.1, h.2, h.3);
  }

  optional-dropped : r ≡ Ok None → OptionalTold e msg base inline by_index role s (Ok s) S S' T T'
  optional-dropped g = record {
    spends = spends_none s;
    is = λ c o m k.
        let h = here g c o m k in
        let put : PutRows (type_rows role none) s.types s s S S' T T' =
        subst (λ (y : List ℕ). PutRows (type_rows role none) s.types s s S y T T') (sym h.1)
        (subst (λ (y : List ℕ). PutRows (type_rows role none) s.types s s S S T y) (sym h.2) (none_put role s S T)) in
        (none, s.types, h.0, put);
  }

  optional-refused : {stop : Stop} → r ≡ Err stop → OptionalTold e msg base inline by_index role s (Err stop) S S' T T'
  optional-refused g = record { spends = tt; is = λ c o m k. here g c o m k }

pub optional : {e : Lent} {msg : List ℕ} {base inline by_index role : ℕ} {s : State} (r : Picked) {w : Walked} {S S' T T' : List ℕ}
    → DeclaredTold e msg base inline by_index role s r S S' T T' → w ≡ optional_of s r
    → OptionalTold e msg base inline by_index role s w S S' T T'
optional {e} {msg} {base} {inline} {by_index} {role} {s} r {w} {S} {S'} {T} {T'} t q =
    subst (λ (y : Walked). OptionalTold e msg base inline by_index role s y S S' T T') (sym q) (go r t)
  where
    go : (r : Picked) → DeclaredTold e msg base inline by_index role s r S S' T T'
        → OptionalTold e msg base inline by_index role s (optional_of s r) S S' T T'
    go (Ok (Some s')) t = optional-kept t refl
    go (Ok None) t = optional-dropped t refl
    go (Err stop) t = optional-refused t refl

-- what was walked is there, or refused
pub walked_optional : (s : State) (w : Walked) → w ≡ optional_of s (picked_of w)
walked_optional s (Ok s') = refl
walked_optional s (Err stop) = refl

-- a type by its index is there or not, or refused
pub looked : {e : Lent} {index left role projection : ℕ} {s : State} (p : Picked) {w : Walked} {S S' T T' : List ℕ}
    → ResolveTold e index left role projection s p S S' T T' → w ≡ optional_of s p
    → LookedTold e index left role projection s w S S' T T'
looked p t q = record { found = p; told = t; is = q }
