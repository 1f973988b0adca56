-- Parameters in code.
-- Assumes nothing.
use mathlib.Core.Path.{◌≡◌, ap, sym, subst, ◌∙◌}
use mathlib.Core.Bool.{Bool}
use mathlib.Core.List.{List, [], ◌∷◌, append-nil}
use mathlib.Core.Option.{Option, some}
use Prim.Native.Nat.{ℕ, ◌+◌, ◌*◌}
use native.Mathlib.Omega.{arith}
use lib.ListN.{length}
use Rattle.declaration_rows.specs.declared.Role.TheVariants as roles
use Rattle.foundation.specs.Results as Results
use Rattle.foundation.specs.Results.{Res, ok, ◌from◌}
use Rattle.foundation.specs.Texts.{Text}
use Rattle.fields.specs.Fields.{ValueParameter-flags, ValueParameter-name, ValueParameter-type, ValueParameter-vararg_element_type, ValueParameter-type_id, ValueParameter-vararg_element_type_id}
use Rattle.wire.specs.Wire.{Message, cut}
use Rattle.wire.specs.Messages.{messages}
use Rattle.wire.specs.declared.WireError.{WireError}
use Rattle.messages.specs.told.Asked.{CheckedTold}
use Rattle.names.specs.told.Name.{name_text}
use Rattle.names.specs.declared.name.Name.{Name}
use Rattle.sheet.specs.Rows.{row, cell_text, body_bytes, body_text, sheet_from, texts}
use Rattle.sheet.specs.told.Put.{PutHead, PutRows}
use Rattle.sheet.specs.declared.State.{State}
use Rattle.sheet.specs.declared.Output.{Output}
use Rattle.sheet.proofs.PutLaws.{put-sheet, put-text, put-types, put_same}
use Rattle.sheet.proofs.RowLaws.{body_length, body-length}
use Rattle.declaration_rows.specs.Declarations.{Ty, Parameter}
use Rattle.schema.specs.Reading.{Read, pure, each, Scope, name_in}
use Rattle.schema.specs.Types.{declared_type}
use Rattle.schema.specs.Members.{bit_of, small_flags_in, parameter_in, parameters_in}
use Rattle.declaration_rows.specs.Rows.{name_cell, parameter_rows}
use Rattle.declaration_rows.specs.told.Written.{parameter_cells}
use Rattle.schema.specs.told.SchemaTold.{Lent, NamesOf, name_limit, stop_refused, WalkedSpends, WalkedTold, PickedTold}
use Rattle.schema.specs.told.TypesTold.{picked_of}
use Rattle.schema.specs.told.MembersTold.{section, Affords, Within, PickedWithin, ListedTold, parameter_cost, MemberTold}
use Rattle.schema.specs.told.ListsTold.{ListAtTold}
use Rattle.members.specs.told.PairsTold.{pair_in, pair_rows, PairTold}
use Rattle.members.specs.told.ParametersTold.{section_told, WalkedWithin, ParameterTold, ParametersAtTold, ParametersInTold}
use Rattle.members.specs.declared.pairs.TypePair.{TypePair}
use Rattle.schema.specs.declared.Stop.{Stop}
use Rattle.schema.specs.declared.Stop.TheVariants as stop
use Rattle.schema.proofs.NamedLaws.{cell-length}
use Rattle.schema.proofs.CountLaws.{within_less, within_both, spends-within}
use Rattle.schema.proofs.EachLaws.{always, each-kept}
use Rattle.declaration_rows.proofs.RecordLaws.{parameter-put}
use Rattle.members.proofs.PairLaws.{both-made}
use Rattle.std.specs.declared.option.Option as rust
use Rattle.std.specs.declared.result.Result.{Result}
use Rattle.std.specs.declared.result.Result.TheVariants.{Ok, Err}
use Rattle.schema.specs.told.SchemaTold.{Walked}
use Rattle.schema.specs.told.MembersTold.{ListWalked}

-- the answer of a list of parameters, once it is known
pub listed_ok : {r : Result ℕ Stop} (o : Output) {count : ℕ} → r ≡ Ok count → section_told r o ≡ Ok (section o.state count)
listed_ok o e = ap (λ (r : Result ℕ Stop). section_told r o) e

pub listed_err : {r : Result ℕ Stop} (o : Output) {stop : Stop} → r ≡ Err stop → section_told r o ≡ Err stop
listed_err o e = ap (λ (r : Result ℕ Stop). section_told r o) e

-- what a parameter's record takes
record_length : (o : ℕ) (name : Option Text) (default : Bool) → length (body_bytes o (parameter_cells name default)) ≡ 5
unfolding body_length
record_length o name default = body-length o (parameter_cells name default)

record_text : (name : Option Text) (default : Bool) → body_text (parameter_cells name default) ≡ cell_text (name_cell name)
unfolding body_text
record_text name default = append-nil (cell_text (name_cell name))

abbrev record_cost : ℕ
record_cost = 6 + name_limit

module _ {e : Lent} {n : ℕ} {s s₁ : State} (h : Affords e n s) (name : rust.Option Name) (default : Bool) {S S₁ T T₁ : List ℕ}
    (p : PutRows (row 5 (parameter_cells (name_text e.payload e.d2 name) default) ∷ []) s.types s s₁ S S₁ T T₁) where
  pub parameter-within : Within record_cost s s₁
  unfolding sheet_from texts
  parameter-within =
      let o = name_text e.payload e.d2 name in
      let q : PutHead 5 (parameter_cells o default) s.types s s₁ S S₁ T T₁ = put_same p (rw append-nil) (rw append-nil) in
      let most = cell-length e.payload e.d2 name h.payload-short h.d2-short in
      let cells = record_length s.text o default in
      let written = ap length (record_text o default) in
      record { counts = omega (arith, put-sheet q, put-text q, put-types q); types = omega (arith, put-types q) }

-- A parameter.
abbrev parameter_pair : TypePair
parameter_pair = record {
  first = record { inline = ValueParameter-type; indexed = ValueParameter-type_id; role = roles.Parameter };
  second = record { inline = ValueParameter-vararg_element_type; indexed = ValueParameter-vararg_element_type_id; role = roles.VarargElement };
}

parameter_of : Option Text → Message → Option Ty × Option Ty → Parameter
parameter_of name m ts = record {
  name = name;
  declares_default = bit_of 1 (small_flags_in ValueParameter-flags m);
  type = ts.0;
  vararg_element = ts.1;
}

parameter_is : (c : Scope) (m : Message) (l : ℕ) (name : Option Text) → name_in c ValueParameter-name m l ≡ ok (name, l)
    → parameter_in c m l ≡ Results.◌>>=◌ (pair_in parameter_pair c m l) (λ p. pure (parameter_of name m p.0) p.1)
unfolding parameter_in parameter_of
parameter_is c m l name i =
    rw i (
    both-made (declared_type c ValueParameter-type ValueParameter-type_id m)
    (declared_type c ValueParameter-vararg_element_type ValueParameter-vararg_element_type_id m) (λ type vararg. parameter_of name m (type, vararg)) l)

parameter_puts : (name : Option Text) (m : Message) (ts : Option Ty × Option Ty) {default : Bool} {b b' : ℕ} {s s₁ s₂ : State} {S S₁ S₂ T T₁ T₂ : List ℕ}
    → bit_of 1 (small_flags_in ValueParameter-flags m) ≡ default → PutRows (row 5 (parameter_cells name default) ∷ []) b s s₁ S S₁ T T₁
    → PutRows (pair_rows parameter_pair ts) b' s₁ s₂ S₁ S₂ T₁ T₂ → PutRows (parameter_rows (parameter_of name m ts)) b' s s₂ S S₂ T T₂
unfolding parameter_of
parameter_puts name m ts {default} {b} {b'} {s} {s₁} {s₂} {S} {S₁} {S₂} {T} {T₁} {T₂} d p q =
    let p' = subst (λ (v : Bool). PutRows (row 5 (parameter_cells name v) ∷ []) b s s₁ S S₁ T T₁) (sym d) p in
    parameter-put (parameter_of name m ts) p' q

module _ (e : Lent) (msg : List ℕ) (base : ℕ) (s : State) (name : rust.Option Name)
    (i : (units : List ℕ) (c : Scope) → NamesOf e.payload units e.ends e.notes e.tables.records c.names
    → (m : Message) → cut (◌from◌ base msg) ≡ ok m → (l : ℕ) → name_in c ValueParameter-name m l ≡ ok (name_text e.payload units name, l))
    (afford : Affords e parameter_cost s) (default : Bool)
    (d : (m : Message) → cut (◌from◌ base msg) ≡ ok m → bit_of 1 (small_flags_in ValueParameter-flags m) ≡ default) {s₁ : State} {S S₁ T T₁ : List ℕ}
    (p : PutRows (row 5 (parameter_cells (name_text e.payload e.d2 name) default) ∷ []) s.types s s₁ S S₁ T T₁) where
  spent : (w : Walked) → WalkedSpends s₁ w → WalkedWithin parameter_cost s w
  spent (Ok s₂) u =
      within_both parameter_cost (omega arith) (within_less parameter_cost (omega arith) (parameter-within afford name default p)) (spends-within u)
  spent (Err stop) u = tt

  told : (c : Scope) (m : Message) → cut (◌from◌ base msg) ≡ ok m → (r : Res (Parameter × ℕ))
      → r ≡ Results.◌>>=◌ (pair_in parameter_pair c m s₁.types) (λ x. pure (parameter_of (name_text e.payload e.d2 name) m x.0) x.1)
      → (w : Walked) (S₂ T₂ : List ℕ) → WalkedTold (pair_in parameter_pair c m s₁.types) (pair_rows parameter_pair) s₁ w S₁ S₂ T₁ T₂
      → WalkedTold r parameter_rows s w S S₂ T T₂
  told c m k r g (Ok s₂) S₂ T₂ (ts, b, y, z) =
      let o = name_text e.payload e.d2 name in
      (parameter_of o m ts, b, g ∙ rw y, parameter_puts o m ts (d m k) p z)
  told c m k r g (Err stop) S₂ T₂ y = g ∙ rw y

  pub parameter-told : {w : Walked} {S₂ T₂ : List ℕ} → PairTold parameter_pair e msg base s₁ w S₁ S₂ T₁ T₂ → ParameterTold e msg base s w S S₂ T T₂
  parameter-told {w} {S₂} {T₂} u = record {
    spends = spent w u.spends;
    is = λ c o m k.
        let n = name_text e.payload e.d2 name in
        let is = parameter_is c m s.types n (i e.d2 c o.names m k s.types)
        ∙ ap (λ (l : ℕ). Results.◌>>=◌ (pair_in parameter_pair c m l) (λ x. pure (parameter_of n m x.0) x.1)) (sym (put-types p)) in
        told c m k (parameter_in c m s.types) is w S₂ T₂ (u.is c o m k);
  }

-- The loop goes by the laws of lists whose members may be skipped; no parameter is.
abbrev pub read_always : Scope → Message → Read (Option Parameter)
read_always c m = always (parameter_in c m)

pub never_skipped : {e : Lent} {msg : List ℕ} {base : ℕ} {s : State} {w : Walked} {S S' T T' : List ℕ} → ParameterTold e msg base s w S S' T T'
    → MemberTold read_always parameter_rows parameter_cost e msg base s (picked_of w) S S' T T'
never_skipped {e} {msg} {base} {s} {w} {S} {S'} {T} {T'} u = record { spends = spends w u.spends; is = λ c o m k. is (parameter_in c m s.types) w (u.is c o m k) }
  where
    spends : (x : Walked) → WalkedWithin parameter_cost s x → PickedWithin parameter_cost s (picked_of x)
    spends (Ok s') h = h
    spends (Err stop) h = tt

    is : (r : Res (Parameter × ℕ)) (x : Walked) → WalkedTold r parameter_rows s x S S' T T'
        → PickedTold (Results.◌>>=◌ r λ q. pure (some q.0) q.1) parameter_rows s (picked_of x) S S' T T'
    is r (Ok s') (a, b, g, p) = (a, b, rw g, p)
    is r (Err stop) g = rw g

pub all_read : {e : Lent} {msg : List ℕ} {base number : ℕ} {s : State} {r : ListWalked} {S S' T T' : List ℕ}
    → ListAtTold read_always parameter_rows (parameter_cost * length msg) e msg base number s r S S' T T' → ParametersAtTold e msg base number s r S S' T T'
all_read {e} {msg} {base} {number} {s} {r} {S} {S'} {T} {T'} u = record {
  spends = u.spends;
  is = λ c o m k ms h.
      subst (λ (x : Res (List Parameter × ℕ)). ListedTold x parameter_rows s r S S' T T') (each-kept (parameter_in c) ms s.types) (u.is c o m k ms h);
}

-- The parameters are cut first.
parameters-are : (c : Scope) (number : ℕ) (m : Message) (l : ℕ) {ms : List Message} → messages number m ≡ ok ms
    → parameters_in c number m l ≡ each (parameter_in c) ms l
unfolding parameters_in
parameters-are c number m l e = rw e

module _ {e : Lent} {msg : List ℕ} {base number : ℕ} {s : State} (x : Result Unit WireError)
    (t : (m : Message) → cut (◌from◌ base msg) ≡ ok m → CheckedTold (messages number m) x) where
  pub parameters-uncut : {error : WireError} → x ≡ Err error → {S S' T T' : List ℕ}
      → ParametersInTold e msg base number s (Err (stop.Wire error)) S S' T T'
  unfolding parameters_in
  parameters-uncut {error} g = record {
    spends = tt;
    is = λ c o m k.
        let cuts : messages number m ≡ stop_refused (stop.Wire error) = subst (CheckedTold (messages number m)) g (t m k) in
        rw cuts;
  }

  pub parameters-cut : x ≡ Ok tt → {r : ListWalked} {S S' T T' : List ℕ} → ParametersAtTold e msg base number s r S S' T T'
      → ParametersInTold e msg base number s r S S' T T'
  parameters-cut g {r} {S} {S'} {T} {T'} u = record {
    spends = u.spends;
    is = λ c o m k.
        let cuts = subst (CheckedTold (messages number m)) g (t m k) in
        subst (λ (y : Res (List Parameter × ℕ)). ListedTold y parameter_rows s r S S' T T') (sym (parameters-are c number m s.types cuts.1))
        (u.is c o m k cuts.0 cuts.1);
  }
