-- What is declared, by the record that opens it and the records after it. A count is patched in.
-- Assumes nothing.
use mathlib.Core.Path.{◌≡◌, refl}
use mathlib.Core.List.{List, [], ◌∷◌, ◌++◌}
use mathlib.Core.Option.{Option, some}
use Prim.Native.Nat.{ℕ}
use lib.ListN.{length}
use lib.Seq.{sets}
use Rattle.foundation.specs.Digits.{little}
use Rattle.foundation.specs.Texts.{Text}
use Rattle.sheet.specs.Rows.{num, Row, row, body_bytes, body_text}
use Rattle.sheet.specs.told.Put.{PutHead, PutRows, past}
use Rattle.sheet.specs.declared.State.{State}
use Rattle.sheet.proofs.PutLaws.{rows_then, row_patch, row-counted}
use Rattle.declaration_rows.specs.Declarations.{Parameter, Constructor, Function, Property, Alias}
use Rattle.declaration_rows.specs.Rows.{
  return_role,
  receiver_role,
  parameter_role,
  vararg_role,
  underlying_role,
  expanded_role,
  type_rows,
  parameter_rows,
  parameters_rows,
  constructor_rows,
  function_rows,
  property_rows,
  alias_rows,
}
use Rattle.declaration_rows.specs.told.Written.{head_cells, head_counts, constructor_cells, function_cells, property_cells, parameter_cells, alias_cells}

module _ {b b' : ℕ} {s s₁ s₂ : State} {S S₁ S₂ T T₁ T₂ : List ℕ} where
  pub parameter-put : (p : Parameter) → PutRows (row 5 (parameter_cells p.name p.declares_default) ∷ []) b s s₁ S S₁ T T₁
      → PutRows (type_rows parameter_role p.type ++ type_rows vararg_role p.vararg_element) b' s₁ s₂ S₁ S₂ T₁ T₂
      → PutRows (parameter_rows p) b' s s₂ S S₂ T T₂
  unfolding parameter_rows
  parameter-put p h q =
      rows_then (row 5 (parameter_cells p.name p.declares_default) ∷ [])
      (type_rows parameter_role p.type ++ type_rows vararg_role p.vararg_element) h q

  pub property-put : (p : Property)
      → let cs = property_cells (some p.name) p.flags p.has_receiver p.getter_is_default p.setter_is_default p.field p.getter p.setter in
      PutRows (row 4 cs ∷ []) b s s₁ S S₁ T T₁
      → PutRows (type_rows receiver_role p.receiver ++ type_rows return_role p.type) b' s₁ s₂ S₁ S₂ T₁ T₂
      → PutRows (property_rows p) b' s s₂ S S₂ T T₂
  unfolding property_rows
  property-put p h q =
      let cs = property_cells (some p.name) p.flags p.has_receiver p.getter_is_default p.setter_is_default p.field p.getter p.setter in
      rows_then (row 4 cs ∷ []) (type_rows receiver_role p.receiver ++ type_rows return_role p.type) h q

  pub alias-put : (a : Alias) → PutRows (row 8 (alias_cells (some a.name) a.flags) ∷ []) b s s₁ S S₁ T T₁
      → PutRows (type_rows underlying_role a.underlying ++ type_rows expanded_role a.expanded) b' s₁ s₂ S₁ S₂ T₁ T₂
      → PutRows (alias_rows a) b' s s₂ S S₂ T T₂
  unfolding alias_rows
  alias-put a h q =
      rows_then (row 8 (alias_cells (some a.name) a.flags) ∷ [])
      (type_rows underlying_role a.underlying ++ type_rows expanded_role a.expanded) h q

  module _ {S₃ : List ℕ} where
    -- kind 9 with its count, and the records of the aliases
    pub aliases-put : (n : ℕ) (rs : List Row) → PutHead 9 [] b s s₁ S S₁ T T₁ → PutRows rs b' (past 2 s₁) s₂ S₁ S₂ T₁ T₂
        → S₃ ≡ sets S₂ s₁.sheet (little 2 n) → PutRows (row 9 (num 2 n ∷ []) ∷ rs) b' s s₂ S S₃ T T₂
    aliases-put n rs = row-counted 9 [] 2 n rs

    pub constructor-put : (c : Constructor) → PutHead 2 (constructor_cells c.flags c.signature) b s s₁ S S₁ T T₁
        → PutRows (parameters_rows c.parameters) b' (past 2 s₁) s₂ S₁ S₂ T₁ T₂
        → S₃ ≡ sets S₂ s₁.sheet (little 2 (length c.parameters))
        → PutRows (constructor_rows c) b' s s₂ S S₃ T T₂
    unfolding constructor_rows
    constructor-put c =
        row-counted 2 (constructor_cells c.flags c.signature) 2 (length c.parameters) (parameters_rows c.parameters)

    pub function-put : (f : Function) → PutHead 3 (function_cells (some f.name) f.flags f.signature f.has_receiver) b s s₁ S S₁ T T₁
        → PutRows (parameters_rows f.parameters ++ (type_rows receiver_role f.receiver ++ type_rows return_role f.returned)) b' (past 2 s₁) s₂ S₁ S₂ T₁ T₂
        → S₃ ≡ sets S₂ s₁.sheet (little 2 (length f.parameters))
        → PutRows (function_rows f) b' s s₂ S S₃ T T₂
    unfolding function_rows
    function-put f =
        row-counted 3 (function_cells (some f.name) f.flags f.signature f.has_receiver) 2 (length f.parameters)
        (parameters_rows f.parameters ++ (type_rows receiver_role f.receiver ++ type_rows return_role f.returned))

    -- kind 1 with its three counts, and the records of a class or package
    pub head-put : (kind : ℕ) (name : Option Text) (flags c f p : ℕ) (rs : List Row) → PutHead 1 (head_cells kind name flags) b s s₁ S S₁ T T₁
        → PutRows rs b' (past 6 s₁) s₂ S₁ S₂ T₁ T₂ → ((o : ℕ) → S₃ ≡ sets S₂ s₁.sheet (body_bytes o (head_counts c f p)))
        → PutRows (row 1 (head_cells kind name flags ++ head_counts c f p) ∷ rs) b' s s₂ S S₃ T T₂
    unfolding body_bytes body_text
    head-put kind name flags c f p rs h q e = row_patch 1 (head_cells kind name flags) (head_counts c f p) rs refl h q (e s₁.text)
