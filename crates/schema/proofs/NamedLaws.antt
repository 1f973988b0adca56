-- Names and their cells: how long a name's text is at most, and a type's record up to its name.
-- Assumes nothing.
use mathlib.Core.Path.{◌≡◌, refl, ap}
use mathlib.Core.Bool.{Bool, false}
use mathlib.Core.List.{List, [], ◌∷◌}
use mathlib.Core.Option.{Option}
use Prim.Native.Nat.{ℕ, ◌+◌, ◌-◌, ◌≤◌}
use native.Mathlib.Nat.{add-zero}
use native.Mathlib.Omega.{arith}
use lib.ListN.{length, set}
use lib.Seq.{sets}
use Rattle.foundation.specs.Digits.{little}
use Rattle.foundation.specs.Texts.{Text}
use Rattle.foundation.proofs.OverlayLaws.{sets_then}
use Rattle.names.specs.told.Name.{name_text}
use Rattle.names.specs.declared.name.Name.{Name}
use Rattle.std.specs.declared.option.Option as rust
use Rattle.std.specs.declared.option.Option.TheVariants.{Some, None}
use Rattle.names.proofs.PresentLaws.{name-most}
use Rattle.sheet.specs.Rows.{num, bit, one_if, body_bytes, body_text, cell_text}
use Rattle.sheet.specs.told.Put.{PutCells, PutHead}
use Rattle.sheet.specs.declared.State.{State}
use Rattle.sheet.proofs.PutLaws.{head_then}
use Rattle.declaration_rows.specs.Rows.{name_cell}
use Rattle.schema.specs.told.SchemaTold.{name_limit}
use Rattle.declaration_rows.proofs.WrittenLaws.{name-text}

module _ (payload d2 : List ℕ) where
  pub cell-length : (o : rust.Option Name) → length payload ≤ 32768 → length d2 ≤ 32768 → length (cell_text (name_cell (name_text payload d2 o))) ≤ name_limit
  cell-length None p q = omega arith
  cell-length (Some n) p q = omega (arith, name-most payload d2 n 32768 p q (omega arith) false, ap length (name-text payload d2 n))

-- A type's record up to its name.
pub head-put : (role : ℕ) (nullable : Bool) (name : Option Text) (s : State) (S T : List ℕ) {S₁ S₂ S₃ S₄ T₄ : List ℕ} {r : State}
    → S₁ ≡ set S s.sheet 6 → S₂ ≡ sets S₁ (s.sheet + 1) (little 1 role) → S₃ ≡ sets S₂ (s.sheet + 2) (little 1 (one_if nullable))
    → PutCells (name_cell name ∷ []) (s.types - 1) (record { sheet = s.sheet + 3; text = s.text; types = s.types - 1 }) r S₃ S₄ T T₄
    → PutHead 6 (num 1 role ∷ bit nullable ∷ name_cell name ∷ []) (s.types - 1) s r S S₄ T T₄
unfolding body_bytes body_text
head-put role nullable name s S T p q u v =
    let two = sets_then (6 ∷ []) (little 1 role) S s.sheet p refl q in
    let three = sets_then (6 ∷ little 1 role) (little 1 (one_if nullable)) S s.sheet two refl u in
    let after : State = record { sheet = s.sheet + 3; text = s.text; types = s.types - 1 } in
    let head : PutHead 6 (num 1 role ∷ bit nullable ∷ []) (s.types - 1) s after S _ T T = record { state = rw add-zero; sheet = three; text = refl } in
    head_then 6 (num 1 role ∷ bit nullable ∷ []) (name_cell name ∷ []) head v
