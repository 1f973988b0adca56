-- A sheet's bytes taken apart again, by the record table alone.
-- Assumes nothing.
use Rattle.std.specs.Prelude.{List, [], ◌∷◌, ℕ, zero, suc, ◌-◌, ◌^◌, eqb, ltb, length, take, drop, if◌then◌else◌}
use Rattle.std.proofs.Math.Option.{Option, none, some}
use Rattle.foundation.specs.Choices.{if_some, map_option}
use Rattle.foundation.specs.Digits.{number}
use Rattle.sheet.specs.Rows.{Cell, num, ref, Row, row, Form, wide, text, forms_of}

-- what was taken, and the bytes after it
pub record TakenBytes (A : Type 0) : Type 0 where
  pub it : A
  pub rest : List ℕ

abbrev pub taken_bytes : {A : Type 0} → A → List ℕ → TakenBytes A
taken_bytes a bs = record { it = a; rest = bs }

-- offset and length in the text area
pub record Ref : Type 0 where
  pub offset : ℕ
  pub size : ℕ

abbrev pub ref_at : ℕ → ℕ → Ref
ref_at o n = record { offset = o; size = n }

-- a ref's four bytes, two each; absent is FFFFFFFF hex
abbrev pub ref_of : List ℕ → Option Ref
ref_of bs =
    let present = some (ref_at (number 256 (take 2 bs)) (number 256 (take 2 (drop 2 bs)))) in
    if eqb (number 256 (take 4 bs)) (2 ^ 32 - 1) then none else present

-- what a ref cuts out of the text
abbrev pub cut_by : List ℕ → Ref → List ℕ
cut_by txt r = take r.size (drop r.offset txt)

abbrev pub cut_out : List ℕ → List ℕ → Option (List ℕ)
cut_out txt bs = map_option (cut_by txt) (ref_of bs)

abbrev pub form_width : Form → ℕ
form_width (wide w) = w
form_width text = 4

abbrev pub cell_of : List ℕ → Form → List ℕ → Cell
cell_of txt (wide w) bs = num w (number 256 (take w bs))
cell_of txt text bs = ref (cut_out txt bs)

unfoldable pub take_cells : List ℕ → List Form → List ℕ → Option (TakenBytes (List Cell))
take_cells txt [] bs = some (taken_bytes [] bs)
take_cells txt (f ∷ fs) bs =
    let more = map_option (λ t. taken_bytes (cell_of txt f bs ∷ t.it) t.rest) (take_cells txt fs (drop (form_width f) bs)) in
    if ltb (length bs) (form_width f) then none else more

-- A record: its kind, and the body that the table has for it.
unfoldable pub take_row : List ℕ → List ℕ → Option (TakenBytes Row)
take_row txt [] = none
take_row txt (k ∷ bs) =
    if_some (forms_of k) none λ fs. map_option (λ t. taken_bytes (row k t.it) t.rest) (take_cells txt fs bs)

-- The records of a sheet up to its last byte, at most k of them; none if a kind is unknown or the last record isn't whole.
unfoldable pub take_rows : ℕ → List ℕ → List ℕ → Option (List Row)
take_rows zero txt [] = some []
take_rows zero txt (b ∷ bs) = none
take_rows (suc k) txt [] = some []
take_rows (suc k) txt (b ∷ bs) = if_some (take_row txt (b ∷ bs)) none λ t. map_option (λ rs. t.it ∷ rs) (take_rows k txt t.rest)

-- each record takes a byte at least
abbrev pub rows_of : List ℕ → List ℕ → Option (List Row)
rows_of sheet txt = take_rows (length sheet) txt sheet
