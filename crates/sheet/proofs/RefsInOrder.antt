-- The refs on a sheet cut its text in order, and the whole of it.
-- Assumes nothing.
use mathlib.Core.Path.{◌≡◌, refl, sym, ◌∙◌}
use mathlib.Core.List.{List, [], ◌∷◌, ◌++◌, append_assoc, append-nil}
use mathlib.Core.Option.{Option, none, some}
use Prim.Native.Nat.{ℕ, zero, suc, ◌+◌, ◌≤◌}
use native.Mathlib.Nat.{add_assoc, zero-add}
use native.Mathlib.Omega.{arith}
use lib.ListN.{length, drop, length-append}
use lib.Seq.{drop_at, take-append_seam}
use Rattle.foundation.specs.Choices.{if_some, All, IfSome}
use Rattle.sheet.specs.Rows.{Cell, num, ref, Row, Form, wide, text, forms_of, cell_bytes, cell_text, body_text, body_bytes, texts, sheet_from}
use Rattle.sheet.specs.Reading.{Ref, form_width}
use Rattle.sheet.specs.Refs.{form_refs, body_refs, body_width, refs_after, refs_of, CutInOrder}
use Rattle.sheet.proofs.RowLaws.{body_length, cell-length, body-length}
use Rattle.sheet.proofs.ReadBack.{FitCell, Fit, FitBody, InTable, TextAt, first-text, next-text, fit-width, ref_back}

-- a law of every text that a row's refs hold
abbrev pub CellHas : (List ℕ → Type 0) → Cell → Type 0
CellHas P (num w n) = Unit {0}
CellHas P (ref t) = IfSome P t

abbrev pub RowHas : (List ℕ → Type 0) → Row → Type 0
RowHas P r = All (CellHas P) r.body

-- a body has the width of its forms
pub body-width : (fs : List Form) (cs : List Cell) → Fit fs cs → body_length cs ≡ body_width fs
unfolding body_length body_width
body-width [] [] p = refl
body-width [] (c ∷ cs) p = absurd p
body-width (f ∷ fs) [] p = absurd p
body-width (f ∷ fs) (c ∷ cs) p = rw (fit-width f c p.0, body-width fs cs p.1)

-- so it is passed over
refs_skip : (n : ℕ) (bs : List ℕ) → refs_after n bs ≡ refs_of (drop n bs)
unfolding refs_after
refs_skip zero bs = refl
refs_skip (suc n) [] = refl
refs_skip (suc n) (b ∷ bs) = refs_skip n bs

module _ (P : List ℕ → Type 0) (txt : List ℕ) where
  -- one stretch of the text after another
  cut-append : (o m n : ℕ) (rs qs : List (Option Ref)) → CutInOrder P txt o m rs → CutInOrder P txt m n qs → CutInOrder P txt o n (rs ++ qs)
  cut-append o m n [] qs p q = rw p q
  cut-append o m n (none ∷ rs) qs p q = cut-append o m n rs qs p q
  cut-append o m n (some r ∷ rs) qs p q = (p.0, p.1, cut-append (o + r.size) m n rs qs p.2 q)

  cell_cut : (f : Form) (c : Cell) (o : ℕ) (rest : List ℕ) → FitCell f c → CellHas P c → TextAt txt o (cell_text c)
      → CutInOrder P txt o (o + length (cell_text c)) (form_refs f (cell_bytes o c ++ rest))
  cell_cut (wide w) (num v n) o rest p g a = omega arith
  cell_cut (wide w) (ref t) o rest p g a = absurd p
  cell_cut text (num v n) o rest p g a = absurd p
  cell_cut text (ref none) o rest p g a = omega arith
  cell_cut text (ref (some t)) o rest p g a =
      rw (ref_back o (some t) rest a.near) (refl, rw (a.stands, take-append_seam t a.after) g, refl)

  cells_cut : (fs : List Form) (cs : List Cell) (o : ℕ) (rest : List ℕ) → Fit fs cs → All (CellHas P) cs → TextAt txt o (body_text cs)
      → CutInOrder P txt o (o + length (body_text cs)) (body_refs fs (body_bytes o cs ++ rest))
  unfolding body_text body_bytes body_refs
  cells_cut [] [] o rest p g a = omega arith
  cells_cut [] (c ∷ cs) o rest p g a = absurd p
  cells_cut (f ∷ fs) [] o rest p g a = absurd p
  cells_cut (f ∷ fs) (c ∷ cs) o rest p g a =
      let t = cell_text c in
      let more = body_bytes (o + length t) cs ++ rest in
      let one = cell_cut f c o more p.0 g.0 (first-text txt o t (body_text cs) a) in
      let others = cells_cut fs cs (o + length t) rest p.1 g.1 (next-text txt o t (body_text cs) a) in
      let past = drop_at (cell_bytes o c) more (form_width f) (cell-length o c ∙ fit-width f c p.0) in
      rw (length-append, ← add_assoc, append_assoc (cell_bytes o c) (body_bytes (o + length t) cs) rest, past)
      (cut-append o (o + length t) _ (form_refs f (cell_bytes o c ++ more)) (body_refs fs more) one others)

  -- a record's refs, and those of what comes after it
  body-cut : (fs : Option (List Form)) (cs : List Cell) (o n : ℕ) (more : List ℕ) → FitBody fs cs → All (CellHas P) cs
      → TextAt txt o (body_text cs) → CutInOrder P txt (o + length (body_text cs)) n (refs_of more)
      → CutInOrder P txt o n (if_some fs [] λ gs. body_refs gs (body_bytes o cs ++ more) ++ refs_after (body_width gs) (body_bytes o cs ++ more))
  body-cut none cs o n more p g a q = absurd p
  body-cut (some gs) cs o n more p g a q =
      let bs = body_bytes o cs ++ more in
      let past = drop_at (body_bytes o cs) more (body_width gs) (body-length o cs ∙ body-width gs cs p) in
      rw (refs_skip (body_width gs) bs, past)
      (cut-append o (o + length (body_text cs)) n (body_refs gs bs) (refs_of more) (cells_cut gs cs o more p g a) q)

  rows_cut : (rs : List Row) (o : ℕ) → All InTable rs → All (RowHas P) rs → TextAt txt o (texts rs)
      → CutInOrder P txt o (o + length (texts rs)) (refs_of (sheet_from o rs))
  unfolding texts sheet_from refs_after
  rows_cut [] o p g a = omega arith
  rows_cut (r ∷ rs) o p g a =
      let t = body_text r.body in
      let others = rows_cut rs (o + length t) p.1 g.1 (next-text txt o t (texts rs) a) in
      rw (length-append, ← add_assoc)
      (body-cut (forms_of r.kind) r.body o _ (sheet_from (o + length t) rs) p.0 g.0
      (first-text txt o t (texts rs) a) others)

-- Read from the bytes alone, the refs of a sheet cut its text in order, each into a text of which P holds.
pub refs_in_order : (P : List ℕ → Type 0) (rs : List Row) → All InTable rs → All (RowHas P) rs → length (texts rs) ≤ 65534
    → CutInOrder P (texts rs) 0 (length (texts rs)) (refs_of (sheet_from 0 rs))
refs_in_order P rs p g h =
    let a : TextAt (texts rs) 0 (texts rs) = record { after = []; stands = sym (append-nil (texts rs)); near = rw zero-add h } in
    rw zero-add at (rows_cut P (texts rs) rs 0 p g a)
