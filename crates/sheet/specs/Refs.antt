-- The refs on a sheet, straight from its bytes: by them alone the text area is cut (document 01, "The sheet").
-- Assumes nothing.
use Rattle.std.specs.Prelude.{◌≡◌, List, [], ◌∷◌, ◌++◌, ℕ, zero, suc, ◌+◌, drop}
use Rattle.std.proofs.Math.Option.{Option, none, some}
use Rattle.foundation.specs.Choices.{if_some}
use Rattle.sheet.specs.Rows.{Form, wide, text, forms_of}
use Rattle.sheet.specs.Reading.{Ref, ref_of, cut_by, form_width}

abbrev pub form_refs : Form → List ℕ → List (Option Ref)
form_refs (wide w) bs = []
form_refs text bs = ref_of bs ∷ []

unfoldable pub body_refs : List Form → List ℕ → List (Option Ref)
body_refs [] bs = []
body_refs (f ∷ fs) bs = form_refs f bs ++ body_refs fs (drop (form_width f) bs)

unfoldable pub body_width : List Form → ℕ
body_width [] = 0
body_width (f ∷ fs) = form_width f + body_width fs

-- The refs of the records after n more bytes of a body, up to the last byte or to one that is no record's kind.
-- A record is its kind, then the body that the table has for it.
unfoldable pub refs_after : ℕ → List ℕ → List (Option Ref)
refs_after n [] = []
refs_after (suc n) (b ∷ bs) = refs_after n bs
refs_after zero (k ∷ bs) = if_some (forms_of k) [] λ fs. body_refs fs bs ++ refs_after (body_width fs) bs

abbrev pub refs_of : List ℕ → List (Option Ref)
refs_of = refs_after 0

-- Each ref that is present begins where the last such one ended, at o before the first, and cuts out a text of which P holds; the
-- last ends at n. So no byte of a text is left out or shared.
abbrev pub CutInOrder : (List ℕ → Type 0) → List ℕ → ℕ → ℕ → List (Option Ref) → Type 0
CutInOrder P txt o n [] = o ≡ n
CutInOrder P txt o n (none ∷ rs) = CutInOrder P txt o n rs
CutInOrder P txt o n (some r ∷ rs) = (r.offset ≡ o) × P (cut_by txt r) × CutInOrder P txt (o + r.size) n rs
