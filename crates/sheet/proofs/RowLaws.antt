-- Texts, bytes and lengths of rows add up.
-- Assumes nothing.
use mathlib.Core.Path.{◌≡◌, refl, sym, ap, ◌∙◌}
use mathlib.Core.List.{List, [], ◌∷◌, ◌++◌, map, append_assoc, append-nil}
use mathlib.Core.Option.{none, some}
use Prim.Native.Nat.{ℕ, suc, ◌+◌}
use native.Mathlib.Nat.{add-zero, add_assoc}
use native.Mathlib.Omega.{arith}
use lib.ListN.{length, length-append}
use Rattle.foundation.specs.Choices.{concat}
use Rattle.foundation.proofs.DigitLaws.{length_digits}
use Rattle.sheet.specs.Rows.{
  Cell,
  num,
  ref,
  Row,
  row,
  cell_bytes,
  cell_text,
  body_text,
  body_bytes,
  texts,
  sheet_from,
}

-- texts of cells and of rows, one after the other
pub body_text-append : (cs ds : List Cell) → body_text (cs ++ ds) ≡ body_text cs ++ body_text ds
unfolding body_text
body_text-append [] ds = refl
body_text-append (c ∷ cs) ds = rw (body_text-append cs ds) (sym (append_assoc (cell_text c) (body_text cs) (body_text ds)))

pub texts-append : (rs qs : List Row) → texts (rs ++ qs) ≡ texts rs ++ texts qs
unfolding texts
texts-append [] qs = refl
texts-append (r ∷ rs) qs = rw (texts-append rs qs) (sym (append_assoc (body_text r.body) (texts rs) (texts qs)))

pub texts_concat_map : {A : Type 0} (f : A → List Row) (xs : List A) → texts (concat (map f xs)) ≡ concat (map (λ x. texts (f x)) xs)
unfolding texts
texts_concat_map f [] = refl
texts_concat_map f (x ∷ xs) = texts-append (f x) (concat (map f xs)) ∙ ap (λ (l : List ℕ). texts (f x) ++ l) (texts_concat_map f xs)

-- bytes likewise, what comes after counting its offsets from the end of the texts before it
pub body_bytes-append : (o : ℕ) (cs ds : List Cell) → body_bytes o (cs ++ ds) ≡ body_bytes o cs ++ body_bytes (o + length (body_text cs)) ds
unfolding body_text body_bytes
body_bytes-append o [] ds = rw add-zero
body_bytes-append o (c ∷ cs) ds =
    rw (body_bytes-append (o + length (cell_text c)) cs ds, length-append, add_assoc, append_assoc)

pub sheet-append : (o : ℕ) (rs qs : List Row) → sheet_from o (rs ++ qs) ≡ sheet_from o rs ++ sheet_from (o + length (texts rs)) qs
unfolding texts sheet_from
sheet-append o [] qs = rw add-zero
sheet-append o (r ∷ rs) qs =
    let p = o + length (body_text r.body) in
    let e = append_assoc (body_bytes o r.body) (sheet_from p rs) (sheet_from (p + length (texts rs)) qs) in
    rw (sheet-append p rs qs, length-append, ← add_assoc) (ap (λ (l : List ℕ). r.kind ∷ l) (sym e))

-- a record of which some numbers stand last, and the records after it
module _ (k : ℕ) (cs ds : List Cell) (rs : List Row) (h : body_text ds ≡ []) where
  pub row-split : (o : ℕ)
      → sheet_from o (row k (cs ++ ds) ∷ rs)
      ≡ (k ∷ body_bytes o cs) ++ (body_bytes (o + length (body_text cs)) ds ++ sheet_from (o + length (body_text cs)) rs)
  unfolding sheet_from
  row-split o = rw (body_bytes-append, body_text-append, h, append-nil, append_assoc)

  pub texts-split : texts (row k (cs ++ ds) ∷ rs) ≡ body_text cs ++ texts rs
  unfolding texts
  texts-split = rw (body_text-append, h, append-nil)

-- The lengths of a row's parts: no offset is in them.
abbrev pub cell_length : Cell → ℕ
cell_length (num w n) = w
cell_length (ref t) = 4

unfoldable pub body_length : List Cell → ℕ
body_length [] = 0
body_length (c ∷ cs) = cell_length c + body_length cs

-- one byte of kind, then the body
unfoldable pub rows_length : List Row → ℕ
rows_length [] = 0
rows_length (r ∷ rs) = suc (body_length r.body + rows_length rs)

pub cell-length : (o : ℕ) (c : Cell) → length (cell_bytes o c) ≡ cell_length c
cell-length o (num w n) = length_digits 256 w n
cell-length o (ref none) = refl
cell-length o (ref (some t)) = refl

pub body-length : (o : ℕ) (cs : List Cell) → length (body_bytes o cs) ≡ body_length cs
unfolding body_bytes body_length
body-length o [] = refl
body-length o (c ∷ cs) = rw (length-append, cell-length o c, body-length (o + length (cell_text c)) cs)

pub sheet-length : (o : ℕ) (rs : List Row) → length (sheet_from o rs) ≡ rows_length rs
unfolding sheet_from rows_length
sheet-length o [] = refl
sheet-length o (r ∷ rs) = rw (length-append, body-length o r.body, sheet-length (o + length (body_text r.body)) rs)

pub rows_length_append : (rs qs : List Row) → rows_length (rs ++ qs) ≡ rows_length rs + rows_length qs
unfolding rows_length
rows_length_append [] qs = omega arith
rows_length_append (r ∷ rs) qs = omega (arith, rows_length_append rs qs)
