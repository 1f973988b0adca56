-- The bytes of rows read back as the rows, by the record table.
-- Assumes nothing.
use mathlib.Core.Path.{◌≡◌, refl, ap, ◌∙◌}
use mathlib.Core.Bool.{Bool, true, false}
use mathlib.Core.List.{List, [], ◌∷◌, ◌++◌, append_assoc, append-nil}
use mathlib.Core.Option.{Option, none, some}
use Prim.Native.Nat.{ℕ, zero, suc, ◌+◌, ◌-◌, ◌^◌, ◌≤◌, ◌<◌}
use native.Mathlib.Nat.{le_refl}
use native.Mathlib.Omega.{arith}
use borrow.Author.Tests.{le-ltb, ne_eqb}
use lib.Dec.{eqb}
use lib.ListN.{length, take, drop, length-append}
use lib.Seq.{take_at, drop_at, take-append_seam, drop-append_seam, drop-drop}
use Rattle.foundation.specs.Choices.{if_some, map_option, All}
use Rattle.foundation.specs.Digits.{number, little}
use Rattle.foundation.proofs.DigitLaws.{length_digits, number_digits_fits}
use Rattle.sheet.specs.Rows.{Cell, num, ref, Row, row, bit, Form, wide, text, forms_of, ref_bytes, cell_bytes, cell_text, body_text, body_bytes, texts, sheet_from}
use Rattle.sheet.specs.Reading.{taken_bytes, ref_at, ref_of, form_width, cell_of, take_cells, take_row, take_rows, rows_of}
use Rattle.sheet.proofs.RowLaws.{cell_length, cell-length}

-- A cell of a form: a number of its width that fits, or a ref to any text.
abbrev pub FitCell : Form → Cell → Type 0
FitCell (wide w) (num v n) = (v ≡ w) × (n < 256 ^ w)
FitCell (wide w) (ref t) = ⊥
FitCell text (num v n) = ⊥
FitCell text (ref t) = Unit {0}

-- cells of these forms, in order
abbrev pub Fit : List Form → List Cell → Type 0
Fit [] [] = Unit {0}
Fit [] (c ∷ cs) = ⊥
Fit (f ∷ fs) [] = ⊥
Fit (f ∷ fs) (c ∷ cs) = FitCell f c × Fit fs cs

-- a body as the table has it for a kind
abbrev pub FitBody : Option (List Form) → List Cell → Type 0
FitBody none cs = ⊥
FitBody (some fs) cs = Fit fs cs

-- A row that is a record of the table. Where its kind and its cells stand there, this computes to a fact for each cell:
-- ((refl, fits), (bit-fits b, (tt, ((refl, fits), tt)))) for a type's row.
abbrev pub InTable : Row → Type 0
InTable r = FitBody (forms_of r.kind) r.body

pub bit-fits : (b : Bool) → FitCell (wide 1) (bit b)
bit-fits false = (refl, omega arith)
bit-fits true = (refl, omega arith)

-- the number in a number's bytes
pub little_back : (w n : ℕ) (rest : List ℕ) → n < 256 ^ w → number 256 (take w (little w n ++ rest)) ≡ n
little_back w n rest h = ap (number 256) (take_at (little w n) rest w (length_digits 256 w n)) ∙ number_digits_fits 256 w n (omega arith) h

-- a present ref's bytes are never FFFFFFFF hex
pub present-ref : (o : ℕ) (t rest : List ℕ) → o + length t ≤ 65534
    → eqb (number 256 (take 4 (ref_bytes o (some t) ++ rest))) (2 ^ 32 - 1) ≡ false
present-ref o t rest h =
    let n = number 256 (take 4 (ref_bytes o (some t) ++ rest)) in
    ne_eqb n (2 ^ 32 - 1) λ (e : n ≡ 2 ^ 32 - 1). omega arith

-- the ref in a ref's bytes
pub ref_back : (o : ℕ) (t : Option (List ℕ)) (rest : List ℕ) → o + length (cell_text (ref t)) ≤ 65534
    → ref_of (ref_bytes o t ++ rest) ≡ map_option (λ s. ref_at o (length s)) t
ref_back o none rest h = refl
ref_back o (some t) rest h =
    rw (present-ref o t rest h, little_back 2 o (little 2 (length t) ++ rest) (omega arith), little_back 2 (length t) rest (omega arith))

-- The text t stands at offset o, where a ref can say it.
pub record TextAt (txt : List ℕ) (o : ℕ) (t : List ℕ) : Type 0 where
  pub after : List ℕ
  pub stands : drop o txt ≡ t ++ after
  pub near : o + length t ≤ 65534

module _ (txt : List ℕ) (o : ℕ) (s t : List ℕ) (a : TextAt txt o (s ++ t)) where
  pub first-text : TextAt txt o s
  first-text =
      let near = rw length-append at a.near in
      record { after = t ++ a.after; stands = a.stands ∙ append_assoc s t a.after; near = omega arith }

  pub next-text : TextAt txt (o + length s) t
  next-text =
      let near = rw length-append at a.near in
      let stands : drop (o + length s) txt ≡ t ++ a.after =
      rw (← drop-drop (length s) o txt, a.stands, append_assoc) (drop-append_seam s (t ++ a.after)) in
      record { after = a.after; stands = stands; near = omega arith }

-- where its text stands, a cell reads back
cell_back : (f : Form) (c : Cell) (txt : List ℕ) (o : ℕ) (rest : List ℕ) → FitCell f c → TextAt txt o (cell_text c)
    → cell_of txt f (cell_bytes o c ++ rest) ≡ c
cell_back (wide w) (num v n) txt o rest p a = rw p.0 (ap (num w) (little_back w n rest p.1))
cell_back (wide w) (ref t) txt o rest p a = absurd p
cell_back text (num v n) txt o rest p a = absurd p
cell_back text (ref none) txt o rest p a = refl
cell_back text (ref (some t)) txt o rest p a =
    rw (ref_back o (some t) rest a.near, a.stands, take-append_seam t a.after)

pub fit-width : (f : Form) (c : Cell) → FitCell f c → cell_length c ≡ form_width f
fit-width (wide w) (num v n) p = p.0
fit-width (wide w) (ref t) p = absurd p
fit-width text (num v n) p = absurd p
fit-width text (ref t) p = refl

-- the cells of a body, one after the other
cells_next : (txt : List ℕ) (f : Form) (fs : List Form) (bs more rest : List ℕ) (c : Cell) (cs : List Cell)
    → length bs ≡ form_width f → cell_of txt f (bs ++ more) ≡ c → take_cells txt fs more ≡ some (taken_bytes cs rest)
    → take_cells txt (f ∷ fs) (bs ++ more) ≡ some (taken_bytes (c ∷ cs) rest)
unfolding take_cells
cells_next txt f fs bs more rest c cs w e m =
    let fits : form_width f ≤ length (bs ++ more) = rw length-append (omega arith) in
    rw (le-ltb (length (bs ++ more)) (form_width f) fits, drop_at bs more (form_width f) w, m, e)

cells_back : (fs : List Form) (cs : List Cell) (txt : List ℕ) (o : ℕ) (rest : List ℕ) → Fit fs cs → TextAt txt o (body_text cs)
    → take_cells txt fs (body_bytes o cs ++ rest) ≡ some (taken_bytes cs rest)
unfolding take_cells body_bytes body_text
cells_back [] [] txt o rest p a = refl
cells_back [] (c ∷ cs) txt o rest p a = absurd p
cells_back (f ∷ fs) [] txt o rest p a = absurd p
cells_back (f ∷ fs) (c ∷ cs) txt o rest p a =
    let t = cell_text c in
    let more = body_bytes (o + length t) cs ++ rest in
    let one = cell_back f c txt o more p.0 (first-text txt o t (body_text cs) a) in
    let others = cells_back fs cs txt (o + length t) rest p.1 (next-text txt o t (body_text cs) a) in
    ap (take_cells txt (f ∷ fs)) (append_assoc (cell_bytes o c) (body_bytes (o + length t) cs) rest)
    ∙ cells_next txt f fs (cell_bytes o c) more rest c cs (cell-length o c ∙ fit-width f c p.0) one others

body_back : (fs : Option (List Form)) (k : ℕ) (cs : List Cell) (txt : List ℕ) (o : ℕ) (rest : List ℕ)
    → FitBody fs cs → TextAt txt o (body_text cs)
    → if_some fs none (λ gs. map_option (λ t. taken_bytes (row k t.it) t.rest) (take_cells txt gs (body_bytes o cs ++ rest))) ≡ some (taken_bytes (row k cs) rest)
body_back none k cs txt o rest p a = absurd p
body_back (some fs) k cs txt o rest p a = rw (cells_back fs cs txt o rest p a)

pub row_back : (r : Row) (txt : List ℕ) (o : ℕ) (rest : List ℕ) → InTable r → TextAt txt o (body_text r.body)
    → take_row txt (r.kind ∷ (body_bytes o r.body ++ rest)) ≡ some (taken_bytes r rest)
unfolding take_row
row_back r txt o rest p a = body_back (forms_of r.kind) r.kind r.body txt o rest p a

-- The records of a sheet, in at least as many steps as it has bytes.
pub take_rows_back : (k : ℕ) (rs : List Row) (txt : List ℕ) (o : ℕ)
    → All InTable rs → TextAt txt o (texts rs) → length (sheet_from o rs) ≤ k → take_rows k txt (sheet_from o rs) ≡ some rs
unfolding take_rows sheet_from texts
take_rows_back zero [] txt o p a h = refl
take_rows_back zero (r ∷ rs) txt o p a h = absurd (omega arith)
take_rows_back (suc k) [] txt o p a h = refl
take_rows_back (suc k) (r ∷ rs) txt o p a h =
    let t = body_text r.body in
    let more = sheet_from (o + length t) rs in
    let enough : length more ≤ k = omega (arith, rw length-append at h) in
    let others = take_rows_back k rs txt (o + length t) p.1 (next-text txt o t (texts rs) a) enough in
    rw (row_back r txt o more p.0 (first-text txt o t (texts rs) a), others)

pub rows_back : (rs : List Row) (pre post : List ℕ) → All InTable rs → length (pre ++ texts rs) ≤ 65534
    → rows_of (sheet_from (length pre) rs) (pre ++ (texts rs ++ post)) ≡ some rs
rows_back rs pre post p h =
    let txt = pre ++ (texts rs ++ post) in
    let stands = drop-append_seam pre (texts rs ++ post) in
    let at : TextAt txt (length pre) (texts rs) = record { after = post; stands = stands; near = rw length-append at h } in
    take_rows_back (length (sheet_from (length pre) rs)) rs txt (length pre) p at (le_refl _)

-- a sheet and its text give the rows back
pub sheet_back : (rs : List Row) → All InTable rs → length (texts rs) ≤ 65534 → rows_of (sheet_from 0 rs) (texts rs) ≡ some rs
sheet_back rs p h = rw append-nil at (rows_back rs [] [] p h)
