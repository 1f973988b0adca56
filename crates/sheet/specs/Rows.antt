-- The sheet's records as rows of cells, and their bytes (document 01, "The sheet").
-- Assumes nothing.
use Rattle.std.specs.Prelude.{Bool, List, [], ◌∷◌, ◌++◌, ℕ, zero, suc, ◌+◌, ◌-◌, ◌^◌, length, if◌then◌else◌}
use Rattle.std.proofs.Math.Option.{Option, none, some}
use Rattle.std.proofs.Math.ListN.{get_elem?}
use Rattle.foundation.specs.Digits.{little}

-- A cell is a number of a width in bytes, or a ref to a text, here the text itself in UTF-8.
pub data Cell : Type 0 where
  num : ℕ → ℕ → Cell
  ref : Option (List ℕ) → Cell

-- A record: one byte of kind, then a body.
pub record Row : Type 0 where
  pub kind : ℕ
  pub body : List Cell

abbrev pub row : ℕ → List Cell → Row
row k cs = record { kind = k; body = cs }

-- 0/1
abbrev pub one_if : Bool → ℕ
one_if b = if b then 1 else 0

abbrev pub bit : Bool → Cell
bit b = num 1 (one_if b)

-- What the table of document 01 puts into a cell.
pub data Form : Type 0 where
  wide : ℕ → Form  -- a number of that width
  text : Form  -- a ref

-- document 01's table, kinds 1 to 7, and of document 02 a type's projection, kind 6, and type aliases, kinds 8 and 9
abbrev pub record_table : List (List Form)
record_table =
    -- 1 head: metadata kind, class name, flags, counts of constructors, functions, properties
    (wide 1 ∷ text ∷ wide 8 ∷ wide 2 ∷ wide 2 ∷ wide 2 ∷ [])
    -- 2 constructor: flags, signature name, descriptor, parameter count
    ∷ (wide 8 ∷ text ∷ text ∷ wide 2 ∷ [])
    -- 3 function: name, flags, signature name, descriptor, receiver, parameter count
    ∷ (text ∷ wide 8 ∷ text ∷ text ∷ wide 1 ∷ wide 2 ∷ [])
    -- 4 property: name, flags, receiver, getter default, setter default; field, getter, setter as name and descriptor
    ∷ (text ∷ wide 8 ∷ wide 1 ∷ wide 1 ∷ wide 1 ∷ text ∷ text ∷ text ∷ text ∷ text ∷ text ∷ [])
    -- 5 parameter: name, default
    ∷ (text ∷ wide 1 ∷ [])
    -- 6 type: role, nullable, name, argument count, projection
    ∷ (wide 1 ∷ wide 1 ∷ text ∷ wide 2 ∷ wide 1 ∷ [])
    -- 7 default descriptor
    ∷ (text ∷ [])
    -- 8 type alias: name, flags
    ∷ (text ∷ wide 8 ∷ [])
    -- 9 count of type aliases
    ∷ (wide 2 ∷ [])
    ∷ []

-- the body that the table has for a kind
abbrev pub forms_of : ℕ → Option (List Form)
forms_of zero = none
forms_of (suc k) = get_elem? record_table k

-- a ref's bytes: offset and length in the text area, 2 bytes each; absent is FFFFFFFF hex
abbrev pub present_bytes : ℕ → ℕ → List ℕ
present_bytes offset size = little 2 offset ++ little 2 size

abbrev pub absent_bytes : List ℕ
absent_bytes = little 4 (2 ^ 32 - 1)

abbrev pub ref_bytes : ℕ → Option (List ℕ) → List ℕ
ref_bytes o none = absent_bytes
ref_bytes o (some t) = present_bytes o (length t)

-- a cell's bytes, o bytes of text standing before it
abbrev pub cell_bytes : ℕ → Cell → List ℕ
cell_bytes o (num w n) = little w n
cell_bytes o (ref t) = ref_bytes o t

abbrev pub cell_text : Cell → List ℕ
cell_text (num w n) = []
cell_text (ref none) = []
cell_text (ref (some t)) = t

-- texts are appended in the order of their refs
unfoldable pub body_text : List Cell → List ℕ
body_text [] = []
body_text (c ∷ cs) = cell_text c ++ body_text cs

unfoldable pub body_bytes : ℕ → List Cell → List ℕ
body_bytes o [] = []
body_bytes o (c ∷ cs) = cell_bytes o c ++ body_bytes (o + length (cell_text c)) cs

unfoldable pub texts : List Row → List ℕ
texts [] = []
texts (r ∷ rs) = body_text r.body ++ texts rs

unfoldable pub sheet_from : ℕ → List Row → List ℕ
sheet_from o [] = []
sheet_from o (r ∷ rs) = r.kind ∷ (body_bytes o r.body ++ sheet_from (o + length (body_text r.body)) rs)
