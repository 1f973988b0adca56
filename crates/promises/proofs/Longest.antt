-- The longest sheet, and areas that are always enough: of every answer of `read`, whatever is handed in.
-- Assumes nothing.
use mathlib.Core.Path.{◌≡◌, refl, sym, ap, subst, ◌∙◌}
use mathlib.Core.List.{List}
use Prim.Native.Nat.{ℕ, ◌+◌, ◌*◌, ◌-◌, ◌≤◌, ◌<◌, min}
use native.Mathlib.Omega.{arith}
use borrow.Author.Tests.{le-ltb, lt-ltb, ltb-true}
use lib.Dec.{ltb}
use lib.ListN.{length}
use Rattle.foundation.specs.Results.{Res, ok, refused}
use Rattle.foundation.proofs.ChoiceLaws.{if_ind}
use Rattle.foundation.proofs.ResultLaws.{gives-ok}
use Rattle.sheet.specs.Rows.{Row, texts, sheet_from}
use Rattle.sheet.proofs.RowLaws.{sheet-length}
use Rattle.declaration_rows.specs.Declarations.{Declarations}
use Rattle.schema.specs.Reading.{allowance}
use Rattle.schema.specs.told.TypeSizes.{declarations_size}
use Rattle.inputs.specs.Refusals.{number_of}
use Rattle.inputs.specs.Inputs.{Input, kind_of}
use Rattle.inputs.specs.Outcomes.{Answer}
use Rattle.declarations.specs.Payload.{declaration_rows}
use Rattle.passes.specs.Answered.{text_limit, accepted, sheet_written, written, answered}
use Rattle.metadata.specs.Read.{reading, read}
use Rattle.promises.specs.Promises.{longest_sheet, sheet_bytes, text_bytes, Enough}
use Rattle.promises.proofs.Accepted.{accepted-reads, RowsFit, sheet-bytes, text-bytes}
use Rattle.promises.proofs.Costs.{members_cost, declarations-length}
use Rattle.promises.proofs.Places.{Breaks, breaks_early, reading_breaks}
use Rattle.promises.proofs.Sound.{body_limit, reading_costs, reading_enters}

-- What is read of any input makes a sheet of 413,695 bytes at most.
pub sheet-short : (i : Input) (d : Declarations) (left : ℕ) → reading i ≡ ok (d, left)
    → length (sheet_from 0 (declaration_rows (kind_of i.k) d)) ≤ longest_sheet
sheet-short i d left e =
    let rows = declaration_rows (kind_of i.k) d in
    let costs : members_cost d ≤ 12 * body_limit = gives-ok (λ r. members_cost r.0 ≤ 12 * body_limit) e (reading_costs i) in
    let entered : declarations_size d + left ≡ allowance = gives-ok (λ r. declarations_size r.0 + r.1 ≡ allowance) e (reading_enters i) in
    rw (sheet-length 0 rows, declarations-length (kind_of i.k) d) (omega arith)

-- what is read is answered by its rows
pub read-written : (sheet text : List ℕ) (i : Input) (d : Declarations) (left : ℕ) → reading i ≡ ok (d, left)
    → read sheet text i ≡ written sheet text (declaration_rows (kind_of i.k) d) (allowance - left)
unfolding read
read-written sheet text i d left e = ap (answered sheet text (kind_of i.k)) e

-- rows that fit are written
pub written-fits : (sheet text : List ℕ) (rows : List Row) (n : ℕ) → length (sheet_from 0 rows) ≤ length sheet → length (texts rows) ≤ min (length text) text_limit
    → written sheet text rows n ≡ accepted sheet text (sheet_from 0 rows) (texts rows) n
unfolding written sheet_written
written-fits sheet text rows n h g =
    rw (le-ltb (min (length text) text_limit) (length (texts rows)) g, le-ltb (length sheet) (length (sheet_from 0 rows)) h)

-- 12 is for a sheet area that is too short, and 11 for a text that is too long
short-area : (sheet text : List ℕ) (rows : List Row) (n : ℕ) → (written sheet text rows n).number ≡ 12 → length sheet < length (sheet_from 0 rows)
unfolding written sheet_written number_of
short-area sheet text rows n =
    let P : Answer → Type 0 = λ a. a.number ≡ 12 → length sheet < length (sheet_from 0 rows) in
    if_ind P (ltb (min (length text) text_limit) (length (texts rows))) (λ t z. absurd (omega arith)) λ t.
    if_ind P (ltb (length sheet) (length (sheet_from 0 rows))) (λ t z. ltb-true (length sheet) (length (sheet_from 0 rows)) t) λ t z. absurd (omega arith)

long-text : (sheet text : List ℕ) (rows : List Row) (n : ℕ) → (written sheet text rows n).number ≡ 11 → min (length text) text_limit < length (texts rows)
unfolding written sheet_written number_of
long-text sheet text rows n =
    let P : Answer → Type 0 = λ a. a.number ≡ 11 → min (length text) text_limit < length (texts rows) in
    if_ind P (ltb (min (length text) text_limit) (length (texts rows))) (λ t z. ltb-true (min (length text) text_limit) (length (texts rows)) t) λ t.
    if_ind P (ltb (length sheet) (length (sheet_from 0 rows))) (λ t z. absurd (omega arith)) λ t z. absurd (omega arith)

pub text-refused : (sheet text : List ℕ) (rows : List Row) (n : ℕ) → min (length text) text_limit < length (texts rows) → (written sheet text rows n).number ≡ 11
unfolding written number_of
text-refused sheet text rows n h = rw (lt-ltb (min (length text) text_limit) (length (texts rows)) h)

-- 11 and 12 come of what was read, and its rows.
late_reads : (sheet text : List ℕ) (i : Input) → 11 ≤ (read sheet text i).number → (read sheet text i).number ≤ 12
    → (d : Declarations) × (left : ℕ) × (reading i ≡ ok (d, left))
unfolding read
late_reads sheet text i = go (reading i) (reading_breaks i)
  where
    go : (r : Res (Declarations × ℕ)) → Breaks i r → 11 ≤ (answered sheet text (kind_of i.k) r).number → (answered sheet text (kind_of i.k) r).number ≤ 12
        → (d : Declarations) × (left : ℕ) × (r ≡ ok (d, left))
    go (ok r) h y z = (r.0, r.1, refl)
    go (refused c p) h y z = absurd (breaks_early i c p h y z)

module _ (sheet text : List ℕ) (i : Input) where
  sheet-enough : longest_sheet ≤ length sheet → (read sheet text i).number ≡ 12 → ⊥
  sheet-enough h z =
      let g = late_reads sheet text i (omega arith) (omega arith) in
      let e = read-written sheet text i g.0 g.1 g.2 in
      let short = short-area sheet text (declaration_rows (kind_of i.k) g.0) (allowance - g.1) (sym (ap (λ (a : Answer). a.number) e) ∙ z) in
      omega (arith, short, sheet-short i g.0 g.1 g.2)

  text-enough : text_limit ≤ length text → (read sheet text i).number ≡ 11 → (sheet' text' : List ℕ) → (read sheet' text' i).number ≡ 11
  text-enough h z sheet' text' =
      let g = late_reads sheet text i (omega arith) (omega arith) in
      let rows = declaration_rows (kind_of i.k) g.0 in
      let e = read-written sheet text i g.0 g.1 g.2 in
      let long = long-text sheet text rows (allowance - g.1) (sym (ap (λ (a : Answer). a.number) e) ∙ z) in
      ap (λ (a : Answer). a.number) (read-written sheet' text' i g.0 g.1 g.2) ∙ text-refused sheet' text' rows (allowance - g.1) (omega (arith, long))

  both-enough : longest_sheet ≤ length sheet → text_limit ≤ length text → (sheet' text' : List ℕ) → (read sheet' text' i).number ≡ 0
      → ((read sheet text i).number ≡ 0) × (sheet_bytes (read sheet text i) ≡ sheet_bytes (read sheet' text' i))
      × (text_bytes (read sheet text i) ≡ text_bytes (read sheet' text' i))
  both-enough h g sheet' text' z =
      let a = accepted-reads sheet' text' i z in
      let rows = declaration_rows (kind_of i.k) a.declarations in
      let short = sheet-short i a.declarations a.left a.reads in
      let t = a.fitting.text_short in
      let w = read-written sheet text i a.declarations a.left a.reads ∙ written-fits sheet text rows (allowance - a.left) (omega arith) (omega arith) in
      let f : RowsFit sheet text rows (allowance - a.left) (read sheet text i) =
      record { answer = w; sheet_fits = omega arith; text_fits = omega arith; text_short = t } in (
        ap (λ (b : Answer). b.number) w,
        sheet-bytes f ∙ sym (sheet-bytes a.fitting),
        text-bytes f ∙ sym (text-bytes a.fitting),
      )

-- For any input and any areas, and whatever answer the reader gives.
pub areas_enough : (sheet text : List ℕ) (i : Input) {a : Answer} → read sheet text i ≡ a → Enough sheet text i a
areas_enough sheet text i e =
    subst (Enough sheet text i) e (record { sheet_enough = sheet-enough sheet text i; text_enough = text-enough sheet text i; both_enough = both-enough sheet text i })
