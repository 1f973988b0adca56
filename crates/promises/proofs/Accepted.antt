-- What an accepted answer comes from.
-- Assumes nothing.
use mathlib.Core.Path.{◌≡◌, refl, sym, subst}
use mathlib.Core.Bool.{Bool, true, false}
use mathlib.Core.List.{List}
use Prim.Native.Nat.{ℕ, ◌-◌, ◌≤◌, min}
use native.Mathlib.Omega.{arith}
use borrow.Author.Tests.{ltb-false}
use lib.Dec.{ltb}
use lib.ListN.{length, take, drop}
use lib.Seq.{take-append_seam}
use Rattle.std.specs.Prelude.{if◌then◌else◌}
use Rattle.foundation.specs.Results.{
  Cause,
  d1_too_long,
  d2_too_long,
  string_ends,
  newer_version,
  empty_payload,
  not_a_byte,
  varint_cut_short,
  past_its_message,
  field_too_large,
  forbidden_field,
  wire_type,
  oversized_varint,
  too_many_types,
  text_too_long,
  sheet_too_long,
  Res,
  ok,
  refused,
}
use Rattle.sheet.specs.Rows.{Row, texts, sheet_from}
use Rattle.declaration_rows.specs.Declarations.{Declarations}
use Rattle.schema.specs.Reading.{allowance}
use Rattle.inputs.specs.Refusals.{number_of}
use Rattle.inputs.specs.Inputs.{Input, kind_of}
use Rattle.inputs.specs.Outcomes.{Answer, refusal}
use Rattle.declarations.specs.Payload.{declaration_rows}
use Rattle.passes.specs.Answered.{text_limit, accepted, sheet_written, written, answered}
use Rattle.metadata.specs.Read.{reading, read}

-- no refusal has number 0
pub refusal_numbered : (c : Cause) → 1 ≤ number_of c
unfolding number_of
refusal_numbered d1_too_long = omega arith
refusal_numbered d2_too_long = omega arith
refusal_numbered string_ends = omega arith
refusal_numbered newer_version = omega arith
refusal_numbered empty_payload = omega arith
refusal_numbered (not_a_byte u) = omega arith
refusal_numbered varint_cut_short = omega arith
refusal_numbered past_its_message = omega arith
refusal_numbered field_too_large = omega arith
refusal_numbered forbidden_field = omega arith
refusal_numbered (wire_type t) = omega arith
refusal_numbered oversized_varint = omega arith
refusal_numbered too_many_types = omega arith
refusal_numbered text_too_long = omega arith
refusal_numbered sheet_too_long = omega arith

-- the rows of an answer, which fit both areas
pub record RowsFit (sheet text : List ℕ) (rows : List Row) (n : ℕ) (a : Answer) : Type 0 where
  pub answer : a ≡ accepted sheet text (sheet_from 0 rows) (texts rows) n
  pub sheet_fits : length (sheet_from 0 rows) ≤ length sheet
  pub text_fits : length (texts rows) ≤ length text
  pub text_short : length (texts rows) ≤ text_limit

module _ (sheet text : List ℕ) (rows : List Row) (n : ℕ) where
  sheet-fitting : length (texts rows) ≤ min (length text) text_limit → (sheet_written sheet text rows n).number ≡ 0
      → RowsFit sheet text rows n (sheet_written sheet text rows n)
  unfolding sheet_written
  sheet-fitting h = go (ltb (length sheet) (length (sheet_from 0 rows))) refl
    where
      Either : Bool → Answer
      Either b = if b then refusal sheet text sheet_too_long 0 else accepted sheet text (sheet_from 0 rows) (texts rows) n

      go : (b : Bool) → ltb (length sheet) (length (sheet_from 0 rows)) ≡ b → (Either b).number ≡ 0 → RowsFit sheet text rows n (Either b)
      go true e z = absurd (omega (arith, refusal_numbered sheet_too_long))
      go false e z = record { answer = refl; sheet_fits = ltb-false _ _ e; text_fits = omega arith; text_short = omega arith }

  written-fitting : (written sheet text rows n).number ≡ 0 → RowsFit sheet text rows n (written sheet text rows n)
  unfolding written
  written-fitting = go (ltb (min (length text) text_limit) (length (texts rows))) refl
    where
      Either : Bool → Answer
      Either b = if b then refusal sheet text text_too_long 0 else sheet_written sheet text rows n

      go : (b : Bool) → ltb (min (length text) text_limit) (length (texts rows)) ≡ b → (Either b).number ≡ 0 → RowsFit sheet text rows n (Either b)
      go true e z = absurd (omega (arith, refusal_numbered text_too_long))
      go false e z = sheet-fitting (ltb-false _ _ e) z

-- An accepted answer: the declarations read, how many types might still be entered, and the rows that fit.
pub record Accepted (sheet text : List ℕ) (i : Input) : Type 0 where
  pub declarations : Declarations
  pub left : ℕ
  pub reads : reading i ≡ ok (declarations, left)
  pub fitting : RowsFit sheet text (declaration_rows (kind_of i.k) declarations) (allowance - left) (read sheet text i)

pub accepted-reads : (sheet text : List ℕ) (i : Input) → (read sheet text i).number ≡ 0 → Accepted sheet text i
unfolding read
accepted-reads sheet text i = go (reading i) refl
  where
    go : (r : Res (Declarations × ℕ)) → reading i ≡ r → (answered sheet text (kind_of i.k) r).number ≡ 0 → Accepted sheet text i
    go (refused c p) e z = absurd (omega (arith, refusal_numbered c))
    go (ok r) e z = record {
      declarations = r.0;
      left = r.1;
      reads = e;
      fitting = subst (λ (q : Res (Declarations × ℕ)). RowsFit sheet text (declaration_rows (kind_of i.k) r.0) (allowance - r.1) (answered sheet text (kind_of i.k) q)) (sym e)
          (written-fitting sheet text (declaration_rows (kind_of i.k) r.0) (allowance - r.1) z);
    }

module _ {sheet text : List ℕ} {rows : List Row} {n : ℕ} {a : Answer} (f : RowsFit sheet text rows n a) where
  pub sheet-bytes : take a.sheet_length a.sheet ≡ sheet_from 0 rows
  sheet-bytes = rw f.answer (take-append_seam (sheet_from 0 rows) (drop (length (sheet_from 0 rows)) sheet))

  pub text-bytes : take a.text_length a.text ≡ texts rows
  text-bytes = rw f.answer (take-append_seam (texts rows) (drop (length (texts rows)) text))
