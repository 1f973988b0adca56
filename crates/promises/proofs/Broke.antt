-- Where an answer says that it broke: the theorem on its number and detail.
-- Assumes nothing.
use mathlib.Core.Path.{◌≡◌, refl, subst}
use mathlib.Core.List.{List}
use Prim.Native.Nat.{ℕ, zero, suc, ◌-◌, ◌≤◌, min}
use native.Mathlib.Omega.{arith}
use lib.Dec.{T, ltb}
use lib.ListN.{length}
use Rattle.foundation.specs.Results.{
  Cause,
  d1_too_long,
  d2_too_long,
  string_ends,
  newer_version,
  empty_payload,
  not_a_byte,
  varint_cut_short,
  past_its_message,
  field_too_large,
  forbidden_field,
  wire_type,
  oversized_varint,
  too_many_types,
  text_too_long,
  sheet_too_long,
  Res,
  ok,
  refused,
}
use Rattle.foundation.proofs.ChoiceLaws.{if_ind}
use Rattle.encoding.specs.Encoding.{decoded}
use Rattle.sheet.specs.Rows.{Row, texts, sheet_from}
use Rattle.declaration_rows.specs.Declarations.{Declarations}
use Rattle.schema.specs.Reading.{allowance}
use Rattle.inputs.specs.Refusals.{number_of, detail_of}
use Rattle.inputs.specs.Inputs.{Input, kind_of}
use Rattle.inputs.specs.Outcomes.{Answer, refusal}
use Rattle.declarations.specs.Payload.{declaration_rows}
use Rattle.passes.specs.Answered.{text_limit, sheet_written, written, answered}
use Rattle.metadata.specs.Read.{reading, read}
use Rattle.promises.specs.Promises.{tells_offset, BrokeAt}
use Rattle.promises.proofs.Places.{PlaceHolds, BreaksAt, before, inside, Breaks, reading_breaks}

module _ (i : Input) (sheet text : List ℕ) where
  -- a refusal of what is read of the decoded bytes, by its cause
  placed-broke : (bytes : List ℕ) → decoded i.d1 ≡ ok bytes → (c : Cause) (place : ℕ) → PlaceHolds (length bytes) c place → T (tells_offset (number_of c))
      → BrokeAt i (refusal sheet text c place)
  unfolding number_of detail_of
  placed-broke bytes e d1_too_long place p z = absurd z
  placed-broke bytes e d2_too_long place p z = absurd z
  placed-broke bytes e string_ends place p z = absurd z
  placed-broke bytes e newer_version place p z = absurd z
  placed-broke bytes e empty_payload place p z = absurd z
  placed-broke bytes e (not_a_byte unit) place p z = absurd z
  placed-broke bytes e varint_cut_short place p z = record { bytes = bytes; decodes = e; offset = p; there = λ s m. absurd (s refl) }
  placed-broke bytes e past_its_message place p z = record { bytes = bytes; decodes = e; offset = p; there = λ s m. absurd (m refl) }
  placed-broke bytes e field_too_large place p z = record { bytes = bytes; decodes = e; offset = omega arith; there = λ s m. p }
  placed-broke bytes e forbidden_field place p z = record { bytes = bytes; decodes = e; offset = omega arith; there = λ s m. p }
  placed-broke bytes e (wire_type type) place p z = record { bytes = bytes; decodes = e; offset = omega arith; there = λ s m. p }
  placed-broke bytes e oversized_varint place p z = record { bytes = bytes; decodes = e; offset = omega arith; there = λ s m. p }
  placed-broke bytes e too_many_types place p z = absurd z
  placed-broke bytes e text_too_long place p z = absurd z
  placed-broke bytes e sheet_too_long place p z = absurd z

  -- no number up to 6 tells an offset
  unread-silent : (n : ℕ) → n ≤ 6 → T (tells_offset n) → ⊥
  unread-silent zero h z = z
  unread-silent (suc zero) h z = z
  unread-silent (suc (suc zero)) h z = z
  unread-silent (suc (suc (suc zero))) h z = z
  unread-silent (suc (suc (suc (suc zero)))) h z = z
  unread-silent (suc (suc (suc (suc (suc zero))))) h z = z
  unread-silent (suc (suc (suc (suc (suc (suc zero)))))) h z = z
  unread-silent (suc (suc (suc (suc (suc (suc (suc n))))))) h z = omega arith

  breaks-broke : (c : Cause) (place : ℕ) → BreaksAt i c place → T (tells_offset (number_of c)) → BrokeAt i (refusal sheet text c place)
  breaks-broke c place (before h) z = absurd (unread-silent (number_of c) h z)
  breaks-broke c place (inside bytes e p) z = placed-broke bytes e c place p z

  -- what was read tells none: its answer is 0, 11 or 12
  written-silent : (rows : List Row) (n : ℕ) → T (tells_offset (written sheet text rows n).number) → ⊥
  unfolding written sheet_written number_of
  written-silent rows n =
      let P : Answer → Type 0 = λ a. T (tells_offset a.number) → ⊥ in
      if_ind P (ltb (min (length text) text_limit) (length (texts rows))) (λ t z. z) λ t.
      if_ind P (ltb (length sheet) (length (sheet_from 0 rows))) (λ t z. z) λ t z. z

  read-broke : T (tells_offset (read sheet text i).number) → BrokeAt i (read sheet text i)
  unfolding read
  read-broke = go (reading i) (reading_breaks i)
    where
      go : (r : Res (Declarations × ℕ)) → Breaks i r → T (tells_offset (answered sheet text (kind_of i.k) r).number) → BrokeAt i (answered sheet text (kind_of i.k) r)
      go (ok r) h z = absurd (written-silent (declaration_rows (kind_of i.k) r.0) (allowance - r.1) z)
      go (refused c place) h z = breaks-broke c place h z

-- For any input and any areas, and whatever answer the reader gives.
pub answer_broke : (sheet text : List ℕ) (i : Input) {a : Answer} → read sheet text i ≡ a → T (tells_offset a.number) → BrokeAt i a
answer_broke sheet text i e = subst (λ (a : Answer). T (tells_offset a.number) → BrokeAt i a) e (read-broke i sheet text)
