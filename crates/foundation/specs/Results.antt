-- Readings that may be refused, and parts of the decoded bytes.
-- Assumes nothing.
use Rattle.std.specs.Prelude.{List, ℕ}

-- Why an input is refused, in the order of document 01's list. Numbers and details are given in one place, `inputs`' specs/Refusals.
pub data Cause : Type 0 where
  d1_too_long d2_too_long string_ends : Cause
  newer_version empty_payload : Cause
  not_a_byte : ℕ → Cause  -- the unit
  varint_cut_short past_its_message field_too_large : Cause  -- three causes of 'truncated'
  forbidden_field : Cause  -- a field number that the encoding guide forbids
  wire_type : ℕ → Cause  -- the type
  oversized_varint : Cause
  too_many_types : Cause
  text_too_long sheet_too_long : Cause

-- A refusal has its place: the offset among the decoded bytes of the varint or fixed value being read, of the tag for a wire type
-- or a field too large or forbidden, of the length for a body past its message; 0 where no bytes are read.
pub data Res (A : Type 0) : Type 0 where
  ok : A → Res A
  refused : Cause → ℕ → Res A

infixl 20 ◌>>=◌
abbrev pub ◌>>=◌ : {A B : Type 0} → Res A → (A → Res B) → Res B
◌>>=◌ (ok a) f = f a
◌>>=◌ (refused c p) f = refused c p

-- A part of the decoded bytes, with the offset of its first byte among them.
pub record Part : Type 0 where
  pub at : ℕ
  pub bytes : List ℕ

abbrev pub ◌from◌ : ℕ → List ℕ → Part
◌from◌ a bs = record { at = a; bytes = bs }

-- what was read, and the part after it
abbrev pub Got : Type 0 → Type 0
Got A = A × Part

abbrev pub got : {A : Type 0} → A → Part → Res (Got A)
got a rest = ok (a, rest)

abbrev pub map_got : {A B : Type 0} → (A → B) → Res (Got A) → Res (Got B)
map_got f (ok g) = got (f g.0) g.1
map_got f (refused c p) = refused c p
