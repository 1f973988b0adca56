-- The answer with both areas, and what a refusal is.
-- Assumes nothing.
use Rattle.std.specs.Prelude.{List, ℕ}
use Rattle.foundation.specs.Results.{Cause}
use Rattle.inputs.specs.Refusals.{number_of, detail_of}

-- The answer, and what both areas hold afterwards.
pub record Answer : Type 0 where
  pub number : ℕ
  pub detail : ℕ
  pub sheet_length : ℕ
  pub text_length : ℕ
  pub types : ℕ
  pub sheet : List ℕ
  pub text : List ℕ

-- a refusal leaves both areas untouched
abbrev pub refusal : List ℕ → List ℕ → Cause → ℕ → Answer
refusal sheet text c place =
    record { number = number_of c; detail = detail_of c place; sheet_length = 0; text_length = 0; types = 0; sheet = sheet; text = text }
