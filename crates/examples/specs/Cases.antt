-- A case: an input, two areas by their lengths, and the whole answer that the definitions must give.
-- Assumes nothing.
use Rattle.std.specs.Prelude.{Bool, ◌&&◌, List, [], ◌∷◌, ◌++◌, ℕ, zero, suc, ◌+◌, ◌-◌, ◌*◌, eqb, ltb, ℤ, length, replicate, if◌then◌else◌}
use Prim.Native.String as S
use Prim.Native.String.{String}
use Prim.Native.Char.{code}
use Rattle.foundation.specs.Texts.{same}
use Rattle.inputs.specs.Inputs.{Input}
use Rattle.metadata.specs.Read.{read}

abbrev pub hex_digit : ℕ → ℕ
hex_digit c = if ltb c 0x61 then c - 0x30 else c - 0x57

-- bytes of two digits each, of which the first has k digits more to come and n so far
abbrev pub hex_from : ℕ → ℕ → String → List ℕ
hex_from k n S.[] = []
hex_from zero n (S.◌∷◌ c s) = (n * 16 + hex_digit (code c)) ∷ hex_from 1 0 s
hex_from (suc k) n (S.◌∷◌ c s) = hex_from k (n * 16 + hex_digit (code c)) s

abbrev pub hex : String → List ℕ
hex = hex_from 1 0

-- what the areas are filled with before
abbrev pub filling : ℕ
filling = 0xaa

-- The answer: number, detail, types, and what stands in both areas up to their lengths.
pub record Expected : Type 0 where
  pub number : ℕ
  pub detail : ℕ
  pub types : ℕ
  pub sheet : List ℕ
  pub text : List ℕ

-- with sheet and text in hexadecimal
abbrev pub gives : ℕ → ℕ → ℕ → String → String → Expected
gives number detail types sheet text = record { number = number; detail = detail; types = types; sheet = hex sheet; text = hex text }

pub record Case : Type 0 where
  pub input : Input
  pub sheet_area : ℕ
  pub text_area : ℕ
  pub answer : Expected

-- k, mv, d1, d2, string ends, the lengths of both areas
abbrev pub given : ℤ → List ℤ → List ℕ → List ℕ → List ℕ → ℕ → ℕ → Expected → Case
given k mv d1 d2 ends sheet text answer =
    record { input = record { k = k; mv = mv; d1 = d1; d2 = d2; ends = ends }; sheet_area = sheet; text_area = text; answer = answer }

-- an area of that length that holds some bytes and then its filling
abbrev pub area : ℕ → List ℕ → List ℕ
area n bs = bs ++ replicate (n - length bs) filling

-- number, detail, lengths, types and every byte of both areas
unfoldable pub holds : Case → Bool
holds c =
    let a = read (area c.sheet_area []) (area c.text_area []) c.input in
    let e = c.answer in
    eqb a.number e.number && eqb a.detail e.detail && eqb a.types e.types && eqb a.sheet_length (length e.sheet)
    && eqb a.text_length (length e.text) && same a.sheet (area c.sheet_area e.sheet) && same a.text (area c.text_area e.text)
