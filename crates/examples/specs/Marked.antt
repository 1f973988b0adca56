-- Document 01's marked examples (a) to (l), with document 02's projection at the end of each type and its empty kind 9 at the end of each sheet, as one table of tests.
-- Assumes nothing.
use Rattle.std.specs.Prelude.{Bool, true, false, ◌&&◌, List, [], ◌∷◌, ◌++◌, ℕ, ◌+◌, ◌*◌, ◌^◌, eqb, ℤ, pos, replicate}
use Prim.Native.String.{String}
use Rattle.foundation.specs.Choices.{concat}
use Rattle.foundation.specs.Results.{Res, ok, refused, ◌from◌, Got}
use Rattle.foundation.specs.Texts.{ascii, same}
use Rattle.encoding.specs.Encoding.{decoded}
use Rattle.wire.specs.Wire.{read_varint}
use Rattle.inputs.specs.Refusals.{number_of}
use Rattle.inputs.specs.Inputs.{Input}
use Rattle.inputs.specs.Outcomes.{Answer}
use Rattle.metadata.specs.Read.{read}
use Rattle.answer_lines.specs.Program.{printed, zeros}
use Rattle.examples.specs.Cases.{Case, Expected, given, gives, hex, holds, area}

pub record Marked : Type 0 where
  pub label : String
  pub test : Bool

abbrev pub ◌shows◌ : String → Bool → Marked
◌shows◌ l t = record { label = l; test = t }

abbrev pub is_varint : ℕ → Res (Got ℕ) → Bool
is_varint n (ok g) = eqb g.0 n && same g.1.bytes []
is_varint n (refused c p) = false

abbrev pub is_refused : {A : Type 0} → ℕ → Res A → Bool
is_refused n (ok a) = false
is_refused n (refused c p) = eqb (number_of c) n

abbrev pub is_bytes : List ℕ → Res (List ℕ) → Bool
is_bytes bs (ok cs) = same bs cs
is_bytes bs (refused c p) = false

abbrev pub varint_in : String → Res (Got ℕ)
varint_in bytes = read_varint (◌from◌ 0 (hex bytes))

abbrev pub version : ℕ → List ℤ
version n = pos n ∷ pos 9 ∷ pos 0 ∷ []

-- a package of mv 1.9.0, areas of 65,536 bytes
abbrev pub in_package : List ℕ → List ℕ → List ℕ → Expected → Case
in_package d1 d2 ends = given (pos 2) (version 1) d1 d2 ends 65536 65536

abbrev pub unit_function : ℕ → Expected → Case
unit_function mv = given (pos 2) (version mv) (hex "00001a0610001a023001") (ascii "fkotlin/Unit") (1 ∷ 12 ∷ []) 65536 65536

-- a property whose type has n arguments, each an empty type; its lengths as varints come first
abbrev pub types_input : String → String → ℕ → Input
types_input property_length type_length n = record {
  k = pos 2;
  mv = version 1;
  d1 = hex "000022" ++ (hex property_length ++ (hex "10001a" ++ (hex type_length ++ concat (replicate n (hex "12021200")))));
  d2 = ascii "p";
  ends = 1 ∷ [];
}

abbrev pub answers : ℕ → ℕ → ℕ → Answer → Bool
answers number types sheet_length a = eqb a.number number && eqb a.types types && eqb a.sheet_length sheet_length

-- the bytes of (a): k, mv, d1, d2 and string ends, each list with its count; and the line
abbrev pub line_input : String
line_input =
    "020000000100000009000000000000000a000000000000001a000600100000001a000200300001000c00000066006b006f0074006c0069006e002f0055006e006900740002000000010000000c000000"

abbrev pub whole_line : String
whole_line =
    "0 0 0102ffffffff060000000000000000000100000003000001000600000000000000ffffffffffffffff00000006010001000b00000002070c000300090000 666b6f746c696e2e556e6974282956\n"

abbrev pub marked : List Marked
marked =
    ◌shows◌ "(a) the whole line, from its bytes" (same (printed zeros zeros (hex line_input)) (ascii whole_line))
    ∷ ◌shows◌ "(a) its answer" (holds (unit_function 1 (gives 0 0 1
    "0102ffffffff060000000000000000000100000003000001000600000000000000ffffffffffffffff00000006010001000b00000002070c000300090000"
    "666b6f746c696e2e556e6974282956")))
    ∷ ◌shows◌ "(b) d1 00 00: a head of 20 bytes, and kind 9" (holds (in_package (hex "0000") [] [] (gives 0 0 0
    "0102ffffffff0600000000000000000000000000090000" "")))
    ∷ ◌shows◌ "(c) d1 00: truncated" (holds (in_package (hex "00") [] [] (gives 7 0 0 "" "")))
    ∷ ◌shows◌ "(d) varint 96 01 is 150" (is_varint 150 (varint_in "9601"))
    ∷ ◌shows◌ "(e) nine 80, then 7F is 2^63" (is_varint (2 ^ 63) (varint_in "8080808080808080807f"))
    ∷ ◌shows◌ "(f) ten 80: truncated" (is_refused 7 (varint_in "80808080808080808080"))
    ∷ ◌shows◌ "(f) eleven 80: oversized" (is_refused 9 (varint_in "8080808080808080808080"))
    ∷ ◌shows◌ "(g) 8 old units give 7 bytes" (is_bytes (hex "01020304050607") (decoded (hex "02050d2151414204")))
    ∷ ◌shows◌ "(g) 1 old unit gives 0" (is_bytes [] (decoded (hex "05")))
    ∷ ◌shows◌ "(h) Array of Int" (holds (in_package (hex "00001a0c10001a081204120230023001") (ascii "fkotlin/Arraykotlin/Int") (1 ∷ 13 ∷ 23 ∷ [])
    (gives 0 0 2
    "0102ffffffff060000000000000000000100000003000001000600000000000000ffffffffffffffff00000006010001000c000100020605000d000a000000020717001600090000"
    "666b6f746c696e2e41727261796b6f746c696e2e496e7428295b4c6a6176612f6c616e672f496e74656765723b")))
    ∷ ◌shows◌ "(i) Array without argument" (holds (in_package (hex "00001a0610001a023001") (ascii "fkotlin/Array") (1 ∷ 13 ∷ []) (gives 0 0 1
    "0102ffffffff060000000000000000000100000003000001000600000000000000ffffffffffffffff00000006010001000c0000000207ffffffff090000"
    "666b6f746c696e2e4172726179")))
    ∷ ◌shows◌ "(j) an entry holding itself: 32 types" (answers 0 32 (20 + 24 + 32 * 10 + 5 + 3)
    (read (area 65536 []) (area 65536 []) (record {
      k = pos 2;
      mv = version 1;
      d1 = hex "00001a0410003800f201080a06120218003001";
      d2 = ascii "fa/B";
      ends = 1 ∷ 4 ∷ [];
    })))
    ∷ ◌shows◌ "(k) 2,048 types read" (answers 0 2048 (20 + 40 + 2048 * 10 + 3) (read (area 65536 []) (area 65536 []) (types_input "8140" "fc3f" 2047)))
    ∷ ◌shows◌ "(k) 2,049 refuse" (answers 10 0 0 (read (area 65536 []) (area 65536 []) (types_input "8540" "8040" 2048)))
    ∷ ◌shows◌ "(l) major 2 read" (holds (unit_function 2 (gives 0 0 1
    "0102ffffffff060000000000000000000100000003000001000600000000000000ffffffffffffffff00000006010001000b00000002070c000300090000"
    "666b6f746c696e2e556e6974282956")))
    ∷ ◌shows◌ "(l) major 3 refused" (holds (unit_function 3 (gives 4 0 0 "" "")))
    ∷ []

abbrev pub all_pass : List Marked → Bool
all_pass [] = true
all_pass (m ∷ ms) = m.test && all_pass ms
