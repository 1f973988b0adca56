-- From d1's units to the decoded bytes (document 01, "encoding.rs").
-- Assumes nothing.
use Rattle.std.specs.Prelude.{List, [], ◌∷◌, map, ℕ, ◌+◌, ◌*◌, ◌/◌, ◌%◌, eqb, ltb, length, if◌then◌else◌}
use Rattle.std.proofs.Math.Option.{Option, none, some}
use Rattle.foundation.specs.Choices.{if_some}
use Rattle.foundation.specs.Results.{Res, ok, refused, empty_payload, not_a_byte}
use Rattle.foundation.specs.Digits.{number, digits}

-- how many units d1 may have, and d2
abbrev pub unit_limit : ℕ
unit_limit = 32768

-- the first unit of the form whose other units are the bytes
abbrev pub byte_string_marker : ℕ
byte_string_marker = 0

-- What a unit of the old form carries, as Kotlin's BitEncoding takes it: 127 is added, and the low 7 bits are kept. So 1 carries 0, and 0 or 128 carries 127.
abbrev pub low_seven : ℕ → ℕ
low_seven u = (u + 127) % 128

-- The old form: what each unit carries, strung together, lowest first; n units give 7n/8 bytes, left-over bits are dropped.
unfoldable pub unpacked : List ℕ → List ℕ
unpacked us = digits 256 (7 * length us / 8) (number 128 (map low_seven us))

-- the first, in order, of the units above 255
unfoldable pub first_above255 : List ℕ → Option ℕ
first_above255 [] = none
first_above255 (u ∷ us) = let later = first_above255 us in if ltb 255 u then some u else later

unfoldable pub decoded : List ℕ → Res (List ℕ)
decoded [] = refused empty_payload 0
decoded (u ∷ us) =
    let bytes = if eqb u byte_string_marker then us else unpacked (u ∷ us) in
    if_some (first_above255 (u ∷ us)) (ok bytes) λ unit. refused (not_a_byte unit) 0
