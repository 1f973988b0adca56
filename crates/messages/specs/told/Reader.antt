-- What a reader over a payload tells, in the definitions' words. It holds a slice s whose first byte has the offset 0, and stands at a place in it.
-- Assumes nothing.
use Rattle.std.specs.Prelude.{◌≡◌, List, ℕ, ◌≤◌, ◌<◌, length, Result, Ok, Err}
use Rattle.foundation.specs.declared.Span.{Span}
use Rattle.foundation.specs.Results.{Res, Part, Got, got}
use Rattle.wire.specs.told.WireTold.{wire_refused, rest_of, part_between, DelimitedAt}
use Rattle.wire.specs.declared.WireError.{WireError}
use Rattle.messages.specs.declared.reader.Parts.{Parts}

-- Where a reader stands after a reading: after the last byte that was read, and where it stood before one that is refused.
abbrev pub after_delimited : ℕ → Result Span WireError → ℕ
after_delimited at (Ok x) = x.end
after_delimited at (Err error) = at

-- A reader that stood at `at` gave r and stands at at'.
abbrev pub DelimitedRead : List ℕ → ℕ → Result Span WireError → ℕ → Type 0
DelimitedRead s at r at' = (at' ≡ after_delimited at r) × DelimitedAt 0 s at r

-- a payload's parts, by the answer to its name table and the place after it
abbrev pub parts_of : Result Span WireError → ℕ → Result Parts WireError
parts_of (Ok x) rest = Ok (record { table = x; rest = rest })
parts_of (Err error) rest = Err error

abbrev pub SplitTold : List ℕ → Res (Got Part) → Result Parts WireError → Type 0
SplitTold s r (Ok p) =
    (r ≡ got (part_between 0 s p.table.start p.table.end) (rest_of 0 s p.rest)) × (0 < p.table.start) × (p.table.start ≤ p.table.end)
    × (p.table.end ≤ p.rest) × (p.rest ≤ length s)
SplitTold s r (Err error) = r ≡ wire_refused error
