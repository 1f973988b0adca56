-- What is told of the first and the last character of a text, in the definitions' words.
-- Assumes nothing.
use Rattle.std.specs.Prelude.{◌≡◌, List, [], ◌∷◌, ◌++◌, ℕ, ◌≤◌, length, take, Option, Some, None}
use Rattle.characters.specs.Characters.{from_utf8}
use Rattle.characters.specs.told.Places.{part_from}
use Rattle.names.specs.Records.{without_ends}
use Rattle.record_names.specs.declared.ends.Last.{Last}
use Rattle.foundation.specs.declared.Span.{Span}

-- the last character of some bytes' text: what stands before it is the text of the bytes before its place
abbrev pub LastTold : List ℕ → Option Last → Type 0
LastTold s (Some l) = (from_utf8 s ≡ from_utf8 (take l.place s) ++ (l.code ∷ [])) × (l.place ≤ length s)
LastTold s None = s ≡ []

-- the part of some bytes that is left of their text without its first and its last character
abbrev pub EndsTold : List ℕ → Option Span → Type 0
EndsTold s (Some p) = (without_ends (from_utf8 s) ≡ from_utf8 (part_from p.start p.end s)) × (p.start ≤ p.end) × (p.end ≤ length s)
EndsTold s None = without_ends (from_utf8 s) ≡ from_utf8 s
