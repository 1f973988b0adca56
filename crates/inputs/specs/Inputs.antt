-- The input, its metadata kind, and what is refused of every kind before the payload is looked at.
-- Assumes nothing.
use Rattle.std.specs.Prelude.{Bool, ◌&&◌, ◌||◌, List, ℕ, eqb, leb, ltb, ℤ, pos, negsuc, length, get_or, if◌then◌else◌}
use Rattle.std.proofs.Math.Option.{Option, none, some}
use Rattle.std.specs.Int.Signed.{lt_z}
use Rattle.foundation.specs.Results.{Cause, d1_too_long, d2_too_long, string_ends, newer_version}
use Rattle.encoding.specs.Encoding.{unit_limit}
use Rattle.names.specs.Names.{ends_fit}

-- d1's units, d2's units and where its strings end; mv's three numbers
pub record Input : Type 0 where
  pub k : ℤ
  pub mv : List ℤ
  pub d1 : List ℕ
  pub d2 : List ℕ
  pub ends : List ℕ

-- The metadata kind, 1 to 5. A k outside 1 to 5 counts as 1, as in the Rust.
abbrev pub kind_of : ℤ → ℕ
kind_of (pos n) = if leb 1 n && leb n 5 then n else 1
kind_of (negsuc n) = 1

-- Class, FileFacade, MultiFileClassPart; not SyntheticClass (3) and MultiFileClassFacade (4)
abbrev pub carries_declarations : ℕ → Bool
carries_declarations kind = eqb kind 1 || (eqb kind 2 || eqb kind 5)

abbrev pub string_limit : ℕ
string_limit = 4096

abbrev pub supported_major : ℤ
supported_major = pos 2

abbrev pub major : Input → ℤ
major i = get_or i.mv 0 (pos 0)

-- 2 to 4
unfoldable pub later_fault : Input → Option Cause
later_fault i =
    let version = if lt_z supported_major (major i) then some newer_version else none in
    let strings = if ends_fit 0 i.ends (length i.d2) then version else some string_ends in
    let long = ltb unit_limit (length i.d2) || ltb string_limit (length i.ends) in
    if long then some d2_too_long else strings

-- what is refused of every kind before the payload is looked at, 1 to 4
unfoldable pub fault_of : Input → Option Cause
fault_of i = if ltb unit_limit (length i.d1) then some d1_too_long else later_fault i

-- an input by its parts
abbrev pub input : ℤ → List ℤ → List ℕ → List ℕ → List ℕ → Input
input k mv d1 d2 ends = record { k = k; mv = mv; d1 = d1; d2 = d2; ends = ends }
