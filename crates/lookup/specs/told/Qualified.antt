-- What the code's answers about class names of d2's strings tell, in the definitions' words.
-- Assumes nothing.
use Rattle.std.specs.Prelude.{◌≡◌, Bool, true, false, List, ℕ, ◌+◌, ◌-◌, ◌≤◌, ◌<◌, length}
use Rattle.foundation.specs.Results.{ok, ◌>>=◌}
use Rattle.characters.specs.Characters.{utf8, from_utf16}
use Rattle.characters.specs.told.Places.{part_from}
use Rattle.names.specs.Names.{unwrapped, strings_from, ends_fit, d2_string}
use Rattle.names.specs.told.Name.{name_text}
use Rattle.names.specs.declared.name.Name.{Name}
use Rattle.names.specs.declared.name.Source.TheVariants.{D2}
use Rattle.names.specs.declared.name.Operation.TheVariants.{Nothing}
use Rattle.foundation.specs.declared.Span.{Span}
use Rattle.std.specs.declared.option.Option as rust
use Rattle.record_names.specs.told.ClassNames.{class_text}

-- an end that is no later than that of the units, and gives the same parts
pub record ClippedTold (units : List ℕ) (end r : ℕ) : Type 0 where
  pub inside : r ≤ length units
  pub same : (start : ℕ) → part_from start end units ≡ part_from start r units

-- whether units begin with L and end with ;
pub record WrappedTold (units : List ℕ) (start end : ℕ) (r : Bool) : Type 0 where
  pub yes : r ≡ true
      → (start + 1 < end)
      × (unwrapped (from_utf16 (part_from start end units)) ≡ from_utf16 (part_from (start + 1) (end - 1) units))
      × (length (utf8 (from_utf16 (part_from start end units))) ≡ length (utf8 (from_utf16 (part_from (start + 1) (end - 1) units))) + 2)
  pub no : r ≡ false → unwrapped (from_utf16 (part_from start end units)) ≡ from_utf16 (part_from start end units)

-- a class name made of units of d2
abbrev pub units_name : Span → ℕ → Name
units_name part size = record { source = D2; part = part; from = 0; to = 0; operation = Nothing; qualified = true; size = size }

-- the class name of a string of d2
abbrev pub QualifiedUnits : List ℕ → List ℕ → ℕ → rust.Option Name → Type 0
QualifiedUnits units ends index r =
    (payload : List ℕ) → ends_fit 0 ends (length units) ≡ true
    → (d2_string (strings_from 0 ends units) index >>= λ t. ok (class_text t)) ≡ ok (name_text payload units r)
