-- The first two of a field's numbers, mod 2^32, as the code answers them.
-- Assumes nothing.
use Rattle.std.specs.Prelude.{List, [], ◌∷◌, ℕ, ◌%◌, ◌^◌, Result, Ok, Err}
use Rattle.foundation.specs.Results.{Res, ok, ◌>>=◌}
use Rattle.wire.specs.told.WireTold.{wire_refused}
use Rattle.wire.specs.declared.WireError.{WireError}
use Rattle.messages.specs.declared.repeated.Two.{Two}
use Rattle.messages.specs.declared.repeated.Two.TheVariants.{Neither, One, Both}

abbrev pub first_two : List ℕ → Two
first_two [] = Neither
first_two (a ∷ []) = One (a % 2 ^ 32)
first_two (a ∷ b ∷ ns) = Both (a % 2 ^ 32) (b % 2 ^ 32)

abbrev pub first_two_of : Res (List ℕ) → Res Two
first_two_of r = r >>= λ ns. ok (first_two ns)

abbrev pub two_told : Result Two WireError → Res Two
two_told (Ok two) = ok two
two_told (Err error) = wire_refused error

-- the same number by number
abbrev pub pushed : Two → ℕ → Two
pushed Neither n = One (n % 2 ^ 32)
pushed (One a) n = Both a (n % 2 ^ 32)
pushed (Both a b) n = Both a b

abbrev pub pushed_all : Two → List ℕ → Two
pushed_all two [] = two
pushed_all two (n ∷ ns) = pushed_all (pushed two n) ns

abbrev pub pushed_to : Two → Res (List ℕ) → Res Two
pushed_to two r = r >>= λ ns. ok (pushed_all two ns)
