-- Every field of a message that was cut has a number that the encoding guide allows.
-- Assumes nothing.
use mathlib.Core.Path.{◌≡◌, sym, subst}
use mathlib.Core.Bool.{true}
use Prim.Native.Nat.{ℕ, zero, suc, ◌/◌, ◌%◌, ◌^◌, ◌≤◌}
use native.Mathlib.Omega.{arith}
use borrow.Author.Tests.{ltb-true}
use lib.Dec.{T}
use Rattle.foundation.specs.Choices.{All}
use Rattle.foundation.specs.Results.{Part, Got}
use Rattle.foundation.proofs.ChoiceLaws.{if_ind}
use Rattle.foundation.proofs.ResultLaws.{Gives, gives_bind, gives-map}
use Rattle.wire.specs.Wire.{Field, field, read_varint, read_value, is_field_number, read_field, cut}
use Rattle.wire.proofs.Progress.{every-gives}
use Rattle.wire.proofs.Later.{gives_any}

-- the guide's words: from 1 to 536,870,911
abbrev pub Allowed : ℕ → Type 0
Allowed n = (1 ≤ n) × (n ≤ 536870911)

pub number_allowed : (n : ℕ) → is_field_number n ≡ true → Allowed n
number_allowed zero e = absurd (subst T (sym e) tt)
number_allowed (suc n) e = let h = ltb-true (suc n) (2 ^ 29) e in (omega arith, omega arith)

pub field_allowed : (p : Part) → Gives (λ g. Allowed g.0.number) (read_field p)
unfolding read_field
field_allowed p =
    let P : Got Field → Type 0 = λ g. Allowed g.0.number in
    gives_bind (λ a. Unit {0}) P (read_varint p) _ (gives_any (λ a. Unit {0}) (read_varint p) λ a. tt) λ a q.
    let value = read_value p.at (a.0 % 8) a.1 in
    if_ind (Gives P) (is_field_number (a.0 / 8)) (λ t. gives-map P (field (a.0 / 8)) value (gives_any _ value λ g. number_allowed (a.0 / 8) t)) λ t. tt

-- Of any part that can be cut, whatever stands in it.
pub cut_allowed : (p : Part) → Gives (All (λ f. Allowed f.number)) (cut p)
unfolding cut
cut_allowed = every-gives read_field (λ p. All (λ f. Allowed f.number)) _ (λ p. tt) field_allowed λ p g m h a. (h, a)
