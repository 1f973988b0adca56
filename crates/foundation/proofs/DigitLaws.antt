-- Numbers and their digits are each other's inverse, for every base.
-- Assumes nothing.
use mathlib.Core.Path.{◌≡◌, refl, sym, ap, ◌∙◌}
use mathlib.Core.List.{List, [], ◌∷◌, ◌++◌, append-nil}
use Prim.Native.Nat.{ℕ, zero, suc, ◌+◌, ◌*◌, ◌/◌, ◌%◌, ◌^◌, ◌<◌}
use native.Mathlib.Nat.{
  one-mul,
  mul-zero,
  mul_comm,
  mul_assoc,
  pow-zero,
  pow-suc,
  one-le-pow,
  mod-one,
  mod-mod,
  mod-lt,
  mod-eq_of_lt,
  div-eq_of_lt,
  add-mul-div_left,
  add-mul-mod_self_left,
  mul-le-mul_left,
  zero-add,
  add-zero,
  suc-add,
}
use native.Mathlib.Omega.{arith}
use lib.Arith.{mod-mul}
use lib.ListN.{length}
use Rattle.foundation.specs.Choices.{All}
use Rattle.foundation.specs.Digits.{number, digits}

-- each digit is below the base
abbrev pub Below : ℕ → List ℕ → Type 0
Below b = All (λ d. d < b)

pub length_digits : (b k n : ℕ) → length (digits b k n) ≡ k
length_digits b zero n = refl
length_digits b (suc k) n = ap suc (length_digits b k (n / b))

pub digits-below : (b k n : ℕ) → 0 < b → Below b (digits b k n)
digits-below b zero n h = tt
digits-below b (suc k) n h = (mod-lt n h, digits-below b k (n / b) h)

-- the number of its k lowest digits is the number without its higher ones
pub number_digits : (b k n : ℕ) → 0 < b → number b (digits b k n) ≡ n % b ^ k
number_digits b zero n h = rw pow-zero (sym (mod-one n))
number_digits b (suc k) n h =
    let p : 0 < b ^ k = one-le-pow k b h in
    rw (number_digits b k (n / b) h, pow-suc, mod-mul n p h) (omega (arith, mul_comm b (n / b % b ^ k)))

-- so k digits are enough for a number below b ^ k
pub number_digits_fits : (b k n : ℕ) → 0 < b → n < b ^ k → number b (digits b k n) ≡ n
number_digits_fits b k n h f = number_digits b k n h ∙ mod-eq_of_lt f

-- the digits of a number are those that it was made of
pub digits_number : (b : ℕ) (ds : List ℕ) → Below b ds → digits b (length ds) (number b ds) ≡ ds
digits_number b [] h = refl
digits_number b (d ∷ ds) h =
    let p : 0 < b = omega (arith, h.0) in
    let low : (d + b * number b ds) % b ≡ d = add-mul-mod_self_left d b (number b ds) ∙ mod-eq_of_lt h.0 in
    let high : (d + b * number b ds) / b ≡ number b ds = rw (add-mul-div_left d (number b ds) p, div-eq_of_lt h.0, zero-add) in
    rw (low, high, digits_number b ds h.1)

pub number-below : (b : ℕ) (ds : List ℕ) → Below b ds → number b ds < b ^ length ds
number-below b [] h = rw pow-zero (omega arith)
number-below b (d ∷ ds) h =
    rw pow-suc (omega (arith, h.0, mul-le-mul_left b (number-below b ds h.1), mul_comm b (b ^ length ds)))

-- two numbers side by side are one number of as many digits as both
pub digits_append : (b j k m n : ℕ) → 0 < b → digits b (j + k) (m % b ^ j + b ^ j * n) ≡ digits b j m ++ digits b k n
digits_append b zero k m n h = rw (zero-add, pow-zero, mod-one, zero-add, one-mul)
digits_append b (suc j) k m n h =
    let p : 0 < b ^ j = one-le-pow j b h in
    let e : m % b ^ suc j + b ^ suc j * n ≡ m % b + b * (m / b % b ^ j + b ^ j * n) =
    rw (pow-suc, mod-mul m p h) (omega (arith, mul_comm b (b ^ j), mul_assoc b (b ^ j) n)) in
    let low : (m % b + b * (m / b % b ^ j + b ^ j * n)) % b ≡ m % b = add-mul-mod_self_left (m % b) b _ ∙ mod-mod m b in
    let high : (m % b + b * (m / b % b ^ j + b ^ j * n)) / b ≡ m / b % b ^ j + b ^ j * n =
    rw (add-mul-div_left (m % b) (m / b % b ^ j + b ^ j * n) h, div-eq_of_lt (mod-lt m h), zero-add) in
    rw (suc-add, e, low, high, digits_append b j k (m / b) n h)

-- the k lowest digits don't depend on the higher ones
pub digits_mod : (b k n : ℕ) → 0 < b → digits b k (n % b ^ k) ≡ digits b k n
digits_mod b k n h =
    let e : digits b (k + 0) (n % b ^ k + b ^ k * 0) ≡ digits b k n ++ [] = digits_append b k 0 n 0 h in
    rw (add-zero, mul-zero, add-zero, append-nil) at e
