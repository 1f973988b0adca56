-- What a message of n bytes can hold at most: n fields, bodies of n bytes, numbers below 2^64.
-- Assumes nothing.
use Prim.Native.Nat.{ℕ, ◌^◌, ◌≤◌, ◌<◌}
use native.Mathlib.Omega.{arith}
use lib.ListN.{length}
use Rattle.foundation.specs.Choices.{All, IfSome}
use Rattle.foundation.specs.Results.{Part}
use Rattle.foundation.proofs.ResultLaws.{Gives, gives_both, gives_weaken}
use Rattle.wire.specs.Wire.{Value, varint, fixed, body, Message, read_varint, cut, packed}
use Rattle.wire.specs.Messages.{as_varint, as_body, varint_of, message, messages}
use Rattle.wire.proofs.Readers.{ReadIn, within_shorter, varint-below}
use Rattle.wire.proofs.Progress.{every-gives, cut_few}
use Rattle.wire.proofs.Places.{cut_in}
use Rattle.wire.proofs.MessageLaws.{Values, values_weaken, varint_of_all, message-all, messages-all}

pub packed-below : (p : Part) → Gives (All (λ v. v < 2 ^ 64)) (packed p)
unfolding packed
packed-below = every-gives read_varint (λ p. All (λ v. v < 2 ^ 64)) _ (λ p. tt) varint-below λ p g ns h a. (h, a)

-- A value, and a message, as small as one that was read of n bytes.
abbrev pub Small : ℕ → Value → Type 0
Small n (varint v) = v < 2 ^ 64
Small n (fixed w v) = Unit {0}
Small n (body p) = length p.bytes ≤ n

pub record Bounded (n : ℕ) (m : Message) : Type 0 where
  pub few : length m ≤ n
  pub small : Values (Small n) m

module _ (n : ℕ) (p : Part) (h : length p.bytes ≤ n) where
  read_small : (v : Value) → ReadIn p v → Small n v
  read_small (varint v) r = r
  read_small (fixed w v) r = r
  read_small (body q) r = omega (arith, within_shorter r)

  pub cut-bounded : Gives (Bounded n) (cut p)
  cut-bounded =
      gives_weaken _ (Bounded n) (cut p) (gives_both _ _ (cut p) (cut_few p) (cut_in p)) λ m b.
      record { few = omega arith; small = values_weaken (ReadIn p) (Small n) read_small m b.1 }

small-varint : (n : ℕ) (v : Value) → Small n v → IfSome (λ k. k < 2 ^ 64) (as_varint v)
small-varint n (varint k) s = s
small-varint n (fixed w k) s = tt
small-varint n (body p) s = tt

small-body : (n : ℕ) (v : Value) → Small n v → IfSome (λ p. length p.bytes ≤ n) (as_body v)
small-body n (varint k) s = tt
small-body n (fixed w k) s = tt
small-body n (body p) s = s

-- what such a message says of a field is as small
module _ {n : ℕ} (k : ℕ) (m : Message) (b : Bounded n m) where
  each : (P : Value → Type 0) → ((v : Value) → Small n v → P v) → Values P m
  each P h = values_weaken (Small n) P h m b.small

  pub varint_of-below : IfSome (λ v. v < 2 ^ 64) (varint_of k m)
  varint_of-below = varint_of_all (λ v. v < 2 ^ 64) k m (each _ (small-varint n))

  pub message-bounded : Gives (IfSome (Bounded n)) (message k m)
  message-bounded = message-all (λ p. length p.bytes ≤ n) (Bounded n) (cut-bounded n) k m (each _ (small-body n))

  pub messages-bounded : Gives (λ ms. All (Bounded n) ms × (length ms ≤ n)) (messages k m)
  messages-bounded =
      let all = messages-all (λ p. length p.bytes ≤ n) (Bounded n) (cut-bounded n) k m (each _ (small-body n)) in
      gives_weaken _ (λ ms. All (Bounded n) ms × (length ms ≤ n)) (messages k m) all λ ms a. (a.0, omega (arith, a.1, b.few))
