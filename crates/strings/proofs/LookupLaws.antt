-- What one look-up falls to: the string of d2 at its index, exactly where no record decides that index and the string is there.
-- Assumes nothing.
use mathlib.Core.Path.{◌≡◌, refl, ap, sym, ◌∙◌}
use mathlib.Core.Logic.{inl, inr}
use mathlib.Core.Bool.{Bool, true, false, ◌&&◌}
use mathlib.Core.List.{List}
use mathlib.Core.Option.{Option, none, some}
use Prim.Native.Nat.{ℕ, ◌<◌}
use native.Mathlib.Omega.{arith}
use lib.Dec.{eqb, ltb}
use lib.ListN.{length}
use borrow.Author.Tests.{eq-eqb, lt-ltb}
use Rattle.std.specs.Prelude.{if◌then◌else◌}
use Rattle.foundation.specs.Choices.{if_some}
use Rattle.foundation.specs.Results.{Res, ok, refused}
use Rattle.foundation.specs.Texts.{Text}
use Rattle.names.specs.Records.{Record, decides, text_of}
use Rattle.names.specs.Names.{Names, record_at, string, d2_string}
use Rattle.strings.specs.FallsTo.{stopped_at}
use Rattle.strings.proofs.Agree.{Lookup, Asks, Leaves, Each}

module _ (ss : List (List ℕ)) where
  -- the string itself
  pub asks-itself : (i : ℕ) → i < length ss → Asks ss i (λ s. s i)
  unfolding Asks stopped_at
  asks-itself i h c p = rw (eq-eqb i i refl, lt-ltb i (length ss) h)

  -- another one, or one that isn't there
  pub leaves-others : (i n : ℕ) → (eqb i n && ltb i (length ss)) ≡ false → Leaves ss n (λ s. s i)
  unfolding Leaves stopped_at
  leaves-others i n e c p = ap (λ (b : Bool). if b then refused c p else d2_string ss i) e

  pub asks-or-leaves : (i n : ℕ) → Each ss (λ s. s i) n
  unfolding Asks stopped_at
  asks-or-leaves i n = go (eqb i n && ltb i (length ss)) refl
    where
      go : (b : Bool) → (eqb i n && ltb i (length ss)) ≡ b → Each ss (λ s. s i) n
      go true e = inl λ c p. ap (λ (b : Bool). if b then refused c p else d2_string ss i) e
      go false e = inr (leaves-others i n e)

module _ (ss : List (List ℕ)) (records : List Record) where
  -- whether a record decides index i
  abbrev pub decided_at : ℕ → Bool
  decided_at i = if_some (record_at i records) false decides

  abbrev pub with_lookup : Lookup → Names
  with_lookup s = record { records = records; d2 = s }

  by-record : (o : Option Record) (s : Lookup) (i : ℕ) → if_some o false decides ≡ false → if_some o (s i) (λ r. if decides r then ok (text_of r) else s i) ≡ s i
  by-record none s i e = refl
  by-record (some r) s i e = rw e

  string-is : (s : Lookup) (i : ℕ) → decided_at i ≡ false → string (with_lookup s) i ≡ s i
  unfolding string
  string-is s i e = by-record (record_at i records) s i e

  -- An index that no record decides and that has a string: looked up, it falls to that string,
  pub undecided-asks : (i : ℕ) → decided_at i ≡ false → i < length ss → Asks ss i (λ s. string (with_lookup s) i)
  unfolding Asks
  undecided-asks i e h c p = string-is (stopped_at i c p ss) i e ∙ asks-itself ss i h c p

  -- and to no other, nor to one that isn't there.
  pub undecided-leaves : (i n : ℕ) → decided_at i ≡ false → (eqb i n && ltb i (length ss)) ≡ false → Leaves ss n (λ s. string (with_lookup s) i)
  unfolding Leaves
  undecided-leaves i n e h c p = string-is (stopped_at n c p ss) i e ∙ leaves-others ss i n h c p ∙ sym (string-is (d2_string ss) i e)

  -- An index that a record decides falls to none.
  pub decided-leaves : (i n : ℕ) → decided_at i ≡ true → Leaves ss n (λ s. string (with_lookup s) i)
  unfolding Leaves string
  decided-leaves i n e c p = go (record_at i records) e
    where
      chosen : Option Record → Lookup → ℕ → Res (Option Text)
      chosen o s j = if_some o (s j) λ r. if decides r then ok (text_of r) else s j

      go : (o : Option Record) → if_some o false decides ≡ true → chosen o (stopped_at n c p ss) i ≡ chosen o (d2_string ss) i
      go none q = absurd (let z : ◌≡◌ {A = ℕ} 0 1 = cc in omega arith)
      go (some r) q = rw q
