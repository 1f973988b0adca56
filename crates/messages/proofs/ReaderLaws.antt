-- Laws of a reader over a payload: that it stays in its slice, how much is left after it, and the payload that it opens.
-- Assumes nothing.
use mathlib.Core.Path.{◌≡◌, ap, sym, ◌∙◌, subst}
use mathlib.Core.List.{List}
use Prim.Native.Nat.{ℕ, ◌-◌, ◌≤◌, zero-le}
use native.Mathlib.Omega.{arith}
use lib.ListN.{length, drop, length-drop}
use Rattle.std.specs.Prelude.{Result, Ok, Err}
use Rattle.foundation.specs.Results.{Res, Part, Got, got, ◌from◌}
use Rattle.foundation.specs.declared.Span.{Span}
use Rattle.wire.specs.Wire.{read_delimited}
use Rattle.wire.specs.told.WireTold.{rest_of, part_between, DelimitedTold}
use Rattle.wire.specs.declared.WireError.{WireError}
use Rattle.messages.specs.told.Reader.{after_delimited, DelimitedRead, parts_of, SplitTold}
use Rattle.messages.specs.declared.reader.Parts.{Parts}
use Rattle.wire.proofs.WalkLaws.{whole}

module _ (s : List ℕ) where
  -- a reader that stands in its slice stays in it
  delimited-stays : (at at' : ℕ) (r : Result Span WireError) → DelimitedRead s at r at' → at ≤ length s → at' ≤ length s
  delimited-stays at at' (Ok x) h i = let p = (h.1.inside i).1.1 in omega (arith, h.0)
  delimited-stays at at' (Err error) h i = omega (arith, h.0)

  -- the rest is no longer than the slice, and tells its place
  pub rest-shorter : (at : ℕ) (rest : List ℕ) → rest ≡ drop at s → length rest ≤ length s
  rest-shorter at rest e = let l = ap (λ (x : List ℕ). length x) e in omega (arith, length-drop at s, l)

  rest-place : (at : ℕ) (rest : List ℕ) → at ≤ length s → rest ≡ drop at s → length s - length rest ≡ at
  rest-place at rest i e = let l = ap (λ (x : List ℕ). length x) e in omega (arith, length-drop at s, l)

  -- what a reader at the start of a payload reads opens it
  opened-by : (r : Res (Got Part)) (d : Result Span WireError) (rest : ℕ) → rest ≡ after_delimited 0 d → DelimitedTold 0 s r d → SplitTold s r (parts_of d rest)
  opened-by r (Ok x) rest e h = (
    h.0 ∙ ap (λ (n : ℕ). got (part_between 0 s x.start x.end) (rest_of 0 s n)) (sym e),
    h.1.2,
    h.1.0,
    omega (arith, e),
    omega (arith, e, h.1.1),
  )
  opened-by r (Err error) rest e h = h

  pub opened-told : (at next : ℕ) (d : Result Span WireError) (rest : List ℕ) (o : Result Parts WireError) → at ≡ 0 → DelimitedRead s at d next
      → rest ≡ drop next s → o ≡ parts_of d (length s - length rest) → SplitTold s (read_delimited (◌from◌ 0 s)) o
  opened-told at next d rest o z h l e =
      let k : DelimitedRead s 0 d next = subst (λ (n : ℕ). DelimitedRead s n d next) z h in
      let t : DelimitedTold 0 s (read_delimited (◌from◌ 0 s)) d = subst (λ (p : Part). DelimitedTold 0 s (read_delimited p) d) (whole 0 s) (k.1.inside zero-le) in
      let q : length s - length rest ≡ next = rest-place next rest (delimited-stays 0 next d k zero-le) l in
      subst (SplitTold s (read_delimited (◌from◌ 0 s))) (sym e) (opened-by (read_delimited (◌from◌ 0 s)) d (length s - length rest) (q ∙ k.0) t)
