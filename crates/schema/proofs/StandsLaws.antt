-- A message among the decoded bytes: by its own bytes, and by where it starts and ends.
-- Assumes nothing.
use mathlib.Core.Path.{◌≡◌, ap, sym, ◌∙◌}
use mathlib.Core.List.{List}
use Prim.Native.Nat.{ℕ, ◌+◌, ◌-◌, ◌≤◌}
use native.Mathlib.Omega.{arith}
use lib.ListN.{length, take, drop}
use Rattle.foundation.specs.Results.{ok, ◌from◌}
use Rattle.wire.specs.Wire.{Message, cut}
use Rattle.wire.specs.told.WireTold.{part_between}
use Rattle.characters.specs.told.Places.{part_from}
use Rattle.characters.proofs.PartLaws.{part-part, part-long}
use Rattle.schema.specs.told.SchemaTold.{EntryAt, Stands}

-- a part of the decoded bytes that is lent
pub part-ends : (payload : List ℕ) (start end : ℕ) → start ≤ end → end ≤ length payload → start + length (part_from start end payload) ≡ end
part-ends payload start end h k = omega (arith, part-long payload start end h k)

pub part-stands : (payload : List ℕ) (start end : ℕ) → start ≤ end → end ≤ length payload → Stands payload (part_from start end payload) start
part-stands payload start end h k = record {
  inside = omega (arith, part-ends payload start end h k);
  is = ap (λ (n : ℕ). part_from start n payload) (sym (part-ends payload start end h k));
}

module _ {payload msg : List ℕ} {base : ℕ} (s : Stands payload msg base) where
  -- the message at its place is the message
  pub stands-cut : {m : Message} → EntryAt payload base (base + length msg) m → cut (◌from◌ base msg) ≡ ok m
  stands-cut k = ap (λ (l : List ℕ). cut (◌from◌ base l)) s.is ∙ k.cuts

  pub stands-entry : {m : Message} → cut (◌from◌ base msg) ≡ ok m → EntryAt payload base (base + length msg) m
  stands-entry e = record {
    ordered = omega arith;
    inside = s.inside;
    cuts = ap (λ (l : List ℕ). cut (◌from◌ base l)) (sym s.is) ∙ e;
  }

  -- a body inside it stands as much later
  module _ (a b : ℕ) (h : a ≤ b) (k : b ≤ length msg) where
    pub body-part : take (b - a) (drop a msg) ≡ part_from (base + a) (base + b) payload
    body-part =
        let long : length (part_from base (base + length msg) payload) ≡ length msg = sym (ap length s.is) in
        ap (λ (l : List ℕ). take (b - a) (drop a l)) s.is ∙ part-part payload base (base + length msg) a b h (omega arith)

    pub body-ends : base + a + length (take (b - a) (drop a msg)) ≡ base + b
    body-ends = omega (arith, part-long msg a b h k)

    pub body-stands : Stands payload (take (b - a) (drop a msg)) (base + a)
    body-stands = record {
      inside = omega (arith, body-ends, s.inside);
      is = body-part ∙ ap (λ (n : ℕ). part_from (base + a) n payload) (sym body-ends);
    }

    pub body_entry : {m : Message} → cut (part_between base msg a b) ≡ ok m → EntryAt payload (base + a) (base + b) m
    body_entry e = record {
      ordered = omega arith;
      inside = omega (arith, s.inside);
      cuts = ap (λ (l : List ℕ). cut (◌from◌ (base + a) l)) (sym body-part) ∙ e;
    }
