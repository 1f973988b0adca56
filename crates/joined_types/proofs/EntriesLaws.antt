-- The walk of `join_entries` over the entries that are noted: what stands in its loop, and each step by what is noted of an entry.
-- Assumes nothing.
use mathlib.Core.Path.{◌≡◌, refl, ap, subst, ◌∙◌}
use mathlib.Core.List.{List, []}
use mathlib.Core.Logic.{⊎_elim}
use Prim.Native.Nat.{ℕ, ◌+◌, ◌-◌, ◌≤◌, ◌<◌}
use native.Mathlib.Omega.{arith}
use borrow.Rule.Slice.PartMut.{put_mid}
use lib.ListN.{length, take, drop, get_or}
use Rattle.std.proofs.lemmas.Bool.{cases_lt}
use Rattle.std.specs.declared.option.Option as rust
use Rattle.std.specs.declared.option.Option.TheVariants.{Some, None}
use Rattle.foundation.specs.Results.{◌from◌}
use Rattle.foundation.specs.declared.Span.{Span}
use Rattle.wire.specs.Wire.{cut}
use Rattle.characters.specs.told.Places.{part_from}
use Rattle.names.specs.told.Index.{start_of, end_of}
use Rattle.schema.specs.told.Alike.{SameType, JoinedAs, SameAtLast, DeepestOf}
use Rattle.schema.specs.told.TypesTold.{EntryInside, EntryPlaced, EntryTold}
use Rattle.schema.proofs.AlikeLaws.{alike_weaken, joined-itself, at-last-itself}
use Rattle.joined_types.specs.told.Runs.{SameAround}
use Rattle.joined_types.proofs.FieldLaws.{take_fewer, take_later}
use Rattle.joined_types.proofs.JoiningLaws.{drop_later}
use Rattle.joined_types.proofs.PutBackLaws.{put, put-back, put-joined}

-- an entry from a place to another, as it is in u
abbrev EntryAs : List ℕ → List ℕ → ℕ → ℕ → Type 0
EntryAs payload u a b = a ≤ b → b ≤ length payload → JoinedAs SameAtLast (part_from a b payload) (part_from a b u)

-- The copy is t. From `last` on it is the decoded bytes. In any bytes that are as t is before `last`, the first i entries are joined.
pub record Entering (payload entries t : List ℕ) (i last : ℕ) : Type 0 where
  pub many : length t ≡ length payload
  pub rest : drop last t ≡ drop last payload
  pub before : (u : List ℕ) → length u ≡ length payload → take last u ≡ take last t → DeepestOf payload u entries i

pub entries_start : (payload entries : List ℕ) {t : List ℕ} → t ≡ payload → Entering payload entries t 0 0
entries_start payload entries e = record {
  many = ap length e;
  rest = ap (drop 0) e;
  before = λ u n f. record { many = n; each = λ j below. absurd (omega arith) };
}

-- at the end
pub entries_done : {payload entries t : List ℕ} {i last count : ℕ} → Entering payload entries t i last → i ≡ count → DeepestOf payload t entries count
entries_done {payload} {entries} {t} w e = subst (DeepestOf payload t entries) e (w.before t w.many refl)

at_last : (levels : ℕ) {s s' : List ℕ} → JoinedAs (SameType 0 levels) s s' → JoinedAs SameAtLast s s'
at_last levels {s} {s'} j = record {
  many = j.many;
  alike = λ base. alike_weaken (SameType 0 levels) SameAtLast (cut (◌from◌ base s)) (cut (◌from◌ base s')) (λ m m' x. record { levels = levels; same = x }) (j.alike base);
}

-- one entry more
one_more : {payload u entries : List ℕ} {i : ℕ} → DeepestOf payload u entries i → EntryAs payload u (start_of (get_or entries i 0)) (end_of (get_or entries i 0))
    → DeepestOf payload u entries (i + 1)
one_more {payload} {u} {entries} {i} d h = record { many = d.many; each = each }
  where
    each : (j : ℕ) → j < i + 1 → EntryAs payload u (start_of (get_or entries j 0)) (end_of (get_or entries j 0))
    each j below = ⊎_elim (λ k. d.each j k)
        (λ k. let e : i ≡ j = omega arith in subst (λ (n : ℕ). EntryAs payload u (start_of (get_or entries n 0)) (end_of (get_or entries n 0))) e h) (cases_lt j i)

-- an empty part is the same in both
empty_as : (payload u : List ℕ) (a b : ℕ) → b ≤ a → EntryAs payload u a b
empty_as payload u a b h ordered inside =
    let e : b - a ≡ 0 = omega arith in
    rw e (joined-itself SameAtLast at-last-itself [])

module _ {payload entries t : List ℕ} {count i last : ℕ} (w : Entering payload entries t i last) {r : rust.Option Span} (o : EntryTold payload entries count i r) where
  -- none is found
  pub entry_none : r ≡ None → i < count → Entering payload entries t (i + 1) last
  entry_none e below = record {
    many = w.many;
    rest = w.rest;
    before = λ u n f. one_more (w.before u n f) λ ordered inside.
        empty_as payload u (start_of (get_or entries i 0)) (end_of (get_or entries i 0)) (subst (EntryPlaced payload entries count i) e o.placed below ordered inside) ordered inside;
  }

  -- one is, and is joined
  module _ {p : Span} (e : r ≡ Some p) where
    entry_bounds : (p.start ≤ p.end) × (p.end ≤ length payload)
    entry_bounds = subst (EntryInside payload) e o.inside

    entry_placed : (p.start ≡ start_of (get_or entries i 0)) × (p.end ≡ end_of (get_or entries i 0))
    entry_placed = subst (EntryPlaced payload entries count i) e o.placed

    module _ (h : last ≤ p.start) (levels : ℕ) (ys : List ℕ) (j : JoinedAs (SameType 0 levels) (take (p.end - p.start) (drop p.start t)) ys) where
      inside : p.end ≤ length t
      inside = rw w.many entry_bounds.1

      abbrev t' : List ℕ
      t' = put t ys p entry_bounds.0 inside

      around : SameAround t t' p.start p.end
      around = put-back t ys p entry_bounds.0 inside (SameType 0 levels) j

      as-put : (u : List ℕ) → take p.end u ≡ take p.end t' → JoinedAs SameAtLast (part_from p.start p.end payload) (part_from p.start p.end u)
      as-put u f =
          let z = at_last levels (put-joined t ys p entry_bounds.0 inside (SameType 0 levels) j) in
          let n : p.start + (p.end - p.start) ≡ p.end = omega (arith, entry_bounds.0) in
          let there : take (p.end - p.start) (drop p.start u) ≡ take (p.end - p.start) (drop p.start t') = take_later p.start (p.end - p.start) u t' (rw n f) in
          rw (there, ← drop_later last p.start payload t h w.rest) z

      pub entry_joined : Entering payload entries (put_mid p.start (p.end - p.start) t ys) (i + 1) p.end
      entry_joined = record {
        many = around.many ∙ w.many;
        rest = around.after ∙ drop_later last p.end payload t (omega (arith, entry_bounds.0)) w.rest;
        before = λ u n f.
            one_more (w.before u n (take_fewer last p.end u t' (omega (arith, entry_bounds.0)) f ∙ take_fewer last p.start t' t h around.before))
            λ ordered inside. rw (← entry_placed.0, ← entry_placed.1) (as-put u f);
      }
