-- Places in the decoded bytes, and the same places in bytes that are joined for no look-up: a type that stands at one is read as what stands at the other.
-- Assumes nothing.
use mathlib.Core.Path.{◌≡◌, refl, sym, ◌∙◌}
use mathlib.Core.Bool.{Bool, true, false, ◌||◌}
use mathlib.Core.List.{List}
use Prim.Native.Nat.{ℕ, ◌-◌, ◌≤◌, ◌<◌}
use native.Mathlib.Omega.{arith}
use borrow.Author.Tests.{leb-true, leb-false, le-leb, lt-leb}
use lib.Dec.{leb}
use lib.ListN.{length}
use Rattle.std.specs.Prelude.{if◌then◌else◌}
use Rattle.foundation.specs.Choices.{All}
use Rattle.foundation.specs.Results.{ok, ◌from◌}
use Rattle.foundation.proofs.ChoiceLaws.{if_ind}
use Rattle.fields.specs.Fields.{Type-argument}
use Rattle.wire.specs.Wire.{Message, cut}
use Rattle.wire.specs.Messages.{messages}
use Rattle.characters.specs.told.Places.{part_from}
use Rattle.declaration_rows.specs.Declarations.{Ty}
use Rattle.schema.specs.Reading.{Scope, allowance}
use Rattle.schema.specs.told.Alike.{SameAtLast, ArgumentTwin}
use Rattle.schema.specs.told.SchemaTold.{EntryAt}
use Rattle.schema.specs.told.PlacesTold.{read_in, TypeFound, Twins}
use Rattle.schema.proofs.AlikeLaws.{alike-given}
use Rattle.joined_types.proofs.DeepestLaws.{last-type_at, twins}

-- A message of which another stands at the same place.
module _ (payload deepest : List ℕ) (first last : ℕ) (w : Twins payload deepest first last) {m : Message} (at : EntryAt payload first last m) where
  pub twin-of : (m' : Message) × (cut (◌from◌ first (part_from first last deepest)) ≡ ok m') × SameAtLast m m'
  twin-of = alike-given SameAtLast w at.cuts

  -- So do others of the types inline in its arguments.
  pub arguments-twins : {ms : List Message} → messages Type-argument m ≡ ok ms → All (ArgumentTwin first (part_from first last deepest)) ms
  arguments-twins {ms} e = twins first (part_from first last deepest) m twin-of.0 twin-of.1 twin-of.2 ms e

module _ (payload deepest : List ℕ) (in_table : Bool) (left : ℕ) where
  -- A type is read among the decoded bytes while a look-up is left, and among as many in any case.
  pub read-payload : 1 < left → read_in payload deepest in_table left ≡ payload
  read-payload h = go in_table
    where
      go : (b : Bool) → read_in payload deepest b left ≡ payload
      go true = rw (lt-leb left 1 h) refl
      go false = refl

  pub read-long : length deepest ≡ length payload → length (read_in payload deepest in_table left) ≡ length payload
  read-long e = go in_table
    where
      go : (b : Bool) → length (read_in payload deepest b left) ≡ length payload
      go true = if_ind (λ (l : List ℕ). length l ≡ length payload) (leb left 1) (λ f. e) λ f. refl
      go false = refl

-- A type that is found among the decoded bytes.
module _ (payload deepest : List ℕ) (many : length deepest ≡ length payload) (c : Scope) (start end left : ℕ) {t : Ty} where
  found-last : left ≤ 1 → Twins payload deepest start end → TypeFound payload c start end left t → TypeFound deepest c start end left t
  found-last few w f =
      let twin = twin-of payload deepest start end w f.at in
      record {
        message = twin.0;
        at = record { ordered = f.at.ordered; inside = omega (arith, f.at.inside, many); cuts = twin.1 };
        depth = f.depth;
        deep = f.deep;
        before = f.before;
        after = f.after;
        given = sym (last-type_at allowance c f.depth f.message twin.0 (omega (arith, few, f.deep)) twin.2 f.before) ∙ f.given;
      }

  -- It is found where it is read too.
  pub found-read : (in_table : Bool) → (in_table ≡ true → Twins payload deepest start end) → TypeFound payload c start end left t
      → TypeFound (read_in payload deepest in_table left) c start end left t
  found-read true w f = if_ind (λ (l : List ℕ). TypeFound l c start end left t) (leb left 1) (λ e. found-last (leb-true left 1 e) (w refl) f) λ e. f
  found-read false w f = f

  -- An entry, or a type inline in one at whose depth `deep` is left: it is found where it is read, and another stands at its place while a look-up is left.
  pub inner-read : (in_table is_entry : Bool) {deep : ℕ} → left ≤ deep - 1 → (is_entry ≡ true → Twins payload deepest start end)
      → (in_table ≡ true → 1 < deep → is_entry ≡ false → Twins payload deepest start end)
      → TypeFound (if is_entry then payload else read_in payload deepest in_table deep) c start end left t
      → TypeFound (read_in payload deepest (in_table || is_entry) left) c start end left t
      × ((in_table || is_entry) ≡ true → 1 < left → Twins payload deepest start end)
  inner-read true true h v w f = (found-read true (λ e. v refl) f, λ e k. v refl)
  inner-read false true h v w f = (found-read true (λ e. v refl) f, λ e k. v refl)
  inner-read false false h v w f = (f, λ e. absurd (cc))
  inner-read true false {deep} h v w f = go (leb deep 1) refl f
    where
      go : (b : Bool) → leb deep 1 ≡ b → TypeFound (if b then deepest else payload) c start end left t
          → TypeFound (read_in payload deepest true left) c start end left t × (true ≡ true → 1 < left → Twins payload deepest start end)
      go true e g =
          let few : left ≤ 0 = omega (arith, h, leb-true deep 1 e) in
          (rw (le-leb left 1 (omega (arith, few))) g, λ q k. absurd (omega (arith, few, k)))
      go false e g =
          let other = w refl (leb-false deep 1 e) refl in
          (found-read true (λ q. other) g, λ q k. other)
