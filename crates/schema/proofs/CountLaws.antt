-- How many bytes are counted: what a step takes of what a reader of members can afford.
-- Assumes nothing.
use mathlib.Core.Path.{◌≡◌, subst}
use mathlib.Core.List.{List}
use Prim.Native.Nat.{ℕ, ◌+◌, ◌*◌, ◌^◌, ◌≤◌}
use native.Mathlib.Omega.{arith}
use lib.ListN.{length}
use Rattle.std.specs.declared.option.Option.TheVariants.{Some}
use Rattle.std.specs.declared.result.Result.TheVariants.{Ok}
use Rattle.foundation.specs.Choices.{All}
use Rattle.sheet.specs.Rows.{Cell}
use Rattle.sheet.specs.told.Put.{PutHead, past}
use Rattle.sheet.specs.declared.State.{State}
use Rattle.sheet.proofs.PutLaws.{put-types}
use Rattle.declaration_rows.specs.told.Written as written
use Rattle.declaration_rows.specs.told.Written.{cell_limit}
use Rattle.schema.specs.told.SchemaTold.{Lent, Picked, Ready, Spends}
use Rattle.schema.specs.told.MembersTold.{ListWalked, Affords, Within, PickedWithin, ListedWithin}
use Rattle.schema.specs.declared.Section.{Section}
use Rattle.declaration_rows.proofs.WrittenLaws.{SmallCell, head-room}

-- Steps one after the other; a step that takes no more than is said.
pub within_none : (s : State) → Within 0 s s
within_none s = record { counts = omega arith; types = omega arith }

pub within_then : {n m : ℕ} {s s₁ s₂ : State} → Within n s s₁ → Within m s₁ s₂ → Within (n + m) s s₂
within_then p q = record { counts = omega (arith, p.counts, q.counts); types = omega (arith, p.types, q.types) }

pub within_less : {n : ℕ} (m : ℕ) {s s' : State} → n ≤ m → Within n s s' → Within m s s'
within_less m h p = record { counts = omega (arith, p.counts); types = p.types }

-- two steps, of what both may take
pub within_both : {n m : ℕ} (k : ℕ) {s s₁ s₂ : State} → n + m ≤ k → Within n s s₁ → Within m s₁ s₂ → Within k s s₂
within_both k h p q = within_less k h (within_then p q)

-- What enters types takes what is counted for them already.
pub spends-within : {s s' : State} → Spends s s' → Within 0 s s'
spends-within p = record { counts = omega (arith, p.sheet, p.text); types = p.types }

-- bytes of the sheet that are left out
pub past-within : (w : ℕ) (s : State) → Within w s (past w s)
past-within w s = record { counts = omega arith; types = omega arith }

-- What is asked for, by what can be afforded.
module _ {e : Lent} {n : ℕ} {s : State} (h : Affords e n s) where
  pub affords-less : (m : ℕ) → m ≤ n → Affords e m s
  affords-less m l = record { payload-short = h.payload-short; d2-short = h.d2-short; types = h.types; room = omega (arith, h.room) }

  -- what is left after a step
  pub affords-after : {k : ℕ} (m : ℕ) {s' : State} → Within k s s' → k + m ≤ n → Affords e m s'
  affords-after m p l = record {
    payload-short = h.payload-short;
    d2-short = h.d2-short;
    types = omega (arith, p.types, h.types);
    room = omega (arith, p.counts, h.room);
  }

  -- for the readers of types
  pub affords-ready : Ready e s
  affords-ready = record {
    payload-short = h.payload-short;
    d2-short = h.d2-short;
    room = record { sheet = omega (arith, h.room); text = omega (arith, h.room); types = h.types };
  }

  -- for the writers of records
  pub affords-places : written.RecordRoom (s.sheet + s.text) e.payload e.d2 s
  affords-places = record { payload = h.payload-short; d2 = h.d2-short; places = omega arith }

  pub affords-room : written.RecordRoom (2 ^ 61) e.payload e.d2 s
  affords-room = record { payload = h.payload-short; d2 = h.d2-short; places = omega (arith, h.room) }

  -- What a record's kind and cells take.
  module _ (cs : List Cell) (small : All SmallCell cs) {s' : State} {S S' T T' : List ℕ} where
    pub head-within : (k : ℕ) → PutHead k cs s.types s s' S S' T T' → Within (1 + length cs * cell_limit) s s'
    head-within k p =
        let r = head-room cs small affords-places k p in
        record { counts = omega (arith, r.places, put-types p); types = omega (arith, put-types p) }

-- The same of an answer that is known.
pub picked_within : {n : ℕ} {s : State} {r : Picked} {s' : State} → PickedWithin n s r → r ≡ Ok (Some s') → Within n s s'
picked_within {n} {s} h e = subst (PickedWithin n s) e h

pub listed-within : {n : ℕ} {s : State} {r : ListWalked} {x : Section} → ListedWithin n s r → r ≡ Ok x → Within n s x.state
listed-within {n} {s} h e = subst (ListedWithin n s) e h
