-- The cycle of calls: what each call asks for, what falls, and a type entered and then its arguments.
-- Assumes nothing.
use mathlib.Core.Path.{◌≡◌, refl, ap, sym, subst, ◌∙◌}
use mathlib.Core.Bool.{Bool}
use mathlib.Core.Option.{some-injective}
use mathlib.Core.List.{List, []}
use Prim.Native.Nat.{ℕ, ◌+◌, ◌-◌, ◌*◌, ◌≤◌, ◌<◌}
use native.Mathlib.Omega.{arith}
use lib.ListN.{length, take, drop, get_elem?}
use lib.Seq.{take-length}
use Rattle.fields.specs.Fields.{Type-argument}
use Rattle.wire.specs.Wire.{Message, cut}
use Rattle.wire.proofs.WalkLaws.{whole, ok_same}
use Rattle.messages.specs.told.Asked.{bodies, NextIs, NextBodyTold}
use Rattle.sheet.specs.declared.State.{State}
use Rattle.schema.specs.Reading.{Scope, kept, allowance}
use Rattle.schema.specs.Types.{argument_in, type_at}
use Rattle.schema.specs.told.SchemaTold.{Lent, Scoped, entries_in, Ready, Spends, WalkedSpends}
use Rattle.schema.specs.told.TypesTold.{or_nullable, rows_in, EntryIs, EntryTold}
use Rattle.foundation.specs.declared.Tables.{Tables}
use Rattle.schema.specs.declared.Stop.{Stop}
use Rattle.schema.proofs.TypeLaws.{spends_none, spends_then, ready-after}
use Rattle.schema.proofs.EntryLaws.{entry_in, entry_below}
use Rattle.schema.proofs.ParseLaws.{entry_inside}
use Rattle.type_references.specs.told.Pending.{argument_rows}
use Rattle.type_references.specs.told.ParseTold.{
  EnteredIs,
  EnteredOne,
  EnterTold,
  ArgumentsTold,
  TwinTold,
  WaitingRoom,
  as_types,
  as_bytes,
  Alone,
  AloneEntry,
  FitsType,
  lent_area,
  no_area,
  FitsEntry,
  roomy,
  nowhere,
  no_entry_area,
  NestRoom,
  ParseRoom,
}
use Rattle.type_references.proofs.PendingLaws.{walked_then}
use Rattle.type_references.proofs.StackLaws.{fits-types}
use Rattle.type_references.proofs.TwinLaws.{alone-last}
use Rattle.joined_types.proofs.DeepestLaws.{twins}
use Rattle.type_references.proofs.WalkLaws.{loop-start, loop-end}
use Rattle.std.specs.declared.option.Option.{Option}
use Rattle.std.specs.declared.option.Option.TheVariants.{Some, None}
use Rattle.std.specs.declared.result.Result.TheVariants.{Ok, Err}
use Rattle.foundation.specs.declared.Span.{Span}
use Rattle.messages.specs.told.Asked.{span}
use Rattle.schema.specs.told.SchemaTold.{Walked}
use Rattle.type_references.specs.declared.waiting.Waiting.{Waiting}

-- What falls: one number of the depth left and of the bytes left. A look-up starts with no bytes and takes one of the depth for those of an
-- entry, which are fewer than the number that a depth counts for.
abbrev pub remaining : ℕ → ℕ → ℕ
remaining left bytes = 65536 * left + bytes

pub falls-arguments : (left bytes : ℕ) {less t : ℕ} → 3 * remaining left bytes + 2 ≡ t → less ≡ left - 1 → 3 * remaining less bytes + 1 < t
falls-arguments left bytes e h = omega arith

pub falls-look_up : (left bytes : ℕ) {deep t : ℕ} → 3 * remaining left bytes + 1 ≡ t → deep ≤ left → 3 * remaining deep 0 < t
falls-look_up left bytes e h = omega arith

-- an inline argument that is read on its own has fewer bytes, and no more of the depth
pub falls-inline : (left bytes : ℕ) {deep t : ℕ} (fewer : ℕ) → 3 * remaining left bytes + 1 ≡ t → deep ≤ left → fewer < bytes → 3 * remaining deep fewer + 2 < t
falls-inline left bytes fewer e h k = omega arith

falls-inside : (left bytes : ℕ) {t : ℕ} → 3 * remaining left 0 ≡ t → (left ≡ 0 → ⊥) → bytes ≤ 32768 → 3 * remaining (left - 1) bytes + 2 < t
falls-inside left bytes e h k = omega arith

-- A type is alone if no argument is found in its message, and so is an entry if none is found in its.
pub alone : {e : Lent} {base : ℕ} {msg : List ℕ} {x : Option Span} → NextBodyTold base msg Type-argument 0 x → x ≡ None → Alone e base msg
alone {base = base} {msg} t g = λ c o m k. subst (NextIs base msg Type-argument m) g (t.is m (ap cut (whole base msg) ∙ k))

module _ (e : Lent) {index : ℕ} {x : Option Span} (t : EntryTold e.payload (entries_in e.tables e.notes) e.tables.types index x) {a b : ℕ}
    (g : x ≡ Some (span a b)) where
  entry-is : (c : Scope) → Scoped e c → EntryIs e.payload (get_elem? c.table.types index) (Some (span a b))
  entry-is c o = subst (EntryIs e.payload (get_elem? c.table.types index)) g (t.is c.table.types o.entries)

  pub alone-entry : Alone e a (take (b - a) (drop a e.payload)) → AloneEntry e index
  alone-entry h c o m q =
      let j = entry-is c o in
      let same : j.0 ≡ m = some-injective j.0 m (sym j.1 ∙ q) in
      subst (λ (y : Message). bodies Type-argument y ≡ []) same (h c o j.0 j.2)

  entry-alone : AloneEntry e index → Alone e a (take (b - a) (drop a e.payload))
  entry-alone h c o m k =
      let j = entry-is c o in
      let same : j.0 ≡ m = ok_same (sym j.2 ∙ k) in
      subst (λ (y : Message). bodies Type-argument y ≡ []) same (h c o j.0 j.1)

  pub falls_entry : {left n : ℕ} → 3 * remaining left 0 ≡ n → (left ≡ 0 → ⊥) → (bytes : List ℕ) → length bytes ≡ length e.payload → length e.payload ≤ 32768
      → 3 * remaining (left - 1) (length (take (b - a) (drop a bytes))) + 2 < n
  falls_entry {left} f h bytes long k =
      let i = entry_in e.payload (entries_in e.tables e.notes) e.tables.types index t g in
      falls-inside left (length (take (b - a) (drop a bytes))) f h (omega (arith, entry_inside bytes a b i.0 (omega (arith, i.1, long)), long))

  -- What is asked for where an entry of the type table is read, and where it is read among the other bytes.
  entry-fits : {types room : ℕ} → FitsEntry e index types room → FitsType e a (take (b - a) (drop a e.payload)) types room
  entry-fits (roomy l) = fits-types l
  entry-fits (nowhere z) = absurd (omega (arith, entry_below e.payload (entries_in e.tables e.notes) e.tables.types index t g))
  entry-fits (no_entry_area z h) = no_area z (entry-alone h)

  last-entry-fits : {types room : ℕ} → FitsEntry e index types room → FitsType e a (take (b - a) (drop a e.deepest)) types room
  last-entry-fits (roomy l) = fits-types l
  last-entry-fits (nowhere z) = absurd (omega (arith, entry_below e.payload (entries_in e.tables e.notes) e.tables.types index t g))
  last-entry-fits (no_entry_area z h) = no_area z (alone-last e t g h)

  module _ {nest : List Waiting} {left : ℕ} {s : State} (h : Ready e s) (k : left ≤ 64) (f : FitsEntry e index s.types (length nest)) where
    pub entry-room : ParseRoom e (take (b - a) (drop a e.payload)) nest a (left - 1) s
    entry-room =
        let i = entry_in e.payload (entries_in e.tables e.notes) e.tables.types index t g in
        record { ready = h; inside = entry_inside e.payload a b i.0 i.1; deep = omega arith; room = entry-fits f }

    pub last-entry-room : length e.deepest ≡ length e.payload → ParseRoom e (take (b - a) (drop a e.deepest)) nest a (left - 1) s
    last-entry-room long =
        let i = entry_in e.payload (entries_in e.tables e.notes) e.tables.types index t g in
        record { ready = h; inside = omega (arith, entry_inside e.deepest a b i.0 (omega (arith, i.1))); deep = omega arith; room = last-entry-fits f }

walked_spends : {s s₁ : State} (w : Walked) → Spends s s₁ → WalkedSpends s₁ w → WalkedSpends s w
walked_spends (Ok s') h k = spends_then h k
walked_spends (Err stop) h k = tt

-- A type is entered, or refused; then its arguments.
module _ {e : Lent} {msg : List ℕ} {base left role projection : ℕ} {nullable : Bool} {s : State} {w : Walked} {S S₁ T T₁ : List ℕ}
    (n : EnterTold e msg base left role projection nullable s w S S₁ T T₁) where
  pub parse-unentered : {last : List ℕ} {stop : Stop} → w ≡ Err stop → TwinTold e msg last base left role projection nullable s (Err stop) S S₁ T T₁
  parse-unentered q = record {
    spends = tt;
    is = λ c o m k z d l. subst (λ (x : Walked). EnteredIs c d m role projection nullable s x S S₁ T T₁) q (n.is c o m k d l);
  }

  module _ {s₁ : State} (q : w ≡ Ok s₁) {less : ℕ} (f : less ≡ left - 1) where
    entered-fits : {tables : Tables} {bytes room : ℕ} → WaitingRoom tables s.types bytes room → WaitingRoom tables s₁.types bytes room
    entered-fits (as_types h) = let one = subst (WalkedSpends s) q n.spends in as_types (omega (arith, one.types))
    entered-fits (as_bytes z h) = as_bytes z h

    entered-area : {room : ℕ} → FitsType e base msg s.types room → (room ≡ 0 → ⊥) → WaitingRoom e.tables s₁.types (length msg) room
    entered-area (lent_area h z) k = entered-fits h
    entered-area (no_area z h) k = absurd (k z)

    pub entered-room : {nest : List Waiting} → ParseRoom e msg nest base left s → (length nest ≡ 0 → ⊥)
        → NestRoom e msg nest base less s₁
    entered-room h k =
        let one = subst (WalkedSpends s) q n.spends in
        record {
          ready = ready-after h.ready one;
          inside = h.inside;
          deep = omega (arith, h.deep);
          room = entered-area h.room k;
        }

    pub parse-entered : {last : List ℕ} {r : Walked} {S₂ T₂ : List ℕ} → ArgumentsTold e msg last base less s₁ r S₁ S₂ T₁ T₂ → TwinTold e msg last base left role projection nullable s r S S₂ T T₂
    parse-entered {last} {r} {S₂} {T₂} u = record {
      spends = walked_spends r (subst (WalkedSpends s) q n.spends) u.spends;
      is = λ c o m k z d l.
          let entered = subst (λ (x : Walked). EnteredIs c d m role projection nullable s x S S₁ T T₁) q (n.is c o m k d l) in
          let ms = entered.0 in
          walked_then (λ t. rows_in role projection (or_nullable nullable t)) argument_rows (type_at allowance c d m s.types)
          (kept (argument_in (type_at allowance c) c (d + 1)) ms s₁.types) entered.1 entered.4 entered.3 r S₂ T₂
          (u.is c o m k ms entered.2 (twins base last m z.0 z.1 z.2 ms entered.2) (d + 1) (omega arith));
    }

    -- a type with no argument
    parse-alone : (last : List ℕ) → length last ≡ length msg → Alone e base msg → TwinTold e msg last base left role projection nullable s (Ok s₁) S S₁ T T₁
    parse-alone last long h = parse-entered (record { spends = spends_none s₁; is = λ c o. (none c o).is c o })
      where
        next : (c : Scope) → Scoped e c → NextBodyTold base (take (length msg) msg) Type-argument 0 None
        next c o = subst (λ (l : List ℕ). NextBodyTold base l Type-argument 0 None) (sym (take-length msg))
            (record { is = λ m k. h c o m (ap cut (sym (whole base msg)) ∙ k); inside = tt; later = tt; begins = tt })

        none : (c : Scope) → Scoped e c → ArgumentsTold e msg last base less s₁ (Ok s₁) S₁ S₁ T₁ T₁
        none c o = loop-end (loop-start long {nest = []}) (next c o) refl refl

    stops : {room : ℕ} (last : List ℕ) → length last ≡ length msg → FitsType e base msg s.types room → room ≡ 0 → TwinTold e msg last base left role projection nullable s (Ok s₁) S S₁ T T₁
    stops last long (lent_area h z) k = let one = subst (EnteredOne s) q n.one in absurd (omega (arith, z k, one))
    stops last long (no_area z h) k = parse-alone last long h

    pub parse-stops : {nest : List Waiting} (last : List ℕ) → length last ≡ length msg → ParseRoom e msg nest base left s → length nest ≡ 0
        → TwinTold e msg last base left role projection nullable s (Ok s₁) S S₁ T T₁
    parse-stops last long h k = stops last long h.room k
