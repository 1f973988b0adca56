-- Types in the type table, and what stands at their places in the bytes that are lent for where no look-up is left.
-- Assumes nothing.
use mathlib.Core.Path.{◌≡◌, ap, sym, subst, ◌∙◌}
use mathlib.Core.Bool.{Bool}
use mathlib.Core.List.{List, [], ◌∷◌, ◌++◌}
use mathlib.Core.Option.{Option, none, some}
use Prim.Native.Nat.{ℕ, ◌+◌, ◌-◌, ◌≤◌}
use native.Mathlib.Omega.{arith}
use lib.ListN.{drop, length, take}
use Rattle.std.specs.declared.option.Option as rust
use Rattle.std.specs.declared.option.Option.TheVariants.{Some}
use Rattle.foundation.specs.Choices.{All, IfSome}
use Rattle.foundation.specs.Results.{ok, Part, ◌from◌}
use Rattle.foundation.specs.declared.Span.{Span}
use Rattle.foundation.proofs.ResultLaws.{Gives, gives_weaken, gives-ok}
use Rattle.fields.specs.Fields.{Type-argument, Type-Argument-type}
use Rattle.wire.specs.Wire.{Value, varint, fixed, body, Message, cut}
use Rattle.wire.specs.Messages.{as_body, bytes_of, messages}
use Rattle.wire.specs.told.WireTold.{part_between}
use Rattle.wire.proofs.Readers.{PieceOf, ReadIn, within-length}
use Rattle.wire.proofs.WalkLaws.{ok_same}
use Rattle.wire.proofs.MessageLaws.{values_weaken, messages-all}
use Rattle.wire.proofs.Places.{CutIn, cut_in, cut_in_within, bytes_of-in}
use Rattle.characters.specs.told.Places.{part_from}
use Rattle.characters.proofs.PartLaws.{part-long}
use Rattle.schema.specs.told.Alike.{Alike, SameAtLast, TwinAt, ArgumentTwin, DeepestOf}
use Rattle.schema.specs.told.SchemaTold.{Lent, entries_in}
use Rattle.schema.specs.told.TypesTold.{EntryTold}
use Rattle.schema.proofs.AlikeLaws.{alike-itself, alike-given, at-last-itself, twin-placed}
use Rattle.schema.proofs.EntryLaws.{entry_in, entry_joined}
use Rattle.joined_types.proofs.DeepestLaws.{twins}
use Rattle.string_marks.specs.told.MarksTold.{PartTwin, TypeTwin, InlineTwin}
use Rattle.string_marks.specs.told.InnerTold.{TableInside}
use Rattle.string_marks.proofs.ListMarks.{Among}

-- One of some of which all something holds.
among-of : (P : Message → Type 0) (m : Message) (all : List Message) → Among m all → All P all → P m
among-of P m all a h = go a.before (subst (All P) a.are h)
  where
    go : (before : List Message) → All P (before ++ (m ∷ a.after)) → P m
    go [] g = g.0
    go (b ∷ before) g = go before g.1

-- What was cut from some bytes, and the arguments of it.
module _ (whole : Part) (m : Message) (e : cut whole ≡ ok m) where
  arguments-in : Gives (All (CutIn whole)) (messages Type-argument m)
  arguments-in =
      let c : CutIn whole m = gives-ok (CutIn whole) e (cut_in whole) in
      let bodies = values_weaken (ReadIn whole) (λ v. IfSome (PieceOf whole) (as_body v)) as-body m c in
      let all = messages-all (PieceOf whole) (CutIn whole) cuts Type-argument m bodies in
      gives_weaken _ (All (CutIn whole)) (messages Type-argument m) all λ ms a. a.0
    where
      as-body : (v : Value) → ReadIn whole v → IfSome (PieceOf whole) (as_body v)
      as-body (varint n) r = tt
      as-body (fixed w n) r = tt
      as-body (body q) r = r

      cuts : (p : Part) → PieceOf whole p → Gives (CutIn whole) (cut p)
      cuts p w = gives_weaken (CutIn p) (CutIn whole) (cut p) (cut_in p) (cut_in_within w)

-- A part that lies in these bytes is read at its place as what stands there.
pub placed-itself : (e : Lent) (a b : ℕ) (part : List ℕ) → a ≤ b → b ≤ length e.deepest → part ≡ part_from a b e.deepest → PartTwin e (some (◌from◌ a part))
placed-itself e a b part h k q =
    let long : a + length part ≡ b = omega (arith, ap length q, part-long e.deepest a b h k) in
    let same : part ≡ part_from a (a + length part) e.deepest = q ∙ ap (λ (n : ℕ). part_from a n e.deepest) (sym long) in
    subst (λ (l : List ℕ). Alike SameAtLast (cut (◌from◌ a part)) (cut (◌from◌ a l))) same (alike-itself SameAtLast at-last-itself (cut (◌from◌ a part)))

-- An entry of the type table.
module _ (e : Lent) {i : ℕ} {x : rust.Option Span} (t : EntryTold e.payload (entries_in e.tables e.notes) e.tables.types i x) {p : Span} (g : x ≡ Some p)
    (d : DeepestOf e.payload e.deepest (entries_in e.tables e.notes) e.tables.types) where
  pub entry-placed : PartTwin e (some (◌from◌ p.start (part_from p.start p.end e.payload)))
  entry-placed =
      let inside = entry_in e.payload (entries_in e.tables e.notes) e.tables.types i t g in
      let long = part-long e.payload p.start p.end inside.0 inside.1 in
      let end : p.end ≡ p.start + length (part_from p.start p.end e.payload) = omega (arith, long, inside.0) in
      subst (λ (n : ℕ). Alike SameAtLast (cut (◌from◌ p.start (part_from p.start p.end e.payload))) (cut (◌from◌ p.start (part_from p.start n e.deepest)))) end
      ((entry_joined e.payload (entries_in e.tables e.notes) e.tables.types i t g d).alike p.start)

-- A type of which it holds that lies in the decoded bytes: it holds of each type inline in an argument of it.
module _ (e : Lent) (many : length e.deepest ≡ length e.payload) (base : ℕ) (msg : List ℕ) (inside : base + length msg ≤ length e.payload)
    (twin : PartTwin e (some (◌from◌ base msg))) (m : Message) (k : cut (◌from◌ base msg) ≡ ok m) where
  argument-placed : (a : Message) → CutIn (◌from◌ base msg) a → ArgumentTwin base (part_from base (base + length msg) e.deepest) a
      → PartTwin e (bytes_of Type-Argument-type a)
  argument-placed a c t = go (bytes_of Type-Argument-type a) (bytes_of-in (◌from◌ base msg) Type-Argument-type a c) t
    where
      go : (o : Option Part) → IfSome (PieceOf (◌from◌ base msg)) o → TwinAt base (part_from base (base + length msg) e.deepest) o → PartTwin e o
      go none w h = tt
      go (some p) w h =
          let at : p.at ≡ base + w.start = ap (λ (q : Part). q.at) w.is in
          let long = within-length w in
          twin-placed e.deepest base (base + length msg) p (omega (arith, at)) (omega (arith, at, long, w.fits)) (omega (arith, inside, many)) h

  all-placed : (ms : List Message) → All (CutIn (◌from◌ base msg)) ms → All (ArgumentTwin base (part_from base (base + length msg) e.deepest)) ms
      → All (λ a. PartTwin e (bytes_of Type-Argument-type a)) ms
  all-placed [] c t = tt
  all-placed (a ∷ ms) c t = (argument-placed a c.0 t.0, all-placed ms c.1 t.1)

  arguments-placed : (ms : List Message) → messages Type-argument m ≡ ok ms → All (λ a. PartTwin e (bytes_of Type-Argument-type a)) ms
  arguments-placed ms f =
      let last = part_from base (base + length msg) e.deepest in
      let other = alike-given SameAtLast twin k in
      all-placed ms (gives-ok (All (CutIn (◌from◌ base msg))) f (arguments-in (◌from◌ base msg) m k)) (twins base last m other.0 other.1 other.2 ms f)

-- So of the argument that stands from a to b of it.
pub inline-twin : (e : Lent) (in_table : Bool) (many : length e.deepest ≡ length e.payload) (base : ℕ) (msg : List ℕ) → TableInside e in_table base msg
    → TypeTwin e in_table base msg → (m : Message) → cut (◌from◌ base msg) ≡ ok m → (ms : List Message) → messages Type-argument m ≡ ok ms
    → (a b : ℕ) (n : Message) → cut (part_between base msg a b) ≡ ok n → Among n ms → InlineTwin e in_table (base + a) (take (b - a) (drop a msg))
inline-twin e in_table many base msg inside twin m k ms f a b n c among y n' d =
    let all = arguments-placed e many base msg (inside y) (twin y) m k ms f in
    let one = among-of (λ x. PartTwin e (bytes_of Type-Argument-type x)) n ms among all in
    subst (λ (x : Message). PartTwin e (bytes_of Type-Argument-type x)) (ok_same (sym c ∙ d)) one
