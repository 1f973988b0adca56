-- Types of which another stands in other bytes that is alike where no look-up is left: those inline in arguments, and the entries of the type table.
-- Assumes nothing.
use mathlib.Core.Path.{◌≡◌, refl, ap, sym, subst, ◌∙◌}
use mathlib.Core.Bool.{Bool}
use mathlib.Core.List.{List, [], ◌∷◌}
use mathlib.Core.Option.{some}
use Prim.Native.Nat.{ℕ, zero, suc, ◌+◌, ◌-◌, ◌≤◌}
use native.Mathlib.Omega.{arith}
use lib.ListN.{length, drop, get_elem?, length-take, length-drop}
use Rattle.foundation.specs.Choices.{All}
use Rattle.foundation.specs.Results.{Res, ok, refused, ◌>>=◌, Part, ◌from◌}
use Rattle.fields.specs.Fields.{Type-argument, Type-Argument-type}
use Rattle.wire.specs.Wire.{Message, cut}
use Rattle.wire.specs.Messages.{bytes_of, cut_all, messages}
use Rattle.wire.specs.told.WireTold.{part_between}
use Rattle.wire.proofs.WalkLaws.{ok_same}
use Rattle.messages.specs.told.Asked.{bodies, CheckedTold, span}
use Rattle.characters.specs.told.Places.{part_from}
use Rattle.characters.proofs.PartLaws.{part-part, part-long, rest-is}
use Rattle.sheet.specs.declared.State.{State}
use Rattle.declaration_rows.specs.Declarations.{Ty}
use Rattle.schema.specs.Reading.{Scope, allowance}
use Rattle.schema.specs.told.Alike.{Alike, Dropped, Thinned, ArgumentsBy, SameType, SameAtLast, JoinedAs, TwinAt, ArgumentTwin}
use Rattle.schema.specs.told.SchemaTold.{Lent, Scoped, Walked, WalkedTold, entries_in}
use Rattle.schema.specs.told.TypesTold.{or_nullable, rows_in, EntryIs, EntryTold, ParseTold}
use Rattle.schema.proofs.AlikeLaws.{at-last-itself, alike-given}
use Rattle.schema.proofs.EntryLaws.{entry_joined}
use Rattle.schema.proofs.FoundLaws.{never_given}
use Rattle.schema.proofs.HeadLaws.{no-messages}
use Rattle.type_references.specs.told.Pending.{Twinned}
use Rattle.type_references.specs.told.ParseTold.{Twin, TwinTold, Alone, AloneEntry}
use Rattle.joined_types.proofs.DeepestLaws.{last-type_at, twins}
use Rattle.std.specs.declared.result.Result.{Result}
use Rattle.std.specs.declared.result.Result.TheVariants.{Ok, Err}
use Rattle.wire.specs.declared.WireError.{WireError}
use Rattle.std.specs.declared.option.Option.{Option}
use Rattle.std.specs.declared.option.Option.TheVariants.{Some}
use Rattle.foundation.specs.declared.Span.{Span}

-- A message is alike itself.
pub twin-itself : (base : ℕ) (msg : List ℕ) (m : Message) → cut (◌from◌ base msg) ≡ ok m → Twin base msg m
twin-itself base msg m k = (m, k, at-last-itself m)

pub itself-told : {e : Lent} {msg : List ℕ} {base left role projection : ℕ} {nullable : Bool} {s : State} {w : Walked} {S S' T T' : List ℕ}
    → TwinTold e msg msg base left role projection nullable s w S S' T T' → ParseTold e msg base left role projection nullable s w S S' T T'
itself-told {msg = msg} {base} t = record { spends = t.spends; is = λ c o m k. t.is c o m k (twin-itself base msg m k) }

-- What is checked of the second of two that are alike holds of the first.
pub checked-alike : (r r' : Res Message) → Alike SameAtLast r r' → (w : Result Unit WireError) → CheckedTold r' w → CheckedTold r w
checked-alike (ok m) r' a (Ok u) c = (m, refl)
checked-alike (refused k p) r' a (Ok u) c = never_given (sym a ∙ c.1)
checked-alike (ok m) (ok m') a (Err error) c = never_given (sym c)
checked-alike (ok m) (refused k p) a (Err error) c = absurd a
checked-alike (refused k p) r' a (Err error) c = sym a ∙ c

-- All arguments of a type, then those from a place on, the first one alone, and the others.
pub twinned-all : {base : ℕ} (last : List ℕ) {ms : List Message} {n : ℕ} → n ≤ length last → All (ArgumentTwin base last) ms → Twinned base last 0 n ms
twinned-all {base} last {ms} h t = record {
  start = 0;
  until = length last;
  after = omega arith;
  before = h;
  short = omega arith;
  each =
      subst (λ (l : List ℕ). All (ArgumentTwin (base + 0) l) ms) (sym (rest-is last 0))
      (subst (λ (b : ℕ). All (ArgumentTwin b last) ms) (omega arith) t);
}

module _ {base : ℕ} {last : List ℕ} {at end : ℕ} where
  pub twinned_within : {ms : List Message} → Twinned base last at end ms → {a b : ℕ} → at ≤ a → b ≤ end → Twinned base last a b ms
  twinned_within t h k = record {
    start = t.start;
    until = t.until;
    after = omega (arith, t.after);
    before = omega (arith, t.before);
    short = t.short;
    each = t.each;
  }

  module _ {m : Message} {ms : List Message} (t : Twinned base last at end (m ∷ ms)) where
    pub twinned_first : Twinned base last at end (m ∷ [])
    twinned_first = record { start = t.start; until = t.until; after = t.after; before = t.before; short = t.short; each = (t.each.0, tt) }

    pub twinned_rest : Twinned base last at end ms
    twinned_rest = record { start = t.start; until = t.until; after = t.after; before = t.before; short = t.short; each = t.each.1 }

-- The type inline in an argument, which stands from i to j of the message, and its own arguments.
module _ {base : ℕ} {last : List ℕ} {a b : ℕ} {m : Message} (t : Twinned base last a b (m ∷ [])) {i j : ℕ} (p : a ≤ i) (q : i ≤ j) (r : j ≤ b) (msg : List ℕ)
    (short : j ≤ length msg) (e : bytes_of Type-Argument-type m ≡ some (part_between base msg i j)) where
  -- the same place, counted from where the type around the argument begins
  same-place : (n : ℕ) → n ≡ j - i → part_from (base + i - (base + t.start)) (base + i - (base + t.start) + n) (part_from t.start t.until last) ≡ part_from i j last
  same-place n h =
      let x = base + i - (base + t.start) in
      let y = x + n in
      let long = part-long last t.start t.until (omega (arith, t.after, t.before)) t.short in
      let begins : t.start + x ≡ i = omega (arith, t.after) in
      let ends : t.start + y ≡ j = omega (arith, t.after) in
      part-part last t.start t.until x y (omega arith) (omega (arith, t.after, t.before))
      ∙ ap (λ (f : ℕ). part_from f (t.start + y) last) begins
      ∙ ap (λ (u : ℕ). part_from i u last) ends

  pub twinned-cut : Alike SameAtLast (cut (part_between base msg i j)) (cut (part_between base last i j))
  twinned-cut =
      let here : TwinAt (base + t.start) (part_from t.start t.until last) (some (part_between base msg i j)) =
      subst (TwinAt (base + t.start) (part_from t.start t.until last)) e t.each.0 in
      subst (λ (l : List ℕ). Alike SameAtLast (cut (part_between base msg i j)) (cut (◌from◌ (base + i) l))) (same-place (length (part_from i j msg)) (part-long msg i j q short)) here

  module _ {inner : Message} (k : cut (part_between base msg i j) ≡ ok inner) where
    pub twinned-type : Twin (base + i) (part_from i j last) inner
    twinned-type = alike-given SameAtLast twinned-cut k

    pub twinned_inner : {ms : List Message} → messages Type-argument inner ≡ ok ms → Twinned base last i j ms
    twinned_inner {ms} f = record {
      start = i;
      until = j;
      after = omega arith;
      before = omega arith;
      short = omega (arith, t.before, t.short);
      each = twins (base + i) (part_from i j last) inner twinned-type.0 twinned-type.1 twinned-type.2 ms f;
    }

-- The same part of as many bytes is equally long.
pub same-long : (l k : List ℕ) → length k ≡ length l → (a b : ℕ) → length (part_from a b k) ≡ length (part_from a b l)
same-long l k h a b = omega (arith, h, length-take (b - a) (drop a k), length-drop a k, length-take (b - a) (drop a l), length-drop a l)

-- A type with no argument is alike one with none.
none-thinned : (P : Message → Message → Type 0) (D : Message → Type 0) (r : Res (List Message)) → Alike (Thinned P D) (ok []) r → r ≡ ok []
none-thinned P D (ok xs) h = go xs h
  where
    go : (xs : List Message) → Thinned P D [] xs → ok xs ≡ ok []
    go xs Thinned.done = refl
none-thinned P D (refused c p) h = absurd h

no-bodies : (ps : List Part) → cut_all ps ≡ ok [] → ps ≡ []
unfolding cut_all
no-bodies [] e = refl
no-bodies (p ∷ ps) e = go (cut p) (cut_all ps) e
  where
    go : (r : Res Message) (q : Res (List Message)) → (r >>= λ m. q >>= λ ms. ok (m ∷ ms)) ≡ ok [] → p ∷ ps ≡ []
    go (ok m) (ok ms) f = let z = ap length (ok_same f) in absurd (omega arith)
    go (ok m) (refused c at) f = never_given f
    go (refused c at) q f = never_given f

no-argument : (m : Message) → messages Type-argument m ≡ ok [] → bodies Type-argument m ≡ []
unfolding messages
no-argument m e = no-bodies (bodies Type-argument m) e

alone-twin : (m m' : Message) → SameAtLast m m' → bodies Type-argument m ≡ [] → bodies Type-argument m' ≡ []
unfolding SameType
alone-twin m m' t e = go t.levels t.same
  where
    go : (k : ℕ) → SameType 0 k m m' → bodies Type-argument m' ≡ []
    go zero h = ap (bodies Type-argument) (sym h) ∙ e
    go (suc k) h = no-argument m' (none-thinned (ArgumentsBy (SameType 0 k)) (Dropped 0) (messages Type-argument m') (subst (λ (r : Res (List Message)). Alike (Thinned (ArgumentsBy (SameType 0 k)) (Dropped 0)) r (messages Type-argument m')) (no-messages Type-argument m e) h.arguments))

-- An entry of the type table, which stands from a to b.
module _ (e : Lent) {index : ℕ} {x : Option Span} (t : EntryTold e.payload (entries_in e.tables e.notes) e.tables.types index x) {a b : ℕ} (g : x ≡ Some (span a b)) where
  joined-as : (c : Scope) → Scoped e c → JoinedAs SameAtLast (part_from a b e.payload) (part_from a b e.deepest)
  joined-as c o = entry_joined e.payload (entries_in e.tables e.notes) e.tables.types index t g o.deepest

  pub entry-twin : (c : Scope) → Scoped e c → (m : Message) → cut (◌from◌ a (part_from a b e.payload)) ≡ ok m → Twin a (part_from a b e.deepest) m
  entry-twin c o m k = alike-given SameAtLast ((joined-as c o).alike a) k

  -- It has no argument there either.
  pub alone-last : AloneEntry e index → Alone e a (part_from a b e.deepest)
  alone-last h c o m k =
      let j : EntryIs e.payload (get_elem? c.table.types index) (Some (span a b)) = subst (EntryIs e.payload (get_elem? c.table.types index)) g (t.is c.table.types o.entries) in
      let twin = entry-twin c o j.0 j.2 in
      let same : twin.0 ≡ m = ok_same (sym twin.1 ∙ k) in
      subst (λ (y : Message). bodies Type-argument y ≡ []) same (alone-twin j.0 twin.0 twin.2 (h c o j.0 j.1))

  -- What is told of it, from what is told where it is read.
  module _ {left role projection : ℕ} {nullable : Bool} {s : State} {w : Walked} {S S' T T' : List ℕ} where
    pub entry-told : TwinTold e (part_from a b e.payload) (part_from a b e.deepest) a left role projection nullable s w S S' T T'
        → ParseTold e (part_from a b e.payload) a left role projection nullable s w S S' T T'
    entry-told p = record { spends = p.spends; is = λ c o m k. p.is c o m k (entry-twin c o m k) }

    pub last-told : left ≤ 1 → TwinTold e (part_from a b e.deepest) (part_from a b e.deepest) a left role projection nullable s w S S' T T'
        → ParseTold e (part_from a b e.payload) a left role projection nullable s w S S' T T'
    last-told few p = record {
      spends = p.spends;
      is = λ c o m k d l.
          let twin = entry-twin c o m k in
          subst (λ (r : Res (Ty × ℕ)). WalkedTold r (λ t. rows_in role projection (or_nullable nullable t)) s w S S' T T')
          (sym (last-type_at allowance c d m twin.0 (omega arith) twin.2 s.types))
          (p.is c o twin.0 twin.1 (twin-itself a (part_from a b e.deepest) twin.0 twin.1) d l);
    }
