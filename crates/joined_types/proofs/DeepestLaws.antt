-- Types that are alike where no look-up is left. They are read the same there, whatever the type table. And where the second is cut from some bytes, these bytes
-- have at the place of each type inline in an argument of the first one that is alike.
-- Assumes nothing.
use mathlib.Core.Path.{◌≡◌, refl, ap, sym, subst, ◌∙◌}
use mathlib.Core.List.{List}
use mathlib.Core.Option.{Option, none, some}
use Prim.Native.Nat.{ℕ, zero, suc, ◌+◌, ◌-◌, ◌≤◌}
use native.Mathlib.Omega.{arith}
use borrow.Author.Tests.{le-ltb}
use lib.Dec.{eqb}
use lib.ListN.{length}
use Rattle.foundation.specs.Choices.{All, IfSome, map_option}
use Rattle.foundation.specs.Results.{Res, ok, refused, ◌>>=◌, Part, ◌from◌}
use Rattle.foundation.proofs.ResultLaws.{Gives, gives_weaken, gives-ok}
use Rattle.fields.specs.Fields.{Type-argument, Type-class_name, Type-Argument-type}
use Rattle.wire.specs.Wire.{Value, varint, fixed, body, Message, cut}
use Rattle.wire.specs.Messages.{as_body, index, bytes_of, cut_option, message, messages}
use Rattle.wire.proofs.Readers.{PieceOf, ReadIn, within-length}
use Rattle.wire.proofs.WalkLaws.{ok_same}
use Rattle.wire.proofs.MessageLaws.{Values, values_weaken, messages-all}
use Rattle.wire.proofs.Places.{CutIn, cut_in, cut_in_within, bytes_of-in}
use Rattle.characters.specs.told.Places.{part_from}
use Rattle.declaration_rows.specs.Declarations.{star}
use Rattle.schema.specs.Reading.{Scope, scope, pure, lift}
use Rattle.schema.specs.Types.{Walk, max_depth, resolve_at, type_in, projection_in, argument_in, parse_at, type_at, no_table}
use Rattle.schema.specs.told.Alike.{Alike, AlikeOption, Dropped, Thinned, done, keeps, drops, extent, SameType, SameArgument, no_entries, SameAtLast, TwinAt, ArgumentTwin}
use Rattle.schema.proofs.AlikeLaws.{by-itself, type-itself}
use Rattle.joined_types.proofs.SameReads.{SameRead, same-read, same-enter, same-if, same-bind, same-if_some, same-kept}
use Rattle.joined_types.proofs.TypeReadings.{same-class_name_in, SameScope, same-type_at}

-- From depth 63 on a type is read the same with any type table: an argument of it stands at depth 64 or deeper, where no index is looked up.
module _ (c c' : Scope) (e : c.names ≡ c'.names) where
  module _ (w w' : Walk) (h : (d : ℕ) (m : Message) → 63 ≤ d → SameRead (w d m) (w' d m)) where
    module _ (d : ℕ) (l : max_depth ≤ d) where
      last-resolve_at : (i : ℕ) → SameRead (resolve_at w c d i) (resolve_at w' c' d i)
      unfolding resolve_at
      last-resolve_at i = rw (le-ltb d max_depth l) (same-read (pure none))

      last-type_in : (inline indexed : ℕ) (m : Message) → SameRead (type_in w c d inline indexed m) (type_in w' c' d inline indexed m)
      unfolding type_in
      last-type_in inline indexed m =
          same-bind (same-read (lift (message inline m))) λ t.
          same-if_some t (same-if_some (index indexed m) (same-read (pure none)) last-resolve_at) λ inner.
          same-bind (h d inner (omega arith)) λ it. same-read (pure (some it))

      last-argument_in : (m : Message) → SameRead (argument_in w c d m) (argument_in w' c' d m)
      unfolding argument_in
      last-argument_in m = same-if (eqb (projection_in m) star) (same-read _) (same-bind (last-type_in _ _ m) λ t. same-read _)

    last-parse_at : (d : ℕ) (m : Message) → 63 ≤ d → SameRead (parse_at w c d m) (parse_at w' c' d m)
    unfolding parse_at
    last-parse_at d m l =
        same-enter (
        same-bind (same-read (lift (messages Type-argument m))) λ arguments.
        same-bind (same-kept (last-argument_in (d + 1) (omega arith)) arguments) λ ts.
        same-bind (same-class_name_in c c' e Type-class_name m m refl) λ name. same-read _)

  any_table : (k d : ℕ) (m : Message) → 63 ≤ d → SameRead (type_at k c d m) (type_at k c' d m)
  unfolding type_at
  any_table zero d m l = record { at = λ left. refl }
  any_table (suc k) d m l = record { at = (last-parse_at (type_at k c) (type_at k c') (any_table k) d m l).at }

-- Two types that are alike where no look-up is left are read the same there.
pub last-type_at : (k : ℕ) (c : Scope) (d : ℕ) (m m' : Message) → 63 ≤ d → SameAtLast m m' → (l : ℕ) → type_at k c d m l ≡ type_at k c d m' l
last-type_at k c d m m' h a l =
    let empty = scope c.names no_table in
    let same : SameScope 0 empty empty = record { names = refl; first = refl; types = no_entries } in
    (any_table c empty refl k d m h).at l
    ∙ (same-type_at 0 empty empty same k d a.levels m m' a.same).at l
    ∙ sym ((any_table c empty refl k d m' h).at l)

same_some : {A : Type 0} {a b : A} → some a ≡ some b → a ≡ b
same_some e = cc

-- bytes that begin at base
module _ (base : ℕ) (last : List ℕ) where
  abbrev whole : Part
  whole = ◌from◌ base last

  -- what stands in them where p stands, as long
  abbrev there : Part → Part
  there p = ◌from◌ p.at (part_from (p.at - base) (p.at - base + length p.bytes) last)

  -- a part of these bytes, by where it begins and how long it is
  within-there : {q : Part} → PieceOf whole q → (p : Part) → extent p ≡ extent q → there p ≡ q
  within-there {q} w p e =
      let at : p.at ≡ base + w.start = ap (λ (x : ℕ × ℕ). x.0) e ∙ ap (λ (x : Part). x.at) w.is in
      let many : length p.bytes ≡ w.count = ap (λ (x : ℕ × ℕ). x.1) e ∙ within-length w in
      let start : base + w.start - base ≡ w.start = omega arith in
      let count : w.start + w.count - w.start ≡ w.count = omega arith in
      rw (at, many, start, count) (sym w.is)

  -- what cutting a type inline gives, alike
  module _ (k : ℕ) where
    abbrev Inner : Res (Option Message) → Res (Option Message) → Type 0
    Inner = Alike (AlikeOption (SameType 0 k))

    twin-cut : (r r' : Res Message) → Inner (r >>= λ m. ok (some m)) (r' >>= λ m. ok (some m)) → Alike SameAtLast r r'
    twin-cut (ok m) (ok m') a = record { levels = k; same = a }
    twin-cut (ok m) (refused c place) a = absurd a
    twin-cut (refused c place) (ok m') a = absurd (cc)
    twin-cut (refused c place) (refused c' place') a = ap (λ (r : Res (Option Message)). r >>= λ o. refused c place) a

    twin-option : (o o' : Option Part) → map_option extent o ≡ map_option extent o' → Inner (cut_option o) (cut_option o') → IfSome (PieceOf whole) o' → TwinAt base last o
    twin-option none o' e a w = tt
    twin-option (some p) none e a w = absurd (cc)
    twin-option (some p) (some q) e a w =
        subst (λ (x : Part). Alike SameAtLast (cut p) (cut x)) (sym (within-there w p (same_some e))) (twin-cut (cut p) (cut q) a)

    kept-twin : (a b : Message) → SameArgument 0 k a b → CutIn whole b → ArgumentTwin base last a
    unfolding message
    kept-twin a b s c =
        twin-option (bytes_of Type-Argument-type a) (bytes_of Type-Argument-type b) s.placed s.inline (bytes_of-in whole Type-Argument-type b c)

  -- an argument that is dropped has no type inline
  dropped-twin : (a : Message) → Dropped 0 a → ArgumentTwin base last a
  unfolding message
  dropped-twin a d = go (bytes_of Type-Argument-type a) d.inline
    where
      go : (o : Option Part) → cut_option o ≡ ok none → TwinAt base last o
      go none e = tt
      go (some p) e = never (cut p) e
        where
          never : (r : Res Message) → (r >>= λ m. ok (some m)) ≡ ok none → TwinAt base last (some p)
          never (ok m) f = absurd (cc)
          never (refused c place) f = absurd (cc)

  -- all arguments, where those of the other type were cut from these bytes
  twins-thinned : (k : ℕ) {xs ys : List Message} → Thinned (SameArgument 0 k) (Dropped 0) xs ys → All (CutIn whole) ys → All (ArgumentTwin base last) xs
  twins-thinned k done h = tt
  twins-thinned k (keeps {a} {b} s t) h = (kept-twin k a b s h.0, twins-thinned k t h.1)
  twins-thinned k (drops {a} d t) h = (dropped-twin a d, twins-thinned k t h)

  twins-alike : (k : ℕ) (r r' : Res (List Message)) → Alike (Thinned (SameArgument 0 k) (Dropped 0)) r r' → Gives (All (CutIn whole)) r' → (ms : List Message)
      → r ≡ ok ms → All (ArgumentTwin base last) ms
  twins-alike k (ok xs) (ok ys) a h ms e = subst (All (ArgumentTwin base last)) (ok_same e) (twins-thinned k a h)
  twins-alike k (ok xs) (refused c place) a h ms e = absurd a
  twins-alike k (refused c place) r' a h ms e = absurd (cc)

  -- the other type's were, as it was itself
  module _ (m' : Message) (c : CutIn whole m') where
    bodies-in : Values (λ v. IfSome (PieceOf whole) (as_body v)) m'
    bodies-in = values_weaken (ReadIn whole) (λ v. IfSome (PieceOf whole) (as_body v)) as-body m' c
      where
        as-body : (v : Value) → ReadIn whole v → IfSome (PieceOf whole) (as_body v)
        as-body (varint n) r = tt
        as-body (fixed w n) r = tt
        as-body (body q) r = r

    arguments-in : Gives (All (CutIn whole)) (messages Type-argument m')
    arguments-in =
        let cuts : (p : Part) → PieceOf whole p → Gives (CutIn whole) (cut p) = λ p w. gives_weaken (CutIn p) (CutIn whole) (cut p) (cut_in p) (cut_in_within w) in
        gives_weaken _ (All (CutIn whole)) (messages Type-argument m') (messages-all (PieceOf whole) (CutIn whole) cuts Type-argument m' bodies-in) λ ms a. a.0

    twins-by : (k : ℕ) (m : Message) → SameType 0 k m m' → (ms : List Message) → messages Type-argument m ≡ ok ms → All (ArgumentTwin base last) ms
    unfolding SameType
    twins-by zero m s ms e =
        let same : messages Type-argument m' ≡ messages Type-argument m = ap (messages Type-argument) (sym s) in
        let itself = by-itself (SameType 0 0) 0 (type-itself 0 0) m' in
        twins-alike 0 (messages Type-argument m') (messages Type-argument m') itself.arguments arguments-in ms (same ∙ e)
    twins-by (suc k) m s ms e = twins-alike k (messages Type-argument m) (messages Type-argument m') s.arguments arguments-in ms e

-- Of two types that are alike where no look-up is left, the second is cut from bytes that begin at base. Then for each type inline in an argument of the first
-- there stands in these bytes, at the same place, one that is alike.
pub twins : (base : ℕ) (last : List ℕ) (m m' : Message) → cut (◌from◌ base last) ≡ ok m' → SameAtLast m m' → (ms : List Message) → messages Type-argument m ≡ ok ms → All (ArgumentTwin base last) ms
twins base last m m' e a = twins-by base last m' (gives-ok (CutIn (◌from◌ base last)) e (cut_in (◌from◌ base last))) a.levels m a.same
