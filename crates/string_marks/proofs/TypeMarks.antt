-- What a type marks: its arguments, then its name. A type is read at any number of levels, so that no law counts them.
-- Assumes nothing.
use mathlib.Core.Path.{◌≡◌, refl, ap, sym, subst, ◌∙◌}
use mathlib.Core.Logic.{◌⊎◌, inl, inr}
use mathlib.Core.Bool.{Bool, true, false}
use mathlib.Core.List.{List}
use mathlib.Core.Option.{none, some}
use native.Mathlib.Nat.{le_refl, suc-mul, mul-le-mul_right}
use Prim.Native.Nat.{ℕ, zero, suc, ◌+◌, ◌-◌, ◌*◌, ◌≤◌, ◌<◌}
use native.Mathlib.Omega.{arith}
use lib.Dec.{ltb}
use lib.ListN.{drop, get_elem?, length, length-take, take}
use borrow.Author.Tests.{eq-eqb, ne_eqb, ltb-true, ltb-false, lt-ltb, le-ltb}
use Rattle.std.specs.Prelude.{if◌then◌else◌}
use Rattle.std.specs.declared.option.Option as rust
use Rattle.std.specs.declared.option.Option.TheVariants.{Some, None}
use Rattle.foundation.specs.Choices.{if_some}
use Rattle.foundation.specs.Results.{Part, ok, too_many_types, ◌from◌}
use Rattle.foundation.specs.declared.Span.{Span}
use Rattle.foundation.specs.declared.Located.{Located}
use Rattle.fields.specs.Fields.{Type-argument, Type-class_name, Type-Argument-type, Type-Argument-type_id}
use Rattle.wire.specs.Wire.{Message, cut}
use Rattle.wire.specs.Messages.{index, bytes_of, cut_option, message, messages}
use Rattle.wire.specs.told.WireTold.{part_between}
use Rattle.messages.specs.told.Asked.{index_told, piece_told, span, BytesTold, NextBodyTold}
use Rattle.wire.proofs.WalkLaws.{ok_same}
use Rattle.characters.specs.told.Places.{part_from}
use Rattle.characters.proofs.PartLaws.{part-short, part-long}
use Rattle.schema.specs.told.Alike.{Alike, SameAtLast}
use Rattle.schema.proofs.AlikeLaws.{alike-given}
use Rattle.schema.proofs.FoundLaws.{bind_given}
use Rattle.declaration_rows.specs.Declarations.{star}
use Rattle.schema.specs.Reading.{pure, ◌>>=◌, kept, Scope, class_name_in, allowance}
use Rattle.schema.specs.Types.{Walk, max_depth, nullable_from, resolve_at, type_in, projection_in, argument_in, parse_at, type_at, declared_type}
use Rattle.schema.specs.told.SchemaTold.{Lent, entries_in}
use Rattle.schema.specs.told.TypesTold.{EntryIs, EntryInside, EntryTold}
use Rattle.schema.specs.told.ArgumentTold.{NoStar, ArgumentHeadIs, ArgumentHeadInside, ArgumentHeadTold}
use Rattle.schema.specs.declared.argument.Projection.{Projection}
use Rattle.schema.specs.declared.argument.ArgumentHead.{ArgumentHead}
use Rattle.schema.specs.declared.argument.ArgumentHead.TheVariants as argument
use Rattle.joined_types.proofs.DeepestLaws.{last-type_at}
use Rattle.strings.proofs.Agree.{Lookup}
use Rattle.string_marks.specs.told.MarksTold.{Marks, scope_by, strings_in, NameMarked, PartTwin, TypeTwin, TypeMarked, ArgumentMarked, LookedMarked, DeclaredMarked}
use Rattle.string_marks.specs.told.InnerTold.{steps, TableInside, PartInner, EntryInner, ArgumentInner}
use Rattle.string_marks.specs.declared.types.Inner.{Inner}
use Rattle.string_marks.proofs.MarkLaws.{marks-same, marks-refused, marks-alike, marks_bind, marks-made, marks-cut, marks-enter}
use Rattle.string_marks.proofs.ListMarks.{MarksLoop, looping_start, looping_among, looping_end}
use Rattle.string_marks.proofs.TwinMarks.{placed-itself, entry-placed, inline-twin}

-- The definitions of a type, by any look-up.
module _ {ss : List (List ℕ)} (w : Lookup → Walk) (c : Lookup → Scope) (d : ℕ) where
  -- A type in a message: inline,
  type-in-inline : (inline indexed : ℕ) (m : Message) (p : Part) {u v : List ℕ} → bytes_of inline m ≡ some p
      → ((inner : Message) → cut p ≡ ok inner → Marks ss (λ s. w s d inner) u v) → Marks ss (λ s. type_in (w s) (c s) d inline indexed m) u v
  unfolding type_in message
  type-in-inline inline indexed m p {u} {v} e h = rw e (
      marks-cut (cut_option (some p))
      (λ s t. if_some t (if_some (index indexed m) (pure none) (resolve_at (w s) (c s) d)) λ inner. w s d inner >>= λ it. pure (some it)) λ t q.
      let o = bind_given (cut p) (λ inner. ok (some inner)) q in
      subst (λ o. Marks ss (λ s. if_some o (if_some (index indexed m) (pure none) (resolve_at (w s) (c s) d)) λ inner. w s d inner >>= λ it. pure (some it)) u v)
      (ok_same o.2) (marks-made _ (h o.0 o.1)))

  -- by its index,
  type-in-indexed : (inline indexed : ℕ) (m : Message) (i : ℕ) {u v : List ℕ} → bytes_of inline m ≡ none → index indexed m ≡ some i
      → Marks ss (λ s. resolve_at (w s) (c s) d i) u v → Marks ss (λ s. type_in (w s) (c s) d inline indexed m) u v
  unfolding type_in message
  type-in-indexed inline indexed m i e f h = rw (e, f) h

  -- or not there.
  type-in-nothing : (inline indexed : ℕ) (m : Message) (u : List ℕ) → bytes_of inline m ≡ none → index indexed m ≡ none
      → Marks ss (λ s. type_in (w s) (c s) d inline indexed m) u u
  unfolding type_in message
  type-in-nothing inline indexed m u e f = rw (e, f) (marks-same (pure none) u)

  -- A star is entered, and nothing of it read.
  argument-star : (m : Message) (u : List ℕ) → projection_in m ≡ star → Marks ss (λ s. argument_in (w s) (c s) d m) u u
  unfolding argument_in
  argument-star m u e = rw (eq-eqb (projection_in m) star e) (marks-enter (marks-same _ u))

  argument-typed : (m : Message) {p : ℕ} {u v : List ℕ} → NoStar p m → Marks ss (λ s. type_in (w s) (c s) d Type-Argument-type Type-Argument-type_id m) u v
      → Marks ss (λ s. argument_in (w s) (c s) d m) u v
  unfolding argument_in
  argument-typed m n h = rw (ne_eqb (projection_in m) star λ q. n.no-star (sym n.is ∙ q)) (marks-made _ h)

  parse-marks : (m : Message) {u v x : List ℕ} → ((ms : List Message) → messages Type-argument m ≡ ok ms → Marks ss (λ s. kept (argument_in (w s) (c s) (d + 1)) ms) u v)
      → Marks ss (λ s. class_name_in (c s) Type-class_name m) v x → Marks ss (λ s. parse_at (w s) (c s) d m) u x
  unfolding parse_at
  parse-marks m g h = marks-enter (
      marks-cut (messages Type-argument m) _ λ ms q. marks_bind (g ms q) λ l l' ts z. marks-made _ h)

-- Read at any number of levels: at none it is refused.
module _ {ss : List (List ℕ)} (c : Lookup → Scope) (m : Message) (d : ℕ) where
  levels : (k : ℕ) {u v : List ℕ} → ((j : ℕ) → Marks ss (λ s. parse_at (type_at j (c s)) (c s) d m) u v) → Marks ss (λ s. type_at k (c s) d m) u v
  unfolding type_at
  levels zero {u} {v} h = marks-refused (λ s. type_at zero (c s) d m) u v λ l. (too_many_types, 0, refl)
  levels (suc k) h = marks-alike (λ s. parse_at (type_at k (c s)) (c s) d m) (λ s. type_at (suc k) (c s) d m) (λ s l. refl) (h k)

short : (a b : ℕ) (msg part : List ℕ) → part ≡ take (b - a) (drop a msg) → length part ≤ b - a
short a b msg part e = rw e (omega (arith, length-take (b - a) (drop a msg)))

-- A walk falls to what is found inside an argument, which is shorter than the type's message.
pub argument-falls : (left left' n a b : ℕ) (msg part : List ℕ) {m t : ℕ} → steps left n (length msg) ≡ t → left' ≡ left - 1 → part ≡ take (b - a) (drop a msg)
    → (a ≤ b) × (b ≤ length msg) × (0 < a) → m ≤ steps left' n (length part) → m < t
unfolding steps
argument-falls left left' n a b msg part e f g h k =
    let p : left' ≤ left = omega arith in
    omega (arith, e, mul-le-mul_right (suc n) p, short a b msg part g, h)

-- What goes no further than a walk of a part goes no further than one of the message around it, or of an entry than the look-up.
inline-falls : (left n a b m : ℕ) (msg : List ℕ) → b ≤ length msg → m ≤ steps left n (length (part_from a b msg)) → m ≤ steps left n (length msg)
unfolding steps
inline-falls left n a b m msg h g = omega (arith, part-short msg a b, g)

entry-falls : (left n a b m : ℕ) (bytes : List ℕ) → (left ≡ 0 → ⊥) → b ≤ n → m ≤ steps (left - 1) n (length (part_from a b bytes)) → m ≤ steps left n 0
unfolding steps
entry-falls zero n a b m bytes z h g = absurd (z refl)
entry-falls (suc left) n a b m bytes z h g =
    let q : (suc left - 1) * suc n ≡ left * suc n = ap (λ (x : ℕ). x * suc n) (omega arith) in
    omega (arith, q, suc-mul left (suc n), part-short bytes a b, h, g)

same-falls : (left n a b : ℕ) → a ≡ b → steps left n a ≤ steps left n b
same-falls left n a b e = rw e (le_refl (steps left n b))

looked-falls : (left n bytes : ℕ) → steps left n 0 ≤ steps left n bytes
unfolding steps
looked-falls left n bytes = omega arith

-- The loop over a type's arguments, which stand one deeper.
pub ArgumentsLooping : Lent → ℕ → List ℕ → (left : ℕ) → (in_table : Bool) → (used₀ : List ℕ) → (at : ℕ) → (used : List ℕ) → Type 0
ArgumentsLooping e base msg left in_table used₀ at used =
    TypeTwin e in_table base msg → (k d : ℕ) → left ≡ max_depth - d → MarksLoop e base msg Type-argument (λ c. argument_in (type_at k c) c (d + 1)) used₀ at used

module _ (e : Lent) (base : ℕ) (msg : List ℕ) (left : ℕ) (in_table : Bool) where
  pub arguments-start : (u : List ℕ) → ArgumentsLooping e base msg left in_table u 0 u
  unfolding ArgumentsLooping
  arguments-start u y k d h = looping_start

  module _ (u : List ℕ) (at : ℕ) (v : List ℕ) (g : ArgumentsLooping e base msg left in_table u at v) {x : rust.Option Span}
      (t : NextBodyTold base msg Type-argument at x) where
    pub arguments-next : TableInside e in_table base msg → {a b : ℕ} → x ≡ Some (span a b) → {w : List ℕ}
        → ArgumentMarked e (base + a) (take (b - a) (drop a msg)) (left - 1) in_table v w → ArgumentsLooping e base msg left in_table u b w
    unfolding ArgumentsLooping
    arguments-next inside {a} {b} p h y k d q =
        looping_among (g y k d q) t p λ records table o m c ms z n f among.
        (h (inline-twin e in_table o.deepest.many base msg inside y m c ms z a b n f among) k (d + 1) (omega (arith, q))).is records table o n f

    -- A type: all of its arguments are marked, and then its name.
    pub type-marked : x ≡ None → {w : List ℕ} → NameMarked e base msg Type-class_name v w → TypeMarked e base msg left in_table u w
    unfolding ArgumentsLooping
    type-marked p h y k d q = record {
      is = λ records table o m c.
          levels (scope_by records table) m d k λ j.
          parse-marks (λ s. type_at j (scope_by records table s)) (scope_by records table) d m (looping_end (g y j d q) t p records table o m c)
          (h.class.is records table o m c);
    }

-- An argument, by what one walk of its message tells.
module _ (e : Lent) (base : ℕ) (msg : List ℕ) (left : ℕ) (in_table : Bool) {r : ArgumentHead} (t : ArgumentHeadTold base msg r) where
  head-is : {y : ArgumentHead} → r ≡ y → (m : Message) → cut (◌from◌ base msg) ≡ ok m → ArgumentHeadIs base msg m y
  head-is q m c = subst (ArgumentHeadIs base msg m) q (t.is m c)

  argument-star-marked : r ≡ argument.Star → (u : List ℕ) → ArgumentMarked e base msg left in_table u u
  argument-star-marked q u y k d h = record {
    is = λ records table o m c. argument-star (λ s. type_at k (scope_by records table s)) (scope_by records table) d m u (head-is q m c);
  }

  argument-nothing-marked : r ≡ argument.Nothing → (u : List ℕ) → ArgumentMarked e base msg left in_table u u
  argument-nothing-marked q u y k d h = record {
    is = λ records table o m c.
        let n = head-is q m c in
        argument-typed (λ s. type_at k (scope_by records table s)) (scope_by records table) d m n.0 (
        type-in-nothing (λ s. type_at k (scope_by records table s)) (scope_by records table) d Type-Argument-type Type-Argument-type_id m u n.1 n.2);
  }

  argument-unread-marked : (r ≡ argument.Star) ⊎ (r ≡ argument.Nothing) → (u : List ℕ) → ArgumentMarked e base msg left in_table u u
  argument-unread-marked (inl q) u = argument-star-marked q u
  argument-unread-marked (inr q) u = argument-nothing-marked q u

  argument-inline-marked : {p : Projection} {b : Span} → r ≡ argument.Inline p b → {u v : List ℕ}
      → TypeMarked e (base + b.start) (take (b.end - b.start) (drop b.start msg)) left in_table u v → ArgumentMarked e base msg left in_table u v
  argument-inline-marked {p} {b} q g y k d h = record {
    is = λ records table o m c.
        let n = head-is q m c in
        argument-typed (λ s. type_at k (scope_by records table s)) (scope_by records table) d m n.0 (
        type-in-inline (λ s. type_at k (scope_by records table s)) (scope_by records table) d Type-Argument-type Type-Argument-type_id m
        (part_between base msg b.start b.end) n.1 λ inner i. (g (λ z. subst (PartTwin e) n.1 (y z m c)) k d h).is records table o inner i);
  }

  argument-indexed-marked : {p : Projection} {i : ℕ} → r ≡ argument.ByIndex p i → {u v : List ℕ} → LookedMarked e i left u v
      → ArgumentMarked e base msg left in_table u v
  argument-indexed-marked {p} {i} q g y k d h = record {
    is = λ records table o m c.
        let n = head-is q m c in
        argument-typed (λ s. type_at k (scope_by records table s)) (scope_by records table) d m n.0 (
        type-in-indexed (λ s. type_at k (scope_by records table s)) (scope_by records table) d Type-Argument-type Type-Argument-type_id m i n.1 n.2
        (g k d h records table o));
  }

-- The type at an index: none where the depth is reached,
too-deep-marked : (e : Lent) (i left : ℕ) → left ≡ 0 → (u : List ℕ) → LookedMarked e i left u u
unfolding resolve_at
too-deep-marked e i left z u k d h records table o = rw (le-ltb d max_depth (omega (arith, z, h))) (marks-same (pure none) u)

module _ (e : Lent) (i left : ℕ) {r : rust.Option Span} (t : EntryTold e.payload (entries_in e.tables e.notes) e.tables.types i r) where
  -- nor past the table;
  no-entry-marked : r ≡ None → (u : List ℕ) → LookedMarked e i left u u
  unfolding resolve_at
  no-entry-marked q u k d h records table o =
      let n : get_elem? table.types i ≡ none = subst (EntryIs e.payload (get_elem? table.types i)) q (t.is table.types o.entries) in
      go n (ltb d max_depth)
    where
      go : get_elem? table.types i ≡ none → (b : Bool) → Marks (strings_in e) (λ s. if b then if_some (get_elem? table.types i) (pure none) (λ m. type_at k (scope_by records table s) (d + 1) m >>= λ t. pure (some (nullable_from table.first_nullable i t))) else pure none) u u
      go n true = rw n (marks-same (pure none) u)
      go n false = marks-same (pure none) u

  -- else what stands there, one deeper.
  entry-marked : {p : Span} → r ≡ Some p → (left ≡ 0 → ⊥) → {u v : List ℕ} → TypeMarked e p.start (part_from p.start p.end e.payload) (left - 1) true u v
      → LookedMarked e i left u v
  unfolding resolve_at
  entry-marked {p} q z {u} {v} g k d h records table o =
      let n = subst (EntryIs e.payload (get_elem? table.types i)) q (t.is table.types o.entries) in
      let inside : d < max_depth = not-deep z h in
      rw (lt-ltb d max_depth inside, n.1)
      (marks-made (λ ty. pure (some (nullable_from table.first_nullable i ty)))
      ((g (λ y. entry-placed e t q o.deepest) k (d + 1) (omega (arith, h))).is records table o n.0 n.2))
    where
      not-deep : {left d : ℕ} → (left ≡ 0 → ⊥) → left ≡ max_depth - d → d < max_depth
      not-deep {left} {d} z h = go (ltb d max_depth) refl
        where
          go : (b : Bool) → ltb d max_depth ≡ b → d < max_depth
          go true e = ltb-true d max_depth e
          go false e = absurd (z (omega (arith, h, ltb-false d max_depth e)))

-- What is marked of a type by where it stands.
module _ (e : Lent) (left : ℕ) (in_table : Bool) {b b' : ℕ} {s s' : List ℕ} where
  moved : b ≡ b' → s ≡ s' → {u v : List ℕ} → TypeMarked e b s left in_table u v → TypeMarked e b' s' left in_table u v
  moved p q {u} {v} g =
      subst (λ (x : ℕ). TypeMarked e x s' left in_table u v) p (subst (λ (x : List ℕ). TypeMarked e b x left in_table u v) q g)

  moved-inside : b ≡ b' → s ≡ s' → TableInside e in_table b' s' → TableInside e in_table b s
  moved-inside p q g = rw (p, q) g

-- A type in a part of a message, which lies in the decoded bytes if it stands in the type table.
module _ (e : Lent) (base : ℕ) (msg : List ℕ) (left : ℕ) (in_table : Bool) (inside : TableInside e in_table base msg) (a b : ℕ) (h : a ≤ b)
    (k : b ≤ length msg) where
  part-inside : TableInside e in_table (base + a) (part_from a b msg)
  part-inside y = omega (arith, inside y, part-short msg a b, h, k)

  -- Where a look-up is left, and of any other type, it is read as it stands.
  pub part-found : (x : Located) → (x.base ≡ base + a) × (x.bytes.now ≡ part_from a b msg)
      → PartInner e (base + a) (part_from a b msg) left in_table (record { msg = x; left = left; in_table = in_table })
  part-found x w = record {
    falls = same-falls left (length e.payload) (length x.bytes.now) (length (part_from a b msg)) (ap length w.1);
    inside = moved-inside e left in_table w.0 w.1 part-inside;
    is = λ u v g. moved e left in_table w.0 w.1 g;
  }

  -- Else what stands at its place of the bytes that are for that is read the same.
  module _ (y : in_table ≡ true) (many : length e.deepest ≡ length e.payload) (few : left ≤ 1) where
    abbrev last : List ℕ
    last = part_from (base + a) (base + b) e.deepest

    ends : base + b ≤ length e.deepest
    ends = omega (arith, inside y, k, many)

    last-long : length last ≡ length (part_from a b msg)
    last-long = part-long e.deepest (base + a) (base + b) (omega (arith, h)) ends ∙ (omega arith ∙ sym (part-long msg a b h k))

    last-twin : TypeTwin e in_table (base + a) (part_from a b msg) → Alike SameAtLast (cut (part_between base msg a b)) (cut (◌from◌ (base + a) last))
    last-twin z =
        let end : base + a + length (part_from a b msg) ≡ base + b = omega (arith, part-long msg a b h k, h) in
        subst (λ (n : ℕ). Alike SameAtLast (cut (part_between base msg a b)) (cut (◌from◌ (base + a) (part_from (base + a) n e.deepest)))) end (z y)

    last-marked : {u v : List ℕ} → TypeMarked e (base + a) last left in_table u v → TypeMarked e (base + a) (part_from a b msg) left in_table u v
    last-marked g z l d q = record {
      is = λ records table o m c.
          let twin = alike-given SameAtLast (last-twin z) c in
          let itself = placed-itself e (base + a) (base + b) last (omega (arith, h)) ends refl in
          marks-alike (λ s. type_at l (scope_by records table s) d twin.0) (λ s. type_at l (scope_by records table s) d m)
          (λ s n. sym (last-type_at l (scope_by records table s) d m twin.0 (omega (arith, few, q)) twin.2 n))
          ((g (λ t. itself) l d q).is records table o twin.0 twin.1);
    }

    pub part-found-last : (s : Span) → (s.start ≡ a + base) × (s.end ≡ b + base) → (x : Located)
        → (x.base ≡ s.start) × (x.bytes.now ≡ part_from s.start s.end e.deepest)
        → PartInner e (base + a) (part_from a b msg) left in_table (record { msg = x; left = left; in_table = in_table })
    part-found-last s p x w =
        let start : s.start ≡ base + a = omega (arith, p.0) in
        let end : s.end ≡ base + b = omega (arith, p.1) in
        let at : x.base ≡ base + a = w.0 ∙ start in
        let is : x.bytes.now ≡ last = w.1 ∙ ap (λ (n : ℕ). part_from n s.end e.deepest) start ∙ ap (λ (n : ℕ). part_from (base + a) n e.deepest) end in
        record {
          falls = same-falls left (length e.payload) (length x.bytes.now) (length (part_from a b msg)) (ap length is ∙ last-long);
          inside = λ t. omega (arith, at, ap length is, last-long, part-inside t);
          is = λ u v g. last-marked (moved e left in_table at is g);
        }

pub entry-too-deep : (e : Lent) (i left : ℕ) → left ≡ 0 → EntryInner e i left None
entry-too-deep e i left z = record { falls = tt; inside = tt; is = too-deep-marked e i left z }

module _ (e : Lent) (i left : ℕ) {r : rust.Option Span} (t : EntryTold e.payload (entries_in e.tables e.notes) e.tables.types i r) where
  pub entry-absent : r ≡ None → EntryInner e i left None
  entry-absent q = record { falls = tt; inside = tt; is = no-entry-marked e i left t q }

  pub entry-found : {p : Span} → r ≡ Some p → (left ≡ 0 → ⊥) → (x : Inner) → PartInner e p.start (part_from p.start p.end e.payload) (left - 1) true x
      → EntryInner e i left (Some x)
  entry-found {p} q z x g = record {
    falls = entry-falls left (length e.payload) p.start p.end _ e.payload z (subst (EntryInside e.payload) q t.inside).1 g.falls;
    inside = g.inside;
    is = λ u v h. entry-marked e i left t q z (g.is u v h);
  }

module _ (e : Lent) (base : ℕ) (msg : List ℕ) (left : ℕ) (in_table : Bool) {r : ArgumentHead} (t : ArgumentHeadTold base msg r) where
  pub argument-unread : (r ≡ argument.Star) ⊎ (r ≡ argument.Nothing) → ArgumentInner e base msg left in_table None
  argument-unread q = record { falls = tt; inside = tt; is = argument-unread-marked e base msg left in_table t q }

  pub argument-inline : {p : Projection} {b : Span} → r ≡ argument.Inline p b → (x : Inner)
      → PartInner e (base + b.start) (part_from b.start b.end msg) left in_table x → ArgumentInner e base msg left in_table (Some x)
  argument-inline {p} {b} q x g = record {
    falls = inline-falls left (length e.payload) b.start b.end _ msg (subst (ArgumentHeadInside msg) q t.inside).1 g.falls;
    inside = g.inside;
    is = λ u v h. argument-inline-marked e base msg left in_table t q (g.is u v h);
  }

  pub argument-indexed : {p : Projection} {i : ℕ} → r ≡ argument.ByIndex p i → (x : rust.Option Inner) → EntryInner e i left x
      → ArgumentInner e base msg left in_table x
  argument-indexed q None h = record { falls = tt; inside = tt; is = λ u. argument-indexed-marked e base msg left in_table t q (h.is u) }
  argument-indexed q (Some x) h = record {
    falls = omega (arith, h.falls, looked-falls left (length e.payload) (length msg));
    inside = h.inside;
    is = λ u v g. argument-indexed-marked e base msg left in_table t q (h.is u v g);
  }

-- It is found in a message that is a part of another.
pub argument-at : (e : Lent) (left : ℕ) (in_table : Bool) {b b' : ℕ} {s s' : List ℕ} {r : rust.Option Inner} → (b ≡ b') × (s ≡ s')
    → ArgumentInner e b s left in_table r → ArgumentInner e b' s' left in_table r
argument-at e left in_table {b} {b'} {s} {s'} {r} w g =
    subst (λ (x : ℕ). ArgumentInner e x s' left in_table r) w.0 (subst (λ (x : List ℕ). ArgumentInner e b x left in_table r) w.1 g)

-- A declaration's own type, at depth 0.
module _ (e : Lent) (base : ℕ) (msg : List ℕ) (inline indexed : ℕ) {x : rust.Option Span} (t : BytesTold base msg inline x) where
  pub declared-inline-marked : {p : Span} → x ≡ Some p → {u v : List ℕ} → TypeMarked e (base + p.start) (part_from p.start p.end msg) max_depth false u v
      → DeclaredMarked e base msg inline indexed u v
  unfolding declared_type
  declared-inline-marked {p} q g = record {
    is = λ records table o m c.
        type-in-inline (λ s. type_at allowance (scope_by records table s)) (scope_by records table) 0 inline indexed m (part_between base msg p.start p.end)
        (t.is m c ∙ ap (piece_told base msg) q) λ inner i. (g (λ y. absurd (cc)) allowance 0 (omega arith)).is records table o inner i;
  }

  module _ (q : x ≡ None) {y : rust.Option ℕ} (f : (m : Message) → cut (◌from◌ base msg) ≡ ok m → index indexed m ≡ index_told y) where
    pub declared-indexed-marked : {i : ℕ} → y ≡ Some i → {u v : List ℕ} → LookedMarked e i max_depth u v → DeclaredMarked e base msg inline indexed u v
    unfolding declared_type
    declared-indexed-marked {i} z g = record {
      is = λ records table o m c.
          type-in-indexed (λ s. type_at allowance (scope_by records table s)) (scope_by records table) 0 inline indexed m i
          (t.is m c ∙ ap (piece_told base msg) q) (f m c ∙ ap index_told z) (g allowance 0 (omega arith) records table o);
    }

    pub declared-nothing-marked : y ≡ None → (u : List ℕ) → DeclaredMarked e base msg inline indexed u u
    unfolding declared_type
    declared-nothing-marked z u = record {
      is = λ records table o m c.
          type-in-nothing (λ s. type_at allowance (scope_by records table s)) (scope_by records table) 0 inline indexed m u
          (t.is m c ∙ ap (piece_told base msg) q) (f m c ∙ ap index_told z);
    }
