-- Where types stand: what each answer tells, from what the calls told.
-- Assumes nothing.
use mathlib.Core.Path.{◌≡◌, refl, ap, sym, subst, ◌∙◌}
use mathlib.Core.Bool.{Bool, true, false}
use Rattle.std.specs.Prelude.{if◌then◌else◌}
use mathlib.Core.List.{List, [], ◌∷◌}
use mathlib.Core.Option.{Option, none, some}
use Prim.Native.Nat.{ℕ, zero, suc, ◌+◌, ◌-◌, ◌≤◌, ◌<◌}
use native.Mathlib.Omega.{arith}
use lib.ListN.{length, take, drop, get_elem?}
use Rattle.std.specs.declared.option.Option as rust
use Rattle.std.specs.declared.option.Option.TheVariants.{Some, None}
use Rattle.foundation.specs.Choices.{All, map_option}
use Rattle.foundation.specs.Results as Results
use Rattle.foundation.specs.Results.{Res, ok, refused, Part, ◌from◌}
use Rattle.fields.specs.Fields.{Type-argument, Type-Argument-type, Type-Argument-type_id}
use Rattle.wire.specs.Wire.{Message, cut}
use Rattle.wire.specs.Messages.{index, bytes_of, cut_option, message, messages, cut_all}
use Rattle.wire.specs.told.WireTold.{rest_of, part_between}
use Rattle.messages.specs.told.Asked.{piece_told, PieceInside, BytesTold, index_told, bodies, NextIs, NextBodyTold, PieceAfter}
use Rattle.wire.proofs.WalkLaws.{whole, ok_same}
use Rattle.characters.specs.told.Places.{part_from}
use Rattle.declaration_rows.specs.Declarations.{star, Ty, Argument, projected, blank}
use Rattle.schema.specs.Reading.{Read, pure, enter, keep, kept, Scope, allowance}
use Rattle.schema.specs.Types.{max_depth, type_in, projection_in, argument_in, type_at, declared_type}
use Rattle.schema.specs.told.SchemaTold.{entry_nullable, EntryAt, Stands, entries_in}
use Rattle.schema.specs.told.Alike.{Alike, SameAtLast, TwinAt, ArgumentTwin}
use Rattle.schema.specs.told.TypesTold.{or_nullable, EntryIs, EntryInside, EntryTold}
use Rattle.schema.specs.told.PlacesTold.{found_type, TableOf, FoundTypeTold, Twins, IsEntry, InlineTwins, FoundTypeFalls, EntryFound, PlaceFound, head_type, Unnamed, ElementTold, DeclaredFound, ArgumentFound}
use Rattle.schema.specs.declared.FoundType.{FoundType}
use Rattle.schema.proofs.ArgumentLaws.{Typed, argument-star, argument-typed}
use Rattle.schema.proofs.TypeLaws.{resolve_nothing, resolve_deep, resolve_entry}
use Rattle.schema.proofs.ListLaws.{First, cut-first}
use Rattle.schema.proofs.EntryLaws.{entry_joined}
use Rattle.schema.proofs.AlikeLaws.{twin-placed}
use Rattle.schema.proofs.StandsLaws.{stands-cut, stands-entry, body-part, body-ends, body-stands, body_entry}
use Rattle.foundation.specs.declared.Span.{Span}
use Rattle.foundation.specs.declared.Tables.{Tables}
use Rattle.messages.specs.told.Asked.{span}

-- A reading that was accepted: what it was made of was.
pub never_given : {A B : Type 0} {c : Results.Cause} {p : ℕ} {a : A} → ◌≡◌ {A = Res A} (refused c p) (ok a) → B
never_given e = let z : ◌≡◌ {A = ℕ} 0 1 = cc in absurd (omega arith)

pub bind_given : {A B : Type 0} (r : Res A) (f : A → Res B) {b : B} → Results.◌>>=◌ r f ≡ ok b → (a : A) × (r ≡ ok a) × (f a ≡ ok b)
bind_given (ok a) f e = (a, refl, e)
bind_given (refused c p) f e = never_given e

pub first-same : {A : Type 0} {a a' : A} {n n' : ℕ} → ◌≡◌ {A = Res (A × ℕ)} (ok (a, n)) (ok (a', n')) → a ≡ a'
first-same e = ap (λ q. q.0) (ok_same e)

-- a type that is given, found
given-found : (source payload : List ℕ) (is_entry : Bool) (c : Scope) (start end : ℕ) (m : Message) → EntryAt (if is_entry then payload else source) start end m
    → (d : ℕ) {left : ℕ} → left ≡ max_depth - d → (nullable : Bool) (o : Option Ty) (l b : ℕ)
    → Results.◌>>=◌ (type_at allowance c d m l) (λ q. pure (some (or_nullable nullable q.0)) q.1) ≡ ok (o, b)
    → FoundTypeTold source payload c o (Some (found_type start end nullable left is_entry))
given-found source payload is_entry c start end m at d deep nullable o l b e =
    let it = bind_given (type_at allowance c d m l) (λ q. pure (some (or_nullable nullable q.0)) q.1) e in (
      it.0.0,
      record { message = m; at = at; depth = d; deep = deep; before = l; after = it.0.1; given = it.1 },
      sym (first-same it.2),
    )

-- A part that is moved, by its places.
pub found-moved : {p : Span} {left : ℕ} (base a b : ℕ) → (p.start ≡ a + base) × (p.end ≡ b + base)
    → record { part = p; reached = record { nullable = false; left = left }; is_entry = false } ≡ found_type (base + a) (base + b) false left false
found-moved {p} base a b (e, f) =
    let e' : base + a ≡ p.start = omega (arith, e) in
    let f' : base + b ≡ p.end = omega (arith, f) in
    rw (e', f')

-- The type at an index.
module _ (payload notes : List ℕ) (tables : Tables) (i left : ℕ) where
  pub entry-none-left : left ≡ 0 → EntryFound payload notes tables i left None
  entry-none-left h = record {
    inside = tt;
    falls = tt;
    entry = tt;
    twins = tt;
    is = λ s c t d deep o l b e. sym (first-same (sym (resolve_deep c d i l (omega arith)) ∙ e));
  }

  module _ {x : rust.Option Span} (t : EntryTold payload (entries_in tables notes) tables.types i x) where
    there : {y : rust.Option Span} → x ≡ y → (c : Scope) → TableOf payload notes tables c → EntryIs payload (get_elem? c.table.types i) y
    there g c o = subst (EntryIs payload (get_elem? c.table.types i)) g (t.is c.table.types o.entries)

    pub entry-nowhere : x ≡ None → EntryFound payload notes tables i left None
    entry-nowhere g = record {
      inside = tt;
      falls = tt;
      entry = tt;
      twins = tt;
      is = λ source c s d deep o l b e. sym (first-same (sym (resolve_nothing c d i l (there g c s)) ∙ e));
    }

    pub entry-there : length payload ≤ 32768 → (left ≡ 0 → ⊥) → {n : Bool} → n ≡ entry_nullable tables.first_nullable i → {a b : ℕ} → x ≡ Some (span a b)
        → EntryFound payload notes tables i left (Some (found_type a b n (left - 1) true))
    entry-there short h {n = nullable} k {a} {b} g =
        let inside = subst (EntryInside payload) g t.inside in
        record {
          inside = inside;
          falls = (omega arith, omega arith);
          entry = refl;
          twins = λ e deepest d. (entry_joined payload (entries_in tables notes) tables.types i t g d).alike a;
          is = λ source c s d deep o l n e.
              let m = there g c s in
              let at : EntryAt payload a b m.0 = record { ordered = inside.0; inside = inside.1; cuts = m.2 } in
              let shallow : d < max_depth = omega arith in
              given-found source payload true c a b m.0 at (d + 1) (omega arith) nullable o l n
              (rw k (sym (resolve_entry c tables.first_nullable s.nullable d i l m.0 shallow m.1)) ∙ e);
        }

-- The walk from a message goes as far as from the start at least.
falls-more : (left start end start' end' : ℕ) → end - start ≤ end' - start' → (r : rust.Option FoundType) → FoundTypeFalls left start end r → FoundTypeFalls left start' end' r
falls-more left start end start' end' h (Some x) f = (f.0, omega (arith, f.1))
falls-more left start end start' end' h None f = tt

-- An entry is not inline.
entry_alone : (source deepest : List ℕ) (r : rust.Option FoundType) → IsEntry r → InlineTwins source deepest r
entry_alone source deepest (Some x) e = λ f. let z : true ≡ false = sym e ∙ f in absurd (cc)
entry_alone source deepest None e = tt

-- A type inline in a message, whose cutting was accepted.
given_inline : (source payload : List ℕ) (c : Scope) (start end inline by_index : ℕ) (p : Part) → ((m : Message) → cut p ≡ ok m → EntryAt source start end m)
    → (m : Message) (r : Res Message) → cut p ≡ r → message inline m ≡ Results.◌>>=◌ r (λ inner. ok (some inner)) → (d : ℕ) {left : ℕ} → left ≡ max_depth - d
    → (o : Option Ty) (l n : ℕ) → type_in (type_at allowance c) c d inline by_index m l ≡ ok (o, n)
    → FoundTypeTold source payload c o (Some (found_type start end false left false))
unfolding type_in
given_inline source payload c start end inline by_index p at m (ok inner) q f d deep o l n e =
    given-found source payload false c start end inner (at inner q) d deep false o l n (rw f at e)
given_inline source payload c start end inline by_index p at m (refused cause place) q f d deep o l n e = never_given (rw f at e)

-- The type in a message.
module _ (source payload notes : List ℕ) (tables : Tables) (many : length source ≡ length payload) (msg : List ℕ) (base inline by_index left : ℕ)
    (st : Stands source msg base) {x : rust.Option Span} (t : BytesTold base msg inline x) where
  here : {y : rust.Option Span} → x ≡ y → (m : Message) → EntryAt source base (base + length msg) m → message inline m ≡ cut_option (piece_told base msg y)
  unfolding message
  here g m at = ap cut_option (t.is m (stands-cut st at) ∙ ap (piece_told base msg) g)

  pub place_in : {a b : ℕ} → x ≡ Some (span a b) → (a ≤ b) × (b ≤ length msg) × (0 < a)
  place_in g = subst (PieceInside msg) g t.inside

  -- so among other bytes, where it is in a part of them
  inline-there : {a b : ℕ} → x ≡ Some (span a b) → (m : Message) → EntryAt source base (base + length msg) m → (deepest : List ℕ) (first last : ℕ)
      → first ≤ base → base + length msg ≤ last → last ≤ length deepest → TwinAt first (part_from first last deepest) (bytes_of inline m)
      → Twins source deepest (base + a) (base + b)
  inline-there {a} {b} g m at deepest first last h j k w =
      let i = place_in g in
      let body = part_between base msg a b in
      let same : bytes_of inline m ≡ some body = t.is m (stands-cut st at) ∙ ap (piece_told base msg) g in
      let twin = subst (TwinAt first (part_from first last deepest)) same w in
      let long : base + a + length body.bytes ≡ base + b = body-ends st a b i.0 i.1 in
      let placed = twin-placed deepest first last body (omega arith) (omega (arith, long)) k twin in
      subst (λ (l : List ℕ). Alike SameAtLast (cut (◌from◌ (base + a) l)) (cut (◌from◌ (base + a) (part_from (base + a) (base + b) deepest))))
      (body-part st a b i.0 i.1)
      (subst (λ (n : ℕ). Alike SameAtLast (cut body) (cut (◌from◌ (base + a) (part_from (base + a) n deepest)))) long placed)

  pub place-inline : {a b : ℕ} → x ≡ Some (span a b) → {y : FoundType} → y ≡ found_type (base + a) (base + b) false left false
      → PlaceFound source payload notes tables base (base + length msg) inline by_index left (Some y)
  place-inline {a} {b} g {y} q =
      let i = place_in g in
      let body = part_between base msg a b in
      let found = found_type (base + a) (base + b) false left false in
      let told : PlaceFound source payload notes tables base (base + length msg) inline by_index left (Some found) = record {
        inside = (omega arith, omega (arith, st.inside));
        falls = (omega arith, omega arith);
        twins = λ f. let z : false ≡ true = f in absurd (cc);
        inline_twins = λ m at deepest first last h j k w f. inline-there g m at deepest first last h j k w;
        is = λ c s m at d deep o l n e.
            given_inline source payload c (base + a) (base + b) inline by_index body (λ inner. body_entry st a b i.0 i.1) m
            (cut body) refl (here g m at) d deep o l n e;
      } in
      subst (λ (y : FoundType). PlaceFound source payload notes tables base (base + length msg) inline by_index left (Some y)) (sym q) told

  module _ (g : x ≡ None) {y : rust.Option ℕ} (i : (m : Message) → cut (◌from◌ base msg) ≡ ok m → index by_index m ≡ index_told y) where
    pub place-nowhere : y ≡ None → PlaceFound source payload notes tables base (base + length msg) inline by_index left None
    unfolding type_in
    place-nowhere h = record {
      inside = tt;
      falls = tt;
      twins = tt;
      inline_twins = λ m at deepest first last f j k w. tt;
      is = λ c s m at d deep o l n e. sym (first-same (rw (here g m at, i m (stands-cut st at), h) at e));
    }

    pub place-indexed : {k : ℕ} → y ≡ Some k → {r : rust.Option FoundType} → EntryFound payload notes tables k left r
        → PlaceFound source payload notes tables base (base + length msg) inline by_index left r
    unfolding type_in
    place-indexed h {r} f = record {
      inside = f.inside;
      falls = falls-more left 0 0 base (base + length msg) (omega arith) r f.falls;
      twins = f.twins;
      inline_twins = λ m at deepest first last p q u w. entry_alone source deepest r f.entry;
      is = λ c s m at d deep o l n e. f.is source c s d deep o l n (rw (here g m at, i m (stands-cut st at), h) at e);
    }

-- A declaration's own type, at depth 0.
pub declared-found : {payload notes : List ℕ} {tables : Tables} {start end inline by_index : ℕ} {r : rust.Option FoundType}
    → PlaceFound payload payload notes tables start end inline by_index max_depth r → DeclaredFound payload notes tables start end inline by_index r
unfolding declared_type
declared-found p = record { inside = p.inside; falls = p.falls; twins = p.twins; is = λ c s m at o l n e. p.is c s m at 0 refl o l n e }

-- What is kept of a message and of those after it, where it is given.
pub record Kept (f : Message → Read (Option Argument)) (m : Message) (ms : List Message) (n : ℕ) (ts : List Argument) : Type 0 where
  pub it : Option Argument
  pub between : ℕ
  pub others : List Argument
  pub after : ℕ
  pub first : f m n ≡ ok (it, between)
  pub later : kept f ms between ≡ ok (others, after)
  pub are : ts ≡ keep it others

pub kept-given : (f : Message → Read (Option Argument)) (m : Message) (ms : List Message) (n : ℕ) (ts : List Argument) (b : ℕ) → kept f (m ∷ ms) n ≡ ok (ts, b) → Kept f m ms n ts
unfolding kept
kept-given f m ms n ts b e =
    let p = bind_given (f m n) (λ r. Results.◌>>=◌ (kept f ms r.1) λ q. pure (keep r.0 q.0) q.1) e in
    let q = bind_given (kept f ms p.0.1) (λ q. pure (keep p.0.0 q.0) q.1) p.2 in
    record {
      it = p.0.0;
      between = p.0.1;
      others = q.0.0;
      after = q.0.1;
      first = p.1;
      later = q.1;
      are = sym (first-same q.2);
    }

-- The walk over the arguments: none before the place is kept, so that what is kept from here on is what is kept of all.
pub record Passed (f : Message → Read (Option Argument)) (base : ℕ) (msg : List ℕ) (at : ℕ) (ts : List Argument) : Type 0 where
  pub rest : Message
  pub others : List Message
  pub cuts : cut (rest_of base msg at) ≡ ok rest
  pub many : cut_all (bodies Type-argument rest) ≡ ok others
  pub before : ℕ
  pub after : ℕ
  pub given : kept f others before ≡ ok (ts, after)

module _ (f : Message → Read (Option Argument)) (base : ℕ) (msg : List ℕ) (at : ℕ) (ts : List Argument) (g : Passed f base msg at ts) {x : rust.Option Span}
    (t : NextBodyTold base msg Type-argument at x) where
  pub next_is : {y : rust.Option Span} → x ≡ y → NextIs base msg Type-argument g.rest y
  next_is e = subst (NextIs base msg Type-argument g.rest) e (t.is g.rest g.cuts)

  pub passed-all : x ≡ None → ts ≡ []
  unfolding cut_all kept
  passed-all e =
      let none_left : g.others ≡ [] = ok_same (sym g.many ∙ ap cut_all (next_is e)) in
      sym (first-same (ap (λ (ms : List Message). kept f ms g.before) (sym none_left) ∙ g.given))

  module _ {a b : ℕ} (e : x ≡ Some (span a b)) where
    pub next : First (part_between base msg a b) (bodies Type-argument (next_is e).0) g.others
    next = cut-first (part_between base msg a b) (bodies Type-argument (next_is e).0) g.others (ap cut_all (sym (next_is e).2) ∙ g.many)

    pub next-given : Kept f next.first next.others g.before ts
    next-given =
        kept-given f next.first next.others g.before ts g.after
        (ap (λ (ms : List Message). kept f ms g.before) (sym next.are) ∙ g.given)

    passed-kept : {x : Argument} → next-given.it ≡ some x → head_type ts ≡ some x.type
    passed-kept h = ap head_type next-given.are ∙ ap (λ (o : Option Argument). head_type (keep o next-given.others)) h

    passed-dropped : next-given.it ≡ none → Passed f base msg b ts
    passed-dropped h =
        let same : next-given.others ≡ ts = sym (next-given.are ∙ ap (λ (o : Option Argument). keep o next-given.others) h) in
        record {
          rest = (next_is e).0;
          others = next.others;
          cuts = (next_is e).1;
          many = next.many;
          before = next-given.between;
          after = next-given.after;
          given = next-given.later ∙ ap (λ (l : List Argument). ok (l, next-given.after)) same;
        }

-- Passed so, with what other bytes have for each argument: if they have it for all, they have it for those from here on.
pub record Sought (f : Message → Read (Option Argument)) (base : ℕ) (msg : List ℕ) (at : ℕ) (ms : List Message) (ts : List Argument) : Type 0 where
  pub passed : Passed f base msg at ts
  pub twins : (first : ℕ) (last : List ℕ) → All (ArgumentTwin first last) ms → All (ArgumentTwin first last) passed.others

module _ (f : Message → Read (Option Argument)) (base : ℕ) (msg : List ℕ) (at : ℕ) (ms : List Message) (ts : List Argument) (g : Sought f base msg at ms ts)
    {x : rust.Option Span} (t : NextBodyTold base msg Type-argument at x) {a b : ℕ} (e : x ≡ Some (span a b)) where
  next-twins : (first : ℕ) (last : List ℕ) → All (ArgumentTwin first last) ms
      → ArgumentTwin first last (next f base msg at ts g.passed t e).first × All (ArgumentTwin first last) (next f base msg at ts g.passed t e).others
  next-twins first last w = subst (All (ArgumentTwin first last)) (next f base msg at ts g.passed t e).are (g.twins first last w)

  sought_on : (next-given f base msg at ts g.passed t e).it ≡ none → Sought f base msg b ms ts
  unfolding passed-dropped
  sought_on h = record { passed = passed-dropped f base msg at ts g.passed t e h; twins = λ first last w. (next-twins first last w).1 }

-- A star, where it is given.
star-given : (l : ℕ) {o : Option Argument} {n : ℕ} → enter (pure (some (projected star blank))) l ≡ ok (o, n) → o ≡ some (projected star blank)
star-given zero e = never_given e
star-given (suc l) e = sym (first-same e)

-- The loop over the arguments, whatever bytes the type's message stands in.
pub record Seeking (payload notes : List ℕ) (tables : Tables) (msg : List ℕ) (base left at : ℕ) : Type 0 where
  pub sought : (source : List ℕ) → length source ≡ length payload → Stands source msg base
      → (c : Scope) → TableOf payload notes tables c → (m : Message) → EntryAt source base (base + length msg) m → (ms : List Message)
      → messages Type-argument m ≡ ok ms → (d : ℕ) → left ≡ max_depth - d → (ts : List Argument) (l b : ℕ)
      → kept (argument_in (type_at allowance c) c d) ms l ≡ ok (ts, b)
      → Sought (argument_in (type_at allowance c) c d) base msg at ms ts

module _ (payload notes : List ℕ) (tables : Tables) (msg : List ℕ) (base left : ℕ) where
  pub seeking-start : Seeking payload notes tables msg base left 0
  unfolding messages
  seeking-start = record {
    sought = λ source many st c s m at ms h d deep ts l b e. record {
      passed = record { rest = m; others = ms; cuts = ap cut (whole base msg) ∙ stands-cut st at; many = h; before = l; after = b; given = e };
      twins = λ first last w. w;
    };
  }

  module _ (at : ℕ) (g : Seeking payload notes tables msg base left at) {x : rust.Option Span} (t : NextBodyTold base msg Type-argument at x) where
    pub seeking-end : x ≡ None → (source : List ℕ) → length source ≡ length payload → Stands source msg base
        → ArgumentFound source payload notes tables base (base + length msg) left None
    seeking-end q source many st = record {
      inside = tt;
      falls = tt;
      twins = tt;
      is = λ c s m a ms h d deep ts l b e. (
        subst (λ (ts : List Argument). Unnamed (head_type ts))
            (sym (passed-all (argument_in (type_at allowance c) c d) base msg at ts (g.sought source many st c s m a ms h d deep ts l b e).passed t q)) tt,
        λ deepest n w. tt,
      );
    }

    module _ {a b : ℕ} (q : x ≡ Some (span a b)) where
      pub seeking-in : (a ≤ b) × (b ≤ length msg) × (at < b)
      seeking-in = let i = subst (PieceInside msg) q t.inside in (i.0, i.1, subst (PieceAfter at) q t.later)

      argument-stands : {source : List ℕ} → Stands source msg base → Stands source (take (b - a) (drop a msg)) (base + a)
      argument-stands st = body-stands st a b seeking-in.0 seeking-in.1

      -- A star is the first kept argument, and has no name.
      pub seeking-star : ((m : Message) → cut (◌from◌ (base + a) (take (b - a) (drop a msg))) ≡ ok m → projection_in m ≡ star)
          → (source : List ℕ) → length source ≡ length payload → Stands source msg base
          → ArgumentFound source payload notes tables base (base + length msg) left None
      seeking-star star-at source many st = record {
        inside = tt;
        falls = tt;
        twins = tt;
        is = λ c s m h ms i d deep ts l n j.
            let f = argument_in (type_at allowance c) c d in
            let k = g.sought source many st c s m h ms i d deep ts l n j in
            let x = next f base msg at ts k.passed t q in
            let it = next-given f base msg at ts k.passed t q in
            let is-star = star-at x.first x.cuts in
            let before = k.passed.before in
            let same =
            star-given before (sym (ap (λ (r : Read (Option Argument)). r before) (argument-star (type_at allowance c) c d x.first is-star)) ∙ it.first) in
            (subst Unnamed (sym (passed-kept f base msg at ts k.passed t q same)) refl, λ deepest n w. tt);
      }

      module _ (typed : Typed (base + a) (take (b - a) (drop a msg))) {r : rust.Option FoundType}
          (p : (source : List ℕ) → length source ≡ length payload → Stands source (take (b - a) (drop a msg)) (base + a)
          → PlaceFound source payload notes tables (base + a) (base + a + length (take (b - a) (drop a msg)))
          Type-Argument-type Type-Argument-type_id left r) where
        module _ (source : List ℕ) (many : length source ≡ length payload) (st : Stands source msg base) where
          abbrev place : PlaceFound source payload notes tables (base + a) (base + a + length (take (b - a) (drop a msg)))
              Type-Argument-type Type-Argument-type_id left r
          place = p source many (argument-stands st)

          ends : base + a + length (take (b - a) (drop a msg)) ≡ base + b
          ends = body-ends st a b seeking-in.0 seeking-in.1

          -- what the place says of the next argument
          argument-found : (c : Scope) → TableOf payload notes tables c → (d : ℕ) → left ≡ max_depth - d → (ts : List Argument)
              (k : Passed (argument_in (type_at allowance c) c d) base msg at ts)
              → (o : Option Ty) × (projection : ℕ) × FoundTypeTold source payload c o r
              × ((next-given (argument_in (type_at allowance c) c d) base msg at ts k t q).it ≡ map_option (projected projection) o)
          argument-found c s d deep ts k =
              let f = argument_in (type_at allowance c) c d in
              let n = next f base msg at ts k t q in
              let i = next-given f base msg at ts k t q in
              let projection = (typed n.first n.cuts).0 in
              let as-type = ap (λ (r : Read (Option Argument)). r k.before) (argument-typed (type_at allowance c) c d n.first (typed n.first n.cuts).1) in
              let it = bind_given (type_in (type_at allowance c) c d Type-Argument-type Type-Argument-type_id n.first k.before)
              (λ x. pure (map_option (projected projection) x.0) x.1) (sym as-type ∙ i.first) in (
                it.0.0,
                projection,
                place.is c s n.first (stands-entry (argument-stands st) n.cuts) d deep it.0.0 k.before it.0.1 it.1,
                sym (first-same it.2),
              )

          -- its twin, as all arguments have theirs
          argument-twins : (f : Message → Read (Option Argument)) (ms : List Message) (ts : List Argument) (k : Sought f base msg at ms ts)
              → (deepest : List ℕ) → length deepest ≡ length source → All (ArgumentTwin base (part_from base (base + length msg) deepest)) ms
              → InlineTwins source deepest r
          argument-twins f ms ts k deepest long w =
              let n = next f base msg at ts k.passed t q in
              let last = base + length msg in
              place.inline_twins n.first (stands-entry (argument-stands st) n.cuts) deepest base last (omega arith) (omega (arith, ends, seeking-in))
              (omega (arith, long, st.inside)) (next-twins f base msg at ms ts k t q base (part_from base last deepest) w).0

          pub seeking-kept : {y : FoundType} → r ≡ Some y → ArgumentFound source payload notes tables base (base + length msg) left r
          seeking-kept {y} e = record {
            inside = place.inside;
            falls =
                falls-more left (base + a) (base + a + length (take (b - a) (drop a msg))) base (base + length msg) (omega (arith, ends, seeking-in)) r
                place.falls;
            twins = place.twins;
            is = λ c s m h ms i d deep ts l n j.
                let f = argument_in (type_at allowance c) c d in
                let k = g.sought source many st c s m h ms i d deep ts l n j in
                let x = argument-found c s d deep ts k.passed in
                let it = subst (FoundTypeTold source payload c x.0) e x.2 in
                let kept-it = passed-kept f base msg at ts k.passed t q (x.3 ∙ ap (map_option (projected x.1)) it.2) in
                let told : FoundTypeTold source payload c (head_type ts) (Some y) = (it.0, it.1, kept-it) in
                (subst (ElementTold source payload c (head_type ts)) (sym e) told, argument-twins f ms ts k);
          }

        pub seeking-on : r ≡ None → Seeking payload notes tables msg base left b
        seeking-on e = record {
          sought = λ source many st c s m h ms i d deep ts l n j.
              let f = argument_in (type_at allowance c) c d in
              let k = g.sought source many st c s m h ms i d deep ts l n j in
              let x = argument-found source many st c s d deep ts k.passed in
              let it = subst (FoundTypeTold source payload c x.0) e x.2 in
              sought_on f base msg at ms ts k t q (x.3 ∙ ap (map_option (projected x.1)) it);
        }
