-- The arguments of a type in code: where an argument's type stands, whether an argument is kept, how many are.
-- Assumes nothing.
use mathlib.Core.Path.{◌≡◌, refl, ap, sym, subst, ◌∙◌}
use mathlib.Core.Bool.{Bool, true, false}
use mathlib.Core.List.{List, [], ◌∷◌}
use mathlib.Core.Option.{Option, none, some}
use Prim.Native.Nat.{ℕ, zero, suc, ◌+◌, ◌-◌, ◌≤◌, ◌<◌}
use native.Mathlib.Nat.{zero-add, add_assoc, add_comm}
use native.Mathlib.Omega.{arith}
use lib.ListN.{length, take, drop, get_elem?}
use Rattle.foundation.specs.Choices.{is_some, map_option}
use Rattle.foundation.specs.Results as Results
use Rattle.foundation.specs.Results.{Res, ok, refused, Part, ◌from◌}
use Rattle.fields.specs.Fields.{Type-argument, Type-Argument-type, Type-Argument-type_id}
use Rattle.wire.specs.Wire.{Message, cut}
use Rattle.wire.specs.Messages.{index, bytes_of, cut_option, message, messages}
use Rattle.wire.specs.told.WireTold.{part_between}
use Rattle.messages.specs.told.Asked.{BytesTold, CheckedTold, EmbeddedIs, EmbeddedInside, EmbeddedTold, index_told, NextBodyTold, PieceInside, PieceAfter}
use Rattle.wire.specs.declared.WireError.{WireError}
use Rattle.wire.proofs.WalkLaws.{whole}
use Rattle.messages.proofs.BodyLaws.{message-cut, message-refused}
use Rattle.characters.specs.told.Places.{part_from}
use Rattle.characters.proofs.PartLaws.{part-part, part-short}
use Rattle.declaration_rows.specs.Declarations as declaration
use Rattle.declaration_rows.specs.Declarations.{star, Ty, projected, blank}
use Rattle.schema.specs.Reading.{Read, pure, enter, keep, kept, Scope, allowance}
use Rattle.schema.specs.Types.{max_depth, type_in, projection_in, argument_in, type_at}
use Rattle.schema.specs.told.SchemaTold.{Lent, entries_in, entry_nullable}
use Rattle.schema.specs.told.TypesTold.{or_nullable, EntryIs, EntryTold}
use Rattle.schema.specs.told.PlacesTold.{TableOf}
use Rattle.schema.specs.told.ArgumentTold.{projection_number, NoStar, ArgumentHeadTold}
use Rattle.schema.specs.declared.argument.Projection.{Projection}
use Rattle.schema.specs.declared.argument.ArgumentHead.{ArgumentHead}
use Rattle.schema.specs.declared.argument.ArgumentHead.TheVariants as head
use Rattle.schema.proofs.ArgumentLaws.{argument-star, star-is, inline-typed, inline-bytes, indexed-typed, indexed-bytes, indexed-index, nothing-typed, nothing-bytes, nothing-index}
use Rattle.schema.proofs.TypeLaws.{resolve_nothing, resolve_deep, resolve_entry}
use Rattle.schema.proofs.FoundLaws.{never_given, bind_given, first-same, Passed, next_is, passed-all, next, next-given}
use Rattle.type_references.specs.told.ParseTold.{TypeIs, TypeFieldInside, TypeFieldTold, ArgumentTold, KeptTold, CountTold}
use Rattle.type_references.specs.told.Pending.{Twinned}
use Rattle.type_references.proofs.TwinLaws.{checked-alike, twinned-cut}
use Rattle.type_references.specs.declared.arguments.TypeField.{TypeField}
use Rattle.type_references.specs.declared.arguments.TypeField.TheVariants as field
use Rattle.type_references.proofs.PendingLaws.{argument_type, type-nowhere, type-indexed, argument-reads}
use Rattle.std.specs.Option as found
use Rattle.std.specs.declared.option.Option as rust
use Rattle.std.specs.declared.option.Option.TheVariants.{Some, None}
use Rattle.std.specs.declared.result.Result.{Result}
use Rattle.std.specs.declared.result.Result.TheVariants.{Ok, Err}
use Rattle.foundation.specs.declared.Span.{Span}
use Rattle.messages.specs.told.Asked.{span}

-- The type in a message, from its two fields, and back.
module _ {base : ℕ} {msg : List ℕ} {f g : ℕ} where
  module _ {x : Result (rust.Option Span) WireError} (t : EmbeddedTold base msg f x) where
    pub field-inline : {a b : ℕ} → x ≡ Ok (Some (span a b)) → TypeFieldTold base msg f g (Ok (Some (field.Inline (span a b))))
    field-inline q =
        let i = subst (EmbeddedInside msg) q t.inside in
        record { is = λ m k. subst (EmbeddedIs base msg f m) q (t.is m k); inside = (i.2, i.0, i.1) }

    pub field-refused : {error : WireError} → x ≡ Err error → TypeFieldTold base msg f g (Err error)
    field-refused q = record { is = λ m k. subst (EmbeddedIs base msg f m) q (t.is m k); inside = tt }

    module _ (q : x ≡ Ok None) {y : rust.Option ℕ} (i : (m : Message) → cut (◌from◌ base msg) ≡ ok m → index g m ≡ index_told y) where
      field-absent : y ≡ None → TypeFieldTold base msg f g (Ok None)
      field-absent h = record { is = λ m k. (subst (EmbeddedIs base msg f m) q (t.is m k), i m k ∙ ap index_told h); inside = tt }

      field-by-index : {n : ℕ} → y ≡ Some n → TypeFieldTold base msg f g (Ok (Some (field.ByIndex n)))
      field-by-index h = record { is = λ m k. (subst (EmbeddedIs base msg f m) q (t.is m k), i m k ∙ ap index_told h); inside = tt }

    -- what std's `map` makes of an index, if there is one
    pub field-mapped : x ≡ Ok None → (y : rust.Option ℕ) → ((m : Message) → cut (◌from◌ base msg) ≡ ok m → index g m ≡ index_told y)
        → (z : rust.Option TypeField) (P : ℕ → TypeField → Type 0) → ((n : ℕ) (t : TypeField) → P n t → t ≡ field.ByIndex n)
        → found.MatchOption y (z ≡ None) (λ n. found.IsSomeAnd z (P n)) → TypeFieldTold base msg f g (Ok z)
    field-mapped q None i z P h e = subst (λ (u : rust.Option TypeField). TypeFieldTold base msg f g (Ok u)) (sym e) (field-absent q i refl)
    field-mapped q (Some n) i None P h e = absurd e
    field-mapped q (Some n) i (Some t) P h e =
        subst (λ (u : TypeField). TypeFieldTold base msg f g (Ok (Some u))) (sym (h n t e)) (field-by-index q i refl)

  module _ {r : Result (rust.Option TypeField) WireError} (t : TypeFieldTold base msg f g r) where
    type-is : {y : Result (rust.Option TypeField) WireError} → r ≡ y → (m : Message) → cut (◌from◌ base msg) ≡ ok m → TypeIs base msg f g m y
    type-is q m k = subst (TypeIs base msg f g m) q (t.is m k)

    pub inline-field : {a b : ℕ} → r ≡ Ok (Some (field.Inline (span a b))) → EmbeddedTold base msg f (Ok (Some (span a b)))
    inline-field q =
        let i = subst (TypeFieldInside (length msg)) q t.inside in
        record { is = λ m k. type-is q m k; inside = (i.1, i.2, i.0) }

    pub refused-field : {error : WireError} → r ≡ Err error → EmbeddedTold base msg f (Err error)
    refused-field q = record { is = λ m k. type-is q m k; inside = tt }

    pub absent-field : r ≡ Ok None → EmbeddedTold base msg f (Ok None)
    absent-field q = record { is = λ m k. (type-is q m k).0; inside = tt }

    pub absent-index : r ≡ Ok None → (m : Message) → cut (◌from◌ base msg) ≡ ok m → index g m ≡ index_told None
    absent-index q m k = (type-is q m k).1

    pub by-index-field : {n : ℕ} → r ≡ Ok (Some (field.ByIndex n)) → EmbeddedTold base msg f (Ok None)
    by-index-field q = record { is = λ m k. (type-is q m k).0; inside = tt }

    pub by-index-index : {n : ℕ} → r ≡ Ok (Some (field.ByIndex n)) → (m : Message) → cut (◌from◌ base msg) ≡ ok m → index g m ≡ index_told (Some n)
    by-index-index q m k = (type-is q m k).1

-- What a message says of a field that has no bytes, and of one that has.
message_none : (n : ℕ) (m : Message) → bytes_of n m ≡ none → message n m ≡ ok none
unfolding message
message_none n m h = ap cut_option h

message_some : (n : ℕ) (m : Message) (p : Part) → bytes_of n m ≡ some p → message n m ≡ Results.◌>>=◌ (cut p) (λ inner. ok (some inner))
unfolding message
message_some n m p h = ap cut_option h

own_projection : {p : ℕ} {m : Message} → NoStar p m → NoStar (projection_in m) m
own_projection n = record { is = refl; no-star = λ e. n.no-star (sym n.is ∙ e) }

-- Where an argument's type stands.
module _ (base : ℕ) (msg last : List ℕ) (start end : ℕ) (ordered : start ≤ end) (short : end ≤ length msg) {x : ArgumentHead}
    (t : ArgumentHeadTold (base + start) (part_from start end msg) x) where
  pub argument-starred : x ≡ head.Star → ArgumentTold base msg last start end (Ok head.Star)
  argument-starred g = record { is = λ m c u. star-is (base + start) (part_from start end msg) t g m c; inside = tt }

  module _ {p : Projection} {a b : ℕ} (g : x ≡ head.Inline p (span a b)) where
    bytes-here : BytesTold (base + start) (part_from start end msg) Type-Argument-type (Some (span a b))
    bytes-here = inline-bytes (base + start) (part_from start end msg) t g

    inline_in : (0 < a) × (a ≤ b) × (start + b ≤ end)
    inline_in = let i = bytes-here.inside in (i.2, i.0, omega (arith, i.1, part-short msg start end))

    typed-here : (m : Message) → cut (◌from◌ (base + start) (part_from start end msg)) ≡ ok m → NoStar (projection_number p) m
    typed-here = inline-typed (base + start) (part_from start end msg) t g

    -- the same bytes, as a part of the whole message
    part-here : part_between base msg (start + a) (start + b) ≡ part_between (base + start) (part_from start end msg) a b
    part-here =
        let i = bytes-here.inside in
        ap (λ (n : ℕ). ◌from◌ n (part_from (start + a) (start + b) msg)) (sym (add_assoc base start a))
        ∙ ap (◌from◌ (base + start + a)) (sym (part-part msg start end a b i.0 i.1))

    same-part : cut (◌from◌ (base + (start + a)) (part_from (start + a) (start + b) msg)) ≡ cut (part_between (base + start) (part_from start end msg) a b)
    same-part = ap cut part-here

    bytes-is : (m : Message) → cut (◌from◌ (base + start) (part_from start end msg)) ≡ ok m
        → bytes_of Type-Argument-type m ≡ some (part_between base msg (start + a) (start + b))
    bytes-is m c = bytes-here.is m c ∙ ap some (sym part-here)

    module _ (w : Result Unit WireError) (k : CheckedTold (cut (◌from◌ (base + (start + a)) (part_from (start + a) (start + b) last))) w) where
      -- It is cut in the other bytes, and so here.
      checked-here : (m : Message) → cut (◌from◌ (base + start) (part_from start end msg)) ≡ ok m → Twinned base last start end (m ∷ [])
          → CheckedTold (cut (part_between (base + start) (part_from start end msg) a b)) w
      checked-here m c t =
          let i = inline_in in
          let alike = twinned-cut t (omega arith) (omega (arith, i)) i.2 msg (omega (arith, i)) (bytes-is m c) in
          subst (λ (r : Res Message). CheckedTold r w) same-part (checked-alike _ _ alike w k)

      argument-cut : w ≡ Ok tt → ArgumentTold base msg last start end (Ok (head.Inline p (span (start + a) (start + b))))
      argument-cut h =
          let part = part_from start end msg in
          record {
            is = λ m c t.
                let it = (message-cut Type-Argument-type (base + start) part bytes-here refl (checked-here m c t) h).is m c in
                (it.0, same-part ∙ it.1, it.2, bytes-is m c, typed-here m c);
            inside = (omega (arith, inline_in), omega (arith, inline_in), omega (arith, inline_in));
          }

      argument-uncut : {error : WireError} → w ≡ Err error → ArgumentTold base msg last start end (Err error)
      argument-uncut h = record {
        is = λ m c t. (
          (message-refused Type-Argument-type (base + start) (part_from start end msg) bytes-here refl (checked-here m c t) h).is m c,
          own_projection (typed-here m c),
        );
        inside = tt;
      }

    -- the same part, moved to where the argument stands
    module _ (i : Span) (s : i.start ≡ a + start) (e : i.end ≡ b + start) (w : Result Unit WireError)
        (k : CheckedTold (cut (◌from◌ (base + i.start) (part_from i.start i.end last))) w) where
      moved-is : i ≡ span (start + a) (start + b)
      moved-is = ap (λ (n : ℕ). span n i.end) (s ∙ add_comm a start) ∙ ap (λ (n : ℕ). span (start + a) n) (e ∙ add_comm b start)

      moved-checked : CheckedTold (cut (◌from◌ (base + (start + a)) (part_from (start + a) (start + b) last))) w
      moved-checked = subst (λ (j : Span). CheckedTold (cut (◌from◌ (base + j.start) (part_from j.start j.end last))) w) moved-is k

      pub argument-inline : w ≡ Ok tt → ArgumentTold base msg last start end (Ok (head.Inline p i))
      argument-inline h =
          subst (λ (j : Span). ArgumentTold base msg last start end (Ok (head.Inline p j))) (sym moved-is) (argument-cut w moved-checked h)

      pub argument-refused : {error : WireError} → w ≡ Err error → ArgumentTold base msg last start end (Err error)
      argument-refused h = argument-uncut w moved-checked h

  pub argument-by-index : {p : Projection} {n : ℕ} → x ≡ head.ByIndex p n → ArgumentTold base msg last start end (Ok (head.ByIndex p n))
  argument-by-index g =
      let part = part_from start end msg in
      record {
        is = λ m c u. (
          message_none Type-Argument-type m ((indexed-bytes (base + start) part t g).is m c),
          indexed-index (base + start) part t g m c,
          indexed-typed (base + start) part t g m c,
        );
        inside = tt;
      }

  pub argument-absent : x ≡ head.Nothing → ArgumentTold base msg last start end (Ok head.Nothing)
  argument-absent g =
      let part = part_from start end msg in
      record {
        is = λ m c u. (
          message_none Type-Argument-type m ((nothing-bytes (base + start) part t g).is m c),
          nothing-index (base + start) part t g m c,
          own_projection (nothing-typed (base + start) part t g m c).1,
        );
        inside = tt;
      }

  -- one whose type is not inline
  pub argument-other : (y : ArgumentHead) → x ≡ y → ((p : Projection) (b : Span) → y ≡ head.Inline p b → ⊥) → ArgumentTold base msg last start end (Ok y)
  argument-other head.Star g h = argument-starred g
  argument-other (head.Inline p b) g h = absurd (h p b refl)
  argument-other (head.ByIndex p i) g h = argument-by-index g
  argument-other head.Nothing g h = argument-absent g

-- Is an argument's type there, where it was read? If it is inline, or if its index finds an entry.
module _ (c : Scope) (d : ℕ) (m : Message) (l : ℕ) (o : Option Ty) (b : ℕ) (e : argument_type c d m l ≡ ok (o, b)) where
  inline-kept : {inner : Message} → message Type-Argument-type m ≡ ok (some inner) → true ≡ is_some o
  unfolding type_in
  inline-kept {inner} h =
      let it = bind_given (type_at allowance c d inner l) (λ q. pure (some q.0) q.1) (rw h at e) in
      ap is_some (first-same it.2)

  inline-never : {cause : Results.Cause} {p : ℕ} {A : Type 0} → message Type-Argument-type m ≡ refused cause p → A
  unfolding type_in
  inline-never h = never_given (rw h at e)

  body_kept : (p : Part) → bytes_of Type-Argument-type m ≡ some p → true ≡ is_some o
  body_kept p h = go (cut p) (message_some Type-Argument-type m p h)
    where
      go : (r : Res Message) → message Type-Argument-type m ≡ Results.◌>>=◌ r (λ inner. ok (some inner)) → true ≡ is_some o
      go (ok inner) q = inline-kept q
      go (refused cause at) q = inline-never q

  none_dropped : message Type-Argument-type m ≡ ok none → index Type-Argument-type_id m ≡ none → false ≡ is_some o
  none_dropped h i = ap is_some (first-same (sym (type-nowhere c d m l h i) ∙ e))

  module _ {n : ℕ} (h : message Type-Argument-type m ≡ ok none) (i : index Type-Argument-type_id m ≡ some n) where
    deep-dropped : max_depth ≤ d → false ≡ is_some o
    deep-dropped deep = ap is_some (first-same (sym (type-indexed c d m l h i ∙ resolve_deep c d n l deep) ∙ e))

    nowhere-dropped : get_elem? c.table.types n ≡ none → false ≡ is_some o
    nowhere-dropped g = ap is_some (first-same (sym (type-indexed c d m l h i ∙ resolve_nothing c d n l g) ∙ e))

    entry_kept : (first : rust.Option ℕ) → c.table.first_nullable ≡ index_told first → d < max_depth → {entry : Message}
        → get_elem? c.table.types n ≡ some entry → true ≡ is_some o
    entry_kept first f deep {entry} g =
        let nullable = entry_nullable first n in
        let it = bind_given (type_at allowance c (d + 1) entry l) (λ q. pure (some (or_nullable nullable q.0)) q.1)
        (sym (type-indexed c d m l h i ∙ resolve_entry c first f d n l entry deep g) ∙ e) in
        ap is_some (first-same it.2)

-- An argument that is no star is kept if its type is there.
projected_some : (p : ℕ) (o : Option Ty) → is_some (map_option (projected p) o) ≡ is_some o
projected_some p none = refl
projected_some p (some t) = refl

typed_kept : (c : Scope) (d : ℕ) (m : Message) (l : ℕ) (o : Option declaration.Argument) (b : ℕ) → argument_in (type_at allowance c) c d m l ≡ ok (o, b)
    → {p : ℕ} → NoStar p m → {r : Bool} → ((t : Option Ty) (n : ℕ) → argument_type c d m l ≡ ok (t, n) → r ≡ is_some t) → r ≡ is_some o
typed_kept c d m l o b e {p} n f =
    let it = bind_given (argument_type c d m l) (λ q. pure (map_option (projected p) q.0) q.1) (sym (argument-reads c d m l n) ∙ e) in
    f it.0.0 it.0.1 it.1 ∙ sym (projected_some p it.0.0) ∙ ap is_some (first-same it.2)

star-kept : (c : Scope) (d : ℕ) (m : Message) (l : ℕ) (o : Option declaration.Argument) (b : ℕ) → argument_in (type_at allowance c) c d m l ≡ ok (o, b)
    → projection_in m ≡ star → true ≡ is_some o
star-kept c d m l o b e h = go l (sym (ap (λ (r : Read (Option declaration.Argument)). r l) (argument-star (type_at allowance c) c d m h)) ∙ e)
  where
    go : (l : ℕ) → enter (pure (some (projected star blank))) l ≡ ok (o, b) → true ≡ is_some o
    go zero f = never_given f
    go (suc l) f = ap is_some (first-same f)

-- The same from what the code is told.
module _ (e : Lent) (msg : List ℕ) (base left : ℕ) {x : ArgumentHead} (t : ArgumentHeadTold base msg x) where
  pub kept-star : x ≡ head.Star → KeptTold e msg base left true
  kept-star g = record { is = λ c s m k d deep o l n r. star-kept c d m l o n r (star-is base msg t g m k) }

  pub kept-inline : {p : Projection} {a b : ℕ} → x ≡ head.Inline p (span a b) → KeptTold e msg base left true
  kept-inline {p} {a} {b} g = record {
    is = λ c s m k d deep o l n r.
        typed_kept c d m l o n r (inline-typed base msg t g m k) λ u i h.
        body_kept c d m l u i h (part_between base msg a b) ((inline-bytes base msg t g).is m k);
  }

  pub kept-nowhere : x ≡ head.Nothing → KeptTold e msg base left false
  kept-nowhere g = record {
    is = λ c s m k d deep o l n r.
        typed_kept c d m l o n r (nothing-typed base msg t g m k).1 λ u i h.
        none_dropped c d m l u i h (message_none Type-Argument-type m ((nothing-bytes base msg t g).is m k)) (nothing-index base msg t g m k);
  }

  module _ {p : Projection} {j : ℕ} (g : x ≡ head.ByIndex p j) where
    not-inline : (m : Message) → cut (◌from◌ base msg) ≡ ok m → message Type-Argument-type m ≡ ok none
    not-inline m k = message_none Type-Argument-type m ((indexed-bytes base msg t g).is m k)

    pub kept-deep : left ≡ 0 → KeptTold e msg base left false
    kept-deep h = record {
      is = λ c s m k d deep o l n r.
          typed_kept c d m l o n r (indexed-typed base msg t g m k) λ u i f.
          deep-dropped c d m l u i f (not-inline m k) (indexed-index base msg t g m k) (omega arith);
    }

    module _ {z : rust.Option Span} (u : EntryTold e.payload (entries_in e.tables e.notes) e.tables.types j z) where
      entry-is : {w : rust.Option Span} → z ≡ w → (c : Scope) → TableOf e.payload e.notes e.tables c → EntryIs e.payload (get_elem? c.table.types j) w
      entry-is q c s = subst (EntryIs e.payload (get_elem? c.table.types j)) q (u.is c.table.types s.entries)

      pub kept-past : z ≡ None → KeptTold e msg base left false
      kept-past q = record {
        is = λ c s m k d deep o l n r.
            typed_kept c d m l o n r (indexed-typed base msg t g m k) λ v i f.
            nowhere-dropped c d m l v i f (not-inline m k) (indexed-index base msg t g m k) (entry-is q c s);
      }

      pub kept_entry : (left ≡ 0 → ⊥) → {a b : ℕ} → z ≡ Some (span a b) → KeptTold e msg base left true
      kept_entry some_left q = record {
        is = λ c s m k d deep o l n r.
            typed_kept c d m l o n r (indexed-typed base msg t g m k) λ v i f.
            entry_kept c d m l v i f (not-inline m k) (indexed-index base msg t g m k) e.tables.first_nullable s.nullable (omega arith)
            (entry-is q c s).1;
      }

      pub kept-looked : (left ≡ 0 → ⊥) → {r : Bool} → r ≡ found.is_some z → KeptTold e msg base left r
      kept-looked some_left h = rw h (go z refl)
        where
          go : (w : rust.Option Span) → z ≡ w → KeptTold e msg base left (found.is_some z)
          go (Some p) q = rw q (kept_entry some_left q)
          go None q = rw q (kept-past q)

-- How many are kept.
keep-true : (o : Option declaration.Argument) (ts : List declaration.Argument) → true ≡ is_some o → length (keep o ts) ≡ 1 + length ts
keep-true none ts e = let z : ◌≡◌ {A = ℕ} 0 1 = cc in absurd (omega arith)
keep-true (some t) ts e = omega arith

keep-false : (o : Option declaration.Argument) (ts : List declaration.Argument) → false ≡ is_some o → length (keep o ts) ≡ length ts
keep-false none ts e = refl
keep-false (some t) ts e = let z : ◌≡◌ {A = ℕ} 0 1 = cc in absurd (omega arith)

-- The walk over the arguments: some are counted, and of those from here on some are kept; together they are all.
record Counted (f : Message → Read (Option declaration.Argument)) (base : ℕ) (msg : List ℕ) (at count : ℕ) (ts : List declaration.Argument) : Type 0 where
  later : List declaration.Argument
  passed : Passed f base msg at later
  all : length ts ≡ count + length later

module _ (f : Message → Read (Option declaration.Argument)) (base : ℕ) (msg : List ℕ) (at count : ℕ) (ts : List declaration.Argument) (g : Counted f base msg at count ts) {x : rust.Option Span}
    (t : NextBodyTold base msg Type-argument at x) where
  counted-all : x ≡ None → count ≡ length ts
  counted-all e = omega (arith, g.all, ap length (passed-all f base msg at g.later g.passed t e))

  module _ {a b : ℕ} (e : x ≡ Some (span a b)) where
    others : List declaration.Argument
    others = (next-given f base msg at g.later g.passed t e).others

    passed_on : Passed f base msg b others
    unfolding others
    passed_on =
        let it = next f base msg at g.later g.passed t e in
        let given = next-given f base msg at g.later g.passed t e in
        let is = next_is f base msg at g.later g.passed t e in
        record { rest = is.0; others = it.others; cuts = is.1; many = it.many; before = given.between; after = given.after; given = given.later }

    counted-kept : true ≡ is_some (next-given f base msg at g.later g.passed t e).it → Counted f base msg b (count + 1) ts
    unfolding others
    counted-kept h =
        let given = next-given f base msg at g.later g.passed t e in
        record { later = others; passed = passed_on; all = omega (arith, g.all, ap length given.are, keep-true given.it given.others h) }

    counted-dropped : false ≡ is_some (next-given f base msg at g.later g.passed t e).it → Counted f base msg b count ts
    unfolding others
    counted-dropped h =
        let given = next-given f base msg at g.later g.passed t e in
        record { later = others; passed = passed_on; all = omega (arith, g.all, ap length given.are, keep-false given.it given.others h) }

-- The loop over the arguments.
pub record Counting (e : Lent) (msg : List ℕ) (base left at count : ℕ) : Type 0 where
  pub few : count ≤ at
  counted : (c : Scope) → TableOf e.payload e.notes e.tables c → (m : Message) → cut (◌from◌ base msg) ≡ ok m → (ms : List Message)
      → messages Type-argument m ≡ ok ms → (d : ℕ) → left ≡ max_depth - d → (ts : List declaration.Argument) (l b : ℕ)
      → kept (argument_in (type_at allowance c) c d) ms l ≡ ok (ts, b)
      → Counted (argument_in (type_at allowance c) c d) base msg at count ts

module _ (e : Lent) (msg : List ℕ) (base left : ℕ) where
  pub counting-start : Counting e msg base left 0 0
  unfolding messages
  counting-start = record {
    few = omega arith;
    counted = λ c s m k ms h d deep ts l b r. record {
      later = ts;
      passed = record { rest = m; others = ms; cuts = ap cut (whole base msg) ∙ k; many = h; before = l; after = b; given = r };
      all = sym (zero-add (length ts));
    };
  }

  module _ (at count : ℕ) (g : Counting e msg base left at count) {x : rust.Option Span} (t : NextBodyTold base msg Type-argument at x) where
    pub counting-end : x ≡ None → CountTold e msg base left count
    counting-end q = record {
      is = λ c s m k ms h d deep ts l b r.
          counted-all (argument_in (type_at allowance c) c d) base msg at count ts (g.counted c s m k ms h d deep ts l b r) t q;
    }

    module _ {a b : ℕ} (q : x ≡ Some (span a b)) where
      pub counting-in : (0 < a) × (a ≤ b) × (b ≤ length msg) × (at < b)
      counting-in = let i = subst (PieceInside msg) q t.inside in (i.2, i.0, i.1, subst (PieceAfter at) q t.later)

      module _ {r : Bool} (u : KeptTold e (take (b - a) (drop a msg)) (base + a) left r) where
        argument_is : (c : Scope) → TableOf e.payload e.notes e.tables c → (d : ℕ) → left ≡ max_depth - d → (ts : List declaration.Argument)
            (k : Counted (argument_in (type_at allowance c) c d) base msg at count ts)
            → r ≡ is_some (next-given (argument_in (type_at allowance c) c d) base msg at k.later k.passed t q).it
        argument_is c s d deep ts k =
            let f = argument_in (type_at allowance c) c d in
            let it = next f base msg at k.later k.passed t q in
            let given = next-given f base msg at k.later k.passed t q in
            u.is c s it.first it.cuts d deep given.it k.passed.before given.between given.first

        pub counting_kept : r ≡ true → Counting e msg base left b (count + 1)
        counting_kept w = record {
          few = omega (arith, g.few, counting-in);
          counted = λ c s m k ms h d deep ts l n y.
              let it = g.counted c s m k ms h d deep ts l n y in
              counted-kept (argument_in (type_at allowance c) c d) base msg at count ts it t q (sym w ∙ argument_is c s d deep ts it);
        }

        pub counting-dropped : r ≡ false → Counting e msg base left b count
        counting-dropped w = record {
          few = omega (arith, g.few, counting-in);
          counted = λ c s m k ms h d deep ts l n y.
              let it = g.counted c s m k ms h d deep ts l n y in
              counted-dropped (argument_in (type_at allowance c) c d) base msg at count ts it t q (sym w ∙ argument_is c s d deep ts it);
        }
