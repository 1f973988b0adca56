-- A body written: its head, its lists, the counts.
-- Assumes nothing.
use mathlib.Core.Path.{◌≡◌, refl, ap, sym, subst, ◌∙◌}
use mathlib.Core.Bool.{Bool, true, false}
use mathlib.Core.List.{List, [], ◌∷◌, ◌++◌, map}
use mathlib.Core.Option.{none}
use Prim.Native.Nat.{ℕ, ◌+◌, ◌^◌, ◌≤◌}
use native.Mathlib.Nat.{add_assoc}
use native.Mathlib.Omega.{arith}
use lib.Dec.{eqb}
use lib.ListN.{length, length-append}
use lib.Seq.{sets}
use Rattle.std.specs.Prelude.{if◌then◌else◌}
use Rattle.foundation.specs.Choices.{concat}
use Rattle.foundation.specs.Digits.{little}
use Rattle.foundation.specs.Results.{ok, ◌from◌}
use Rattle.fields.specs.Fields.{Class-flags, Class-fq_name, Class-constructor}
use Rattle.wire.specs.Wire.{Message, cut}
use Rattle.names.specs.told.Name.{name_text}
use Rattle.names.specs.declared.name.Name.{Name}
use Rattle.std.specs.declared.option.Option as rust
use Rattle.std.specs.declared.option.Option.TheVariants.{None}
use Rattle.sheet.specs.Rows.{Row, row, sheet_from, texts, body_bytes}
use Rattle.sheet.specs.told.Put.{PutHead, PutRows, past}
use Rattle.sheet.specs.declared.State.{State}
use Rattle.sheet.proofs.RowLaws.{sheet-append, texts-append}
use Rattle.sheet.proofs.PutLaws.{put-sheet, put-text, put-types, put_none, rows_then}
use Rattle.declaration_rows.specs.Declarations.{Declarations}
use Rattle.declaration_rows.specs.Rows.{property_rows, alias_rows, aliases_rows}
use Rattle.declaration_rows.specs.told.Written.{head_cells, head_counts}
use Rattle.declaration_rows.proofs.WrittenLaws.{head_small}
use Rattle.declaration_rows.proofs.RecordLaws.{head-put, aliases-put}
use Rattle.schema.specs.Reading.{Scope, class_name_in}
use Rattle.schema.specs.Members.{flags_in, list_in, constructor_in, function_in, property_in, alias_in, head, constructors_in, function_field, property_field, alias_field, lists_in, after_table}
use Rattle.schema.specs.told.SchemaTold.{Lent, NamesOf, Scoped}
use Rattle.schema.specs.told.MembersTold.{ListWalked, section, Affords, Within, ListedTold, ListTold}
use Rattle.schema.specs.declared.Section.{Section}
use Rattle.schema.specs.declared.Stop.{Stop}
use Rattle.schema.proofs.CountLaws.{within_none, within_less, within_then, past-within, affords-less, affords-after, affords-places, head-within}
use Rattle.descriptors.specs.Defaults.{closed_constructor, closed_function}
use Rattle.members.specs.Lists.{section_rows}
use Rattle.members.specs.declared.list.Member.TheVariants as member
use Rattle.declarations.specs.Payload.{head_row, declaration_rows}
use Rattle.declarations.specs.told.BodyTold.{head_cost, list_cost, aliases_cost, lists_cost, body_cost, BodyHead, ConstructorsTold, AliasesAre, AliasesTold, RowsReach, ListsTold, BodyWalked}
use Rattle.declarations.specs.declared.body.Sections.{Sections}
use Rattle.std.proofs.Common.{Ok, Err}

pub no_name : (payload d2 : List ℕ) → name_text payload d2 None ≡ none
no_name payload d2 = refl

-- The head.
module _ (kind : ℕ) (e : Lent) (msg : List ℕ) (base : ℕ) {s s' : State} {S S' T T' : List ℕ} (a : Affords e head_cost s) where
  head-spent : (n : rust.Option Name) (flags : ℕ) → PutHead 1 (head_cells kind (name_text e.payload e.d2 n) flags) s.types s s' S S' T T' → Within head_cost s s'
  head-spent n flags p =
      within_less head_cost (omega arith) (head-within a (head_cells kind (name_text e.payload e.d2 n) flags) (head_small (affords-places a) kind n flags) 1 p)

  pub head-package : eqb kind 1 ≡ false → PutHead 1 (head_cells kind none 6) s.types s s' S S' T T'
      → BodyHead kind e msg base s s' S S' T T'
  head-package g p = record {
    name = none;
    flags = 6;
    put = p;
    spends = head-spent None 6 p;
    is = λ c w m f l. rw g;
  }

  pub head-class : (n : rust.Option Name) (flags : ℕ) → eqb kind 1 ≡ true
      → ((m : Message) → cut (◌from◌ base msg) ≡ ok m → flags_in Class-flags m ≡ flags)
      → ((c : Scope) → NamesOf e.payload e.d2 e.ends e.notes e.tables.records c.names → (m : Message) → cut (◌from◌ base msg) ≡ ok m → (l : ℕ)
      → class_name_in c Class-fq_name m l ≡ ok (name_text e.payload e.d2 n, l))
      → PutHead 1 (head_cells kind (name_text e.payload e.d2 n) flags) s.types s s' S S' T T'
      → BodyHead kind e msg base s s' S S' T T'
  head-class n flags g f h p = record {
    name = name_text e.payload e.d2 n;
    flags = flags;
    put = p;
    spends = head-spent n flags p;
    is = λ c w m i l. rw (g, h c w m i l, f m i);
  }

-- The constructors.
module _ (e : Lent) (msg : List ℕ) (base : ℕ) (class : Bool) (s : State) (S T : List ℕ) where
  pub constructors-none : class ≡ false → ConstructorsTold class e msg base s (Ok (section s 0)) S S T T
  unfolding sheet_from texts
  constructors-none g = record {
    spends = within_less (list_cost (length msg)) (omega arith) (within_none s);
    is = λ c w m f. ([], s.types, rw g, refl, put_none s S T);
  }

  pub constructors-class : (r : ListWalked) {S' T' : List ℕ} → class ≡ true
      → ListTold constructor_in closed_constructor (list_cost (length msg)) e msg base Class-constructor s r S S' T T'
      → ConstructorsTold class e msg base s r S S' T T'
  constructors-class r {S'} {T'} g t = record {
    spends = t.spends;
    is = λ c w m f.
        subst (λ (b : Bool). ListedTold (constructors_in b c m s.types) closed_constructor s r S S' T T') (sym g) (t.is c w m f);
  }

-- What can be afforded for each list, and where the head ends.
module _ {e : Lent} (n : ℕ) {s : State} where
  module _ (a : Affords e (lists_cost n) s) where
    pub first-affords : Affords e (list_cost n) s
    first-affords = affords-less a (list_cost n) (omega arith)

    module _ {s₁ : State} (p : Within (list_cost n) s s₁) where
      pub second-affords : Affords e (list_cost n) s₁
      second-affords = affords-after a (list_cost n) p (omega arith)

      module _ {s₂ : State} (q : Within (list_cost n) s₁ s₂) where
        pub third-affords : Affords e (list_cost n) s₂
        third-affords = affords-after a (list_cost n) (within_then p q) (omega arith)

        pub last-affords : {s₃ : State} → Within (list_cost n) s₂ s₃ → Affords e (aliases_cost n) s₃
        last-affords r = affords-after a (aliases_cost n) (within_then (within_then p q) r) (omega arith)

  -- kind 9, and then the aliases
  module _ (a : Affords e (aliases_cost n) s) where
    pub kind-affords : s.sheet ≤ 2 ^ 61
    kind-affords = let r = a.room in omega arith

    module _ {s₁ : State} {S S₁ T T₁ : List ℕ} (p : PutHead 9 [] s.types s s₁ S S₁ T T₁) where
      kind-within : Within 3 s (past 2 s₁)
      kind-within = within_less 3 (omega arith) (within_then (head-within a [] tt 9 p) (past-within 2 s₁))

      pub aliases-affords : Affords e (list_cost n) (past 2 s₁)
      aliases-affords = affords-after a (list_cost n) kind-within (omega arith)

      pub kind-ends : s₁.sheet + 2 ≤ 2 ^ 61
      kind-ends = let r = aliases-affords.room in omega arith

      pub aliases-within : {s₂ : State} → Within (list_cost n) (past 2 s₁) s₂ → Within (aliases_cost n) s s₂
      aliases-within q = within_less (aliases_cost n) (omega arith) (within_then kind-within q)

  module _ (a : Affords e (body_cost n) s) where
    pub head-affords : Affords e head_cost s
    head-affords = affords-less a head_cost (omega arith)

    module _ {s₁ : State} (p : Within head_cost s s₁) where
      pub lists-affords : Affords e (lists_cost n) (past 6 s₁)
      lists-affords = affords-after a (lists_cost n) (within_then p (past-within 6 s₁)) (omega arith)

      pub head-ends : s₁.sheet + 6 ≤ 2 ^ 61
      head-ends = let r = lists-affords.room in omega arith

-- How far rows reach.
reached : {rs : List Row} {b : ℕ} {s s' : State} {S S' T T' : List ℕ} → PutRows rs b s s' S S' T T' → RowsReach rs s s'
reached p = record { sheet = put-sheet p; text = put-text p }

reached_then : (rs qs : List Row) {s s₁ s₂ : State} → RowsReach rs s s₁ → RowsReach qs s₁ s₂ → RowsReach (rs ++ qs) s s₂
reached_then rs qs {s} p q = record {
  sheet =
      q.sheet
      ∙ rw (p.sheet, p.text, sheet-append s.text rs qs, length-append)
      (add_assoc s.sheet (length (sheet_from s.text rs)) (length (sheet_from (s.text + length (texts rs)) qs)));
  text = q.text ∙ rw (p.text, texts-append rs qs, length-append) (add_assoc s.text (length (texts rs)) (length (texts qs)));
}

-- A list's field, by one number for a class and one for a package.
pub field-by : (f : Bool → ℕ) {n : ℕ} (class : Bool) → n ≡ (if class then f true else f false) → n ≡ f class
field-by f true e = e
field-by f false e = e

-- The aliases: kind 9, the list, and then its count.
module _ (e : Lent) (msg : List ℕ) (base : ℕ) (class : Bool) {s s₁ : State} {S S₁ T T₁ : List ℕ}
    (a : Affords e (aliases_cost (length msg)) s) (p : PutHead 9 [] s.types s s₁ S S₁ T T₁)
    (F : ℕ) (u : F ≡ alias_field class) where
  listed-is : {y : ListWalked} {S₂ T₂ : List ℕ} → ListTold alias_in alias_rows (list_cost (length msg)) e msg base F (past 2 s₁) y S₁ S₂ T₁ T₂
      → (c : Scope) → Scoped e c → (m : Message) → cut (◌from◌ base msg) ≡ ok m
      → ListedTold (list_in (alias_in c) (alias_field class) m s.types) alias_rows (past 2 s₁) y S₁ S₂ T₁ T₂
  listed-is {y} {S₂} {T₂} t c w m f =
      subst (λ (k : ℕ). ListedTold (list_in (alias_in c) k m s.types) alias_rows (past 2 s₁) y S₁ S₂ T₁ T₂) u
      (subst (λ (b : ℕ). ListedTold (list_in (alias_in c) F m b) alias_rows (past 2 s₁) y S₁ S₂ T₁ T₂) (put-types p) (t.is c w m f))

  pub aliases-refused : {stop : Stop} {S₂ T₂ : List ℕ}
      → ListTold alias_in alias_rows (list_cost (length msg)) e msg base F (past 2 s₁) (Err stop) S₁ S₂ T₁ T₂ → AliasesTold class e msg base s (Err stop) S S₂ T T₂
  aliases-refused t = record { spends = tt; is = listed-is t }

  pub aliases-done : {x : Section} {S₂ S₃ T₂ : List ℕ}
      → ListTold alias_in alias_rows (list_cost (length msg)) e msg base F (past 2 s₁) (Ok x) S₁ S₂ T₁ T₂ → S₃ ≡ sets S₂ s₁.sheet (little 2 x.count)
      → AliasesTold class e msg base s (Ok x) S S₃ T T₂
  aliases-done {x} {S₂} t q = record {
    spends = aliases-within (length msg) a p t.spends;
    is = λ c w m f.
        let y = listed-is t c w m f in
        let patched = q ∙ ap (λ (k : ℕ). sets S₂ s₁.sheet (little 2 k)) y.3 in
        (y.0, y.1, y.2, y.3, aliases-put (length y.0) (concat (map alias_rows y.0)) p y.4 patched);
  }

-- The lists one after the other.
module _ (e : Lent) (msg : List ℕ) (base : ℕ) (class : Bool) (s : State) {S S₁ T T₁ : List ℕ} where
  pub constructors-refused : {stop : Stop} → ConstructorsTold class e msg base s (Err stop) S S₁ T T₁ → ListsTold class e msg base s (Err stop) S S₁ T T₁
  unfolding lists_in
  constructors-refused t c w m f h = rw (t.is c w m f)

  module _ {x₁ : Section} (t₁ : ConstructorsTold class e msg base s (Ok x₁) S S₁ T T₁) (F : ℕ) (u : F ≡ function_field class) where
    called : (c : Scope) (w : Scoped e c) (m : Message) (f : cut (◌from◌ base msg) ≡ ok m) {n : ℕ} {y : ListWalked} {S₂ T₂ : List ℕ}
        → ListTold function_in closed_function n e msg base F x₁.state y S₁ S₂ T₁ T₂
        → ListedTold (list_in (function_in c) (function_field class) m (t₁.is c w m f).1) closed_function x₁.state y S₁ S₂ T₁ T₂
    called c w m f {n} {y} {S₂} {T₂} t =
        let made = t₁.is c w m f in
        subst (λ (k : ℕ). ListedTold (list_in (function_in c) k m made.1) closed_function x₁.state y S₁ S₂ T₁ T₂) u
        (subst (λ (b : ℕ). ListedTold (list_in (function_in c) F m b) closed_function x₁.state y S₁ S₂ T₁ T₂) (put-types made.4) (t.is c w m f))

    pub functions-refused : {n : ℕ} {stop : Stop} {S₂ T₂ : List ℕ} → ListTold function_in closed_function n e msg base F x₁.state (Err stop) S₁ S₂ T₁ T₂
        → ListsTold class e msg base s (Err stop) S S₂ T T₂
    unfolding lists_in
    functions-refused t c w m f h = rw ((t₁.is c w m f).2, called c w m f t)

    module _ {n : ℕ} {x₂ : Section} {S₂ T₂ : List ℕ} (t₂ : ListTold function_in closed_function n e msg base F x₁.state (Ok x₂) S₁ S₂ T₁ T₂)
        (P : ℕ) (v : P ≡ property_field class) where
      held : (c : Scope) (w : Scoped e c) (m : Message) (f : cut (◌from◌ base msg) ≡ ok m) {k : ℕ} {y : ListWalked} {S₃ T₃ : List ℕ}
          → ListTold property_in property_rows k e msg base P x₂.state y S₂ S₃ T₂ T₃
          → ListedTold (list_in (property_in c) (property_field class) m (called c w m f t₂).1) property_rows x₂.state y S₂ S₃ T₂ T₃
      held c w m f {k} {y} {S₃} {T₃} t =
          let before = called c w m f t₂ in
          subst (λ (i : ℕ). ListedTold (list_in (property_in c) i m before.1) property_rows x₂.state y S₂ S₃ T₂ T₃) v
          (subst (λ (b : ℕ). ListedTold (list_in (property_in c) P m b) property_rows x₂.state y S₂ S₃ T₂ T₃) (put-types before.4) (t.is c w m f))

      pub properties-refused : {k : ℕ} {stop : Stop} {S₃ T₃ : List ℕ} → ListTold property_in property_rows k e msg base P x₂.state (Err stop) S₂ S₃ T₂ T₃
          → ListsTold class e msg base s (Err stop) S S₃ T T₃
      unfolding lists_in
      properties-refused t c w m f h = rw ((t₁.is c w m f).2, (called c w m f t₂).2, held c w m f t)

      module _ {k : ℕ} {x₃ : Section} {S₃ T₃ : List ℕ} (t₃ : ListTold property_in property_rows k e msg base P x₂.state (Ok x₃) S₂ S₃ T₂ T₃) where
        aliased : (c : Scope) (w : Scoped e c) (m : Message) (f : cut (◌from◌ base msg) ≡ ok m) {y : ListWalked} {S₄ T₄ : List ℕ}
            → AliasesTold class e msg base x₃.state y S₃ S₄ T₃ T₄
            → AliasesAre (list_in (alias_in c) (alias_field class) m (held c w m f t₃).1) x₃.state y S₃ S₄ T₃ T₄
        aliased c w m f {y} {S₄} {T₄} t =
            subst (λ (b : ℕ). AliasesAre (list_in (alias_in c) (alias_field class) m b) x₃.state y S₃ S₄ T₃ T₄) (put-types (held c w m f t₃).4) (t.is c w m f)

        pub lists-refused : {stop : Stop} {S₄ T₄ : List ℕ} → AliasesTold class e msg base x₃.state (Err stop) S₃ S₄ T₃ T₄
            → ListsTold class e msg base s (Err stop) S S₄ T T₄
        unfolding lists_in
        lists-refused t c w m f h = rw ((t₁.is c w m f).2, (called c w m f t₂).2, (held c w m f t₃).2, aliased c w m f t)

        pub lists-done : {x₄ : Section} {S₄ T₄ : List ℕ} → AliasesTold class e msg base x₃.state (Ok x₄) S₃ S₄ T₃ T₄
            → ListsTold class e msg base s (Ok (record { head = s; constructors = x₁; functions = x₂; properties = x₃; aliases = x₄ })) S S₄ T T₄
        unfolding lists_in
        lists-done t c w m f =
            let x = t₁.is c w m f in
            let y = called c w m f t₂ in
            let z = held c w m f t₃ in
            let a = aliased c w m f t in
            let cs = concat (map closed_constructor x.0) in
            let fs = concat (map closed_function y.0) in
            let ps = concat (map property_rows z.0) in
            record {
              constructors = x.0;
              functions = y.0;
              properties = z.0;
              aliases = a.0;
              left = a.1;
              reads = λ h. rw (x.2, y.2, z.2, a.2);
              constructor_count = x.3;
              function_count = y.3;
              property_count = z.3;
              alias_count = a.3;
              head_end = refl;
              constructors_end = reached x.4;
              functions_end = reached (rows_then cs fs x.4 y.4);
              properties_end = reached (rows_then cs (fs ++ ps) x.4 (rows_then fs ps y.4 z.4));
              put =
                  rows_then cs (fs ++ (ps ++ aliases_rows a.0)) x.4
                  (rows_then fs (ps ++ aliases_rows a.0) y.4 (rows_then ps (aliases_rows a.0) z.4 a.4));
            }

counts_same : (o : ℕ) {i j l a b c : ℕ} → i ≡ a → j ≡ b → l ≡ c → body_bytes o (head_counts i j l) ≡ body_bytes o (head_counts a b c)
counts_same o p q r = rw (p, q, r)

-- The head, the lists, and then the counts.
module _ (kind : ℕ) (e : Lent) (msg : List ℕ) (base : ℕ) {s s₁ : State} {S S₁ T T₁ : List ℕ}
    (h : BodyHead kind e msg base s s₁ S S₁ T T₁)
  where
    module _ (c : Scope) (w : Scoped e c) (m : Message) (f : cut (◌from◌ base msg) ≡ ok m) where
      after-head : after_table (eqb kind 1) c m s.types ≡ lists_in (eqb kind 1) (head h.name h.flags) c m s₁.types
      unfolding after_table
      after-head = rw (h.is c w.names m f s.types, put-types h.put)

    pub body-stops : (stop : Stop) (S₂ T₂ : List ℕ) → ListsTold (eqb kind 1) e msg base (past 6 s₁) (Err stop) S₁ S₂ T₁ T₂ → BodyWalked kind e msg base s (Err stop) S S₂ T T₂
    body-stops stop S₂ T₂ t c w m f = after-head c w m f ∙ t c w m f (head h.name h.flags)

    head-reached : (i j l : ℕ) → RowsReach (row 1 (head_cells kind h.name h.flags ++ head_counts i j l) ∷ []) s (past 6 s₁)
    unfolding body_bytes sheet_from texts
    head-reached i j l =
        let w : PutRows (row 1 (head_cells kind h.name h.flags ++ head_counts i j l) ∷ []) s₁.types s (past 6 s₁) S
        (sets S₁ s₁.sheet (body_bytes 0 (head_counts i j l))) T T₁ =
        head-put kind h.name h.flags i j l [] h.put (put_none (past 6 s₁) S₁ T₁) λ o. refl in
        reached w

    pub body-done : {b : Sections} {S₂ S₃ T₂ : List ℕ} → ListsTold (eqb kind 1) e msg base (past 6 s₁) (Ok b) S₁ S₂ T₁ T₂
        → ((o : ℕ) → S₃ ≡ sets S₂ s₁.sheet (body_bytes o (head_counts b.constructors.count b.functions.count b.properties.count)))
        → BodyWalked kind e msg base s (Ok b) S S₃ T T₂
    unfolding declaration_rows
    body-done {b} {S₂} {S₃} t q c w m f =
        let u = t c w m f in
        let d : Declarations = record {
          name = h.name;
          flags = h.flags;
          constructors = u.constructors;
          functions = u.functions;
          properties = u.properties;
          aliases = u.aliases;
        } in
        let counts : (o : ℕ) → S₃ ≡ sets S₂ s₁.sheet (body_bytes o (head_counts (length u.constructors) (length u.functions) (length u.properties))) =
        λ o. q o ∙ ap (sets S₂ s₁.sheet) (counts_same o u.constructor_count u.function_count u.property_count) in
        let cs = section_rows member.Constructor d in
        let fs = section_rows member.Function d in
        let ps = section_rows member.Property d in
        let above = head-reached (length u.constructors) (length u.functions) (length u.properties) in (
          d,
          u.left,
          after-head c w m f ∙ u.reads (head h.name h.flags),
          record {
            head_end = subst (RowsReach (head_row kind d ∷ []) s) (sym u.head_end) above;
            constructors_end = reached_then (head_row kind d ∷ []) cs above u.constructors_end;
            functions_end = reached_then (head_row kind d ∷ []) (cs ++ fs) above u.functions_end;
            properties_end = reached_then (head_row kind d ∷ []) (cs ++ (fs ++ ps)) above u.properties_end;
            constructor_count = u.constructor_count;
            function_count = u.function_count;
            property_count = u.property_count;
            alias_count = u.alias_count;
            put =
                head-put kind h.name h.flags (length u.constructors) (length u.functions) (length u.properties)
                (cs ++ (fs ++ (ps ++ aliases_rows d.aliases))) h.put u.put counts;
          },
        )
