-- What the walk of a body tells: its head, its lists, all of its rows.
-- Assumes nothing.
use Rattle.std.specs.Prelude.{◌≡◌, Bool, List, [], ◌∷◌, map, ◌++◌, ℕ, ◌+◌, ◌*◌, ◌^◌, eqb, length, Result, Ok, Err}
use Rattle.std.proofs.Math.Option.{Option}
use Rattle.foundation.specs.Choices.{concat}
use Rattle.foundation.specs.Results.{Res, ok, ◌from◌}
use Rattle.foundation.specs.Texts.{Text}
use Rattle.wire.specs.Wire.{Message, cut}
use Rattle.sheet.specs.Rows.{Row, sheet_from, texts}
use Rattle.sheet.specs.told.Put.{PutHead, PutRows}
use Rattle.sheet.specs.declared.State.{State}
use Rattle.declaration_rows.specs.Declarations.{Constructor, Function, Property, Alias, Declarations}
use Rattle.declaration_rows.specs.Rows.{property_rows, aliases_rows}
use Rattle.declaration_rows.specs.told.Written.{head_cells}
use Rattle.schema.specs.Reading.{Scope}
use Rattle.schema.specs.Members.{Head, head, list_in, alias_in, head_in, constructors_in, alias_field, lists_in, after_table}
use Rattle.schema.specs.told.SchemaTold.{Lent, NamesOf, Scoped, stop_refused}
use Rattle.schema.specs.told.MembersTold.{ListWalked, Within, ListedWithin, ListedTold}
use Rattle.schema.specs.declared.Stop.{Stop}
use Rattle.descriptors.specs.Defaults.{closed_constructor, closed_function}
use Rattle.members.specs.Lists.{section_rows}
use Rattle.members.specs.declared.list.Member.TheVariants as member
use Rattle.declarations.specs.Payload.{head_row, declaration_rows}
use Rattle.declarations.specs.declared.body.Sections.{Sections}

-- What a head takes beside its counts; a list in n bytes; the aliases with kind 9, which is there without a byte of theirs; all lists; a whole
-- body of n bytes.
abbrev pub head_cost : ℕ
head_cost = 2 ^ 20

abbrev pub list_cost : ℕ → ℕ
list_cost n = 2 ^ 25 * n

abbrev pub aliases_cost : ℕ → ℕ
aliases_cost n = 3 + list_cost n

abbrev pub lists_cost : ℕ → ℕ
lists_cost n = 3 + 2 ^ 27 * n

abbrev pub body_cost : ℕ → ℕ
body_cost n = 2 ^ 27 * (1 + n)

-- The head is written up to its counts.
pub record BodyHead (kind : ℕ) (e : Lent) (msg : List ℕ) (base : ℕ) (s s' : State) (S S' T T' : List ℕ) : Type 0 where
  pub name : Option Text
  pub flags : ℕ
  pub put : PutHead 1 (head_cells kind name flags) s.types s s' S S' T T'
  pub spends : Within head_cost s s'
  pub is : (c : Scope) → NamesOf e.payload e.d2 e.ends e.notes e.tables.records c.names → (m : Message) → cut (◌from◌ base msg) ≡ ok m → (l : ℕ)
      → head_in (eqb kind 1) c m l ≡ ok (head name flags, l)

-- The constructors of a class; a package has none.
pub record ConstructorsTold (class : Bool) (e : Lent) (msg : List ℕ) (base : ℕ) (s : State) (r : ListWalked) (S S' T T' : List ℕ) : Type 0 where
  pub spends : ListedWithin (list_cost (length msg)) s r
  pub is : (c : Scope) → Scoped e c → (m : Message) → cut (◌from◌ base msg) ≡ ok m
      → ListedTold (constructors_in class c m s.types) closed_constructor s r S S' T T'

-- The aliases after their count.
abbrev pub AliasesAre : Res (List Alias × ℕ) → State → ListWalked → (S S' T T' : List ℕ) → Type 0
AliasesAre r s (Ok x) S S' T T' =
    (xs : List Alias) × (b : ℕ) × (r ≡ ok (xs, b)) × (x.count ≡ length xs) × PutRows (aliases_rows xs) b s x.state S S' T T'
AliasesAre r s (Err stop) S S' T T' = r ≡ stop_refused stop

pub record AliasesTold (class : Bool) (e : Lent) (msg : List ℕ) (base : ℕ) (s : State) (r : ListWalked) (S S' T T' : List ℕ) : Type 0 where
  pub spends : ListedWithin (aliases_cost (length msg)) s r
  pub is : (c : Scope) → Scoped e c → (m : Message) → cut (◌from◌ base msg) ≡ ok m
      → AliasesAre (list_in (alias_in c) (alias_field class) m s.types) s r S S' T T'

-- How far rows reach in both areas.
pub record RowsReach (rows : List Row) (s s' : State) : Type 0 where
  pub sheet : s'.sheet ≡ s.sheet + length (sheet_from s.text rows)
  pub text : s'.text ≡ s.text + length (texts rows)

-- The lists are written after a head, whatever it says: how far after each, and how many each has.
pub record ListsDone (class : Bool) (c : Scope) (m : Message) (s : State) (b : Sections) (S S' T T' : List ℕ) : Type 0 where
  pub constructors : List Constructor
  pub functions : List Function
  pub properties : List Property
  pub aliases : List Alias
  pub left : ℕ
  pub reads : (h : Head) → lists_in class h c m s.types
      ≡ ok (record { name = h.name; flags = h.flags; constructors = constructors; functions = functions; properties = properties; aliases = aliases }, left)
  pub constructor_count : b.constructors.count ≡ length constructors
  pub function_count : b.functions.count ≡ length functions
  pub property_count : b.properties.count ≡ length properties
  pub alias_count : b.aliases.count ≡ length aliases
  pub head_end : b.head ≡ s
  pub constructors_end : RowsReach (concat (map closed_constructor constructors)) s b.constructors.state
  pub functions_end : RowsReach (concat (map closed_constructor constructors) ++ concat (map closed_function functions)) s b.functions.state
  pub properties_end :
      RowsReach (concat (map closed_constructor constructors) ++ (concat (map closed_function functions) ++ concat (map property_rows properties)))
      s b.properties.state
  pub put :
      PutRows
      (concat (map closed_constructor constructors)
      ++ (concat (map closed_function functions) ++ (concat (map property_rows properties) ++ aliases_rows aliases)))
      left s b.aliases.state S S' T T'

abbrev pub ListsAre : Bool → Scope → Message → State → Result Sections Stop → (S S' T T' : List ℕ) → Type 0
ListsAre class c m s (Ok b) S S' T T' = ListsDone class c m s b S S' T T'
ListsAre class c m s (Err stop) S S' T T' = (h : Head) → lists_in class h c m s.types ≡ stop_refused stop

abbrev pub ListsTold : Bool → Lent → List ℕ → ℕ → State → Result Sections Stop → (S S' T T' : List ℕ) → Type 0
ListsTold class e msg base s r S S' T T' =
    (c : Scope) → Scoped e c → (m : Message) → cut (◌from◌ base msg) ≡ ok m → ListsAre class c m s r S S' T T'

-- What was read is written, list by list: how far after the head and after each list, and how many each list has. Kind 9 stands where the
-- properties end.
pub record Written (kind : ℕ) (d : Declarations) (left : ℕ) (s : State) (b : Sections) (S S' T T' : List ℕ) : Type 0 where
  pub head_end : RowsReach (head_row kind d ∷ []) s b.head
  pub constructors_end : RowsReach (head_row kind d ∷ section_rows member.Constructor d) s b.constructors.state
  pub functions_end : RowsReach (head_row kind d ∷ (section_rows member.Constructor d ++ section_rows member.Function d)) s b.functions.state
  pub properties_end :
      RowsReach (head_row kind d ∷ (section_rows member.Constructor d ++ (section_rows member.Function d ++ section_rows member.Property d)))
      s b.properties.state
  pub constructor_count : b.constructors.count ≡ length d.constructors
  pub function_count : b.functions.count ≡ length d.functions
  pub property_count : b.properties.count ≡ length d.properties
  pub alias_count : b.aliases.count ≡ length d.aliases
  pub put : PutRows (declaration_rows kind d) left s b.aliases.state S S' T T'

-- What was read, or refused.
abbrev pub BodyTold : ℕ → Res (Declarations × ℕ) → State → Result Sections Stop → (S S' T T' : List ℕ) → Type 0
BodyTold kind r s (Ok sections) S S' T T' = (d : Declarations) × (left : ℕ) × (r ≡ ok (d, left)) × Written kind d left s sections S S' T T'
BodyTold kind r s (Err stop) S S' T T' = r ≡ stop_refused stop

-- A whole body after its type table.
abbrev pub BodyWalked : ℕ → Lent → List ℕ → ℕ → State → Result Sections Stop → (S S' T T' : List ℕ) → Type 0
BodyWalked kind e msg base s r S S' T T' =
    (c : Scope) → Scoped e c → (m : Message) → cut (◌from◌ base msg) ≡ ok m
    → BodyTold kind (after_table (eqb kind 1) c m s.types) s r S S' T T'
