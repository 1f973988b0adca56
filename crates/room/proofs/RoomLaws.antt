-- What `room` tells at each exit: the code's numbers are the definition's.
-- Assumes nothing.
use mathlib.Core.Path.{◌≡◌, refl, sym, ap, subst, ◌∙◌}
use mathlib.Core.List.{List, [], ◌∷◌, ◌++◌}
use Prim.Native.Nat.{ℕ, ◌+◌, ◌-◌, ◌*◌, ◌≤◌}
use native.Mathlib.Omega.{arith}
use lib.ListN.{length}
use Rattle.foundation.specs.Results.{Res, ok, refused}
use Rattle.foundation.proofs.ResultLaws.{gives-ok}
use Rattle.sheet.specs.Rows.{Row, texts, sheet_from}
use Rattle.declaration_rows.specs.Declarations.{Declarations}
use Rattle.schema.specs.Reading.{allowance}
use Rattle.schema.specs.Counting.{count_kind}
use Rattle.schema.specs.told.TypeSizes.{declarations_size}
use Rattle.inputs.specs.Inputs.{Input, kind_of}
use Rattle.inputs.specs.Outcomes.{Answer}
use Rattle.std.specs.Prelude.{Result, Ok, Err}
use Rattle.inputs.specs.told.OutcomesTold.{told}
use Rattle.inputs.specs.declared.outcome.Sizes.{Sizes}
use Rattle.inputs.specs.declared.outcome.Refusal.{Refusal}
use Rattle.members.specs.Lists.{section_rows}
use Rattle.members.specs.declared.list.Member.TheVariants as member
use Rattle.declarations.specs.Payload.{head_row, declaration_rows}
use Rattle.passes.specs.told.TaskTold.{sizes_of, Measures, RoomTold}
use Rattle.passes.specs.declared.Reply.{Reply}
use Rattle.metadata.specs.Read.{reading}
use Rattle.promises.specs.Promises.{longest_sheet}
use Rattle.promises.proofs.Accepted.{refusal_numbered}
use Rattle.promises.proofs.Longest.{sheet-short}
use Rattle.promises.proofs.Promised.{declarations-count}
use Rattle.promises.proofs.Sound.{reading_enters}
use Rattle.room.specs.Room.{lists_of, text_lengths, room_by, room_of, room}
use Rattle.room.specs.told.RoomTold.{others_bytes, parameters_left, TextsRise, texts_between, tells_room}
use Rattle.room.specs.declared.RoomAnswer.{RoomAnswer}
use Rattle.room.specs.declared.ListTexts.{ListTexts}
use Rattle.room.proofs.CountLaws as count
use Rattle.room.proofs.ListLaws.{append-size, cons_size, texts-add}

-- A refusal.
pub refused-room : (i : Input) (r : Result Reply Refusal) → RoomTold (kind_of i.k) (reading i) r → {x : Refusal} → r ≡ Err x → room i ≡ tells_room (Err x)
unfolding room
refused-room i r t {x} n = go (reading i) t
  where
    go : (z : Res (Declarations × ℕ)) → RoomTold (kind_of i.k) z r → room_by (kind_of i.k) z ≡ tells_room (Err x)
    go (ok read) m = let e = m.1 in cc
    go (refused c place) h =
        let e = h [] [] ∙ ap (λ (y : Result Reply Refusal). told (sizes_of y) [] []) n in
        rw (ap (λ (a : Answer). a.number) e, ap (λ (a : Answer). a.detail) e)

-- Both lengths, the types, the records by kind, and the text by lists.
abbrev accepted_told : (sizes : Sizes) (constructors functions properties parameters aliases : ℕ) → ListTexts → Result RoomAnswer Refusal
accepted_told sizes constructors functions properties parameters aliases lists = Ok (record {
  sizes = sizes;
  records = record {
    heads = 1;
    constructors = constructors;
    functions = functions;
    properties = properties;
    parameters = parameters;
    types = sizes.types;
    defaults = constructors + functions;
    aliases = aliases;
    counts = 1;
  };
  texts = lists;
})

-- the text by lists as the definition tells it
abbrev in_order : ListTexts → List ℕ
in_order x = x.properties ∷ x.functions ∷ x.constructors ∷ x.aliases ∷ x.head ∷ []

counts_same : (kind : ℕ) (d : Declarations) (n : ℕ) {s t y c f p q a : ℕ} {x : ListTexts} → let rows = declaration_rows kind d in
    s ≡ length (sheet_from 0 rows) → t ≡ length (texts rows) → y ≡ n → count_kind 1 rows ≡ 1 → count_kind 2 rows ≡ c → count_kind 3 rows ≡ f
    → count_kind 4 rows ≡ p → count_kind 5 rows ≡ q → count_kind 6 rows ≡ y → count_kind 7 rows ≡ c + f → count_kind 8 rows ≡ a → count_kind 9 rows ≡ 1
    → text_lengths (lists_of kind d) ≡ in_order x → room_of kind d n ≡ tells_room (accepted_told (record { sheet = s; text = t; types = y }) c f p q a x)
counts_same kind d n i j k e₁ e₂ e₃ e₄ e₅ e₆ e₇ e₈ e₉ l = rw (e₁, e₂, e₃, e₄, e₅, e₆, e₇, e₈, e₉, l, i, j, k)

-- What was read where no refusal is told, and its measures.
pub record Told (i : Input) (r : Reply) : Type 0 where
  pub declarations : Declarations
  pub left : ℕ
  pub reads : reading i ≡ ok (declarations, left)
  pub measures : Measures (kind_of i.k) declarations left r

pub accepted-room : (i : Input) (r : Result Reply Refusal) → RoomTold (kind_of i.k) (reading i) r → {reply : Reply} → r ≡ Ok reply → Told i reply
accepted-room i r t {reply} n = go (reading i) refl t
  where
    go : (x : Res (Declarations × ℕ)) → reading i ≡ x → RoomTold (kind_of i.k) x r → Told i reply
    go (ok read) e m =
        let f = m.1 in
        let same : m.0 ≡ reply = cc in
        record { declarations = read.0; left = read.1; reads = e; measures = subst (Measures (kind_of i.k) read.0 read.1) same m.2 }
    go (refused c place) e h =
        let f = h [] [] ∙ ap (λ (y : Result Reply Refusal). told (sizes_of y) [] []) n in
        absurd (omega (arith, refusal_numbered c, ap (λ (a : Answer). a.number) f))

module _ (i : Input) (r : Reply) (t : Told i r) where
  abbrev d : Declarations
  d = t.declarations

  abbrev rows : List Row
  rows = declaration_rows (kind_of i.k) d

  sheet-is : r.sizes.sheet ≡ length (sheet_from 0 rows)
  sheet-is = ap (λ (o : Sizes). o.sheet) t.measures.sizes

  text-is : r.sizes.text ≡ length (texts rows)
  text-is = ap (λ (o : Sizes). o.text) t.measures.sizes

  types_are : r.sizes.types ≡ allowance - t.left
  types_are = ap (λ (o : Sizes). o.types) t.measures.sizes

  -- the types are those of the declarations, and so the records of kind 6
  types-declared : r.sizes.types ≡ declarations_size d
  types-declared =
      let entered : declarations_size d + t.left ≡ allowance = gives-ok (λ x. declarations_size x.0 + x.1 ≡ allowance) t.reads (reading_enters i) in
      omega (arith, types_are)

  whole : r.sizes.sheet ≡ others_bytes r.sizes r.sections + 6 * count_kind 5 rows
  whole =
      omega (
        arith,
        sheet-is,
        types-declared,
        t.measures.constructor_count,
        t.measures.function_count,
        t.measures.property_count,
        t.measures.alias_count,
        count.sheet-by-kinds (kind_of i.k) d,
      )

  pub others-within : others_bytes r.sizes r.sections ≤ r.sizes.sheet
  others-within = omega (arith, whole)

  pub sheet-within : r.sizes.sheet ≤ longest_sheet
  sheet-within = omega (arith, sheet-is, sheet-short i d t.left t.reads)

  abbrev cs : List Row
  cs = section_rows member.Constructor d

  abbrev fs : List Row
  fs = section_rows member.Function d

  abbrev ps : List Row
  ps = section_rows member.Property d

  abbrev first : Row
  first = head_row (kind_of i.k) d

  -- where the text of each list ends
  constructors-end : r.sections.constructors.state.text ≡ r.sections.head.text + length (texts cs)
  constructors-end = omega (arith, t.measures.head_text, t.measures.constructors_text, cons_size first cs)

  functions-end : r.sections.functions.state.text ≡ r.sections.constructors.state.text + length (texts fs)
  functions-end =
      omega (arith, t.measures.constructors_text, t.measures.functions_text, cons_size first cs, cons_size first (cs ++ fs), append-size cs fs)

  properties-end : r.sections.properties.state.text ≡ r.sections.functions.state.text + length (texts ps)
  properties-end =
      omega (
        arith,
        t.measures.functions_text,
        t.measures.properties_text,
        cons_size first (cs ++ fs),
        append-size cs fs,
        cons_size first (cs ++ (fs ++ ps)),
        append-size cs (fs ++ ps),
        append-size fs ps,
      )

  aliases-end : r.sizes.text ≡ r.sections.properties.state.text + length (texts (section_rows member.Alias d))
  aliases-end =
      omega (arith, text-is, texts-add (kind_of i.k) d, t.measures.head_text, constructors-end, functions-end, properties-end)

  pub texts-rise : TextsRise r.sizes.text r.sections
  texts-rise = (omega (arith, constructors-end), omega (arith, functions-end), omega (arith, properties-end), omega (arith, aliases-end))

  lists-between : text_lengths (lists_of (kind_of i.k) d) ≡ in_order (texts_between r.sizes.text r.sections)
  lists-between =
      let b = r.sections in
      let properties : length (texts ps) ≡ b.properties.state.text - b.functions.state.text = omega (arith, properties-end) in
      let functions : length (texts fs) ≡ b.functions.state.text - b.constructors.state.text = omega (arith, functions-end) in
      let constructors : length (texts cs) ≡ b.constructors.state.text - b.head.text = omega (arith, constructors-end) in
      let aliases : length (texts (section_rows member.Alias d)) ≡ r.sizes.text - b.properties.state.text = omega (arith, aliases-end) in
      rw (properties, functions, constructors, aliases, ← t.measures.head_text)

  pub told-room : {parameters : ℕ} → parameters ≡ parameters_left r.sizes r.sections → {lists : ListTexts}
      → lists ≡ texts_between r.sizes.text r.sections
      → room i
      ≡ tells_room (accepted_told r.sizes r.sections.constructors.count r.sections.functions.count r.sections.properties.count parameters r.sections.aliases.count lists)
  unfolding room
  told-room e f =
      let kind = kind_of i.k in
      let m = t.measures in
      ap (room_by kind) t.reads
      ∙ counts_same kind d (allowance - t.left) sheet-is text-is types_are (count.heads kind d) (count.constructors kind d ∙ sym m.constructor_count)
      (count.functions kind d ∙ sym m.function_count) (count.properties kind d ∙ sym m.property_count)
      (count.sixth r.sizes.sheet (others_bytes r.sizes r.sections) (count_kind 5 rows) whole ∙ sym e)
      (declarations-count kind d ∙ sym types-declared) (omega (arith, count.defaults kind d, m.constructor_count, m.function_count))
      (count.aliases kind d ∙ sym m.alias_count) (count.alias-counts kind d)
      (lists-between ∙ ap in_order (sym f))
