-- The text by lists: the lengths add up, and on a sheet's records each list's text is that of its members and of all they own.
-- Assumes nothing.
use mathlib.Core.Path.{◌≡◌, refl, sym, ap, ◌∙◌}
use mathlib.Core.Bool.{Bool, true, false}
use mathlib.Core.List.{List, [], ◌∷◌, ◌++◌, map, append-nil, append_assoc}
use mathlib.Core.Option.{Option, none, some}
use Prim.Native.Nat.{ℕ, ◌+◌}
use native.Mathlib.Omega.{arith}
use lib.Dec.{eqb}
use lib.ListN.{length, length-append}
use Rattle.std.specs.Prelude.{if◌then◌else◌}
use Rattle.foundation.specs.Choices.{All, concat}
use Rattle.foundation.proofs.ChoiceLaws.{all_append}
use Rattle.sheet.specs.Rows.{Row, body_text, texts}
use Rattle.sheet.proofs.RowLaws.{texts-append}
use Rattle.declaration_rows.specs.Declarations.{Types, no_types, and_type, Ty, single, Parameter, Constructor, Function, Property, Alias, Declarations}
use Rattle.declaration_rows.specs.Rows.{argument_role, parameter_role, vararg_role, receiver_role, return_role, underlying_role, expanded_role, types_rows, type_rows, parameter_rows, parameters_rows, constructor_rows, function_rows, property_rows, alias_rows, aliases_rows}
use Rattle.descriptors.specs.Defaults.{constructor_parts, function_parts, default_row, closed_constructor, closed_function}
use Rattle.members.specs.Lists.{section_rows}
use Rattle.members.specs.declared.list.Member.TheVariants as member
use Rattle.declarations.specs.Payload.{head_row, declaration_rows}
use Rattle.room.specs.Room.{lists_of, text_lengths, sum}
use Rattle.room.specs.Exact.{is_owned, member_text, member_texts}

pub append-size : (rs qs : List Row) → length (texts (rs ++ qs)) ≡ length (texts rs) + length (texts qs)
append-size rs qs = ap (λ (l : List ℕ). length l) (texts-append rs qs) ∙ length-append (texts rs) (texts qs)

row-size : (r : Row) (rows : List Row) → length (texts (r ∷ rows)) ≡ length (body_text r.body) + length (texts rows)
unfolding texts
row-size r rows = length-append (body_text r.body) (texts rows)

no_size : length (texts []) ≡ 0
unfolding texts
no_size = refl

pub cons_size : (r : Row) (rows : List Row) → length (texts (r ∷ rows)) ≡ length (texts (r ∷ [])) + length (texts rows)
cons_size r rows = omega (arith, row-size r rows, row-size r [], no_size)

-- n where it counts
abbrev part : Bool → ℕ → ℕ
part b n = if b then n else 0

part_none : (b : Bool) → part b 0 ≡ 0
part_none true = refl
part_none false = refl

part_add : (b : Bool) (m n : ℕ) → part b (m + n) ≡ part b m + part b n
part_add true m n = refl
part_add false m n = refl

abbrev Owned : Row → Type 0
Owned r = is_owned r.kind ≡ true

-- The text of one kind of members, where rows stand before the others.
module _ (k : ℕ) where
  owned-text : (before : ℕ) (rows rest : List Row) → All Owned rows
      → member_text k before (rows ++ rest) ≡ part (eqb before k) (length (texts rows)) + member_text k before rest
  owned-text before [] rest h = rw no_size (omega (arith, part_none (eqb before k)))
  owned-text before (r ∷ rows) rest h =
      rw (h.0, row-size r rows, part_add (eqb before k) (length (body_text r.body)) (length (texts rows)))
      (omega (arith, owned-text before rows rest h.1))

  member-text : (before : ℕ) (r : Row) (own rest : List Row) → is_owned r.kind ≡ false → All Owned own
      → member_text k before ((r ∷ own) ++ rest) ≡ part (eqb r.kind k) (length (texts (r ∷ own))) + member_text k r.kind rest
  member-text before r own rest n h =
      rw (n, row-size r own, part_add (eqb r.kind k) (length (body_text r.body)) (length (texts own)))
      (omega (arith, owned-text r.kind own rest h))

  -- rows that begin with a member: what stands before them doesn't matter
  abbrev Begins : List Row → Type 0
  Begins rest = (b c : ℕ) → member_text k b rest ≡ member_text k c rest

  -- a list of members of kind m, each with all it owns
  module _ {A : Type 0} (m : ℕ) (rows : A → List Row) (each : (a : A) (before : ℕ) (rest : List Row)
      → member_text k before (rows a ++ rest) ≡ part (eqb m k) (length (texts (rows a))) + member_text k m rest) where
    section-text : (xs : List A) (before : ℕ) (rest : List Row) → Begins rest
        → member_text k before (concat (map rows xs) ++ rest) ≡ part (eqb m k) (length (texts (concat (map rows xs)))) + member_text k 0 rest
    section-text [] before rest h = rw no_size (omega (arith, part_none (eqb m k), h before 0))
    section-text (x ∷ xs) before rest h =
        let more = concat (map rows xs) in
        rw (append_assoc (rows x) more rest, append-size (rows x) more, part_add (eqb m k) (length (texts (rows x))) (length (texts more)))
        (omega (arith, each x before (more ++ rest), section-text xs m rest h))

    section-begins : (xs : List A) (rest : List Row) → Begins rest → Begins (concat (map rows xs) ++ rest)
    section-begins xs rest h b c = section-text xs b rest h ∙ sym (section-text xs c rest h)

types-owned : (role : ℕ) (ts : Types) → All Owned (types_rows role ts)
unfolding types_rows
types-owned role no_types = tt
types-owned role (and_type projection nullable name arguments after) = (
  refl,
  all_append Owned (types_rows argument_role arguments) (types_rows role after) (types-owned argument_role arguments) (types-owned role after),
)

type-owned : (role : ℕ) (t : Option Ty) → All Owned (type_rows role t)
type-owned role none = tt
type-owned role (some t) = types-owned role (single t)

both_owned : (role other : ℕ) (t u : Option Ty) → All Owned (type_rows role t ++ type_rows other u)
both_owned role other t u = all_append Owned (type_rows role t) (type_rows other u) (type-owned role t) (type-owned other u)

parameter_owned : (p : Parameter) → All Owned (parameter_rows p)
unfolding parameter_rows
parameter_owned p = (refl, both_owned parameter_role vararg_role p.type p.vararg_element)

parameters-owned : (ps : List Parameter) → All Owned (parameters_rows ps)
parameters-owned [] = tt
parameters-owned (p ∷ ps) = all_append Owned (parameter_rows p) (parameters_rows ps) (parameter_owned p) (parameters-owned ps)

-- Each member begins with its record, and owns the rest.
module _ (k : ℕ) where
  constructor-text : (c : Constructor) (before : ℕ) (rest : List Row)
      → member_text k before (closed_constructor c ++ rest) ≡ part (eqb 2 k) (length (texts (closed_constructor c))) + member_text k 2 rest
  unfolding closed_constructor constructor_rows
  constructor-text c before rest =
      let default = default_row (constructor_parts c) ∷ [] in
      member-text k before _ (parameters_rows c.parameters ++ default) rest refl
      (all_append Owned (parameters_rows c.parameters) default (parameters-owned c.parameters) (refl, tt))

  function-text : (f : Function) (before : ℕ) (rest : List Row)
      → member_text k before (closed_function f ++ rest) ≡ part (eqb 3 k) (length (texts (closed_function f))) + member_text k 3 rest
  unfolding closed_function function_rows
  function-text f before rest =
      let default = default_row (function_parts f) ∷ [] in
      let own = parameters_rows f.parameters ++ (type_rows receiver_role f.receiver ++ type_rows return_role f.returned) in
      member-text k before _ (own ++ default) rest refl
      (all_append Owned own default
      (all_append Owned (parameters_rows f.parameters) _ (parameters-owned f.parameters) (both_owned receiver_role return_role f.receiver f.returned))
      (refl, tt))

  property-text : (p : Property) (before : ℕ) (rest : List Row)
      → member_text k before (property_rows p ++ rest) ≡ part (eqb 4 k) (length (texts (property_rows p))) + member_text k 4 rest
  unfolding property_rows
  property-text p before rest = member-text k before _ _ rest refl (both_owned receiver_role return_role p.receiver p.type)

  alias-text : (a : Alias) (before : ℕ) (rest : List Row)
      → member_text k before (alias_rows a ++ rest) ≡ part (eqb 8 k) (length (texts (alias_rows a))) + member_text k 8 rest
  unfolding alias_rows
  alias-text a before rest = member-text k before _ _ rest refl (both_owned underlying_role expanded_role a.underlying a.expanded)

module _ (kind : ℕ) (d : Declarations) where
  abbrev cs : List Row
  cs = section_rows member.Constructor d

  abbrev fs : List Row
  fs = section_rows member.Function d

  abbrev ps : List Row
  ps = section_rows member.Property d

  abbrev als : List Row
  als = section_rows member.Alias d

  abbrev head : ℕ
  head = length (texts (head_row kind d ∷ []))

  aliases-size : length (texts (aliases_rows d.aliases)) ≡ length (texts als)
  unfolding texts body_text
  aliases-size = refl

  -- All lists and the head are the whole text.
  pub texts-add : sum (text_lengths (lists_of kind d)) ≡ length (texts (declaration_rows kind d))
  unfolding declaration_rows
  texts-add =
      omega (
        arith,
        cons_size (head_row kind d) (cs ++ (fs ++ (ps ++ aliases_rows d.aliases))),
        append-size cs (fs ++ (ps ++ aliases_rows d.aliases)),
        append-size fs (ps ++ aliases_rows d.aliases),
        append-size ps (aliases_rows d.aliases),
        aliases-size,
      )

  module _ (k : ℕ) where
    abbrev after-functions : List Row
    after-functions = ps ++ aliases_rows d.aliases

    aliases-begin : Begins k (aliases_rows d.aliases)
    aliases-begin b c = refl

    aliases-text : member_text k 0 (aliases_rows d.aliases) ≡ part (eqb 8 k) (length (texts als))
    unfolding body_text
    aliases-text =
        omega (
          arith,
          part_none (eqb 9 k),
          ap (member_text k 9) (sym (append-nil als)) ∙ section-text k 8 alias_rows (alias-text k) d.aliases 9 [] (λ b c. refl),
        )

    properties-begin : Begins k after-functions
    properties-begin = section-begins k 4 property_rows (property-text k) d.properties (aliases_rows d.aliases) aliases-begin

    head-part : part (eqb 1 k) head ≡ part (eqb 1 k) (length (body_text (head_row kind d).body))
    head-part = ap (part (eqb 1 k)) (omega (arith, row-size (head_row kind d) [], no_size))

    -- what the members of a kind have on the sheet, whatever the kind
    list-text : member_text k 0 (declaration_rows kind d)
        ≡ part (eqb 1 k) head + part (eqb 2 k) (length (texts cs)) + part (eqb 3 k) (length (texts fs)) + part (eqb 4 k) (length (texts ps))
        + part (eqb 8 k) (length (texts als))
    unfolding declaration_rows
    list-text =
        omega (
          arith,
          head-part,
          section-text k 2 closed_constructor (constructor-text k) d.constructors 1 (fs ++ after-functions)
              (section-begins k 3 closed_function (function-text k) d.functions after-functions properties-begin),
          section-text k 3 closed_function (function-text k) d.functions 0 after-functions properties-begin,
          section-text k 4 property_rows (property-text k) d.properties 0 (aliases_rows d.aliases) aliases-begin,
          aliases-text,
        )

  -- Each list's text is that of the members of its kind and of all they own.
  pub lists-are : text_lengths (lists_of kind d) ≡ member_texts (declaration_rows kind d)
  lists-are =
      let properties : member_text 4 0 (declaration_rows kind d) ≡ length (texts ps) = omega (arith, list-text 4) in
      let functions : member_text 3 0 (declaration_rows kind d) ≡ length (texts fs) = omega (arith, list-text 3) in
      let constructors : member_text 2 0 (declaration_rows kind d) ≡ length (texts cs) = omega (arith, list-text 2) in
      let aliases : member_text 8 0 (declaration_rows kind d) ≡ length (texts als) = omega (arith, list-text 8) in
      let heads : member_text 1 0 (declaration_rows kind d) ≡ head = omega (arith, list-text 1) in
      rw (properties, functions, constructors, aliases, heads)
