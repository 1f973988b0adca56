-- The arguments of a type, as rows and counted, and how each is read.
-- Assumes nothing.
use mathlib.Core.Path.{◌≡◌, refl, ap, sym, subst, ◌∙◌}
use mathlib.Core.List.{List, [], ◌∷◌, ◌++◌, append-nil}
use mathlib.Core.Option.{none, some}
use Prim.Native.Nat.{ℕ, suc}
use native.Mathlib.Omega.{arith}
use borrow.Author.Tests.{ne_eqb}
use lib.ListN.{length}
use Rattle.foundation.specs.Choices.{map_option}
use Rattle.foundation.specs.Results.{ok, ◌from◌}
use Rattle.fields.specs.Fields.{Type-Argument-projection, Type-Argument-type, Type-Argument-type_id}
use Rattle.wire.specs.Wire.{Message, cut}
use Rattle.wire.specs.Messages.{index, bytes_of}
use Rattle.messages.specs.told.Asked.{FoundTold, number_told, number_in, piece_in, piece_told, PieceInside, BytesTold, index_told, index_in}
use Rattle.messages.proofs.FindLaws.{number_is, index_is, piece_is}
use Rattle.sheet.specs.Rows.{Row, row}
use Rattle.declaration_rows.specs.Declarations.{star, Argument, projected, blank, types_of, count_of}
use Rattle.declaration_rows.specs.Rows.{argument_role, type_cells, types_rows}
use Rattle.schema.specs.Reading.{pure, ◌>>=◌, enter, Scope}
use Rattle.schema.specs.Types.{Walk, type_in, projection_of, projection_in, argument_in}
use Rattle.schema.specs.told.ArgumentTold.{projection_number, NoStar, ArgumentHeadIs, ArgumentHeadInside, ArgumentHeadTold}
use Rattle.schema.specs.told.TypesTold.{rows_in}
use Rattle.schema.specs.declared.argument.Projection.{Projection}
use Rattle.schema.specs.declared.argument.Projection.TheVariants as projection
use Rattle.schema.specs.declared.argument.ArgumentHead.{ArgumentHead}
use Rattle.schema.specs.declared.argument.ArgumentHead.TheVariants as argument
use Rattle.std.specs.declared.option.Option.{Option}
use Rattle.std.specs.declared.option.Option.TheVariants.{Some, None}
use Rattle.foundation.specs.declared.Span.{Span}
use Rattle.wire.specs.declared.WireValue.{WireValue}

-- The rows of an argument and of those after it, and how many they are.
pub types_cons : (role : ℕ) (a : Argument) (more : List Argument)
    → rows_in role a.projection a.type ++ types_rows role (types_of more) ≡ types_rows role (types_of (a ∷ more))
unfolding types_rows
types_cons role a more =
    let head = row 6 (type_cells role a.type.nullable a.type.name (count_of a.type.arguments) a.projection) in
    ap (λ (rs : List Row). head ∷ (rs ++ types_rows role (types_of more))) (append-nil (types_rows argument_role a.type.arguments))

pub types-many : (more : List Argument) → count_of (types_of more) ≡ length more
types-many [] = refl
types-many (a ∷ more) = ap suc (types-many more)

-- A star, and any other argument.
module _ (walk : Walk) (s : Scope) (d : ℕ) (m : Message) where
  pub argument-star : projection_in m ≡ star → argument_in walk s d m ≡ enter (pure (some (projected star blank)))
  unfolding argument_in
  argument-star h = rw h

  pub argument-typed : {p : ℕ} → NoStar p m
      → argument_in walk s d m ≡ (type_in walk s d Type-Argument-type Type-Argument-type_id m >>= λ t. pure (map_option (projected p) t))
  unfolding argument_in
  argument-typed {p} n = rw (n.is, ne_eqb p star n.no-star)

-- An argument that is no star.
abbrev pub Typed : ℕ → List ℕ → Type 0
Typed base msg = (m : Message) → cut (◌from◌ base msg) ≡ ok m → (p : ℕ) × NoStar p m

-- What an argument's own fields tell.
module _ (base : ℕ) (msg : List ℕ) {r : ArgumentHead} (t : ArgumentHeadTold base msg r) where
  head-is : {y : ArgumentHead} → r ≡ y → (m : Message) → cut (◌from◌ base msg) ≡ ok m → ArgumentHeadIs base msg m y
  head-is g m k = subst (ArgumentHeadIs base msg m) g (t.is m k)

  pub star-is : r ≡ argument.Star → (m : Message) → cut (◌from◌ base msg) ≡ ok m → projection_in m ≡ star
  star-is g m k = head-is g m k

  module _ {p : Projection} {b : Span} (g : r ≡ argument.Inline p b) where
    pub inline-typed : (m : Message) → cut (◌from◌ base msg) ≡ ok m → NoStar (projection_number p) m
    inline-typed m k = (head-is g m k).0

    pub inline-bytes : BytesTold base msg Type-Argument-type (Some b)
    inline-bytes = record { is = λ m k. (head-is g m k).1; inside = subst (ArgumentHeadInside msg) g t.inside }

  module _ {p : Projection} {i : ℕ} (g : r ≡ argument.ByIndex p i) where
    pub indexed-typed : (m : Message) → cut (◌from◌ base msg) ≡ ok m → NoStar (projection_number p) m
    indexed-typed m k = (head-is g m k).0

    pub indexed-bytes : BytesTold base msg Type-Argument-type None
    indexed-bytes = record { is = λ m k. (head-is g m k).1; inside = tt }

    pub indexed-index : (m : Message) → cut (◌from◌ base msg) ≡ ok m → index Type-Argument-type_id m ≡ index_told (Some i)
    indexed-index m k = (head-is g m k).2

  module _ (g : r ≡ argument.Nothing) where
    pub nothing-typed : Typed base msg
    nothing-typed m k = (projection_in m, (head-is g m k).0)

    pub nothing-bytes : BytesTold base msg Type-Argument-type None
    nothing-bytes = record { is = λ m k. (head-is g m k).1; inside = tt }

    pub nothing-index : (m : Message) → cut (◌from◌ base msg) ≡ ok m → index Type-Argument-type_id m ≡ index_told None
    nothing-index m k = (head-is g m k).2

star-same : (p : Projection) → projection_number p ≡ star → p ≡ projection.Star
star-same projection.In h = absurd (omega arith)
star-same projection.Out h = absurd (omega arith)
star-same projection.Invariant h = absurd (omega arith)
star-same projection.Star h = refl

-- What an argument's own fields tell, from what was found of the three.
module _ (base : ℕ) (msg : List ℕ) {one two three : Option WireValue} (a : FoundTold base msg Type-Argument-projection one)
    (b : FoundTold base msg Type-Argument-type two) (c : FoundTold base msg Type-Argument-type_id three)
    (p : Projection) (e : projection_number p ≡ projection_of (number_told (number_in one))) where
  projection-is : (m : Message) → cut (◌from◌ base msg) ≡ ok m → projection_in m ≡ projection_number p
  unfolding projection_in
  projection-is m k = ap projection_of (number_is base msg Type-Argument-projection m k one a) ∙ sym e

  pub head-star : p ≡ projection.Star → ArgumentHeadTold base msg argument.Star
  head-star h = record { is = λ m k. projection-is m k ∙ ap projection_number h; inside = tt }

  module _ (unequal : p ≡ projection.Star → ⊥) {x : Option Span} (q : x ≡ piece_in two) where
    bytes-are : BytesTold base msg Type-Argument-type x
    bytes-are = piece_is base msg Type-Argument-type two b q

    other : projection_number p ≡ star → ⊥
    other h = unequal (star-same p h)

    typed-is : (m : Message) → cut (◌from◌ base msg) ≡ ok m → NoStar (projection_number p) m
    typed-is m k = record { is = projection-is m k; no-star = other }

    pub head-inline : {u : Span} → x ≡ Some u → ArgumentHeadTold base msg (argument.Inline p u)
    head-inline g = record {
      is = λ m k. (typed-is m k, bytes-are.is m k ∙ ap (piece_told base msg) g);
      inside = subst (PieceInside msg) g bytes-are.inside;
    }

    none-inline : x ≡ None → (m : Message) → cut (◌from◌ base msg) ≡ ok m → bytes_of Type-Argument-type m ≡ none
    none-inline g m k = bytes-are.is m k ∙ ap (piece_told base msg) g

    module _ (g : x ≡ None) {y : Option ℕ} (i : index_told y ≡ index_in three) where
      index-here : {z : Option ℕ} → y ≡ z → (m : Message) → cut (◌from◌ base msg) ≡ ok m → index Type-Argument-type_id m ≡ index_told z
      index-here h m k = index_is base msg Type-Argument-type_id m k three c ∙ sym i ∙ ap index_told h

      pub head-indexed : {n : ℕ} → y ≡ Some n → ArgumentHeadTold base msg (argument.ByIndex p n)
      head-indexed h = record { is = λ m k. (typed-is m k, none-inline g m k, index-here h m k); inside = tt }

      pub head-nothing : y ≡ None → ArgumentHeadTold base msg argument.Nothing
      head-nothing h = record {
        is = λ m k. (record { is = refl; no-star = λ s. other (sym (projection-is m k) ∙ s) }, none-inline g m k, index-here h m k);
        inside = tt;
      }
