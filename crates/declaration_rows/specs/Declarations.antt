-- The declarations that one class's metadata comes to.
-- Assumes nothing.
use Rattle.std.specs.Prelude.{Bool, false, List, [], ◌∷◌, ℕ, suc}
use Rattle.std.proofs.Math.Option.{Option, none}
use Rattle.foundation.specs.Texts.{Text}

-- A projection, by the numbers of metadata.proto's Type.Argument.Projection: 0 in, 1 out, 2 invariant, 3 star. A type that is no argument is
-- invariant.
abbrev pub invariant : ℕ
invariant = 2

abbrev pub star : ℕ
star = 3

-- Types one after the other, each with its projection, whether it is nullable, its name, and its kept arguments.
pub data Types : Type 0 where
  no_types : Types
  and_type : ℕ → Bool → Option Text → Types → Types → Types

pub record Ty : Type 0 where
  pub nullable : Bool
  pub name : Option Text
  pub arguments : Types

-- An argument of a type: its projection, and the type that it stands with.
pub record Argument : Type 0 where
  pub projection : ℕ
  pub type : Ty

abbrev pub projected : ℕ → Ty → Argument
projected projection t = record { projection = projection; type = t }

-- A star is kept, and is blank: it has no name, no arguments, and is not nullable.
abbrev pub blank : Ty
blank = record { nullable = false; name = none; arguments = no_types }

-- the types before some others, the first with its projection
abbrev pub with_type : ℕ → Ty → Types → Types
with_type projection t after = and_type projection t.nullable t.name t.arguments after

abbrev pub types_of : List Argument → Types
types_of [] = no_types
types_of (a ∷ more) = with_type a.projection a.type (types_of more)

-- a type by itself
abbrev pub single : Ty → Types
single t = with_type invariant t no_types

-- how many stand side by side
abbrev pub count_of : Types → ℕ
count_of no_types = 0
count_of (and_type projection nullable name arguments after) = suc (count_of after)

pub record Signature : Type 0 where
  pub name : Text
  pub descriptor : Text

abbrev pub signed : Text → Text → Signature
signed n d = record { name = n; descriptor = d }

-- A parameter may have no name: it is kept all the same.
pub record Parameter : Type 0 where
  pub name : Option Text
  pub declares_default : Bool
  pub type : Option Ty
  pub vararg_element : Option Ty

pub record Constructor : Type 0 where
  pub flags : ℕ
  pub parameters : List Parameter
  pub signature : Option Signature

pub record Function : Type 0 where
  pub name : Text
  pub flags : ℕ
  pub parameters : List Parameter
  pub has_receiver : Bool
  pub receiver : Option Ty
  pub signature : Option Signature
  pub returned : Option Ty

pub record Property : Type 0 where
  pub name : Text
  pub flags : ℕ
  pub field : Option Signature
  pub getter : Option Signature
  pub setter : Option Signature
  pub getter_is_default : Bool
  pub setter_is_default : Bool
  pub has_receiver : Bool
  pub receiver : Option Ty
  pub type : Option Ty

-- A type alias: the type that it is declared as, and that type with every alias in it expanded.
pub record Alias : Type 0 where
  pub name : Text
  pub flags : ℕ
  pub underlying : Option Ty
  pub expanded : Option Ty

pub record Declarations : Type 0 where
  pub name : Option Text
  pub flags : ℕ
  pub constructors : List Constructor
  pub functions : List Function
  pub properties : List Property
  pub aliases : List Alias
