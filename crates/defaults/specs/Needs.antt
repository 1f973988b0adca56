-- Which types a default descriptor needs, which have a descriptor, and the texts and class names of its parts: the sentences of
-- document 01, "Descriptors". None of them goes by how a type is erased or printed, but the last two, on what is printed.
-- Assumes nothing.
use Rattle.std.specs.Prelude.{◌≡◌, ◌≢◌, Bool, List, [], ◌∷◌, ◌++◌, map, ℕ, if◌then◌else◌}
use Rattle.std.proofs.Math.Option.{Option, none, some}
use Rattle.foundation.specs.Choices.{concat}
use Rattle.foundation.specs.Texts.{Text, ascii}
use Rattle.characters.specs.Characters.{utf8}
use Rattle.names.specs.Records.{substituted}
use Rattle.declaration_rows.specs.Declarations.{Types, and_type, Ty, single, Constructor, Function}
use Rattle.schema.specs.Members.{bit_of}
use Rattle.erasure.specs.Erasure.{Erased, base, class, array_of, Returned, void, of_type, print, print_returned}
use Rattle.descriptors.specs.Defaults.{Parts}

-- Dots become slashes.
abbrev pub with_slashes : Text → Text
with_slashes = substituted 0x2e 0x2f

abbrev pub kotlin-Array : Text
kotlin-Array = ascii "kotlin/Array"

abbrev pub kotlin-Nothing : Text
kotlin-Nothing = ascii "kotlin/Nothing"

-- The first of some types has a descriptor: following first arguments through kotlin/Array ends in a named type other than
-- kotlin/Nothing and kotlin/Array. The arguments are the kept ones. What comes after the first doesn't matter, nor whether it is
-- nullable or what its projection is; where there is none, or it has no name, as a star has none, neither constructor fits.
pub data HasDescriptor : Types → Type 0 where
  ends : {projection : ℕ} {nullable : Bool} {name : Text} {arguments after : Types}
      → with_slashes name ≢ kotlin-Nothing
      → with_slashes name ≢ kotlin-Array
      → HasDescriptor (and_type projection nullable (some name) arguments after)
  through : {projection : ℕ} {nullable : Bool} {name : Text} {arguments after : Types}
      → with_slashes name ≡ kotlin-Array
      → HasDescriptor arguments
      → HasDescriptor (and_type projection nullable (some name) arguments after)

abbrev pub HasDescriptorTy : Ty → Type 0
HasDescriptorTy t = HasDescriptor (single t)

-- A needed type that isn't there has no descriptor.
abbrev pub Has : Option Ty → Type 0
Has none = ⊥
Has (some t) = HasDescriptorTy t

-- Needed are the types of the receiver where it has one, of every parameter and, unless it suspends, of the return.
-- Bit 13 of a function's flags: it suspends.
unfoldable pub needed : Function → List (Option Ty)
needed f =
    (if f.has_receiver then f.receiver ∷ [] else [])
    ++ map (λ p. p.type) f.parameters
    ++ (if bit_of 13 f.flags then [] else f.returned ∷ [])

-- A constructor needs the types of its parameters; it returns V.
unfoldable pub needed_by_constructor : Constructor → List (Option Ty)
needed_by_constructor c = map (λ p. p.type) c.parameters

-- the texts of the parts, the last last
unfoldable pub part_texts : Parts → List (List ℕ)
part_texts p = map print p.before ++ (print_returned p.last ∷ [])

-- the class name that a part holds between the L and the ; that printing adds, in UTF-8 as it is printed
abbrev pub erased_name : Erased → List (List ℕ)
erased_name (base p) = []
erased_name (class n) = utf8 n ∷ []
erased_name (array_of e) = erased_name e

abbrev pub name_in_returned : Returned → List (List ℕ)
name_in_returned void = []
name_in_returned (of_type e) = erased_name e

-- the class names of all parts
unfoldable pub part_names : Parts → List (List ℕ)
part_names p = concat (map erased_name p.before) ++ name_in_returned p.last
