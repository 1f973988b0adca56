-- Erased parts, default descriptors, and the rows that they close.
-- Assumes nothing.
use Rattle.std.specs.Prelude.{Bool, List, [], ◌∷◌, ◌++◌, map, ℕ, if◌then◌else◌}
use Rattle.std.proofs.Math.Option.{Option, none}
use Rattle.foundation.specs.Choices.{if_some, map_option, both_of, every_of, concat}
use Rattle.foundation.specs.Texts.{ascii}
use Rattle.sheet.specs.Rows.{ref, Row, row}
use Rattle.declaration_rows.specs.Declarations.{Ty, Parameter, Constructor, Function}
use Rattle.schema.specs.Members.{bit_of}
use Rattle.declaration_rows.specs.Rows.{constructor_rows, function_rows}
use Rattle.erasure.specs.Erasure.{Erased, class, erased, Returned, void, of_type, erased_return, print, print_returned}

-- The erased parts: those before the last, and the last, which is the return's.
pub record Parts : Type 0 where
  pub before : List Erased
  pub last : Returned

abbrev pub parts : List Erased → Returned → Parts
parts es r = record { before = es; last = r }

-- a type that isn't there has no descriptor
abbrev pub erased_option : Option Ty → Option Erased
erased_option t = if_some t none erased

-- the types of the parameters, in order, of all of them
abbrev pub parameter_types : List Parameter → List (Option Ty)
parameter_types = map λ p. p.type

-- the types that stand before the return: the receiver's where there is one, and the parameters'
abbrev pub types_before : Function → List (Option Ty)
types_before f = if f.has_receiver then f.receiver ∷ parameter_types f.parameters else parameter_types f.parameters

-- Bit 13 of a function's flags: it suspends.
abbrev pub suspends : Function → Bool
suspends f = bit_of 13 f.flags

abbrev pub continuation_class : Erased
continuation_class = class (ascii "kotlin/coroutines/Continuation")

abbrev pub object : Erased
object = class (ascii "java/lang/Object")

-- A suspending function adds a continuation and returns Object.
abbrev pub suspended_parts : List Erased → Parts
suspended_parts es = parts (es ++ (continuation_class ∷ [])) (of_type object)

unfoldable pub function_parts : Function → Option Parts
function_parts f =
    let before = every_of (map erased_option (types_before f)) in
    if suspends f then map_option suspended_parts before else both_of parts before (if_some f.returned none erased_return)

-- A constructor returns V.
unfoldable pub constructor_parts : Constructor → Option Parts
constructor_parts c = map_option (λ es. parts es void) (every_of (map erased_option (parameter_types c.parameters)))

-- (, the parts before the last, ), the last
unfoldable pub descriptor : Parts → List ℕ
descriptor p = 0x28 ∷ (concat (map print p.before) ++ (0x29 ∷ print_returned p.last))

abbrev pub default_row : Option Parts → Row
default_row p = row 7 (ref (map_option descriptor p) ∷ [])

-- 7 closes each constructor and function.
unfoldable pub closed_constructor : Constructor → List Row
closed_constructor c = constructor_rows c ++ (default_row (constructor_parts c) ∷ [])

unfoldable pub closed_function : Function → List Row
closed_function f = function_rows f ++ (default_row (function_parts f) ∷ [])
