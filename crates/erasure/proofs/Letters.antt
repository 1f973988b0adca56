-- The letters and boxes of the eight primitives, and what their names mean: the rows of JVMS table 4.3-A beside document 01's.
-- Assumes nothing.
use mathlib.Core.Path.{◌≡◌, refl}
use mathlib.Core.List.{[], ◌∷◌, map}
use Rattle.foundation.specs.Texts.{ascii}
use Rattle.erasure.specs.Erasure.{letter, primitive, primitive_array, look_up, meaning_of}
use Rattle.erasure.specs.told.ErasureTold.{primitives}

pub letters : map letter primitives ≡ ascii "ZBCSIJFD"
letters = refl

pub primitive-names : map (λ n. meaning_of (ascii n))
    ("kotlin.Boolean" ∷ "kotlin.Byte" ∷ "kotlin.Char" ∷ "kotlin.Short" ∷ "kotlin.Int" ∷ "kotlin.Long" ∷ "kotlin.Float" ∷ "kotlin.Double" ∷ [])
    ≡ map primitive primitives
unfolding look_up
primitive-names = refl

pub array-names : map (λ n. meaning_of (ascii n))
    ("kotlin.BooleanArray" ∷ "kotlin.ByteArray" ∷ "kotlin.CharArray" ∷ "kotlin.ShortArray" ∷ "kotlin.IntArray" ∷ "kotlin.LongArray"
    ∷ "kotlin.FloatArray" ∷ "kotlin.DoubleArray" ∷ [])
    ≡ map primitive_array primitives
unfolding look_up
array-names = refl
