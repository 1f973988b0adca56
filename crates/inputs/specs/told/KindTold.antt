-- The metadata kinds by their numbers.
-- Assumes nothing.
use Rattle.std.specs.Prelude.{ℕ}
use Rattle.inputs.specs.declared.Kind.{Kind}
use Rattle.inputs.specs.declared.Kind.TheVariants as kind

abbrev pub kind_number : Kind → ℕ
kind_number kind.Class = 1
kind_number kind.FileFacade = 2
kind_number kind.SyntheticClass = 3
kind_number kind.MultiFileClassFacade = 4
kind_number kind.MultiFileClassPart = 5
kind_number (kind.Other n) = n
