use mathlib.Core.Path.{refl, subst, ap, ◌∙◌}
use Rattle.std.specs.Prelude.{Some}
use Rattle.record_names.specs.told.Named.{DecidedBytes}
use Rattle.record_names.proofs.SizedLaws.{words-none, words-absent, words-some}
use Rattle.record_names.proofs.sized.words_for.Goals as goal

pub returns-in_default : goal.returns-in_default
returns-in_default c = words-none c.args.bytes.now c.in_default.is

pub returns-in_default-built : goal.returns-in_default-built
returns-in_default-built c = words-absent c.args.bytes.now (c.in-Some.is ∙ ap Some c.in_default-built.is)

pub returns : goal.returns
returns c = let e = c.in-Some.is ∙ ap Some c.in-Some-built.is in words-some c.args.bytes.now e (subst DecidedBytes e c.requires.0) c.clipped_name-part.ensures c.qualified_bytes-class.ensures c.size_of-size.ensures refl c.words_of.ensures
