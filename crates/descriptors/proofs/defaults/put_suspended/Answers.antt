use native.Mathlib.Omega.{arith}
use Rattle.erasure.specs.declared.Class.TheVariants as classes
use Rattle.erasure.specs.declared.Part.TheVariants as parts
use Rattle.erasure.proofs.PartLaws.{part-short}
use Rattle.descriptors.proofs.FunctionLaws.{suspended_put}
use Rattle.descriptors.proofs.defaults.put_suspended.Goals as goal

pub overflow_add-at : goal.overflow_add-at
overflow_add-at c = omega (arith, c.requires, c.put_part-first.ensures.size, part-short parts.Continuation)

pub overflow_add-at-2 : goal.overflow_add-at-2
overflow_add-at-2 c = omega (arith, c.requires, c.put_part-first.ensures.size, part-short parts.Continuation)

pub overflow_add-at-3 : goal.overflow_add-at-3
overflow_add-at-3 c = omega (arith, c.requires, c.put_part-first.ensures.size, part-short parts.Continuation)

pub overflow_add-result : goal.overflow_add-result
overflow_add-result c = omega (arith, c.put_part-first.ensures.size, part-short parts.Continuation)

pub overflow_add-result-2 : goal.overflow_add-result-2
overflow_add-result-2 c = omega (arith, c.put_part-first.ensures.size, part-short parts.Continuation, c.put_part-last.ensures.size, part-short (parts.Class classes.Object))

pub returns : goal.returns
returns c = suspended_put c.put_part-first.ensures c.put.ensures c.put_part-last.ensures
