use native.Mathlib.Omega.{arith}
use Rattle.declaration_rows.proofs.WrittenLaws.{default-put, kind-sheet, kind-text}
use Rattle.declaration_rows.proofs.put_default.Goals as goal

pub overflow_add-out : goal.overflow_add-out
overflow_add-out c = let e = kind-sheet 7 c.put_kind.ensures.written in omega (arith, c.requires)

pub overflow_add-out-2 : goal.overflow_add-out-2
overflow_add-out-2 c = let e = kind-text 7 c.put_kind.ensures.written in omega (arith, c.requires)

pub returns-clause-written : goal.returns-clause-written
returns-clause-written c = λ d T e q. default-put c.put_kind.ensures.written d e q c.put_ref.ensures
