use native.Mathlib.Omega.{arith}
use Rattle.declaration_rows.proofs.WrittenLaws.{default-absent, kind-sheet}
use Rattle.declaration_rows.proofs.put_default_absent.Goals as goal

pub overflow_add-out : goal.overflow_add-out
overflow_add-out c = let e = kind-sheet 7 c.put_kind.ensures.written in omega (arith, c.requires)

pub returns-clause-written : goal.returns-clause-written
returns-clause-written c = default-absent c.put_kind.ensures.written c.put_absent.ensures
