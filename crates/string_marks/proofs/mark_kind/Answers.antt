use mathlib.Core.Path.{sym, subst, ◌∙◌}
use mathlib.Core.List.{List}
use Prim.Native.Nat.{ℕ}
use Rattle.inputs.specs.told.KindTold.{kind_number}
use Rattle.string_marks.specs.told.MarksTold.{DecodedMarked, KindMarked}
use Rattle.string_marks.proofs.UsedLaws.{carrying-marks, bare-marks}
use Rattle.string_marks.proofs.mark_kind.Goals as goal

pub returns-then-carries_declarations : goal.returns-then-carries_declarations
returns-then-carries_declarations c =
    let u = c.args.units.now in
    let k = kind_number c.args.kind in
    carrying-marks k u.d1.now u.d2.now u.ends.now _ (sym c.carries_declarations.ensures ∙ c.if-carries_declarations.true) c.mark_in_frame.new.used
    (subst (λ (z : List ℕ). DecodedMarked k u.d1.now u.d2.now u.ends.now z c.mark_in_frame.new.used) (c.fill.ensures.after λ y q. q) c.mark_in_frame.ensures)

pub returns-else-carries_declarations : goal.returns-else-carries_declarations
returns-else-carries_declarations c =
    let u = c.args.units.now in
    let k = kind_number c.args.kind in
    subst (λ (z : List ℕ). KindMarked k u.d1.now u.d2.now u.ends.now z c.fill.new.self) (c.fill.ensures.after λ y q. q)
    (bare-marks k u.d1.now u.d2.now u.ends.now c.fill.new.self (sym c.carries_declarations.ensures ∙ c.if-carries_declarations.false))
