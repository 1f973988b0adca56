use mathlib.Core.Path.{sym, ◌∙◌}
use Rattle.string_marks.proofs.NameMarks.{there, not_there}
use Rattle.string_marks.proofs.ReadingLaws.{signature-falls-back, signature-own, signature-short}
use Rattle.string_marks.proofs.member_lists.mark_signature.Goals.{then-falls_back-via-then-falls_back, then-falls_back-via-else-falls_back+then-is_some}
use Rattle.string_marks.proofs.member_lists.mark_signature.Goals as goal

pub returns-then-falls_back : goal.returns-then-falls_back
returns-then-falls_back c = elim c.then-falls_back.branch [
  | then-falls_back-via-then-falls_back w ↦ rw w.if-falls_back.true (signature-falls-back c.mark_name.ensures c.mark_name-then-falls_back.ensures)
  | then-falls_back-via-else-falls_back+then-is_some w ↦
      let t = there c.args.context.now.payload.now c.args.context.now.d2.now w.name_in.result (sym w.is_some.ensures ∙ w.if-is_some.true) in
      signature-own t.0 c.args.falls_back (λ s. w.name_in.ensures _ s) t.1 c.mark_name.ensures c.mark_name-then-falls_back.ensures
]

pub returns-else-is_some : goal.returns-else-is_some
returns-else-is_some c =
    let t = not_there c.args.context.now.payload.now c.args.context.now.d2.now c.name_in.result (sym c.is_some.ensures ∙ c.if-is_some.false) in
    rw c.if-falls_back.false (signature-short (λ s. c.name_in.ensures _ s) t c.mark_name.ensures)
