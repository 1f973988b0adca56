use Rattle.lookup.proofs.QualifiedLaws.{wrapped-empty, wrapped-single, wrapped-other, wrapped-is}
use Rattle.lookup.proofs.qualified.is_wrapped.Goals as goal
use Rattle.lookup.proofs.qualified.is_wrapped.Goals.{else-start-end-via-then-start-end+then-start-end-2+else-units-start-eq76, else-start-end-via-then-start-end+else-start-end-2, else-start-end-via-else-start-end}

pub returns-then-units-start-eq76 : goal.returns-then-units-start-eq76
returns-then-units-start-eq76 c = wrapped-is c.args.units.now c.args.part.start c.args.part.end c.requires c.if-start-end-2.true c.if-units-start-eq76.true

pub returns : goal.returns
returns c =
    let l = c.args.units.now in
    elim c.else-start-end.branch [
      | else-start-end-via-then-start-end+then-start-end-2+else-units-start-eq76 w ↦ wrapped-other l c.args.part.start c.args.part.end c.requires w.if-start-end-2.true w.if-units-start-eq76.false
      | else-start-end-via-then-start-end+else-start-end-2 w ↦ wrapped-single l c.args.part.start c.args.part.end w.if-start-end.true c.requires w.if-start-end-2.false
      | else-start-end-via-else-start-end w ↦ wrapped-empty l c.args.part.start c.args.part.end w.if-start-end.false
    ]
