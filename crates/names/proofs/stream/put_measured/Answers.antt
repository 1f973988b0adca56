use mathlib.Core.Path.{sym, ◌∙◌}
use Rattle.names.proofs.MeasuredLaws.{measured_copied}
use Rattle.names.proofs.stream.put_measured.Goals as goal

pub returns-then-is_plain : goal.returns-then-is_plain
returns-then-is_plain g c =
    let a = c.args in
    measured_copied g.met.E.Encoded.laws a.change (c.replaces_none.ensures c.if-replaces_none.true) _ (sym c.is_plain.ensures ∙ c.if-is_plain.true) a.size a.at
    (sym c.size.ensures ∙ c.if-size.true) a.area.now c.copy_plain.ensures
