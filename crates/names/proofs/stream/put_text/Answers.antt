use mathlib.Core.Path.{sym, ◌∙◌}
use Rattle.characters.specs.told.Plain.{shown}
use Rattle.names.proofs.AsciiLaws.{plain-bytes, shown-put, shown-past, shown-fits}
use Rattle.names.proofs.WidthLaws.{put-past}
use Rattle.names.proofs.stream.put_text.Goals as goal

pub overflow_add-next : goal.overflow_add-next
overflow_add-next g c = let a = c.args in let e = g.E.Encoded in record { fits = shown-fits (shown a.change.dots a.change.slashes) (e.units a.text) a.at (plain-bytes a.change (c.replaces_none.ensures c.if-replaces_none.true) g.met.E.Encoded.laws (e.units a.text) (sym c.is_plain.ensures ∙ c.if-is_plain.true)) (sym c.size.ensures) _ c.requires }

pub returns-then-area-at : goal.returns-then-area-at
returns-then-area-at g c = let a = c.args in let e = g.E.Encoded in shown-past (shown a.change.dots a.change.slashes) (e.units a.text) a.at (plain-bytes a.change (c.replaces_none.ensures c.if-replaces_none.true) g.met.E.Encoded.laws (e.units a.text) (sym c.is_plain.ensures ∙ c.if-is_plain.true)) (sym c.size.ensures) c.if-area-at.true

pub returns-then-next-area : goal.returns-then-next-area
returns-then-next-area g c = let a = c.args in let e = g.E.Encoded in shown-put (shown a.change.dots a.change.slashes) (e.units a.text) a.at (plain-bytes a.change (c.replaces_none.ensures c.if-replaces_none.true) g.met.E.Encoded.laws (e.units a.text) (sym c.is_plain.ensures ∙ c.if-is_plain.true)) (sym c.size.ensures) c.copy_plain.ensures

pub returns-then-area-at-2 : goal.returns-then-area-at-2
returns-then-area-at-2 g c = put-past _ c.if-area-at-2.true c.past_text.ensures
