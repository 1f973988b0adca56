use Rattle.std.proofs.Common.{rules}
use mathlib.Core.Path.{refl, sym, ◌∙◌}
use native.Mathlib.Omega.{arith}
use Rattle.messages.proofs.FindLaws.{piece_is, index_is}
use Rattle.messages.proofs.BodyLaws.{checked_in, message_none, message-cut, message-refused}
use Rattle.foundation.proofs.ErrorLaws.{handed_on}
use Rattle.type_references.proofs.ArgumentLaws.{field-inline, field-refused, field-mapped}
use Rattle.type_references.proofs.arguments.type_field.Goals as goal

pub returns-in_err-check : goal.returns-in_err-check
returns-in_err-check c = rw (handed_on _ c.from_residual.ensures.1) (field-refused (message-refused c.args.slot.inline c.args.msg.base c.args.msg.bytes.now (piece_is c.args.msg.base c.args.msg.bytes.now c.args.slot.inline _ (c.find_each.ensures 0 (omega arith)) c.piece_in.ensures) c.in-Some.is (checked_in c.args.msg.base c.args.msg.bytes.now c.in-Some.body c.part.ensures c.check.result c.check.ensures) c.in_err-check.was) refl)

pub returns-in-Some : goal.returns-in-Some
returns-in-Some c = field-inline (message-cut c.args.slot.inline c.args.msg.base c.args.msg.bytes.now (piece_is c.args.msg.base c.args.msg.bytes.now c.args.slot.inline _ (c.find_each.ensures 0 (omega arith)) c.piece_in.ensures) c.in-Some.is (checked_in c.args.msg.base c.args.msg.bytes.now c.in-Some.body c.part.ensures c.check.result c.check.ensures) c.in_ok-check.was) refl

pub returns : goal.returns
returns c = field-mapped (message_none c.args.slot.inline c.args.msg.base c.args.msg.bytes.now (piece_is c.args.msg.base c.args.msg.bytes.now c.args.slot.inline _ (c.find_each.ensures 0 (omega arith)) c.piece_in.ensures) c.in_default.is) refl c.index_in.result (λ m w. index_is c.args.msg.base c.args.msg.bytes.now c.args.slot.indexed m w _ (c.find_each.ensures 1 (omega arith)) ∙ sym c.index_in.ensures) c.map.result _ (λ n t p. search rules) c.map.ensures.cases
