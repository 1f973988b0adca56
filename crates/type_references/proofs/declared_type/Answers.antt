use mathlib.Core.Path.{refl, ap, ◌∙◌}
use Rattle.declaration_rows.specs.told.Written.{role_number}
use Rattle.foundation.proofs.ErrorLaws.{handed_on}
use Rattle.type_references.proofs.ArgumentLaws.{inline-field, refused-field, absent-field, absent-index, by-index-field, by-index-index}
use native.Mathlib.Omega.{arith}
use Rattle.std.specs.declared.result.Result.TheVariants.{Ok}
use Rattle.std.specs.declared.option.Option.TheVariants.{Some}
use Rattle.schema.specs.told.SchemaTold.{lent}
use Rattle.schema.specs.told.TypesTold.{picked_of}
use Rattle.schema.specs.told.WroteTold.{walked}
use Rattle.type_references.proofs.OptionalLaws.{optional, walked_optional}
use Rattle.schema.proofs.TypeLaws.{inline_in, type-inline, type-refused, type-nowhere, type-indexed, declared}
use Rattle.schema.proofs.ParseLaws.{part-inside}
use Rattle.type_references.proofs.declared_type.Goals as goal

pub part-requires : goal.part-requires
part-requires c = let h = inline_in c.args.msg.base c.args.msg.bytes.now c.args.slot.inline (inline-field c.type_field.ensures (c.in_ok-field.was ∙ ap Ok (c.in-Some.is ∙ ap Some c.in-Inline.is))) refl in (h.0, h.1)

pub own_type-requires : goal.own_type-requires
own_type-requires c = let h = inline_in c.args.msg.base c.args.msg.bytes.now c.args.slot.inline (inline-field c.type_field.ensures (c.in_ok-field.was ∙ ap Ok (c.in-Some.is ∙ ap Some c.in-Inline.is))) refl in rw (c.part.ensures.0, c.part.ensures.1) (c.requires.0, part-inside c.args.msg.bytes.now c.args.msg.base c.in-Inline.body.start c.in-Inline.body.end c.requires.1 h.0 h.1, omega arith)

pub returns-in-Inline-clause-written : goal.returns-in-Inline-clause-written
returns-in-Inline-clause-written c = optional (picked_of (walked c.own_type.result c.own_type.new.out)) (declared (type-inline (lent c.args.context.now) c.args.msg.bytes.now c.args.msg.base c.args.slot.inline c.args.slot.indexed 64 (role_number c.args.slot.role) c.args.out.now.state (inline-field c.type_field.ensures (c.in_ok-field.was ∙ ap Ok (c.in-Some.is ∙ ap Some c.in-Inline.is))) refl (rw (c.part.ensures.0, c.part.ensures.1) at c.own_type.ensures.written) refl)) (walked_optional c.args.out.now.state (walked c.own_type.result c.own_type.new.out))

pub returns-in-ByIndex-clause-written : goal.returns-in-ByIndex-clause-written
returns-in-ByIndex-clause-written c = optional c.looked_up.ensures.written.found (declared (type-indexed (lent c.args.context.now) c.args.msg.bytes.now c.args.msg.base c.args.slot.inline c.args.slot.indexed 64 (role_number c.args.slot.role) c.args.out.now.state (by-index-field c.type_field.ensures (c.in_ok-field.was ∙ ap Ok (c.in-Some.is ∙ ap Some c.in-ByIndex.is))) refl (by-index-index c.type_field.ensures (c.in_ok-field.was ∙ ap Ok (c.in-Some.is ∙ ap Some c.in-ByIndex.is))) refl c.looked_up.ensures.written.told)) c.looked_up.ensures.written.is

pub returns-in_default-clause-written : goal.returns-in_default-clause-written
returns-in_default-clause-written c = optional _ (declared (type-nowhere (lent c.args.context.now) c.args.msg.bytes.now c.args.msg.base c.args.slot.inline c.args.slot.indexed 64 (role_number c.args.slot.role) c.args.out.now.state (absent-field c.type_field.ensures (c.in_ok-field.was ∙ ap Ok c.in_default.is)) refl (absent-index c.type_field.ensures (c.in_ok-field.was ∙ ap Ok c.in_default.is)) refl)) refl

pub returns-in_err-field-clause-written : goal.returns-in_err-field-clause-written
returns-in_err-field-clause-written c = rw (handed_on _ c.from_residual.ensures.1) (optional _ (declared (type-refused (lent c.args.context.now) c.args.msg.bytes.now c.args.msg.base c.args.slot.inline c.args.slot.indexed 64 (role_number c.args.slot.role) c.args.out.now.state (refused-field c.type_field.ensures c.in_err-field.was) refl)) refl)
