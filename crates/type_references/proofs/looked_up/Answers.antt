use Rattle.declaration_rows.specs.told.Written.{role_number}
use Rattle.declaration_rows.specs.Declarations.{invariant}
use Rattle.schema.specs.told.SchemaTold.{lent}
use mathlib.Core.Path.{refl}
use Rattle.std.specs.declared.option.Option.TheVariants.{None}
use Rattle.std.specs.declared.result.Result.TheVariants.{Ok}
use native.Mathlib.Omega.{arith}
use Rattle.type_references.specs.told.ParseTold.{no_entry_area}
use Rattle.type_references.proofs.OptionalLaws.{looked}
use Rattle.type_references.proofs.CycleLaws.{alone, alone-entry}
use Rattle.schema.proofs.TypeLaws.{resolve-nowhere}
use Rattle.type_references.proofs.looked_up.Goals as goal

pub returns-in_default-clause-written : goal.returns-in_default-clause-written
returns-in_default-clause-written c = looked (Ok None) (resolve-nowhere (lent c.args.context.now) c.args.index 64 (role_number c.args.role) invariant c.args.out.now.state c.entry_at.ensures c.in_default.is) refl

pub entry_in_area-requires : goal.entry_in_area-requires
entry_in_area-requires c = (c.requires, no_entry_area refl (alone-entry (lent c.args.context.now) c.entry_at.ensures c.in-Some.is (alone (rw (c.of-msg.ensures.0, c.of-msg.ensures.1) at c.next_body.ensures) c.in_default-next_body.is)), omega arith)
