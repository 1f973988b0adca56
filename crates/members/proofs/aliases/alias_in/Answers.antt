use mathlib.Core.Path.{ap, sym}
use native.Mathlib.Omega.{arith}
use lib.ListN.{length}
use Rattle.fields.specs.Fields.{TypeAlias-name}
use Rattle.declaration_rows.specs.Rows.{alias_rows}
use Rattle.schema.specs.Members.{alias_in}
use Rattle.schema.specs.told.SchemaTold.{lent}
use Rattle.schema.specs.told.TypesTold.{picked_of}
use Rattle.schema.specs.told.MembersTold.{member_cost}
use Rattle.foundation.proofs.ErrorLaws.{handed_on}
use Rattle.schema.proofs.CountLaws.{affords-after, affords-ready}
use Rattle.members.proofs.PairLaws.{looked, nameless}
use Rattle.members.proofs.AliasLaws.{alias_none, alias-within, alias-told}
use Rattle.schema.proofs.WroteLaws.{walked_err, walked_ok}
use Rattle.members.proofs.aliases.alias_in.Goals as goal

pub returns-in_default-clause-written : goal.returns-in_default-clause-written
returns-in_default-clause-written c = nameless alias_in alias_rows (member_cost (length c.args.msg.bytes.now)) TypeAlias-name alias_none (looked (lent c.args.context.now) _ _ _ c.name_in.ensures c.in_default.is)

pub type_pair-requires : goal.type_pair-requires
type_pair-requires c = (affords-ready (affords-after c.requires.0 0 (alias-within c.requires.0 c.in-Some.name c.flags_in-flags.result c.put_alias.ensures.written) (omega arith)), c.requires.1)

pub returns-in_err-type_pair-clause-written : goal.returns-in_err-type_pair-clause-written
returns-in_err-type_pair-clause-written c = rw (handed_on _ c.from_residual.ensures.1) (alias-told c.in-Some.name (looked (lent c.args.context.now) _ _ _ c.name_in.ensures c.in-Some.is) c.requires.0 c.flags_in-flags.result c.flags_in-flags.ensures c.put_alias.ensures.written c.type_pair.ensures.written (ap picked_of (sym (walked_err c.type_pair.new.out c.in_err-type_pair.was))))

pub returns-clause-written : goal.returns-clause-written
returns-clause-written c = alias-told c.in-Some.name (looked (lent c.args.context.now) _ _ _ c.name_in.ensures c.in-Some.is) c.requires.0 c.flags_in-flags.result c.flags_in-flags.ensures c.put_alias.ensures.written c.type_pair.ensures.written (ap picked_of (sym (walked_ok c.type_pair.new.out c.in_ok-type_pair.was)))
