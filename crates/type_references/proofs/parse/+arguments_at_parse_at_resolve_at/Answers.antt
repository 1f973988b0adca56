use Rattle.declaration_rows.specs.told.Written.{role_number}
use Rattle.schema.specs.told.SchemaTold.{lent}
use mathlib.Core.Path.{refl, ap, sym, subst, ◌∙◌}
use Rattle.std.specs.declared.result.Result.TheVariants.{Ok}
use Rattle.schema.specs.told.TypesTold.{picked_of}
use Rattle.schema.specs.told.WroteTold.{walked}
use Rattle.sheet.proofs.PutLaws.{areas_then}
use Rattle.foundation.proofs.ErrorLaws.{handed_on}
use Rattle.schema.proofs.WroteLaws.{walked_ok, walked_err}
use Rattle.type_references.proofs.OptionalLaws.{looked, walked_optional}
use Rattle.std.specs.declared.option.Option.TheVariants.{None}
use Prim.Native.Nat.{◌-◌, ℕ}
use native.Mathlib.Omega.{arith}
use lib.ListN.{length, set, length-set}
use Rattle.type_references.specs.told.ParseTold.{WaitingRoom}
use Rattle.schema.proofs.TypeLaws.{resolve-none-left, resolve-nowhere, resolve-found}
use Rattle.schema.specs.told.ArgumentTold.{projection_number}
use Rattle.type_references.proofs.WalkLaws.{next-before, loop-start, loop-ready, loop-height, loop-room, waits_kept, lent_length, pop-room, loop-end, loop-pop, pop-falls, loop-passed, passed-falls, loop-unstarred, loop-starred, loop-uncut, loop-unentered, push-room, loop-entered, entered-falls, last-fewer, last-room, loop-last, loop-resolved}
use Rattle.type_references.proofs.TwinLaws.{same-long, entry-told, last-told}
use Rattle.type_references.proofs.CycleLaws.{falls-arguments, falls-look_up, falls-inline, falls_entry, entry-room, last-entry-room, entered-room, parse-stops, parse-entered}
use Rattle.type_references.proofs.parse.+arguments_at_parse_at_resolve_at.Goals as goal

pub arguments_at-loop-part-init : goal.arguments_at-loop-part-init
arguments_at-loop-part-init t c = (loop-start c.requires.2, refl, (refl, refl, refl, refl))

pub arguments_at-returns-then-height-eq0-clause-written : goal.arguments_at-returns-then-height-eq0-clause-written
arguments_at-returns-then-height-eq0-clause-written t c = loop-end c.loop-part.invariant.0 (next-before c.args.msg.bytes.now c.loop-part.end c.part-before.ensures c.next_body.ensures) c.in_default.is c.if-height-eq0.true

pub arguments_at-slice_copy_out-outer : goal.arguments_at-slice_copy_out-outer
arguments_at-slice_copy_out-outer t c = pop-room c.loop-part.invariant.0 c.if-height-eq0.false (subst (λ (n : ℕ). WaitingRoom c.args.context.now.tables c.args.out.now.state.types (length c.args.msg.bytes.now) n) (sym c.loop-part.invariant.1) c.requires.0.room)

pub arguments_at-loop-part-smaller-in_default : goal.arguments_at-loop-part-smaller-in_default
arguments_at-loop-part-smaller-in_default t c = pop-falls c.loop-part.invariant.0 (next-before c.args.msg.bytes.now c.loop-part.end c.part-before.ensures c.next_body.ensures) c.in_default.is c.if-height-eq0.false c.from-at.ensures c.from-end.ensures

pub arguments_at-loop-part-preserved-in_default : goal.arguments_at-loop-part-preserved-in_default
arguments_at-loop-part-preserved-in_default t c = (loop-pop c.loop-part.invariant.0 (next-before c.args.msg.bytes.now c.loop-part.end c.part-before.ensures c.next_body.ensures) c.in_default.is c.if-height-eq0.false c.from-at.ensures c.from-end.ensures c.from-deep.ensures, c.loop-part.invariant.1, c.loop-part.invariant.2)

pub arguments_at-returns-in_err-enter_star-in-Star-clause-written : goal.arguments_at-returns-in_err-enter_star-in-Star-clause-written
arguments_at-returns-in_err-enter_star-in-Star-clause-written t c = rw (handed_on _ c.from_residual-in_err-enter_star-in-Star.ensures.1) (loop-unstarred c.loop-part.invariant.0 (next-before c.args.msg.bytes.now c.loop-part.end c.part-before.ensures c.next_body.ensures) c.in-Some.is c.argument_at.ensures (c.in_ok-argument_at.was ∙ ap Ok c.in-Star.is) c.enter_star.ensures.written (walked_err c.enter_star.new.out c.in_err-enter_star-in-Star.was))

pub arguments_at-loop-part-preserved-in-Continue-branch-3 : goal.arguments_at-loop-part-preserved-in-Continue-branch-3
arguments_at-loop-part-preserved-in-Continue-branch-3 t c = (loop-starred c.loop-part.invariant.0 (next-before c.args.msg.bytes.now c.loop-part.end c.part-before.ensures c.next_body.ensures) c.in-Some.is c.argument_at.ensures (c.in_ok-argument_at.was ∙ ap Ok c.in-Star.is) c.enter_star.ensures.written (walked_ok c.enter_star.new.out c.in_ok-enter_star-in-Star.was), c.loop-part.invariant.1, areas_then c.args.out.now c.loop-part.out c.enter_star.new.out c.loop-part.invariant.2 c.enter_star.ensures.same_areas)

pub arguments_at-slice_bounds-parse_at-count : goal.arguments_at-slice_bounds-parse_at-count
arguments_at-slice_bounds-parse_at-count t c = loop-height c.loop-part.invariant.0 (subst (λ (n : ℕ). WaitingRoom c.args.context.now.tables c.args.out.now.state.types (length c.args.msg.bytes.now) n) (sym c.loop-part.invariant.1) c.requires.0.room)

pub arguments_at-slice_bounds-parse_at-start : goal.arguments_at-slice_bounds-parse_at-start
arguments_at-slice_bounds-parse_at-start t c = loop-height c.loop-part.invariant.0 (subst (λ (n : ℕ). WaitingRoom c.args.context.now.tables c.args.out.now.state.types (length c.args.msg.bytes.now) n) (sym c.loop-part.invariant.1) c.requires.0.room)

pub arguments_at-parse_at-requires : goal.arguments_at-parse_at-requires
arguments_at-parse_at-requires t c = rw (c.part-inner.ensures.0, c.part-inner.ensures.1, c.requires.1, c.inline-place.ensures) (falls-inline c.args.left (length c.args.msg.bytes.now) _ c.decreases c.loop-part.invariant.0.shallow (last-fewer c.loop-part.invariant.0 (next-before c.args.msg.bytes.now c.loop-part.end c.part-before.ensures c.next_body.ensures) c.in-Some.is c.argument_at.ensures (c.in_ok-argument_at.was ∙ ap Ok c.in-Inline.is) c.if-deep-eq1.true), (last-room c.loop-part.invariant.0 (next-before c.args.msg.bytes.now c.loop-part.end c.part-before.ensures c.next_body.ensures) c.in-Some.is c.argument_at.ensures (c.in_ok-argument_at.was ∙ ap Ok c.in-Inline.is) c.if-deep-eq1.true c.requires.0.inside c.requires.0.deep c.requires.2 c.requires.0.ready (subst (λ (n : ℕ). WaitingRoom c.args.context.now.tables c.args.out.now.state.types (length c.args.msg.bytes.now) n) (sym c.loop-part.invariant.1) c.requires.0.room), refl, refl))

pub arguments_at-loop-part-smaller-then-deep-eq1 : goal.arguments_at-loop-part-smaller-then-deep-eq1
arguments_at-loop-part-smaller-then-deep-eq1 t c = passed-falls c.loop-part.invariant.0 (next-before c.args.msg.bytes.now c.loop-part.end c.part-before.ensures c.next_body.ensures) c.in-Some.is _ (waits_kept c.loop-part.invariant.0 (subst (λ (n : ℕ). WaitingRoom c.args.context.now.tables c.args.out.now.state.types (length c.args.msg.bytes.now) n) (sym c.loop-part.invariant.1) c.requires.0.room) c.parse_at.new.nest)

pub arguments_at-loop-part-preserved-then-deep-eq1 : goal.arguments_at-loop-part-preserved-then-deep-eq1
arguments_at-loop-part-preserved-then-deep-eq1 t c = (loop-last c.loop-part.invariant.0 (next-before c.args.msg.bytes.now c.loop-part.end c.part-before.ensures c.next_body.ensures) c.in-Some.is c.argument_at.ensures (c.in_ok-argument_at.was ∙ ap Ok c.in-Inline.is) c.if-deep-eq1.true (rw (c.part-inner.ensures.0, c.part-inner.ensures.1, c.requires.1, c.inline-place.ensures) at c.parse_at.ensures.written) _ (waits_kept c.loop-part.invariant.0 (subst (λ (n : ℕ). WaitingRoom c.args.context.now.tables c.args.out.now.state.types (length c.args.msg.bytes.now) n) (sym c.loop-part.invariant.1) c.requires.0.room) c.parse_at.new.nest) (walked_ok c.parse_at.new.out c.in_ok-parse_at-in-Inline.was), lent_length c.loop-part.invariant.0 c.parse_at.new.nest c.parse_at.auto.nest ∙ c.loop-part.invariant.1, areas_then c.args.out.now c.loop-part.out c.parse_at.new.out c.loop-part.invariant.2 c.parse_at.ensures.same_areas)

pub arguments_at-returns-in_err-parse_at-in-Inline-clause-written : goal.arguments_at-returns-in_err-parse_at-in-Inline-clause-written
arguments_at-returns-in_err-parse_at-in-Inline-clause-written t c = rw (handed_on _ c.from_residual-in_err-parse_at-in-Inline.ensures.1) (loop-last c.loop-part.invariant.0 (next-before c.args.msg.bytes.now c.loop-part.end c.part-before.ensures c.next_body.ensures) c.in-Some.is c.argument_at.ensures (c.in_ok-argument_at.was ∙ ap Ok c.in-Inline.is) c.if-deep-eq1.true (rw (c.part-inner.ensures.0, c.part-inner.ensures.1, c.requires.1, c.inline-place.ensures) at c.parse_at.ensures.written) c.loop-part.nest refl (walked_err c.parse_at.new.out c.in_err-parse_at-in-Inline.was))

pub arguments_at-returns-in_err-enter_type-in-Inline-clause-written : goal.arguments_at-returns-in_err-enter_type-in-Inline-clause-written
arguments_at-returns-in_err-enter_type-in-Inline-clause-written t c = rw (handed_on _ c.from_residual-in_err-enter_type-in-Inline.ensures.1) (loop-unentered c.loop-part.invariant.0 (next-before c.args.msg.bytes.now c.loop-part.end c.part-before.ensures c.next_body.ensures) c.in-Some.is c.argument_at.ensures (c.in_ok-argument_at.was ∙ ap Ok c.in-Inline.is) (rw (c.part.ensures.0, c.part.ensures.1, c.inline-place.ensures) at c.enter_type.ensures.written) (walked_err c.enter_type.new.out c.in_err-enter_type-in-Inline.was))

pub arguments_at-bounds-nest-height : goal.arguments_at-bounds-nest-height
arguments_at-bounds-nest-height t c = push-room c.loop-part.invariant.0 (next-before c.args.msg.bytes.now c.loop-part.end c.part-before.ensures c.next_body.ensures) c.in-Some.is c.argument_at.ensures (c.in_ok-argument_at.was ∙ ap Ok c.in-Inline.is) (rw (c.part.ensures.0, c.part.ensures.1, c.inline-place.ensures) at c.enter_type.ensures.written) (walked_ok c.enter_type.new.out c.in_ok-enter_type-in-Inline.was) (subst (λ (n : ℕ). WaitingRoom c.args.context.now.tables c.args.out.now.state.types (length c.args.msg.bytes.now) n) (sym c.loop-part.invariant.1) c.requires.0.room)

pub arguments_at-loop-part-smaller-in-Inline : goal.arguments_at-loop-part-smaller-in-Inline
arguments_at-loop-part-smaller-in-Inline t c = entered-falls c.loop-part.invariant.0 (next-before c.args.msg.bytes.now c.loop-part.end c.part-before.ensures c.next_body.ensures) c.in-Some.is c.argument_at.ensures (c.in_ok-argument_at.was ∙ ap Ok c.in-Inline.is) (rw (c.part.ensures.0, c.part.ensures.1, c.inline-place.ensures) at c.enter_type.ensures.written) (walked_ok c.enter_type.new.out c.in_ok-enter_type-in-Inline.was) (push-room c.loop-part.invariant.0 (next-before c.args.msg.bytes.now c.loop-part.end c.part-before.ensures c.next_body.ensures) c.in-Some.is c.argument_at.ensures (c.in_ok-argument_at.was ∙ ap Ok c.in-Inline.is) (rw (c.part.ensures.0, c.part.ensures.1, c.inline-place.ensures) at c.enter_type.ensures.written) (walked_ok c.enter_type.new.out c.in_ok-enter_type-in-Inline.was) (subst (λ (n : ℕ). WaitingRoom c.args.context.now.tables c.args.out.now.state.types (length c.args.msg.bytes.now) n) (sym c.loop-part.invariant.1) c.requires.0.room)) (ap (set c.loop-part.nest c.loop-part.height) c.of.ensures)

pub arguments_at-loop-part-preserved-in-Inline : goal.arguments_at-loop-part-preserved-in-Inline
arguments_at-loop-part-preserved-in-Inline t c = (loop-entered c.loop-part.invariant.0 (next-before c.args.msg.bytes.now c.loop-part.end c.part-before.ensures c.next_body.ensures) c.in-Some.is c.argument_at.ensures (c.in_ok-argument_at.was ∙ ap Ok c.in-Inline.is) (rw (c.part.ensures.0, c.part.ensures.1, c.inline-place.ensures) at c.enter_type.ensures.written) (walked_ok c.enter_type.new.out c.in_ok-enter_type-in-Inline.was) (push-room c.loop-part.invariant.0 (next-before c.args.msg.bytes.now c.loop-part.end c.part-before.ensures c.next_body.ensures) c.in-Some.is c.argument_at.ensures (c.in_ok-argument_at.was ∙ ap Ok c.in-Inline.is) (rw (c.part.ensures.0, c.part.ensures.1, c.inline-place.ensures) at c.enter_type.ensures.written) (walked_ok c.enter_type.new.out c.in_ok-enter_type-in-Inline.was) (subst (λ (n : ℕ). WaitingRoom c.args.context.now.tables c.args.out.now.state.types (length c.args.msg.bytes.now) n) (sym c.loop-part.invariant.1) c.requires.0.room)) (ap (set c.loop-part.nest c.loop-part.height) c.of.ensures) c.saturating_sub-deep.ensures, length-set c.loop-part.nest c.loop-part.height c.of.result ∙ c.loop-part.invariant.1, areas_then c.args.out.now c.loop-part.out c.enter_type.new.out c.loop-part.invariant.2 c.enter_type.ensures.same_areas)

pub arguments_at-slice_bounds-resolve_at-count : goal.arguments_at-slice_bounds-resolve_at-count
arguments_at-slice_bounds-resolve_at-count t c = loop-height c.loop-part.invariant.0 (subst (λ (n : ℕ). WaitingRoom c.args.context.now.tables c.args.out.now.state.types (length c.args.msg.bytes.now) n) (sym c.loop-part.invariant.1) c.requires.0.room)

pub arguments_at-slice_bounds-resolve_at-start : goal.arguments_at-slice_bounds-resolve_at-start
arguments_at-slice_bounds-resolve_at-start t c = loop-height c.loop-part.invariant.0 (subst (λ (n : ℕ). WaitingRoom c.args.context.now.tables c.args.out.now.state.types (length c.args.msg.bytes.now) n) (sym c.loop-part.invariant.1) c.requires.0.room)

pub arguments_at-resolve_at-requires : goal.arguments_at-resolve_at-requires
arguments_at-resolve_at-requires t c = (falls-look_up c.args.left (length c.args.msg.bytes.now) c.decreases c.loop-part.invariant.0.shallow, (loop-ready c.loop-part.invariant.0 c.requires.0.ready, omega (arith, c.loop-part.invariant.0.shallow, c.requires.0.deep), loop-room c.loop-part.invariant.0 (subst (λ (n : ℕ). WaitingRoom c.args.context.now.tables c.args.out.now.state.types (length c.args.msg.bytes.now) n) (sym c.loop-part.invariant.1) c.requires.0.room)))

pub arguments_at-loop-part-smaller-in-Continue-branch-6 : goal.arguments_at-loop-part-smaller-in-Continue-branch-6
arguments_at-loop-part-smaller-in-Continue-branch-6 t c = passed-falls c.loop-part.invariant.0 (next-before c.args.msg.bytes.now c.loop-part.end c.part-before.ensures c.next_body.ensures) c.in-Some.is _ (waits_kept c.loop-part.invariant.0 (subst (λ (n : ℕ). WaitingRoom c.args.context.now.tables c.args.out.now.state.types (length c.args.msg.bytes.now) n) (sym c.loop-part.invariant.1) c.requires.0.room) c.resolve_at.new.nest)

pub arguments_at-loop-part-preserved-in-Continue-branch-6 : goal.arguments_at-loop-part-preserved-in-Continue-branch-6
arguments_at-loop-part-preserved-in-Continue-branch-6 t c = (loop-resolved c.loop-part.invariant.0 (next-before c.args.msg.bytes.now c.loop-part.end c.part-before.ensures c.next_body.ensures) c.in-Some.is c.argument_at.ensures (c.in_ok-argument_at.was ∙ ap Ok c.in-ByIndex.is) (rw c.argument-shown.ensures at c.resolve_at.ensures.written) _ (waits_kept c.loop-part.invariant.0 (subst (λ (n : ℕ). WaitingRoom c.args.context.now.tables c.args.out.now.state.types (length c.args.msg.bytes.now) n) (sym c.loop-part.invariant.1) c.requires.0.room) c.resolve_at.new.nest) (walked_ok c.resolve_at.new.out c.in_ok-resolve_at-in-ByIndex.was), lent_length c.loop-part.invariant.0 c.resolve_at.new.nest c.resolve_at.auto.nest ∙ c.loop-part.invariant.1, areas_then c.args.out.now c.loop-part.out c.resolve_at.new.out c.loop-part.invariant.2 c.resolve_at.ensures.same_areas)

pub arguments_at-returns-in_err-resolve_at-in-ByIndex-clause-written : goal.arguments_at-returns-in_err-resolve_at-in-ByIndex-clause-written
arguments_at-returns-in_err-resolve_at-in-ByIndex-clause-written t c = rw (handed_on _ c.from_residual-in_err-resolve_at-in-ByIndex.ensures.1) (loop-resolved c.loop-part.invariant.0 (next-before c.args.msg.bytes.now c.loop-part.end c.part-before.ensures c.next_body.ensures) c.in-Some.is c.argument_at.ensures (c.in_ok-argument_at.was ∙ ap Ok c.in-ByIndex.is) (rw c.argument-shown.ensures at c.resolve_at.ensures.written) c.loop-part.nest refl (walked_err c.resolve_at.new.out c.in_err-resolve_at-in-ByIndex.was))

pub arguments_at-loop-part-preserved : goal.arguments_at-loop-part-preserved
arguments_at-loop-part-preserved t c = (loop-passed c.loop-part.invariant.0 (next-before c.args.msg.bytes.now c.loop-part.end c.part-before.ensures c.next_body.ensures) c.in-Some.is c.argument_at.ensures (c.in_ok-argument_at.was ∙ ap Ok c.in-Nothing.is), c.loop-part.invariant.1, c.loop-part.invariant.2)

pub arguments_at-returns-in_err-argument_at-clause-written : goal.arguments_at-returns-in_err-argument_at-clause-written
arguments_at-returns-in_err-argument_at-clause-written t c = rw (handed_on _ c.from_residual.ensures.1) (loop-uncut c.loop-part.invariant.0 (next-before c.args.msg.bytes.now c.loop-part.end c.part-before.ensures c.next_body.ensures) c.in-Some.is c.argument_at.ensures c.in_err-argument_at.was)

pub parse_at-returns-then-nest-eq0-clause-written : goal.parse_at-returns-then-nest-eq0-clause-written
parse_at-returns-then-nest-eq0-clause-written t c = parse-stops c.enter_type.ensures.written (walked_ok c.enter_type.new.out c.in_ok-enter_type.was) {less = c.args.place.reached.left - 1} refl c.args.last.bytes.now c.requires.2 c.requires.0 c.if-nest-eq0.true

pub parse_at-arguments_at-requires : goal.parse_at-arguments_at-requires
parse_at-arguments_at-requires t c = (falls-arguments c.args.place.reached.left (length c.args.msg.bytes.now) c.decreases c.saturating_sub.ensures, (entered-room c.enter_type.ensures.written (walked_ok c.enter_type.new.out c.in_ok-enter_type.was) c.saturating_sub.ensures c.requires.0 c.if-nest-eq0.false, c.requires.1, c.requires.2))

pub parse_at-returns-clause-written : goal.parse_at-returns-clause-written
parse_at-returns-clause-written t c = parse-entered c.enter_type.ensures.written (walked_ok c.enter_type.new.out c.in_ok-enter_type.was) c.saturating_sub.ensures c.arguments_at.ensures.written

pub resolve_at-returns-then-left-eq0-clause-written : goal.resolve_at-returns-then-left-eq0-clause-written
resolve_at-returns-then-left-eq0-clause-written t c = looked (Ok None) (resolve-none-left (lent c.args.context.now) c.args.index c.args.left (role_number c.args.shown.role) (projection_number c.args.shown.projection) c.args.out.now.state c.if-left-eq0.true) refl

pub resolve_at-returns-in_default-clause-written : goal.resolve_at-returns-in_default-clause-written
resolve_at-returns-in_default-clause-written t c = looked (Ok None) (resolve-nowhere (lent c.args.context.now) c.args.index c.args.left (role_number c.args.shown.role) (projection_number c.args.shown.projection) c.args.out.now.state c.entry_at.ensures c.in_default.is) refl

pub resolve_at-parse_at-requires : goal.resolve_at-parse_at-requires
resolve_at-parse_at-requires t c = rw (c.of-last.ensures.0, c.of-last.ensures.1) (falls_entry (lent c.args.context.now) c.entry_at.ensures c.in-Some.is c.decreases c.if-left-eq0.false c.args.context.now.deepest.now c.args.context.now.as_long c.requires.0.payload-short, (last-entry-room (lent c.args.context.now) c.entry_at.ensures c.in-Some.is {nest = c.args.nest.now} c.requires.0 c.requires.1 c.requires.2 c.args.context.now.as_long, refl, refl))

pub resolve_at-returns-then-reached-le1-clause-written : goal.resolve_at-returns-then-reached-le1-clause-written
resolve_at-returns-then-reached-le1-clause-written t c = looked (picked_of (walked c.parse_at.result c.parse_at.new.out)) (resolve-found (lent c.args.context.now) c.args.index c.args.left (role_number c.args.shown.role) (projection_number c.args.shown.projection) c.args.out.now.state c.entry_at.ensures c.in-Some.is c.if-left-eq0.false c.is_nullable.ensures (last-told (lent c.args.context.now) c.entry_at.ensures c.in-Some.is c.if-reached-le1.true (rw (c.of-last.ensures.0, c.of-last.ensures.1) at c.parse_at.ensures.written)) refl) (walked_optional c.args.out.now.state (walked c.parse_at.result c.parse_at.new.out))

pub resolve_at-parse_at-requires-2 : goal.resolve_at-parse_at-requires-2
resolve_at-parse_at-requires-2 t c = rw (c.of-msg.ensures.0, c.of-msg.ensures.1, c.of-last.ensures.0, c.of-last.ensures.1) (falls_entry (lent c.args.context.now) c.entry_at.ensures c.in-Some.is c.decreases c.if-left-eq0.false c.args.context.now.payload.now refl c.requires.0.payload-short, (entry-room (lent c.args.context.now) c.entry_at.ensures c.in-Some.is {nest = c.args.nest.now} c.requires.0 c.requires.1 c.requires.2, refl, same-long c.args.context.now.payload.now c.args.context.now.deepest.now c.args.context.now.as_long c.in-Some.entry.start c.in-Some.entry.end))

pub resolve_at-returns-clause-written : goal.resolve_at-returns-clause-written
resolve_at-returns-clause-written t c = looked (picked_of (walked c.parse_at-2.result c.parse_at-2.new.out)) (resolve-found (lent c.args.context.now) c.args.index c.args.left (role_number c.args.shown.role) (projection_number c.args.shown.projection) c.args.out.now.state c.entry_at.ensures c.in-Some.is c.if-left-eq0.false c.is_nullable.ensures (entry-told (lent c.args.context.now) c.entry_at.ensures c.in-Some.is (rw (c.of-msg.ensures.0, c.of-msg.ensures.1, c.of-last.ensures.1) at c.parse_at-2.ensures.written)) refl) (walked_optional c.args.out.now.state (walked c.parse_at-2.result c.parse_at-2.new.out))
