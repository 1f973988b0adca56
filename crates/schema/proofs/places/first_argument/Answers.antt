use mathlib.Core.Path.{refl, sym, subst}
use Prim.Native.Nat.{◌+◌, ◌-◌}
use lib.ListN.{take, drop}
use Rattle.fields.specs.Fields.{Type-Argument-type, Type-Argument-type_id}
use Rattle.schema.proofs.ArgumentLaws.{star-is, inline-typed, inline-bytes, indexed-typed, indexed-bytes, indexed-index, nothing-typed, nothing-bytes, nothing-index}
use Rattle.messages.proofs.BodiesLaws.{goes-start, goes-next, goes-to}
use Rattle.schema.proofs.FoundLaws.{Seeking, seeking-start, seeking-end, seeking-star, seeking-kept, seeking-on, place-inline, place-indexed, place-nowhere}
use Rattle.schema.proofs.places.first_argument.Goals as goal

pub loop-argument-init : goal.loop-argument-init
loop-argument-init c = goes-start c.into_iter-argument-iterator.ensures.into_iter_gives c.bodies_from-argument-items.ensures (Seeking c.args.context.now.payload.now c.args.context.now.notes.now c.args.context.now.tables c.args.msg.bytes.now c.args.msg.base c.args.left) (seeking-start c.args.context.now.payload.now c.args.context.now.notes.now c.args.context.now.tables c.args.msg.bytes.now c.args.msg.base c.args.left)

pub returns : goal.returns
returns c = λ source many st. seeking-end c.args.context.now.payload.now c.args.context.now.notes.now c.args.context.now.tables c.args.msg.bytes.now c.args.msg.base c.args.left c.loop-argument.argument-iterator.at c.loop-argument.invariant.1 (goes-next c.loop-argument.invariant.0 c.in-None.ensures.steps).0 refl source many st

pub returns-in-Star : goal.returns-in-Star
returns-in-Star c = λ source many st. seeking-star c.args.context.now.payload.now c.args.context.now.notes.now c.args.context.now.tables c.args.msg.bytes.now c.args.msg.base c.args.left c.loop-argument.argument-iterator.at c.loop-argument.invariant.1 (goes-next c.loop-argument.invariant.0 c.in-Some.ensures.steps).0 refl (star-is (c.args.msg.base + c.in-Some.argument.start) (take (c.in-Some.argument.end - c.in-Some.argument.start) (drop c.in-Some.argument.start c.args.msg.bytes.now)) (rw (c.part-part.ensures.0, c.part-part.ensures.1) at c.argument_head.ensures) c.in-Star.is) source many st

pub returns-in-Inline : goal.returns-in-Inline
returns-in-Inline c = λ source many st. seeking-kept c.args.context.now.payload.now c.args.context.now.notes.now c.args.context.now.tables c.args.msg.bytes.now c.args.msg.base c.args.left c.loop-argument.argument-iterator.at c.loop-argument.invariant.1 (goes-next c.loop-argument.invariant.0 c.in-Some.ensures.steps).0 refl (λ m k. (_, inline-typed (c.args.msg.base + c.in-Some.argument.start) (take (c.in-Some.argument.end - c.in-Some.argument.start) (drop c.in-Some.argument.start c.args.msg.bytes.now)) (rw (c.part-part.ensures.0, c.part-part.ensures.1) at c.argument_head.ensures) c.in-Inline.is m k)) (λ source many st. place-inline source c.args.context.now.payload.now c.args.context.now.notes.now c.args.context.now.tables many (take (c.in-Some.argument.end - c.in-Some.argument.start) (drop c.in-Some.argument.start c.args.msg.bytes.now)) (c.args.msg.base + c.in-Some.argument.start) Type-Argument-type Type-Argument-type_id c.args.left st (inline-bytes (c.args.msg.base + c.in-Some.argument.start) (take (c.in-Some.argument.end - c.in-Some.argument.start) (drop c.in-Some.argument.start c.args.msg.bytes.now)) (rw (c.part-part.ensures.0, c.part-part.ensures.1) at c.argument_head.ensures) c.in-Inline.is) refl (rw c.part-part.ensures.0 at c.inline_place.ensures)) source many st refl

pub returns-in-Some-entry_place : goal.returns-in-Some-entry_place
returns-in-Some-entry_place c = λ source many st. rw (← c.in-Some-entry_place.is) (seeking-kept c.args.context.now.payload.now c.args.context.now.notes.now c.args.context.now.tables c.args.msg.bytes.now c.args.msg.base c.args.left c.loop-argument.argument-iterator.at c.loop-argument.invariant.1 (goes-next c.loop-argument.invariant.0 c.in-Some.ensures.steps).0 refl (λ m k. (_, indexed-typed (c.args.msg.base + c.in-Some.argument.start) (take (c.in-Some.argument.end - c.in-Some.argument.start) (drop c.in-Some.argument.start c.args.msg.bytes.now)) (rw (c.part-part.ensures.0, c.part-part.ensures.1) at c.argument_head.ensures) c.in-ByIndex.is m k)) (λ source many st. place-indexed source c.args.context.now.payload.now c.args.context.now.notes.now c.args.context.now.tables many (take (c.in-Some.argument.end - c.in-Some.argument.start) (drop c.in-Some.argument.start c.args.msg.bytes.now)) (c.args.msg.base + c.in-Some.argument.start) Type-Argument-type Type-Argument-type_id c.args.left st (indexed-bytes (c.args.msg.base + c.in-Some.argument.start) (take (c.in-Some.argument.end - c.in-Some.argument.start) (drop c.in-Some.argument.start c.args.msg.bytes.now)) (rw (c.part-part.ensures.0, c.part-part.ensures.1) at c.argument_head.ensures) c.in-ByIndex.is) refl (indexed-index (c.args.msg.base + c.in-Some.argument.start) (take (c.in-Some.argument.end - c.in-Some.argument.start) (drop c.in-Some.argument.start c.args.msg.bytes.now)) (rw (c.part-part.ensures.0, c.part-part.ensures.1) at c.argument_head.ensures) c.in-ByIndex.is) refl c.entry_place.ensures) source many st c.in-Some-entry_place.is)

pub loop-argument-preserved-in_default : goal.loop-argument-preserved-in_default
loop-argument-preserved-in_default c =
    let n = goes-next c.loop-argument.invariant.0 c.in-Some.ensures.steps in
    (n.1, subst (Seeking c.args.context.now.payload.now c.args.context.now.notes.now c.args.context.now.tables c.args.msg.bytes.now c.args.msg.base c.args.left) (sym (goes-to c.loop-argument.invariant.0 c.in-Some.ensures.steps refl)) (seeking-on c.args.context.now.payload.now c.args.context.now.notes.now c.args.context.now.tables c.args.msg.bytes.now c.args.msg.base c.args.left c.loop-argument.argument-iterator.at c.loop-argument.invariant.1 n.0 refl (λ m k. (_, indexed-typed (c.args.msg.base + c.in-Some.argument.start) (take (c.in-Some.argument.end - c.in-Some.argument.start) (drop c.in-Some.argument.start c.args.msg.bytes.now)) (rw (c.part-part.ensures.0, c.part-part.ensures.1) at c.argument_head.ensures) c.in-ByIndex.is m k)) (λ source many st. place-indexed source c.args.context.now.payload.now c.args.context.now.notes.now c.args.context.now.tables many (take (c.in-Some.argument.end - c.in-Some.argument.start) (drop c.in-Some.argument.start c.args.msg.bytes.now)) (c.args.msg.base + c.in-Some.argument.start) Type-Argument-type Type-Argument-type_id c.args.left st (indexed-bytes (c.args.msg.base + c.in-Some.argument.start) (take (c.in-Some.argument.end - c.in-Some.argument.start) (drop c.in-Some.argument.start c.args.msg.bytes.now)) (rw (c.part-part.ensures.0, c.part-part.ensures.1) at c.argument_head.ensures) c.in-ByIndex.is) refl (indexed-index (c.args.msg.base + c.in-Some.argument.start) (take (c.in-Some.argument.end - c.in-Some.argument.start) (drop c.in-Some.argument.start c.args.msg.bytes.now)) (rw (c.part-part.ensures.0, c.part-part.ensures.1) at c.argument_head.ensures) c.in-ByIndex.is) refl c.entry_place.ensures) c.in_default.is))

pub loop-argument-preserved : goal.loop-argument-preserved
loop-argument-preserved c =
    let n = goes-next c.loop-argument.invariant.0 c.in-Some.ensures.steps in
    (n.1, subst (Seeking c.args.context.now.payload.now c.args.context.now.notes.now c.args.context.now.tables c.args.msg.bytes.now c.args.msg.base c.args.left) (sym (goes-to c.loop-argument.invariant.0 c.in-Some.ensures.steps refl)) (seeking-on c.args.context.now.payload.now c.args.context.now.notes.now c.args.context.now.tables c.args.msg.bytes.now c.args.msg.base c.args.left c.loop-argument.argument-iterator.at c.loop-argument.invariant.1 n.0 refl (nothing-typed (c.args.msg.base + c.in-Some.argument.start) (take (c.in-Some.argument.end - c.in-Some.argument.start) (drop c.in-Some.argument.start c.args.msg.bytes.now)) (rw (c.part-part.ensures.0, c.part-part.ensures.1) at c.argument_head.ensures) c.in-Nothing.is) (λ source many st. place-nowhere source c.args.context.now.payload.now c.args.context.now.notes.now c.args.context.now.tables many (take (c.in-Some.argument.end - c.in-Some.argument.start) (drop c.in-Some.argument.start c.args.msg.bytes.now)) (c.args.msg.base + c.in-Some.argument.start) Type-Argument-type Type-Argument-type_id c.args.left st (nothing-bytes (c.args.msg.base + c.in-Some.argument.start) (take (c.in-Some.argument.end - c.in-Some.argument.start) (drop c.in-Some.argument.start c.args.msg.bytes.now)) (rw (c.part-part.ensures.0, c.part-part.ensures.1) at c.argument_head.ensures) c.in-Nothing.is) refl (nothing-index (c.args.msg.base + c.in-Some.argument.start) (take (c.in-Some.argument.end - c.in-Some.argument.start) (drop c.in-Some.argument.start c.args.msg.bytes.now)) (rw (c.part-part.ensures.0, c.part-part.ensures.1) at c.argument_head.ensures) c.in-Nothing.is) refl) refl))
