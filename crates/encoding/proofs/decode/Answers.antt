use mathlib.Core.Path.{refl, sym, ◌∙◌}
use borrow.Author.Tests.{eqb-true, eqb-false}
use Rattle.std.specs.Prelude.{Err}
use Rattle.encoding.specs.declared.DecodeError.TheVariants.{TooLong, Empty, NotAByte}
use Rattle.encoding.proofs.EncodingLaws.{above_nothing, none_after, length-unpacked}
use Rattle.encoding.proofs.OutcomeLaws.{limited-long, limited-empty, limited-above, limited-marked, limited-old, told-refused, told-short, told-bytes}
use Rattle.encoding.proofs.decode.Goals as goal

pub returns-then-d1-gt-UNIT_LIMIT : goal.returns-then-d1-gt-UNIT_LIMIT
returns-then-d1-gt-UNIT_LIMIT c = told-refused _ _ (Err TooLong) (limited-long _ c.if-d1-gt-UNIT_LIMIT.true) refl

pub returns-then-is_empty : goal.returns-then-is_empty
returns-then-is_empty c = told-refused _ _ (Err Empty) (limited-empty _ c.if-d1-gt-UNIT_LIMIT.false (eqb-true _ _ (sym c.is_empty.ensures ∙ c.if-is_empty.true))) refl

pub returns-in-Some : goal.returns-in-Some
returns-in-Some c =
    told-refused _ _ (Err (NotAByte _)) (limited-above _ c.if-d1-gt-UNIT_LIMIT.false c.first_above_255.ensures c.in-Some.is) refl

pub returns-then-area-bytes : goal.returns-then-area-bytes
returns-then-area-bytes c =
    told-short _ c.args.area.now _ _ (limited-marked _ c.if-d1-gt-UNIT_LIMIT.false (eqb-false _ _ (sym c.is_empty.ensures ∙ c.if-is_empty.false)) c.first_above_255.ensures c.in_default.is c.if-d1-eq-BYTE_STRING_MARKER.true) refl c.if-area-bytes.true

pub copy_bytes-requires : goal.copy_bytes-requires
copy_bytes-requires c =
    (none_after (c.args.d1.now) (above_nothing _ c.first_above_255.ensures c.in_default.is), c.if-area-bytes.false)

pub returns-then-d1-eq-BYTE_STRING_MARKER : goal.returns-then-d1-eq-BYTE_STRING_MARKER
returns-then-d1-eq-BYTE_STRING_MARKER c =
    let a = c.args.area.now in
    told-bytes _ a _ _ _ (limited-marked _ c.if-d1-gt-UNIT_LIMIT.false (eqb-false _ _ (sym c.is_empty.ensures ∙ c.if-is_empty.false)) c.first_above_255.ensures c.in_default.is c.if-d1-eq-BYTE_STRING_MARKER.true) refl c.if-area-bytes.false c.copy_bytes.ensures

pub returns-then-area-length : goal.returns-then-area-length
returns-then-area-length c =
    told-short _ c.args.area.now _ _ (limited-old _ c.if-d1-gt-UNIT_LIMIT.false (eqb-false _ _ (sym c.is_empty.ensures ∙ c.if-is_empty.false)) c.first_above_255.ensures c.in_default.is c.if-d1-eq-BYTE_STRING_MARKER.false) (length-unpacked (c.args.d1.now)) c.if-area-length.true

pub returns : goal.returns
returns c =
    told-bytes _ c.args.area.now _ _ _ (limited-old _ c.if-d1-gt-UNIT_LIMIT.false (eqb-false _ _ (sym c.is_empty.ensures ∙ c.if-is_empty.false)) c.first_above_255.ensures c.in_default.is c.if-d1-eq-BYTE_STRING_MARKER.false) (length-unpacked (c.args.d1.now)) c.if-area-length.false c.unpack.ensures
