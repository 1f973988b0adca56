use Rattle.record_names.proofs.PartLaws.{record-nothing, record-cut, record-built}
use Rattle.record_names.proofs.steps.record_name.Goals as goal

pub returns-in_err-base : goal.returns-in_err-base
returns-in_err-base c = rw c.from_residual.ensures record {
  bytes = tt;
  is = λ d2 end h. record-nothing c.args.payload.now c.args.from c.args.read c.base_of.result c.base_of.ensures d2 end h c.in_err-base.was;
}

pub returns-in_err-part : goal.returns-in_err-part
returns-in_err-part c = rw c.from_residual-in_err-part.ensures record {
  bytes = tt;
  is = λ d2 end h. record-cut c.args.payload.now c.args.from c.args.read c.base_of.result c.base_of.ensures d2 end h c.in_ok-base.was c.substring_of.result c.substring_of.ensures c.in_err-part.was;
}

pub returns : goal.returns
returns c = record {
  bytes = c.with_steps.ensures.bytes;
  is = λ d2 end h. record-built c.args.payload.now c.args.from c.args.read c.base_of.result c.base_of.ensures d2 end h c.in_ok-base.was c.substring_of.result c.substring_of.ensures c.left_part-left.result c.in_ok-part.was c.of-operation.ensures c.left_part-left.ensures c.with_steps.result (c.with_steps.ensures.is c.args.payload.now d2);
}
