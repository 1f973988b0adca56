use Rattle.record_names.proofs.SizedLaws.{record_words}
use Rattle.record_names.proofs.record_words.Goals as goal

pub returns : goal.returns
returns c = record_words c.args.bytes.now c.record_at.result c.record_at.ensures c.words_for.ensures
