use Rattle.std.proofs.Common.{rules, ◌≡◌, refl}
use Rattle.std.specs.Prelude.{Result, Ok, Err, MatchResult, IsOkAnd}
use Rattle.metadata.specs.Read.{read as read_of}
use mathlib.Core.Path.{◌∙◌, ap, sym}
use Rattle.inputs.specs.declared.outcome.Sizes.{Sizes}
use Rattle.inputs.specs.declared.outcome.Refusal.{Refusal}
use Rattle.passes.specs.declared.Reply.{Reply}
use Rattle.passes.specs.told.TaskTold.{sizes_of}
use lib.IntN.{ℤ}
use mir.Facts.{to_z-of_z}
use Rattle.inputs.specs.Inputs.{input}
use Rattle.metadata.proofs.ReadLaws.{answer-is, read_by}
use Rattle.metadata.proofs.read.Goals as goal

mapped : (r : Result Reply Refusal) (o : Result Sizes Refusal) (P : Reply → Sizes → Type 0) → ((x : Reply) (y : Sizes) → P x y → y ≡ x.sizes)
    → MatchResult r (λ x. IsOkAnd o (P x)) (λ e. o ≡ Err e) → o ≡ sizes_of r
mapped (Ok x) (Ok y) P h m = ap Ok (h x y m)
mapped (Ok x) (Err e) P h m = absurd m
mapped (Err e) o P h m = m

pub returns : goal.returns
returns c = (answer-is _ c.reply_to-reply.result c.map.result c.reply_to-reply.new.areas.sheet.now c.reply_to-reply.new.areas.text.now (search rules) (search rules) (ap (λ (k : ℤ). read_of c.args.sheet.now c.args.text.now (input k c.args.version c.args.d1.now c.args.d2.now c.args.ends.now)) (sym (to_z-of_z c.ranges.k)) ∙ (read_by c.args.sheet.now c.args.text.now _ ∙ c.reply_to-reply.ensures.written)) (mapped c.reply_to-reply.result c.map.result _ (λ x y p. search rules) c.map.ensures.cases), refl)
