use mathlib.Core.Path.{refl}
use mathlib.Core.Bool.{Bool, true}
use mathlib.Core.List.{List}
use Prim.Native.Nat.{ℕ}
use Rattle.foundation.specs.Texts.{Text}
use Rattle.erasure.specs.Erasure.{Meaning}
use Rattle.characters.specs.Characters.{utf8, utf8_of}
use Rattle.erasure.specs.told.ErasureTold.{row_at, listed_name, listed_meaning}
use Rattle.erasure.proofs.TableLaws.{tabulated, at_variable}
use Rattle.erasure.proofs.row_at.Goals as goal

pub returns : goal.returns
unfolding row_at listed_name listed_meaning utf8 utf8_of
returns c =
    let names : ℕ → List ℕ = _ in
    let meanings : Text → ℕ → Meaning = _ in
    let tables : ℕ → Bool = _ in
    at_variable c.args.row λ j e. rw e (record {
      name = tabulated names listed_name 36 refl j (rw (← e) c.requires);
      meaning = λ n. tabulated listed_meaning (meanings n) 36 refl j (rw (← e) c.requires);
      table = tabulated tables (λ k. true) 36 refl j (rw (← e) c.requires);
    })
