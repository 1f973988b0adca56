-- What marks are good for: inputs with the same strings wherever there is a mark are alike in all that is fallen to.
-- Assumes nothing.
use mathlib.Core.Path.{◌≡◌, refl, sym, ap, ◌∙◌}
use mathlib.Core.Logic.{◌⊎◌, inl, inr}
use mathlib.Core.Bool.{Bool, true, false}
use mathlib.Core.List.{List}
use Prim.Native.Nat.{ℕ, ◌≤◌, ◌<◌}
use native.Mathlib.Omega.{arith}
use lib.Dec.{ltb}
use lib.ListN.{length, get_or, get_elem?}
use borrow.Author.Tests.{ltb-true, ltb-false}
use Rattle.foundation.specs.Results.{Res, ok, refused, sheet_too_long}
use Rattle.foundation.proofs.PresenceLaws.{elem_none}
use Rattle.declaration_rows.specs.Declarations.{Declarations}
use Rattle.inputs.specs.Inputs.{Input}
use Rattle.promises.proofs.Accepted.{refusal_numbered}
use Rattle.metadata.specs.Read.{strings_of, reading}
use Rattle.strings.specs.FallsTo.{FallsTo, PassesBy}
use Rattle.strings.proofs.Unused.{not-both}
use Rattle.string_marks.specs.UsedStrings.{UsedAnswer, UsedMarks, UsedAccepted, UsedBy, UsedStrings, MarksTell, too_few, all_marked}
use Rattle.string_marks.proofs.NameMarks.{many_strings}

marks-tell : (i : Input) (u v : List ℕ) → UsedMarks i u v → MarksTell i v
marks-tell i u v g j k mv d1 count same = record { k = k; mv = mv; d1 = d1; count = count; fallen = λ n f. go n f (ltb n (length i.ends)) refl }
  where
    past : (n : ℕ) → length i.ends ≤ n → get_elem? (strings_of i) n ≡ get_elem? (strings_of j) n
    past n h =
        elem_none (strings_of i) n (omega (arith, h, many_strings 0 i.ends i.d2)) ∙ sym (elem_none (strings_of j) n (omega (arith, h, count, many_strings 0 j.ends j.d2)))

    inside : (n : ℕ) → n < length i.ends → FallsTo i n → (FallsTo i n × (get_or v n 0 ≡ 1)) ⊎ (PassesBy i n × (get_or v n 0 ≡ 0))
        → get_elem? (strings_of i) n ≡ get_elem? (strings_of j) n
    inside n h f (inl (k, w)) = same n h w
    inside n h f (inr (p, w)) = absurd (not-both i n f p)

    go : (n : ℕ) → FallsTo i n → (b : Bool) → ltb n (length i.ends) ≡ b → get_elem? (strings_of i) n ≡ get_elem? (strings_of j) n
    go n f true e = let h = ltb-true n (length i.ends) e in inside n h f (g.each n h)
    go n f false e = past n (ltb-false n (length i.ends) e)

accepted-tell : (i : Input) (u v : List ℕ) (a : UsedAnswer) → UsedAccepted i u v a → a.number ≡ 0 → MarksTell i v
accepted-tell i u v a (too_few h e s) z = absurd (omega (arith, refusal_numbered sheet_too_long, ap (λ (x : UsedAnswer). x.number) e))
accepted-tell i u v a (all_marked h g e) z = marks-tell i u v g

-- Where no refusal is told.
pub used-tell : (i : Input) (u v : List ℕ) (a : UsedAnswer) → UsedStrings i u v a → a.number ≡ 0 → MarksTell i v
unfolding UsedStrings
used-tell i u v a t z = go (reading i) t
  where
    go : (r : Res (Declarations × ℕ)) → UsedBy r i u v a → MarksTell i v
    go (ok read) h = accepted-tell i u v a h z
    go (refused c p) h = absurd (omega (arith, refusal_numbered c, ap (λ (x : UsedAnswer). x.number) h.0))
