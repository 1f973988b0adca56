use mathlib.Core.Path.{◌≡◌, ◌∙◌, ap, sym, refl}
use Prim.Native.Nat.{ℕ, ◌+◌, ◌-◌}
use native.Mathlib.Omega.{arith}
use Rattle.characters.specs.told.CharactersTold.{character_read}
use Rattle.characters.proofs.TestLaws.{apart, within}
use Rattle.characters.proofs.RowLaws.{goes-whole, goes-missing, goes-wrong, goes_on_lem, code_grows, code_bound, code_few}
use Rattle.characters.proofs.go_on.Goals as goal

pub loop-i-init : goal.loop-i-init
loop-i-init c =
    let a = c.args in
    let e : ◌≡◌ {A = ℕ} (a.at + a.first.following - a.at) a.first.following = omega arith in
    rw e (refl, c.requires.0, c.requires.1)

pub returns-then-s-i : goal.returns-then-s-i
returns-then-s-i c =
    let k = c.args.at + c.args.first.following - c.loop-i.i in
    c.replaced.ensures ∙ sym (goes-missing c.args.s.now _ _ k _ _ (omega arith) c.if-s-i.true) ∙ c.loop-i.invariant.0

pub returns-then-byte-low : goal.returns-then-byte-low
returns-then-byte-low c =
    let k = c.args.at + c.args.first.following - c.loop-i.i in
    c.replaced-then-byte-low.ensures
    ∙ sym (goes-wrong c.args.s.now _ _ c.if-s-i.false c.from-byte.ensures k _ _ (omega arith) (apart _ _ _ c.then-byte-low.either))
    ∙ c.loop-i.invariant.0

pub overflow_mul-code : goal.overflow_mul-code
overflow_mul-code c = omega (arith, code_bound _ _ c.loop-i.invariant.1)

pub overflow_add-code : goal.overflow_add-code
overflow_add-code c = omega (arith, code_bound _ _ c.loop-i.invariant.1)

pub loop-i-preserved : goal.loop-i-preserved
loop-i-preserved c =
    let k = c.args.at + c.args.first.following - c.loop-i.i in
    let less = c.args.at + c.args.first.following - (c.loop-i.i + 1) in (
      sym (goes_on_lem c.args.s.now _ _ c.if-s-i.false c.from-byte.ensures k less _ _ (omega arith) (within _ _ _ c.if-byte-low.false c.if-high-byte.false))
          ∙ c.loop-i.invariant.0,
      code_grows _ _ k less (omega arith) c.loop-i.invariant.1,
      omega arith,
    )

pub returns : goal.returns
returns c =
    let n = c.args.at + c.args.first.following in
    let e : ◌≡◌ {A = ℕ} n c.loop-i.i = omega (arith, c.loop-i.auto.i-end) in
    ap (character_read c.loop-i.code) e ∙ sym (goes-whole c.args.s.now _ _ (n - c.loop-i.i) _ _ (omega arith)) ∙ c.loop-i.invariant.0

pub overflow_add-next : goal.overflow_add-next
overflow_add-next c = omega (arith, code_few _ _ c.requires.0)
