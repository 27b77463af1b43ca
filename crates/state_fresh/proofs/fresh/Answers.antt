use borrow.Author.Rules.{rules}
use mathlib.Core.Path.{◌≡◌, refl}
use Prim.Native.Nat.{◌-◌}
use native.Mathlib.Omega.{arith}
use Rattle.rules.specs.Sizes.{thread_count, words_size, state_size}
use Rattle.state_fresh.specs.Fresh.{begun-none, begun_more, begun_all}
use Rattle.state_fresh.proofs.fresh.Goals as goal

pub clear-requires : goal.clear-requires
clear-requires c = omega (arith, c.copy.auto.s)

pub loop-t-init : goal.loop-t-init
loop-t-init c = (
  omega (arith, c.copy.auto.s, c.clear.auto.s),
  begun-none c.args.words.now c.requires.0 (state_size - words_size) refl c.args.state.now c.requires.1
      c.copy.ensures c.clear.ensures,
)

pub loop-t-preserved : goal.loop-t-preserved
loop-t-preserved c =
    let l = c.loop-t in (
      omega (arith, c.put16.auto.s),
      begun_more c.args.words.now c.requires.0 (state_size - words_size)
          refl l.t c.loop-t-test.true l.invariant.1 c.put16.ensures,
    )

pub returns : goal.returns
returns c =
    let l = c.loop-t in
    let e : l.t ≡ thread_count = omega arith in
    begun_all c.args.words.now c.requires.0 (state_size - words_size) refl
    (λ j. search rules) (rw e at l.invariant.1)
