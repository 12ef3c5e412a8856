-- Each return decides the parts of `is_value` by the tests that led there; digits of at most 6,999 are no start word's.
use native.Mathlib.Omega.{arith}
use borrow.Author.Tests.{lt-leb}
use mathlib.Core.Path.{◌≡◌, ap}
use Prim.Native.Nat.{ℕ}
use mathlib.Core.Bool.{cond}
use Rattle.storage_word.specs.Word.{is_start}
use Rattle.storage_word.proofs.Words.{too_many, three_plain, three_signed, fewer}
use Rattle.storage_word.proofs.is_value.Goals as goal

pub returns-then-digits-gt6999 : goal.returns-then-digits-gt6999
unfolding is_start
returns-then-digits-gt6999 c =
    (too_many c.args.w c.if-digits-gt6999.true, λ e. absurd (let z : ◌≡◌ {A = ℕ} 0 1 = ap (λ b. cond b 1 0) e in omega arith))

pub returns-then-w-lt32768 : goal.returns-then-w-lt32768
unfolding is_start
returns-then-w-lt32768 c =
    (three_plain c.args.w c.if-digits-gt6999.false c.if-places-eq3.true c.if-w-lt32768.true, λ e. lt-leb 64512 c.args.w (omega (arith, c.if-digits-gt6999.false)))

pub returns-else-w-lt32768 : goal.returns-else-w-lt32768
unfolding is_start
returns-else-w-lt32768 c =
    (three_signed c.args.w c.if-digits-gt6999.false c.if-places-eq3.true c.if-w-lt32768.false, λ e. lt-leb 64512 c.args.w (omega (arith, c.if-digits-gt6999.false)))

pub returns : goal.returns
unfolding is_start
returns c =
    (fewer c.args.w c.if-digits-gt6999.false c.if-places-eq3.false, λ e. lt-leb 64512 c.args.w (omega (arith, c.if-digits-gt6999.false)))
