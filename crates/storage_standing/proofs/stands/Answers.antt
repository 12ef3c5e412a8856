-- Each test in turn decides `stands`.
use mathlib.Core.Path.{◌≡◌, sym, ap, ◌∙◌}
use Prim.Native.Nat.{ℕ}
use native.Mathlib.Omega.{arith}
use mathlib.Core.Bool.{cond, ◌||◌}
use borrow.Author.Tests.{eq-eqb, ne_eqb}
use Rattle.std.specs.Prelude.{Option}
use Rattle.storage_ring.specs.Ring.{by_age}
use Rattle.storage_listing.specs.declared.ArraySpan.{ArraySpan}
use Rattle.storage_listing.specs.Spans.{spans, begins_at, ends_at}
use Rattle.storage_listing.specs.Stepped.{stands}
use Rattle.storage_listing.specs.Standing.{found_at}
use Rattle.storage_listing.proofs.Standing.{begins_is}
use Rattle.storage_standing.proofs.stands.Goals.{then-from-eq0, else-from-eq0}
use Rattle.storage_standing.proofs.stands.Goals as goal

pub returns-then-begins_at : goal.returns-then-begins_at
unfolding stands
returns-then-begins_at c =
    let ws = by_age c.args.ring.now c.args.s in
    let e = begins_is ws c.args.from ∙ sym (ap (λ (f : Option ArraySpan). found_at f c.args.from) c.requires.1) in
    c.if-begins_at.true ∙ elim c.if-from-eq0.branch [
      | then-from-eq0 w ↦ sym (ap (λ b. b || (begins_at (spans 0 ws) c.args.from || ends_at (spans 0 ws) c.args.from)) (eq-eqb c.args.from 0 w.if-from-eq0.true))
      | else-from-eq0 w ↦ sym (ap (λ b. b || (begins_at (spans 0 ws) c.args.from || ends_at (spans 0 ws) c.args.from)) (ne_eqb c.args.from 0 w.if-from-eq0.false) ∙ ap (λ b. b || ends_at (spans 0 ws) c.args.from) (e ∙ sym w.begins_at.ensures ∙ sym w.value-is ∙ c.if-begins_at.true))
    ]

pub returns-else-begins_at : goal.returns-else-begins_at
unfolding stands
returns-else-begins_at c =
    let ws = by_age c.args.ring.now c.args.s in
    let e = begins_is ws c.args.from ∙ sym (ap (λ (f : Option ArraySpan). found_at f c.args.from) c.requires.1) in
    elim c.if-from-eq0.branch [
      | then-from-eq0 w ↦ let z : ◌≡◌ {A = ℕ} 1 0 = ap (λ b. cond b 1 0) (sym (eq-eqb c.args.from 0 w.if-from-eq0.true) ∙ sym w.value-is ∙ c.if-begins_at.false) in absurd (omega (arith, z))
      | else-from-eq0 w ↦ sym (ap (λ b. b || (begins_at (spans 0 ws) c.args.from || ends_at (spans 0 ws) c.args.from)) (ne_eqb c.args.from 0 w.if-from-eq0.false) ∙ ap (λ b. b || ends_at (spans 0 ws) c.args.from) (e ∙ sym w.begins_at.ensures ∙ sym w.value-is ∙ c.if-begins_at.false) ∙ sym c.ends_at.ensures)
    ]
