-- One test after the other.
use mathlib.Core.Path.{sym, ◌∙◌}
use mathlib.Core.Bool.{◌&&◌}
use lib.Dec.{leb, ltb}
use borrow.Author.Tests.{lt-ltb, le-ltb, le-leb, lt-leb}
use Rattle.spec_calls.specs.Refusals.{few_samples}
use Rattle.scan_refusals.specs.Lent.{ordered}
use Rattle.base_laws.specs.Tests.{and_no, and_yes}
use Rattle.scan_refusals.proofs.in_order.Goals as goal

pub returns-else-s-ring : goal.returns-else-s-ring
unfolding ordered
returns-else-s-ring c =
    let high = le-ltb c.args.s.position c.args.ring c.if-s-ring.false in
    high ∙ and_no (ltb c.args.s.position c.args.ring && leb c.args.s.filled c.args.ring) (leb c.args.s.array 399 && few_samples c.args.counts.now) (sym (and_no (ltb c.args.s.position c.args.ring) (leb c.args.s.filled c.args.ring) high))

pub returns-else-s-ring-2 : goal.returns-else-s-ring-2
unfolding ordered
returns-else-s-ring-2 c =
    let more = lt-leb c.args.s.filled c.args.ring c.if-s-ring-2.false in
    more ∙ and_no (ltb c.args.s.position c.args.ring && leb c.args.s.filled c.args.ring) (leb c.args.s.array 399 && few_samples c.args.counts.now) (sym (and_yes (ltb c.args.s.position c.args.ring) (leb c.args.s.filled c.args.ring) _ (lt-ltb c.args.s.position c.args.ring c.if-s-ring.true) (sym more)))

pub returns-else-s-le-LAST_ARRAY : goal.returns-else-s-le-LAST_ARRAY
unfolding ordered
returns-else-s-le-LAST_ARRAY c =
    let high = lt-leb c.args.s.array 399 c.if-s-le-LAST_ARRAY.false in
    high ∙ and_yes (ltb c.args.s.position c.args.ring && leb c.args.s.filled c.args.ring) (leb c.args.s.array 399 && few_samples c.args.counts.now) _ (sym (and_yes (ltb c.args.s.position c.args.ring) (leb c.args.s.filled c.args.ring) _ (lt-ltb c.args.s.position c.args.ring c.if-s-ring.true) (sym (le-leb c.args.s.filled c.args.ring c.if-s-ring-2.true)))) (and_no (leb c.args.s.array 399) (few_samples c.args.counts.now) high)

pub returns-then-s-le-LAST_ARRAY : goal.returns-then-s-le-LAST_ARRAY
unfolding ordered
returns-then-s-le-LAST_ARRAY c =
    and_yes (ltb c.args.s.position c.args.ring && leb c.args.s.filled c.args.ring) (leb c.args.s.array 399 && few_samples c.args.counts.now) _ (sym (and_yes (ltb c.args.s.position c.args.ring) (leb c.args.s.filled c.args.ring) _ (lt-ltb c.args.s.position c.args.ring c.if-s-ring.true) (sym (le-leb c.args.s.filled c.args.ring c.if-s-ring-2.true)))) (and_yes (leb c.args.s.array 399) (few_samples c.args.counts.now) _ (le-leb c.args.s.array 399 c.if-s-le-LAST_ARRAY.true) c.few_samples.ensures)
