-- Each turn is one step of `Read`, and each way out is a fault there.
use Rattle.std.proofs.Common.{◌≡◌, arith}
use Rattle.check_ranges.proofs.Read.{lent_starts, lent_header, lent_table, lent_interval, lent_entry, lent_fault, lent_on, lent_length, lent_ends}
use borrow.Author.Tests.{not-true, not-false}
use Rattle.check_ranges.proofs.walk_ranges.Goals as goal

pub returns-then-not-header_in_range : goal.returns-then-not-header_in_range
returns-then-not-header_in_range c =
    lent_header c.args.numbers.now c.args.values.now _ _ _ c.requires.2 c.requires.3 c.requires.4 _ c.header_in_range.ensures c.if-not-header_in_range.true

pub tables-init : goal.tables-init
tables-init c = lent_starts c.args.numbers.now c.args.values.now _ _ _ c.requires.2 c.requires.3 c.requires.4 _ c.header_in_range.ensures c.if-not-header_in_range.false

pub returns-then-not-interval_in_range : goal.returns-then-not-interval_in_range
returns-then-not-interval_in_range c =
    rw c.fault_at.ensures
    (lent_interval c.args.numbers.now c.args.values.now c.tables.codes c.tables.sums c.tables.needs c.tables.t c.tables-test.true c.interval_in_range.result c.interval_of.result
    c.interval_in_range.ensures c.interval_of.ensures c.tables.invariant c.if-not-interval_in_range.true)

pub entries-init : goal.entries-init
entries-init c =
    lent_table c.args.numbers.now c.args.values.now c.tables.codes c.tables.sums c.tables.needs c.tables.t c.tables-test.true c.interval_in_range.result c.interval_of.result
    c.interval_in_range.ensures c.interval_of.ensures c.tables.invariant c.if-not-interval_in_range.false

pub returns-then-not-known : goal.returns-then-not-known
returns-then-not-known c =
    rw c.fault_at-then-not-known.ensures
    (lent_fault c.args.numbers.now c.args.values.now c.entries.codes c.entries.sums c.entries.needs c.tables.t c.tables-test.true c.length_at-claimed.result c.entries_in_use-n.result
    c.length_at-claimed.ensures c.entries_in_use-n.ensures c.entries.e c.entries-test.true c.facts_at-known.result c.facts_at-known.ensures c.entries.invariant (not-true _ c.if-not-known.true))

pub entries-preserved : goal.entries-preserved
entries-preserved c =
    lent_entry c.args.numbers.now c.args.values.now c.entries.codes c.entries.sums c.entries.needs c.tables.t c.tables-test.true c.length_at-claimed.result c.entries_in_use-n.result
    c.length_at-claimed.ensures c.entries_in_use-n.ensures c.entries.e c.entries-test.true c.facts_at-known.result c.facts_at-known.ensures c.entries.invariant (not-false _ c.if-not-known.false)

pub returns-then-claimed-gt99 : goal.returns-then-claimed-gt99
returns-then-claimed-gt99 c =
    let end : c.entries.e ≡ c.entries_in_use-n.result = omega arith in
    rw c.fault_at-then-claimed-gt99.ensures
    (lent_length c.args.numbers.now c.args.values.now c.entries.codes c.entries.sums c.entries.needs c.tables.t c.tables-test.true c.length_at-claimed.result c.entries_in_use-n.result
    c.length_at-claimed.ensures c.entries_in_use-n.ensures (rw (← end) c.entries.invariant) c.if-claimed-gt99.true)

pub tables-preserved : goal.tables-preserved
tables-preserved c =
    let end : c.entries.e ≡ c.entries_in_use-n.result = omega arith in
    lent_on c.args.numbers.now c.args.values.now c.entries.codes c.entries.sums c.entries.needs c.tables.t c.tables-test.true c.length_at-claimed.result c.entries_in_use-n.result
    c.length_at-claimed.ensures c.entries_in_use-n.ensures (rw (← end) c.entries.invariant) c.if-claimed-gt99.false

pub returns : goal.returns
returns c =
    let end : c.tables.t ≡ 3 = omega arith in
    lent_ends c.args.numbers.now c.args.values.now c.tables.codes c.tables.sums c.tables.needs (rw end at c.tables.invariant)
