-- What is left, read on from the record so far, is what all the lines say: each turn is one law of `Reading`, and each way out the fault there.
use Rattle.std.proofs.Common.{◌≡◌, ◌+◌, ◌-◌, refl, sym, subst, ◌∙◌, arith, drop, take}
use Rattle.text_keyed.specs.Text.{clean}
use Rattle.text_keyed.proofs.Running.{with_interval}
use Rattle.text_lines.specs.Line.{entry_of}
use Rattle.text_lines.specs.LineLaws.{limited_few}
use Rattle.text_tables.proofs.Reading.{AtEntry, tables_start, table_first, tables_end, interval_set, interval_kept, short, bad_head, next_head, next_table, bad_entry, next_entry, some_entry, has_ended, not_ended}
use Rattle.text_tables.proofs.read_tables.Goals as goal
use Rattle.text_tables.proofs.read_tables.Goals.{then-t-lt2, else-t-lt2}

pub tables-init : goal.tables-init
tables-init c =
    tables_start c.args.s.now c.args.from c.args.sizes.locations c.args.sizes.sums c.empty_program-program.result c.empty_program-program.ensures c.requires

pub returns-then-e-s : goal.returns-then-e-s
returns-then-e-s c =
    c.fault.ensures ∙ short c.args.s.now c.args.from c.args.sizes.locations c.args.sizes.sums c.tables.program c.tables.t 0 c.tables.at c.find-e.result (table_first c.args.s.now c.args.from c.args.sizes.locations c.args.sizes.sums c.tables.program c.tables.t c.tables.at c.tables.invariant c.tables-test.true) c.find-e.ensures c.if-e-s.true

pub returns-in-Err : goal.returns-in-Err
returns-in-Err c =
    c.fault-in-Err.ensures ∙ bad_head c.args.s.now c.args.from c.args.sizes.locations c.args.sizes.sums c.tables.program c.tables.t 0 c.tables.at c.find-e.result (table_first c.args.s.now c.args.from c.args.sizes.locations c.args.sizes.sums c.tables.program c.tables.t c.tables.at c.tables.invariant c.tables-test.true) c.find-e.ensures c.if-e-s.false c.in-Err.k refl (sym c.judge_table.ensures ∙ c.in-Err.is)

pub entries-init : goal.entries-init
entries-init c =
    let p = c.tables.program in
    let t = c.tables.t in
    let v = c.in-Ok.v in
    let kept : with_interval t v p ≡ c.if-t-lt2.program = elim c.if-t-lt2.branch [ then-t-lt2 w ↦ interval_set t v p w.if-t-lt2.true ∙ sym w.program-is | else-t-lt2 w ↦ interval_kept t v p w.if-t-lt2.false ∙ sym w.program-is ] in
    let first = table_first c.args.s.now c.args.from c.args.sizes.locations c.args.sizes.sums p t c.tables.at c.tables.invariant c.tables-test.true in
    (some_entry 0, subst (λ q. AtEntry c.args.s.now c.args.from c.args.sizes.locations c.args.sizes.sums q t 1 (c.find-e.result + 1)) kept (next_head c.args.s.now c.args.from c.args.sizes.locations c.args.sizes.sums p t 0 c.tables.at c.find-e.result first c.find-e.ensures c.if-e-s.false v refl (sym c.judge_table.ensures ∙ c.in-Ok.is)))

pub returns-then-e-s-2 : goal.returns-then-e-s-2
returns-then-e-s-2 c =
    c.fault-then-e-s-2.ensures ∙ short c.args.s.now c.args.from c.args.sizes.locations c.args.sizes.sums c.entries.program c.tables.t c.entries.n c.entries.at c.find-e-in-entries.result c.entries.invariant.1 c.find-e-in-entries.ensures c.if-e-s-2.true

pub returns-in-Err-read_nth : goal.returns-in-Err-read_nth
returns-in-Err-read_nth c =
    c.fault-in-Err-read_nth.ensures ∙ bad_entry c.args.s.now c.args.from c.args.sizes.locations c.args.sizes.sums c.entries.program c.tables.t c.entries.n c.entries.at c.find-e-in-entries.result c.entries.invariant.1 c.find-e-in-entries.ensures c.if-e-s-2.false c.in-Err-read_nth.k c.entries.invariant.0 (sym c.is_close.ensures ∙ c.if-is_close.false) (sym c.read_nth.ensures ∙ c.in-Err-read_nth.is)

pub bounds-program-slot : goal.bounds-program-slot
bounds-program-slot c =
    omega (arith, c.entries.invariant.1.few, c.entries.invariant.1.last, c.entries.invariant.1.arrays.all, limited_few c.entries.n (entry_of (take (c.find-e-in-entries.result - c.entries.at) (drop c.entries.at c.args.s.now))) c.in-Ok-read_nth.instruction (sym c.read_nth.ensures ∙ c.in-Ok-read_nth.is))

pub entries-preserved : goal.entries-preserved
entries-preserved c =
    (some_entry c.entries.n, next_entry c.args.s.now c.args.from c.args.sizes.locations c.args.sizes.sums c.entries.program c.tables.t c.entries.n c.entries.at c.find-e-in-entries.result c.entries.invariant.1 c.find-e-in-entries.ensures c.if-e-s-2.false c.in-Ok-read_nth.instruction c.entries.invariant.0 (sym c.is_close.ensures ∙ c.if-is_close.false) (sym c.read_nth.ensures ∙ c.in-Ok-read_nth.is))

pub tables-preserved : goal.tables-preserved
tables-preserved c =
    next_table c.args.s.now c.args.from c.args.sizes.locations c.args.sizes.sums c.entries.program c.tables.t c.entries.n c.entries.at c.find-e-in-entries.result c.entries.invariant.1 c.find-e-in-entries.ensures c.if-e-s-2.false c.entries.invariant.0 (sym c.is_close.ensures ∙ c.if-is_close.true)

pub returns-then-ends_text : goal.returns-then-ends_text
unfolding clean
returns-then-ends_text c =
    has_ended _ _ _ c.if-ends_text.true (c.ends_text.ensures _) ∙ tables_end c.args.s.now c.args.from c.args.sizes.locations c.args.sizes.sums c.tables.program c.tables.t c.tables.at c.tables.invariant c.tables-test.false

pub returns : goal.returns
returns c =
    c.fault-2.ensures ∙ not_ended _ c.tables.program _ c.if-ends_text.false (c.ends_text.ensures _) ∙ tables_end c.args.s.now c.args.from c.args.sizes.locations c.args.sizes.sums c.tables.program c.tables.t c.tables.at c.tables.invariant c.tables-test.false
