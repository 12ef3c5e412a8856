-- Each turn hands out one entry's sums; the first that goes past the most is the fault.
use Rattle.std.proofs.Common.{◌≡◌, ◌∙◌, get_or, arith}
use Rattle.check_sums.specs.Sums.{walk_start, walk_end, table_start, next_table, length_is, does_not_fit, fits}
use Rattle.check_sums.proofs.walk_sums.Goals as goal

pub tables-init : goal.tables-init
tables-init c = record { fits = omega arith; going = λ p r. walk_start p }

pub entries-init : goal.entries-init
entries-init c = record {
  fits = c.tables.invariant.fits;
  going = λ p r. table_start p c.tables.t c.tables.total (omega arith) (c.tables.invariant.going p r);
}

pub entries-preserved : goal.entries-preserved
entries-preserved c = record {
  fits = omega arith;
  going = λ p r.
      let n = length_is p c.args.sums.now c.args.lengths c.args.most r c.tables.t (omega arith) in
      fits p c.args.sums.now c.args.lengths c.args.most r c.tables.t (omega arith) c.entries.e c.entries.total (omega arith) (c.entries.invariant.going p r) (omega arith);
}

pub tables-preserved : goal.tables-preserved
tables-preserved c = record {
  fits = c.entries.invariant.fits;
  going = λ p r.
      let end : c.entries.e ≡ get_or c.args.lengths c.tables.t 0 = omega arith in
      next_table p c.args.sums.now c.args.lengths c.args.most r c.tables.t (omega arith) (get_or c.args.lengths c.tables.t 0) c.entries.total
      (length_is p c.args.sums.now c.args.lengths c.args.most r c.tables.t (omega arith)) (rw (← end) (c.entries.invariant.going p r));
}

pub returns-then-most-total : goal.returns-then-most-total
returns-then-most-total c = λ p r.
    let n = length_is p c.args.sums.now c.args.lengths c.args.most r c.tables.t (omega arith) in
    c.fault_at.ensures
    ∙ does_not_fit p c.args.sums.now c.args.lengths c.args.most r c.tables.t (omega arith) c.entries.e c.entries.total (omega arith) (c.entries.invariant.going p r) (omega arith)

pub returns : goal.returns
returns c = λ p r. walk_end p c.tables.t c.tables.total (omega arith) (c.tables.invariant.going p r)
