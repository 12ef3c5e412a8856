-- Each turn is one law of `BlocksGoing`; a fault is that of the first place left.
use Rattle.std.proofs.Common.{◌≡◌, refl, ◌∙◌, ◌+◌, get_or, sym, arith, ne_eqb, eq-eqb}
use mathlib.Core.Logic.{⊎_map}
use Rattle.check_blocks.specs.Depth.{depth_12, shallow_start, shallow_next}
use Rattle.check_blocks.specs.Going.{length_is, fault_here, go_on_lem, fault_next, go_next, table_start, missing_end, next_table, walk_start, walk_end}
use Rattle.check_blocks.proofs.walk_blocks.Goals as goal

pub tables-init : goal.tables-init
tables-init c = record { closed = refl; going = λ p r. walk_start p }

pub entries-init : goal.entries-init
entries-init c = record {
  few = omega arith;
  room = omega arith;
  shallow = shallow_start c.tables.blocks _ c.tables.invariant.closed;
  going = λ p r. rw c.tables.invariant.closed (table_start p c.tables.t c.tables.blocks (omega arith) (c.tables.invariant.going p r));
}

pub returns-then-depth-eq0 : goal.returns-then-depth-eq0
returns-then-depth-eq0 c = λ p r.
    let n = length_is p c.args.codes.now c.args.lengths c.args.subs.now r c.tables.t (omega arith) in
    c.fault_at.ensures
    ∙ fault_next p c.args.codes.now c.args.lengths c.args.subs.now r c.tables.t (omega arith) c.entries.e (omega arith) c.entries.blocks c.entries.depth (c.entries.invariant.going p r)
    c.if-code-eq0.true c.if-t-eq2.true (eq-eqb c.entries.depth 0 c.if-depth-eq0.true)

pub entries-preserved-then-code-eq0 : goal.entries-preserved-then-code-eq0
entries-preserved-then-code-eq0 c = record {
  few = omega arith;
  room = c.entries.invariant.room;
  shallow = c.entries.invariant.shallow;
  going = λ p r.
      let n = length_is p c.args.codes.now c.args.lengths c.args.subs.now r c.tables.t (omega arith) in
      go_next p c.args.codes.now c.args.lengths c.args.subs.now r c.tables.t (omega arith) c.entries.e (omega arith) c.entries.blocks c.entries.depth (c.entries.invariant.going p r)
      c.if-code-eq0.true (⊎_map (λ w. (w.0, ne_eqb c.entries.depth 0 w.1)) (λ w. w) c.else-t-eq2.either);
}

pub returns-in-Some : goal.returns-in-Some
returns-in-Some c = λ p r.
    let n = length_is p c.args.codes.now c.args.lengths c.args.subs.now r c.tables.t (omega arith) in
    c.fault_at-in-Some.ensures
    ∙ fault_here p c.args.codes.now c.args.lengths c.args.subs.now r c.tables.t (omega arith) c.entries.e (omega arith) c.entries.blocks c.entries.depth (c.entries.invariant.going p r)
    c.decode_flow-x.result c.decode_flow-x.ensures c.in-Some.number c.in-Some.ensures.0 (λ z. c.in-Some.ensures.1 (sym c.in-Some.ensures.0 ∙ z))

pub entries-preserved : goal.entries-preserved
entries-preserved c =
    let s = shallow_next _ c.decode_flow-x.result c.entries.blocks c.blocks_through-depth.new.blocks c.entries.depth c.blocks_through-depth.result (c.entries.e + 1) c.args.subs.now c.in_default.ensures c.blocks_through-depth.ensures.0 c.entries.invariant.shallow in
    record {
      few = omega (arith, c.blocks_through-depth.ensures.1);
      room = depth_12 c.blocks_through-depth.new.blocks c.blocks_through-depth.result s;
      shallow = s;
      going = λ p r.
          let n = length_is p c.args.codes.now c.args.lengths c.args.subs.now r c.tables.t (omega arith) in
          go_on_lem p c.args.codes.now c.args.lengths c.args.subs.now r c.tables.t (omega arith) c.entries.e (omega arith) c.entries.blocks c.entries.depth (c.entries.invariant.going p r)
          c.decode_flow-x.result c.decode_flow-x.ensures 0 (sym c.in_default.ensures) refl c.blocks_through-depth.new.blocks c.blocks_through-depth.result c.blocks_through-depth.ensures.0;
    }

pub returns-then-depth-ne0 : goal.returns-then-depth-ne0
returns-then-depth-ne0 c = λ p r.
    let end : c.entries.e ≡ get_or c.args.lengths c.tables.t 0 = omega arith in
    c.fault_at-then-depth-ne0.ensures
    ∙ missing_end p c.args.codes.now c.args.lengths c.args.subs.now r c.tables.t (omega arith) (get_or c.args.lengths c.tables.t 0)
    (length_is p c.args.codes.now c.args.lengths c.args.subs.now r c.tables.t (omega arith)) c.entries.blocks c.entries.depth (rw (← end) (c.entries.invariant.going p r)) c.if-depth-ne0.true

pub tables-preserved : goal.tables-preserved
tables-preserved c = record {
  closed = c.if-depth-ne0.false;
  going = λ p r.
      let end : c.entries.e ≡ get_or c.args.lengths c.tables.t 0 = omega arith in
      next_table p c.args.codes.now c.args.lengths c.args.subs.now r c.tables.t (omega arith) (get_or c.args.lengths c.tables.t 0)
      (length_is p c.args.codes.now c.args.lengths c.args.subs.now r c.tables.t (omega arith)) c.entries.blocks c.entries.depth (rw (← end) (c.entries.invariant.going p r)) c.if-depth-ne0.false;
}

pub returns : goal.returns
returns c = λ p r. walk_end p c.tables.t (omega arith) (c.tables.invariant.going p r)
