-- Each test in turn decides `ring_refusal`.
use native.Mathlib.Omega.{arith}
use Rattle.storage_listing.proofs.RefusalLaws.{refused_empty, refused_long, refused_position, refused_filled, not_refused}
use Rattle.storage_listing.proofs.refusal.check_ring.Goals as goal

pub returns-then-n-eq0 : goal.returns-then-n-eq0
returns-then-n-eq0 c =
    refused_empty c.args.n c.args.s c.if-n-eq0.true

pub returns-then-n-gt32768 : goal.returns-then-n-gt32768
returns-then-n-gt32768 c =
    refused_long c.args.n c.args.s c.if-n-gt32768.true

pub returns-then-n-s : goal.returns-then-n-s
returns-then-n-s c =
    refused_position c.args.n c.args.s (omega (arith, c.if-n-eq0.false)) (omega arith) (omega arith)

pub returns-then-n-s-2 : goal.returns-then-n-s-2
returns-then-n-s-2 c =
    refused_filled c.args.n c.args.s (omega (arith, c.if-n-eq0.false)) (omega arith) (omega arith)

pub returns : goal.returns
returns c =
    not_refused c.args.n c.args.s (omega (arith, c.if-n-eq0.false)) (omega arith) (omega arith) (omega arith)
