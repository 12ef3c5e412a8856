-- The last reading is the highest.
use Rattle.std.proofs.Common.{◌≡◌, false, ◌∙◌, ◌+◌, ◌-◌, ◌&&◌, sym, ap, lt-ltb, le-ltb}
use Rattle.std.specs.Prelude.{ltb}
use Rattle.check_reach.specs.Ready.{past_beyond}
use Rattle.check_reach.proofs.entry.past_cards.Goals as goal

pub returns-then-n-gt0 : goal.returns-then-n-gt0
returns-then-n-gt0 c =
    ap (λ b. b && ltb 196 (c.args.first + c.args.n - 1)) (sym (lt-ltb 0 c.args.n c.if-n-gt0.true)) ∙ past_beyond c.args.first c.args.n

pub returns-else-n-gt0 : goal.returns-else-n-gt0
returns-else-n-gt0 c =
    let none : ltb 0 c.args.n ≡ false = le-ltb 0 c.args.n c.if-n-gt0.false in
    none ∙ ap (λ b. b && ltb 196 (c.args.first + c.args.n - 1)) (sym none) ∙ past_beyond c.args.first c.args.n
