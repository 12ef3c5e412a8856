-- The line and its byte 10 stand there.
use Rattle.std.proofs.Common.{◌≡◌, rules, subst}
use Rattle.base_lines.specs.Line.{is_close}
use Rattle.base_lines.proofs.Laws.{from_all}
use Rattle.base_lines.proofs.place.is_close.Goals as goal

pub returns : goal.returns
unfolding is_close
returns c =
    subst (λ t. c.starts_with.result ≡ is_close t) (from_all c.args.s.now c.args.at) (search rules)
