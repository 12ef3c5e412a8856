-- By the definition of `cursor_of`.
use mathlib.Core.Path.{refl}
use Rattle.firmware_list.specs.Items.{cursor_of}
use Rattle.firmware_list.proofs.cursor_in.Goals as goal

pub returns : goal.returns
unfolding cursor_of
returns c =
    refl
