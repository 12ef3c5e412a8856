-- Three numbers, each written.
use Rattle.firmware_list.specs.Items.{numbers_of_cursor}
use Rattle.firmware_list.proofs.Three.{three_set}
use Rattle.firmware_list.proofs.put_cursor.Goals as goal

pub returns : goal.returns
unfolding numbers_of_cursor
returns c =
    three_set c.args.cursor.now c.requires c.args.c.from c.args.c.position c.args.c.filled
