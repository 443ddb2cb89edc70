use Rattle.std.proofs.Common.{refl, arith}
use Rattle.containers.proofs.ListViews.{len_is}
use Rattle.containers.proofs.Changes.{pushed_laid_out, length-list}
use Rattle.containers.proofs.entry_lists.chains.put_last.Goals as goal

pub overflow_add-lens : goal.overflow_add-lens
overflow_add-lens g c =
    omega (arith, length-list _ _ _ _ _ _ c.requires.0 c.args.put.head c.requires.1.0, len_is _ _ _ _ _ _ c.requires.0 c.args.put.head c.requires.1.0, c.ranges.cells.fits)

pub returns : goal.returns
returns g c =
    pushed_laid_out _ _ _ _ _ _ c.requires.0 c.args.put.head c.args.put.cell _ _ refl refl c.requires.1.0 c.requires.1.1.0 c.requires.1.1.1.0
