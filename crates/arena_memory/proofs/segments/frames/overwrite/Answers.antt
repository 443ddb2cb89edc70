use Rattle.std.proofs.Common.{◌+◌, ◌-◌, length, arith}
use Rattle.arena_memory.proofs.Rows.{patched}
use Rattle.arena_memory.proofs.segments.frames.overwrite.Goals as goal

pub returns-then-part-eq-MOST : goal.returns-then-part-eq-MOST
returns-then-part-eq-MOST c =
    patched c.args.page.now c.args.part.now c.copy_from_slice.new.self c.args.from (c.args.from + 64 - c.args.from)
    c.copy_from_slice.ensures.after (omega (arith, c.if-part-eq-MOST.true))

pub returns-else-part-eq-MOST : goal.returns-else-part-eq-MOST
returns-else-part-eq-MOST c =
    patched c.args.page.now c.args.part.now c.copy_from_slice-else-part-eq-MOST.new.self c.args.from
    (c.args.from + length c.args.part.now - c.args.from) c.copy_from_slice-else-part-eq-MOST.ensures.after (omega arith)
