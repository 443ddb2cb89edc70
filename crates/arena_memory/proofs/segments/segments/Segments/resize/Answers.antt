use Rattle.std.proofs.Common.{ℕ, List, ◌*◌, replicate, sym, ap, ◌∙◌, arith}
use Rattle.kernel_rules.specs.Written.{resized}
use Rattle.arena_memory.proofs.Bytes.{resized_pages}
use Rattle.arena_memory.proofs.Costs.{probes_sum}
use Rattle.arena_memory.proofs.Resizes.{length-left, room_left, resized_is}
use Rattle.arena_memory.proofs.Seen.{seen, bytes_is, room_is, length-view}
use Rattle.arena_memory.proofs.segments.segments.Segments.resize.Goals as goal

pub grow-requires-clause-room : goal.grow-requires-clause-room
grow-requires-clause-room c =
    let f = c.self.inside.frames in
    room_left f c.args.slot.0 c.args.pages (omega (arith, c.requires.slot, length-view f c.paged.ensures _ c.self.view_is)) c.shrink.new.self c.shrink.ensures.after
    (room_is f c.paged.ensures _ c.self.view_is c.args.slot.0 c.args.pages c.requires.room)

pub returns-clause-after : goal.returns-clause-after
returns-clause-after c =
    let f = c.self.inside.frames in
    let full = resized_is f c.args.slot.0 c.args.pages (omega (arith, c.requires.slot, length-view f c.paged.ensures _ c.self.view_is)) c.shrink.new.self c.shrink.ensures.after (replicate {A = ℕ} 256 0) c.grow.new.self c.grow.ensures.after in
    seen f c.paged.ensures _ c.self.view_is c.grow.new.self c.args.slot.0 _ _ full
    (resized_pages c.args.pages _ (c.paged.ensures.whole c.args.slot.0) ∙ ap (λ (bytes : List ℕ). resized (256 * c.args.pages) bytes) (sym (bytes_is f c.paged.ensures _ c.self.view_is c.args.slot.0)))

pub returns-clause-probes : goal.returns-clause-probes
returns-clause-probes c =
    let f = c.self.inside.frames in
    probes_sum _ _ _ _ _ _ c.shrink.ensures.probes c.grow.ensures.probes
    (omega (arith, c.requires.few, c.paged.ensures.few c.args.slot.0, length-left f c.args.slot.0 c.args.pages (omega (arith, c.requires.slot, length-view f c.paged.ensures _ c.self.view_is)) c.shrink.new.self c.shrink.ensures.after))
