use Rattle.std.proofs.Common.{◌≡◌, ◌*◌, length, take}
use Rattle.kernel_rules.specs.State.{bytes_at}
use Rattle.plain_core.proofs.recording.contents.bytes.Given as goal

abbrev pub invariant-loop-piece : goal.invariant-loop-piece
invariant-loop-piece g l =
    let all = bytes_at (g.S.Store.state l.store) (g.S.Store.id_of l.at) in
    record {
      whole : length all ≡ 256 * l.pages;
      long : length l.bytes ≡ length all;
      same : take (64 * l.piece) l.bytes ≡ take (64 * l.piece) all;
    }
