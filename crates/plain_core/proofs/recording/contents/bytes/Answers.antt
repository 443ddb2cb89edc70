use Rattle.std.proofs.Common.{◌≡◌, ◌+◌, ◌≤◌, length, take, arith, ap, sym, refl, ◌∙◌, ◌*◌, List, ℕ}
use Rattle.std.proofs.lemmas.List.{length-replicate}
use Rattle.kernel_rules.specs.State.{bytes_at}
use Rattle.plain_core.proofs.ContentLaws.{pages_whole, piece_more, piece_long, pieces_all}
use Rattle.plain_core.proofs.recording.contents.bytes.Goals as goal

pub loop-piece-init : goal.loop-piece-init
loop-piece-init g c =
    let s = g.S.Store.state c.args.store.now in
    let o = g.S.Store.id_of c.args.at in
    let all : length (bytes_at s o) ≡ 256 * c.page_count-pages.result =
    pages_whole s o (g.met.S.Store.sound c.args.store.now) ∙ ap (λ n. 256 * n) (sym c.page_count-pages.ensures) in
    record {
      whole = all;
      long = ap length (c.in_ok-bytes.ensures) ∙ length-replicate (256 * c.page_count-pages.result) 0 ∙ sym all;
      same = refl;
    }

pub loop-piece-preserved : goal.loop-piece-preserved
loop-piece-preserved g c =
    let s = g.S.Store.state c.args.store.now in
    let o = g.S.Store.id_of c.args.at in
    let within : 64 * c.loop-piece.piece + 64 ≤ length (bytes_at s o) = omega arith in
    let read = c.as_slice.ensures.value ∙ c.bytes_from-read.ensures.value in
    record {
      whole = c.loop-piece.invariant.whole;
      long = ap length c.write.ensures
          ∙ piece_long (bytes_at s o) c.loop-piece.bytes c.as_slice.result.now c.loop-piece.piece within c.loop-piece.invariant.long read;
      same = ap (λ (bs : List ℕ). take (64 * (c.loop-piece.piece + 1)) bs) c.write.ensures
          ∙ piece_more (bytes_at s o) c.loop-piece.bytes c.as_slice.result.now c.loop-piece.piece within c.loop-piece.invariant.same read;
    }

pub returns : goal.returns
returns g c =
    let s = g.S.Store.state c.args.store.now in
    let o = g.S.Store.id_of c.args.at in
    pieces_all (bytes_at s o) c.loop-piece.bytes (64 * c.loop-piece.piece) c.loop-piece.invariant.long (omega arith)
    c.loop-piece.invariant.same
