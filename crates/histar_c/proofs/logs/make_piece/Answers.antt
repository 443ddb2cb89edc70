use Rattle.std.proofs.Common.{◌≡◌, List, Option, Some, None, refl, sym, subst, inl, inr}
use Rattle.logged_kernel.specs.declared.entries.Entry.{Entry}
use Rattle.histar_c.specs.Served.{IsDumpedIn}
use Rattle.histar_c.proofs.logs.make_piece.Goals as goal

pub returns-in-Err : goal.returns-in-Err
returns-in-Err c =
    let before = c.args.kept.now in
    let told = c.args.answer.now in
    elim before.logged.log
    as (λ (log : Option (List Entry)). before.logged.log ≡ log → IsDumpedIn log c.args.piece before
    (record { logged = before.logged; alloc = before.alloc; meter = c.dump_piece.new.meter; call = before.call; reply = before.reply; text = before.text })
    51 told told) [
      | None ↦ λ none. absurd (c.in-Err.ensures.sure none)
      | Some kept ↦ λ some. inr ((refl, refl), refl, refl)
    ] refl
