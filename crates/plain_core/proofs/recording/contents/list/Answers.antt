use Rattle.std.proofs.Common.{◌≤◌, length, arith, ◌∙◌, ◌++◌}
use Rattle.kernel_rules.specs.State.{list_at, quota_at}
use Rattle.plain_core.proofs.ContentLaws.{list_few, window_more}
use Rattle.plain_core.proofs.recording.contents.list.Goals as goal

pub overflow_cast-window : goal.overflow_cast-window
overflow_cast-window g c =
    let s = g.S.Store.state c.args.store.now in
    let o = g.S.Store.id_of c.args.at in
    let few : length (list_at s o) ≤ quota_at s o = list_few s o (g.met.S.Store.sound c.args.store.now) in
    omega (arith, c.list_len.ensures.value, c.quota-quota.ensures)

pub loop-window-preserved : goal.loop-window-preserved
loop-window-preserved g c =
    let ids = list_at (g.S.Store.state c.args.store.now) (g.S.Store.id_of c.args.at) in
    c.in_ok-add_ids.ensures
    ∙ (λ j. c.loop-window.invariant j ++ (c.as_slice.ensures.value ∙ c.ids_from-ids.ensures.value) j)
    ∙ window_more ids c.loop-window.window
