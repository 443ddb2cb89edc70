use Rattle.std.proofs.Common.{length, sym, ap, ◌∙◌}
use Rattle.kernel_rules.specs.declared.lists.slots.Slots.{Slots}
use Rattle.plain_core.proofs.ContentLaws.{slots_sixteen}
use Rattle.plain_core.proofs.recording.contents.slots.Goals as goal

pub copy_from_slice-requires : goal.copy_from_slice-requires
copy_from_slice-requires g c =
    let s = g.S.Store.state c.args.store.now in
    let o = g.S.Store.id_of c.args.at in
    ap (λ (x : Slots). length x.slots) c.empty-slots.ensures
    ∙ sym (ap length c.slots.ensures.value ∙ slots_sixteen s o (g.met.S.Store.sound c.args.store.now) c.requires.space)
