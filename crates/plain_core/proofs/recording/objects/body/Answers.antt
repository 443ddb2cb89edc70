use Rattle.std.proofs.Common.{ap, sym, ◌∙◌, List, ℕ}
use Rattle.kernel_rules.specs.declared.objects.Body.TheVariants as is
use Rattle.std.proofs.Common.{Some}
use Rattle.plain_core.proofs.BodyLaws.{device_body}
use Rattle.plain_core.proofs.recording.objects.body.Goals as goal

pub returns : goal.returns
returns g c =
    let s = g.S.Store.state c.args.store.now in
    let o = g.S.Store.id_of c.args.at in
    device_body s o (g.met.S.Store.sound c.args.store.now) c.requires.there (sym c.in_default.ensures)
    (sym c.in_default-gate.ensures) (sym c.if-is_live.ensures) (sym c.if-is_live-2.ensures) (sym c.if-is_live-3.ensures)
    ∙ ap (λ (ps : List (List ℕ)). Some (is.Device ps)) (sym c.in_ok-packets.ensures)
