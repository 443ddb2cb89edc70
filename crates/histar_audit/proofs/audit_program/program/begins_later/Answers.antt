use Rattle.std.proofs.Common.{◌∙◌, not, ap, ap₂, sym}
use Rattle.std.specs.Str.{bytes_eq}
use Rattle.checkpoints.specs.Checkpoint.{Checkpoint}
use Rattle.dump_text.specs.Lists.{DumpLists}
use Rattle.histar_audit.specs.Told.{begins_later, head_text}
use Rattle.histar_audit.proofs.audit_program.program.begins_later.Goals as goal

pub returns : goal.returns
returns c =
    let limits = c.dump.inside.limits in
    let told = c.as_slice.ensures.value ∙ c.in_ok-told.ensures.text in
    let booted = c.as_slice-2.ensures.value ∙ c.in_ok-booted.ensures.text ∙ ap (λ (boot : Checkpoint). head_text limits boot) c.in_ok-boot.ensures in
    ap not (c.eq.ensures ∙ ap₂ bytes_eq told booted)
    ∙ ap (begins_later limits) (sym c.in-Some.is)
    ∙ ap (λ (d : DumpLists). begins_later d.limits d.checkpoint) c.dump.view_is
