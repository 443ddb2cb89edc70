use Rattle.std.proofs.Common.{Bool, ap, ◌∙◌, refl, sym, subst}
use Rattle.auditor.specs.Verdict.{IsVerdict, TellsFalse}
use Rattle.auditor.specs.declared.verdicts.Verdict.{Verdict}
use Rattle.histar_audit.proofs.ToldLaws.{start_told}
use Rattle.histar_audit.specs.Told.{is_asked, IsHiddenIn, IsReachedIn}
use Rattle.histar_audit.proofs.audit_program.program.found_in.Goals as goal

pub returns : goal.returns
returns c =
    let bytes = c.args.audited.now.bytes.now in
    let verdict = c.verdict-verdict.result in
    let same = sym c.verdict-verdict.ensures in
    let asked = c.args.asked.now in
    let reached = c.in_ok-reached.reached.items in
    let told = c.in_ok-told.told.items in
    let later = c.is_asked.ensures ∙ ap (λ (b : Bool). is_asked b verdict) c.in_ok-later.ensures in
    record {
      verdict_is = subst (λ (v : Verdict). IsVerdict bytes v) same c.requires.found;
      tells = subst (λ (v : Verdict). TellsFalse bytes v) same c.requires.tells;
      later = c.is_asked.result;
      is_start = start_told bytes c.args.audited.now.dump verdict c.is_asked.result c.requires.spelt later;
      reached = reached;
      is_reached = subst (λ (v : Verdict). IsReachedIn asked.options.flow bytes v reached) same c.in_ok-reached.ensures;
      told = told;
      is_hidden = subst (λ (v : Verdict). IsHiddenIn asked.hidden bytes v told) same c.in_ok-told.ensures;
      text_is = c.in_ok-text.ensures
          ∙ rw (
            c.as_slice.ensures.value,
            c.as_slice-2.ensures.value,
            c.is_asked-2.ensures ∙ ap (λ (b : Bool). is_asked b verdict) c.is_some.ensures,
            c.is_asked-3.ensures ∙ ap (λ (b : Bool). is_asked b verdict) c.is_some-2.ensures,
          ) refl;
      migration = c.in_ok-file.ensures;
    }
