use Rattle.std.proofs.Common.{◌≡◌, ◌∙◌, ◌+◌, ◌-◌, ◌++◌, ap, subst, arith, append_assoc}
use Rattle.check_text.specs.Checks.{AreToldLater}
use Rattle.check_text.specs.FaultTexts.{fault_text}
use Rattle.check_text.specs.Lines.{before_byte, after_byte, after_lines}
use Rattle.check_text.specs.Reasons.{from_line, line_at, numbered}
use Rattle.check_text.proofs.checks.put_faults.Goals as goal

pub returns : goal.returns
returns c =
    let n = c.args.number in
    let bytes = c.args.bytes.now in
    let path = c.args.source.now.path.now in
    let numbers = c.args.source.now.numbers.now in
    let old = c.args.out.now.items in
    let reason = c.in_ok-reason.reason in
    let shown : c.numbered.result ≡ numbered numbers reason = c.numbered.ensures in
    let later = c.in_ok-put_later.ensures in
    let from : c.after_lines.result.now ≡ from_line n bytes = c.after_lines.ensures ∙ ap (λ k. after_lines k bytes) c.saturating_sub.ensures in
    let line : c.cut.result.0.now ≡ line_at n bytes = c.cut.ensures.before ∙ ap (before_byte 10) from in
    let rest : c.cut.result.1.now ≡ after_byte 10 (from_line n bytes) = c.cut.ensures.after ∙ ap (after_byte 10) from in
    let left : 65537 - (n + 1) ≡ 65536 - n = omega arith in (
      reason,
      later.0,
      c.in_ok-reason.ensures,
      subst (λ t. AreToldLater path numbers (n + 1) (65536 - n) t later.0) rest
          (subst (λ k. AreToldLater path numbers (n + 1) k c.cut.result.1.now later.0) left later.1),
      later.2
          ∙ ap (λ t. t ++ later.0) (c.in_ok-put_fault.ensures ∙ ap (λ r. old ++ fault_text path numbers n c.cut.result.0.now r) shown
          ∙ ap (λ l. old ++ fault_text path numbers n l (numbered numbers reason)) line)
          ∙ append_assoc old (fault_text path numbers n (line_at n bytes) (numbered numbers reason)) later.0,
    )
