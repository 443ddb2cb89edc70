use Rattle.std.proofs.Common.{◌≡◌, ◌-◌, ◌+◌, ◌<◌, ◌∙◌, false, if◌then◌else◌, Some, ap, sym, arith}
use Rattle.check_text.specs.Lines.{before_byte, binding_line, binds}
use Rattle.check_text.proofs.LineLaws.{one_more}
use Rattle.check_text.proofs.lines.binding_line.Goals as goal

pub loop-before-preserved : goal.loop-before-preserved
loop-before-preserved c =
    let i = c.loop-before.before in
    let lt : i < c.args.count = omega arith in
    let other : binds c.args.name.now (before_byte 10 c.loop-before.rest.now) ≡ false =
    ap (binds c.args.name.now) (sym c.cut.ensures.before) ∙ sym c.binds.ensures ∙ c.if-binds.false in
    c.loop-before.invariant ∙ one_more c.args.count i c.args.name.now c.loop-before.rest.now lt
    ∙ (λ j. if other j then Some (i + 1) else binding_line ((i + 1) + 1) (c.args.count - (i + 1)) c.args.name.now (sym c.cut.ensures.after j))
