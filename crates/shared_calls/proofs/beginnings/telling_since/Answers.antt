use Rattle.std.proofs.Common.{◌≡◌, length, arith, ap, sym, ◌∙◌}
use Rattle.std.specs.Arc.{arc_value}
use Rattle.base.specs.Limits.{in_range}
use Rattle.checkpoints.specs.Restorable.{is_restorable}
use Rattle.checkpoints.specs.Restored.{restored}
use Rattle.syscall_core.specs.Kernel.{kernel_state}
use Rattle.shared_calls.specs.declared.lists.CallList.{CallList}
use Rattle.shared_calls.proofs.BeginningLaws.{is_written, IsWritten}
use Rattle.shared_calls.proofs.beginnings.telling_since.Goals as goal

pub begin_telling-requires : goal.begin_telling-requires
begin_telling-requires c =
    let list : CallList = arc_value c.args.chair.now.list in
    let other : CallList = arc_value c.in_ok-other.other.list in
    let was = c.args.cursor.now in
    let origin = c.in_ok-origin.origin in
    let told = c.in_ok-origin.ensures in
    let same : list ≡ other = sym c.in_ok-other.ensures in
    let written : IsWritten list.limits (kernel_state c.args.kernel.now) origin =
    is_written list.limits was.seen.log (kernel_state c.args.kernel.now) c.new.result.items origin c.requires.state c.new.ensures.items
    told.state told.next told.fit in
    let seen = c.in_ok-cursor.ensures.seen in
    let long : length c.in_ok-cursor.cursor.seen.log ≡ length was.seen.log = ap (λ s. length s.log) seen in
    record {
      placed = (c.in_ok-cursor.ensures.placed, c.requires.placed.1);
      list = (
        ap (λ s. s.book) seen ∙ (c.requires.list.0 ∙ ap (λ (l : CallList). l.start.book) same),
        c.requires.list.1 ∙ ap (λ (l : CallList). l.start.book) same,
      );
      within = omega (arith, c.requires.within, c.in_ok-cursor.ensures.placed.count, c.requires.placed.0.count, long);
      fit = (
        ap (λ (l : CallList). in_range l.limits) (sym same) ∙ written.range,
        ap (λ (l : CallList). is_restorable l.limits origin) (sym same) ∙ written.fit,
      );
      anew = written.anew;
      state = c.in_ok-kernel.ensures ∙ (sym written.state ∙ ap (λ (l : CallList). restored l.limits origin) same);
    }

pub returns : goal.returns
returns c =
    let list : CallList = arc_value c.args.chair.now.list in
    let was = c.args.cursor.now in
    let told = c.in_ok-telling.ensures in
    let telling = c.in_ok-telling.telling in
    let origin = c.in_ok-origin.origin in
    let same : arc_value telling.chair.list ≡ list = ap arc_value told.list ∙ c.in_ok-other.ensures in
    let written : IsWritten list.limits (kernel_state c.args.kernel.now) origin =
    is_written list.limits was.seen.log (kernel_state c.args.kernel.now) c.new.result.items origin c.requires.state c.new.ensures.items
    c.in_ok-origin.ensures.state c.in_ok-origin.ensures.next c.in_ok-origin.ensures.fit in
    let long : length c.in_ok-cursor.cursor.seen.log ≡ length was.seen.log = ap (λ s. length s.log) c.in_ok-cursor.ensures.seen in
    let here : restored (arc_value telling.chair.list).limits telling.origin ≡ restored list.limits origin =
    λ i. restored (same i).limits (told.origin i) in
    record {
      telling = told.telling;
      at = told.at;
      list = same;
      state = here ∙ written.state;
      before = omega (arith, told.before, c.in_ok-cursor.ensures.placed.count, c.requires.placed.0.count, long);
      end = told.end;
    }
