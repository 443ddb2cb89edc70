use Rattle.std.proofs.Common.{◌≡◌, true, length, arith, ap, sym, ◌∙◌}
use Rattle.std.specs.Arc.{arc_value}
use Rattle.base.specs.Limits.{in_range}
use Rattle.checkpoints.specs.Checkpoint.{Checkpoint}
use Rattle.checkpoints.specs.Restorable.{is_restorable}
use Rattle.checkpoints.specs.Restored.{restored}
use Rattle.dump_text.specs.Boot.{boot_checkpoint}
use Rattle.kernel_rules.specs.Runs.{booted}
use Rattle.syscall_core.specs.Kernel.{kernel_state}
use Rattle.shared_calls.specs.declared.cursors.Cursor.{Cursor}
use Rattle.shared_calls.specs.declared.lists.CallList.{CallList}
use Rattle.shared_calls.proofs.BeginningLaws.{boot_state, is_within}
use Rattle.shared_calls.proofs.beginnings.whole_telling.Goals as goal

pub begin_telling-requires : goal.begin_telling-requires
begin_telling-requires c =
    let list : CallList = arc_value c.args.chair.now.list in
    let cursor = c.in-Some.cursor in
    let other : CallList = arc_value c.in_ok-other.other.list in
    let origin = c.in_ok-origin.origin in
    let same : list ≡ other = sym c.in_ok-other.ensures in
    let at_first : cursor.seen ≡ list.start = c.in-Some.ensures.seen ∙ ap (λ (l : CallList). l.start) c.deref.ensures in
    let boot : origin ≡ boot_checkpoint list.limits = c.in_ok-origin.ensures ∙ ap (λ (l : CallList). boot_checkpoint l.limits) c.deref-3.ensures in
    let range : in_range list.limits ≡ true =
    is_within (in_range list.limits)
    (λ out. cc (c.in-Ok.ensures.limits.1 (ap (λ (l : CallList). in_range l.limits) c.deref-2.ensures ∙ out))) in
    let fit : is_restorable list.limits origin ≡ true =
    ap (λ (o : Checkpoint). is_restorable list.limits o) boot ∙ c.boots_can_begin.ensures.restorable list.limits range in
    let state : kernel_state c.in-Ok.kernel ≡ restored list.limits origin =
    c.in-Ok.ensures.state ∙ ap (λ (l : CallList). booted l.limits) c.deref-2.ensures
    ∙ sym (boot_state list.limits origin boot (c.boots_can_begin.ensures.start list.limits)) in
    let none : cursor.count ≡ 0 = c.in-Some.ensures.placed.count ∙ ap (λ s. length s.log) at_first ∙ ap length list.empty in
    record {
      placed = (c.in-Some.ensures.placed, c.in_ok-end.ensures.placed);
      list = (
        ap (λ s. s.book) at_first ∙ ap (λ (l : CallList). l.start.book) same,
        ap (λ s. s.book) c.in_ok-end.ensures.seen ∙ (c.requires.list ∙ ap (λ (l : CallList). l.start.book) same),
      );
      within = omega (arith, none);
      fit = (
        ap (λ (l : CallList). in_range l.limits) (sym same) ∙ range,
        ap (λ (l : CallList). is_restorable l.limits origin) (sym same) ∙ fit,
      );
      anew = ap (λ (o : Checkpoint). o.next) boot;
      state = state ∙ ap (λ (l : CallList). restored l.limits origin) same;
    }

pub returns : goal.returns
returns c =
    let list : CallList = arc_value c.args.chair.now.list in
    let told = c.in_ok-telling.ensures in
    let telling = c.in_ok-telling.telling in
    let at_first = c.in-Some.ensures.seen ∙ ap (λ (l : CallList). l.start) c.deref.ensures in
    let same : arc_value telling.chair.list ≡ list = ap arc_value told.list ∙ c.in_ok-other.ensures in
    let boot : telling.origin ≡ boot_checkpoint list.limits =
    told.origin ∙ (c.in_ok-origin.ensures ∙ ap (λ (l : CallList). boot_checkpoint l.limits) c.deref-3.ensures) in
    record {
      telling = told.telling;
      at = told.at;
      list = same;
      origin = boot;
      state = ap (λ (l : CallList). restored l.limits telling.origin) same
          ∙ boot_state list.limits telling.origin boot (c.boots_can_begin.ensures.start list.limits);
      before = told.before ∙ (c.in-Some.ensures.placed.count ∙ ap (λ s. length s.log) at_first ∙ ap length list.empty);
      end = ap (λ (e : Cursor). e.seen) told.end ∙ c.in_ok-end.ensures.seen;
    }
