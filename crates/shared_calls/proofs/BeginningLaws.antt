-- Where a dump begins.
use Rattle.std.proofs.Common.{◌≡◌, Bool, true, false, List, [], None, drop, refl, sym, ap, ◌∙◌, subst, arith}
use Rattle.std.proofs.lemmas.List.{append-nil, drop_all}
use mathlib.Core.List.{IsPrefix}
use Rattle.base.specs.Limits.{in_range}
use Rattle.base.specs.declared.ranges.Limits.{Limits}
use Rattle.checkpoints.specs.Checkpoint.{Checkpoint}
use Rattle.checkpoints.specs.Restorable.{is_restorable}
use Rattle.checkpoints.specs.Restored.{restored}
use Rattle.checkpoints.specs.Starts.{start_of}
use Rattle.checkpoints.specs.declared.checkpoints.NextNumber.{NextNumber}
use Rattle.checkpoints.proofs.LimitsLaws.{run_limits}
use Rattle.dump_text.specs.Boot.{boot_checkpoint}
use Rattle.kernel_rules.specs.History.{Start, boot_start}
use Rattle.kernel_rules.specs.Runs.{booted}
use Rattle.kernel_rules.specs.State.{State}
use Rattle.kernel_rules.proofs.HistoryLaws.{legal_none_from}
use Rattle.syscall_core.specs.Kernel.{kernel_state}
use Rattle.syscall_core.specs.Restored.{restore_refusal, AreNext}
use Rattle.syscall_core.proofs.CheckpointLaws.{unrefused}
use Rattle.shared_calls.specs.Cursors.{IsPlaced}
use Rattle.shared_calls.specs.Events.{IsJournal, start_at}
use Rattle.shared_calls.specs.Lists.{calls_in}
use Rattle.shared_calls.specs.Seats.{state_of}
use Rattle.shared_calls.specs.declared.cursors.Cursor.{Cursor}
use Rattle.shared_calls.specs.declared.journals.Journal.{Journal}
use Rattle.shared_calls.specs.declared.rules.Made.{Made}

-- a kernel as it stands, with no count
pub journal_none : (s : State) (journal : Journal) → kernel_state journal.kernel ≡ s → journal.counts.entries ≡ [] → IsJournal s [] journal
journal_none s journal is none = record {
  legal = legal_none_from (start_at s) [] refl;
  state = is;
  counts = λ t. rw none refl;
}

-- what comes after a beginning, where nothing does
pub nothing_after : (cursor : Cursor) → IsPlaced cursor → drop cursor.count cursor.seen.log ≡ []
nothing_after cursor placed = drop_all cursor.count cursor.seen.log (omega (arith, placed.count))

-- the checkpoint of a boot writes down its state
pub boot_state : (limits : Limits) (c : Checkpoint) → c ≡ boot_checkpoint limits → start_of limits (boot_checkpoint limits) ≡ boot_start limits
    → restored limits c ≡ booted limits
boot_state limits c is start = ap (restored limits) is ∙ ap (λ (s : Start). s.state) start

-- limits that are not out of their ranges
pub is_within : (b : Bool) → (b ≡ false → ⊥) → b ≡ true
is_within true none = refl
is_within false none = absurd (none refl)

-- a checkpoint of the state that batches lead to: it can be restored with the limits of the boot, and no number is written in it
pub record IsWritten (limits : Limits) (s : State) (c : Checkpoint) : Type 0 where
  pub range : in_range limits ≡ true
  pub fit : is_restorable limits c ≡ true
  pub anew : c.next ≡ []
  pub state : restored limits c ≡ s

pub is_written : (limits : Limits) (log : List Made) (s : State) (next : List NextNumber) (c : Checkpoint) → s ≡ state_of limits log
    → next ≡ [] → restored s.limits c ≡ s → c.next ≡ next → (AreNext s next → restore_refusal s.limits c ≡ None) → IsWritten limits s c
is_written limits log s next c is none state same fit =
    let limited : s.limits ≡ limits = ap (λ (z : State). z.limits) is ∙ run_limits (booted limits) (calls_in log) in
    let numbered : AreNext s next =
    subst (λ (l : List NextNumber). AreNext s l) (sym none) (record { rise = refl; later = refl; given = refl }) in
    let parts = unrefused limits c (subst (λ (l : Limits). restore_refusal l c ≡ None) limited (fit numbered)) in
    record {
      range = parts.0;
      fit = parts.1;
      anew = same ∙ none;
      state = subst (λ (l : Limits). restored l c ≡ s) limited state;
    }

-- a list begins its equal
pub prefix_equal : (xs ys : List Made) → ys ≡ xs → IsPrefix xs ys
prefix_equal xs ys same = ([], append-nil xs ∙ sym same)
