use Rattle.std.proofs.Common.{◌≡◌, ℕ, ◌<◌, get_or}
use Rattle.base.specs.declared.refusals.Refusal.TheVariants as refusals
use Rattle.call_text.specs.ReplyWord.{refusal_text}
use Rattle.dump_text.proofs.reports.refusal_in.Given as goal

abbrev pub invariant-loop-refusal : goal.invariant-loop-refusal
invariant-loop-refusal l = (k : ℕ) → k < l.refusal-index → l.text ≡ refusal_text (get_or l.refusal-items k refusals.Halted) → ⊥
