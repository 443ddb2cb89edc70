-- What a run leaves after a boot.
use Rattle.std.proofs.Common.{◌≡◌, ℕ, Bool, true, false, true≢false, List, length, max, min, refl, sym, ◌∙◌, subst, Result, Ok, Err, IfOk, IfErr}
use Rattle.base.specs.Limits.{in_range}
use Rattle.base.specs.declared.ranges.Limits.{Limits}
use Rattle.call_text.specs.declared.phases.Line.{Line}
use Rattle.script_rules.specs.Output.{text_of}
use Rattle.script_rules.specs.Run.{run_from, start}
use Rattle.script_rules.specs.Workers.{lines_in, workers_of}
use Rattle.script_runner.specs.Dumps.{IsClosing, IsPlayed}
use Rattle.script_runner.specs.Reads.{reads_kept}
use Rattle.script_runner.specs.Turns.{reads_in, IsTurns}
use Rattle.script_runner.specs.Workers.{take_turns}
use Rattle.script_runner.proofs.PhaseLaws.{turns_are}
use Rattle.script_runner.specs.declared.play.Played.{Played}

-- where the limits are in range, a closing is what a run leaves
pub plays : {E : Type 0} (limits : Limits) (r : Result Played E) → in_range limits ≡ true
    → IfOk r (λ p. IsClosing limits p.events.items p.tables) → IfOk r (λ p. IsPlayed limits p.events.items p.tables)
plays limits (Ok p) good closed = (good, closed)
plays limits (Err e) good closed = closed

-- no value is an error
ok_is_no_err : {T E : Type 0} (x : T) (e : E) (r : Result T E) → r ≡ Err e → r ≡ Ok x → ⊥
ok_is_no_err x e r bad good = subst (λ (s : Result _ _). IfErr s (λ _. ⊥)) (sym good ∙ bad) (tt {0})

-- a test that fails only where an error would be a value holds
pub holds_at_ok : {T E : Type 0} (x : T) (e : E) (b : Bool) → (b ≡ false → Ok x ≡ Err e) → b ≡ true
holds_at_ok x e true otherwise = refl
holds_at_ok x e false otherwise = absurd (ok_is_no_err x e (Ok x) (otherwise refl) refl)

-- where workers take turns, a run leaves what the rules say
pub turns_ok : {E : Type 0} (limits : Limits) (script : List (List Line)) (workers : List (List ℕ)) (seats n : ℕ) (r : Result Played E)
    → workers ≡ workers_of (lines_in script) → n ≡ length workers → seats ≡ max 1 (min 64 n)
    → IfOk r (λ p. p.output.items ≡ text_of (run_from limits seats start script) workers)
    → IfOk r (λ p. p.events.items ≡ (run_from limits seats start script).events)
    → IfOk r (λ p. p.names ≡ (run_from limits seats start script).names)
    → IfOk r (λ p. reads_kept p.reads.items ≡ reads_in (run_from limits seats start script) workers)
    → IfOk r (λ p. take_turns script ≡ true → IsTurns limits script p.output.items p.events.items p.names (reads_kept p.reads.items))
turns_ok limits script workers seats n (Ok p) are n_is seats_are text events names reads =
    λ turns. turns_are limits script workers seats n p.output.items p.events.items p.names are n_is seats_are text events names
    (reads_kept p.reads.items) reads
turns_ok limits script workers seats n (Err e) are n_is seats_are text events names reads = text

-- and where they do not, nothing is said
pub no_turns : {E : Type 0} (limits : Limits) (script : List (List Line)) (r : Result Played E) → take_turns script ≡ false
    → IfOk r (λ p. take_turns script ≡ true → IsTurns limits script p.output.items p.events.items p.names (reads_kept p.reads.items))
no_turns limits script (Ok p) none = λ turns. absurd (true≢false (sym turns ∙ none))
no_turns limits script (Err e) none = tt
