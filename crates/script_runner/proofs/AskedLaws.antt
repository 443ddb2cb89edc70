-- The queries that workers were answered, as they are kept, left and told.
use Rattle.std.proofs.Common.{◌≡◌, ℕ, suc, ◌+◌, List, [], ◌∷◌, ◌++◌, length, take, slice_get, Some, refl, ap, sym, ◌∙◌, subst, arith}
use Rattle.std.specs.List.{AllZip}
use Rattle.std.proofs.lemmas.Grind.{flat_map-append}
use Rattle.std.proofs.lemmas.List.{append-nil}
use Rattle.script_rules.specs.Lines.{Seen}
use Rattle.script_rules.specs.Run.{Run}
use Rattle.script_runner.specs.Reads.{reads_by, reads_kept, reads_left, AddsReads, IsReadOf, ThreadRead}
use Rattle.script_runner.specs.Shared.{posts_reads, AreLeft, Post}
use Rattle.script_runner.specs.Turns.{reads_in, AreOwn}
use Rattle.script_runner.specs.declared.answers.Left.{Left}
use Rattle.script_runner.specs.declared.reads.Reads.{Reads}
use Rattle.script_runner.specs.declared.reads.SeenRead.{SeenRead}
use Rattle.script_runner.proofs.NumberLaws.{take_next}
use Rattle.script_runner.proofs.SharedLaws.{all_of_both}

abbrev pub IsAsked : ThreadRead → SeenRead → Type 0
IsAsked a r = IsReadOf a.thread a.asked r

-- the queries of one thread
asked_are : (thread : ℕ) (asked : List Seen) (reads : List SeenRead) → AllZip (IsReadOf thread) asked reads
    → AllZip IsAsked (reads_by (Some thread) asked) reads
asked_are thread [] [] are = tt
asked_are thread [] (r ∷ reads) are = absurd are
asked_are thread (a ∷ asked) [] are = absurd are
asked_are thread (a ∷ asked) (r ∷ reads) are = (are.0, asked_are thread asked reads are.1)

-- the queries of one worker more
pub kept_more : (workers : List Reads) (k : ℕ) (r : Reads) (old new : List SeenRead) → slice_get workers k ≡ Some r
    → AllZip IsAsked (reads_kept (take k workers)) old → AddsReads r.thread r.answers.reads old new
    → AllZip IsAsked (reads_kept (take (k + 1) workers)) new
kept_more workers k r old new there are (added, own, is) =
    subst (λ (z : List ThreadRead × List SeenRead). AllZip IsAsked z.0 z.1) (λ i. (sym all i, sym is i))
    (all_of_both IsAsked (reads_kept (take k workers)) mine old added are (asked_are r.thread r.answers.reads added own))
  where
    mine : List ThreadRead
    mine = reads_by (Some r.thread) r.answers.reads

    all : reads_kept (take (k + 1) workers) ≡ reads_kept (take k workers) ++ mine
    all = ap reads_kept (take_next workers k r there)
        ∙ flat_map-append (λ (w : Reads). reads_by (Some w.thread) w.answers.reads) (take k workers) (r ∷ [])
        ∙ ap (λ (more : List ThreadRead). reads_kept (take k workers) ++ more) (append-nil mine)

-- what workers who take turns leave is the run's
pub turns_reads : (workers : List (List ℕ)) (left : List Left) (r : Run) → length left ≡ length workers → AreOwn workers left r
    → reads_left left ≡ reads_in r workers
turns_reads [] [] r same are = refl
turns_reads [] (l ∷ left) r same are = absurd (omega (arith, same))
turns_reads (w ∷ workers) [] r same are = absurd (omega (arith, same))
turns_reads (w ∷ workers) (l ∷ left) r same are = λ i.
    reads_by ((are 0).thread i) ((are 0).reads i) ++ turns_reads workers left r (omega (arith, same)) (λ j. are (suc j)) i

-- and of workers who share phases it is theirs
pub shared_reads : (posts : List Post) (left : List Left) → AreLeft posts left → reads_left left ≡ posts_reads posts
shared_reads [] [] are = refl
shared_reads [] (l ∷ left) are = absurd are
shared_reads (p ∷ posts) [] are = absurd are
shared_reads (p ∷ posts) (l ∷ left) are = λ i. reads_by (are.0.thread i) (are.0.reads i) ++ shared_reads posts left are.1 i
