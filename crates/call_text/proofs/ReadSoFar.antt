-- How far a script has been read, whose arguments stand in lists.
use Rattle.std.proofs.Common.{◌≡◌, ℕ, ◌+◌, Bool, true, List, [], ◌∷◌, ◌++◌, length, map, Option, Some, None, ap, ◌∙◌}
use Rattle.std.specs.List.{AllByRecursion}
use Rattle.std.proofs.lemmas.List.{map_push}
use Rattle.text_words.specs.declared.spoken_calls.args.Arg.{Arg}
use Rattle.text_words.specs.Spoken.{Spoken, IsSpoken, call_with}
use Rattle.call_text.specs.declared.lines.Outline.{Outline}
use Rattle.call_text.specs.declared.lines.Outline.TheVariants as outlines
use Rattle.call_text.specs.declared.phases.KeptLine.{KeptLine}
use Rattle.call_text.specs.declared.batches.Open.{Open}
use Rattle.call_text.specs.declared.phases.Line.{Line}
use Rattle.call_text.specs.Line.{Break, Said, written_with, written_text, IsWritten, FitsWritten}
use Rattle.call_text.specs.Names.{Admits}
use Rattle.call_text.specs.Phase.{line_in, IsKept}
use Rattle.call_text.specs.Reading.{AddsLine, kept_as}
use Rattle.call_text.proofs.KeptLines.{still_lines, still_all, new_line, new_kept}
use Rattle.call_text.proofs.Progress.{Progress, progress_more}
use Rattle.call_text.proofs.TextLemmas.{fit_more}

pub record ReadSoFar (bytes : List ℕ) (names : List (List ℕ)) (batches : List Open) (phases : List (List Line)) (args : List Arg) (lines : List KeptLine) (count : ℕ) (rest : List ℕ) : Type 0 where
  pub progress : Progress bytes names batches phases (map (line_in args) lines) count rest
  pub all_kept : AllByRecursion (IsKept args) lines

-- the lines are kept where those of one more were added
pub kept_still : (args found new : List Arg) (lines : List KeptLine) → new ≡ args ++ found → AllByRecursion (IsKept args) lines → AllByRecursion (IsKept new) lines
kept_still args found new lines e kept = rw e (still_all args found lines kept)

spoken_in : (binds : Option (List ℕ)) (worker : List ℕ) (goes_on : Bool) (call : Spoken) → IsWritten (Said binds worker goes_on call) → IsSpoken call
spoken_in None worker goes_on call is = is.1
spoken_in (Some name) worker goes_on call is = is.1.1

-- one more line was read
pub read_more : (bytes : List ℕ) (names later : List (List ℕ)) (batches afters : List Open) (phases more : List (List Line)) (args found new left : List Arg) (lines last : List KeptLine) (count first : ℕ) (rest l after : List ℕ) (outline : Outline)
    → ReadSoFar bytes names batches phases args lines count rest → rest ≡ l ++ 10 ∷ after → new ≡ args ++ found → FitsWritten (written_with outline found) → l ≡ written_text (written_with outline found)
    → Admits count (written_with outline found) names later batches afters true → first ≡ length args → AddsLine (kept_as outline (count + 1) first) phases new lines more left last → ReadSoFar bytes later afters more left last (count + 1) after
read_more bytes names later batches afters phases more args found new left lines last count first rest l after outlines.Break at h grown fits is admits here adds =
    let same : map (line_in new) lines ≡ map (line_in args) lines = rw grown (still_lines args found lines at.all_kept) in
    let p : more ≡ phases ++ map (line_in args) lines ∷ [] = adds.0 ∙ ap (λ (ls : List Line). phases ++ ls ∷ []) same in
    let q : map (line_in left) last ≡ [] = ap (map (line_in left)) adds.2 in
    record {
      progress = progress_more bytes names later batches afters phases more (map (line_in args) lines) (map (line_in left) last) count rest l after Break at.progress h fits is admits (λ i. (p i, q i));
      all_kept = rw adds.2 tt;
    }
read_more bytes names later batches afters phases more args found new left lines last count first rest l after (outlines.Said binds worker goes_on verb) at h grown fits is admits here adds =
    let one : KeptLine = record { number = count + 1; binds = binds; worker = worker; more = goes_on; verb = verb; first = first } in
    let call : Spoken = call_with verb found in
    let told : Line = record { number = count + 1; binds = binds; worker = worker; more = goes_on; call = call } in
    let spoken : IsSpoken call = spoken_in binds worker goes_on call fits.written in
    let still : left ≡ args ++ found = adds.1 ∙ grown in
    let q : map (line_in left) last ≡ map (line_in args) lines ++ told ∷ [] =
    (λ i. map (line_in (still i)) (adds.2 i)) ∙ map_push (line_in (args ++ found)) lines one
    ∙ (λ i. still_lines args found lines at.all_kept i ++ new_line args found one here spoken i ∷ []) in
    record {
      progress = progress_more bytes names later batches afters phases more (map (line_in args) lines) (map (line_in left) last) count rest l after (Said binds worker goes_on call) at.progress h fits is admits (λ i. (adds.0 i, q i));
      all_kept = rw (still, adds.2) (fit_more (IsKept (args ++ found)) lines one (still_all args found lines at.all_kept) (new_kept args found one here spoken));
    }
