-- What is printed for a line.
use Rattle.std.proofs.Common.{◌≡◌, ◌≢◌, ℕ, Bool, true, false, List, [], ◌∷◌, ◌++◌, Option, Some, None, IfSome, inl, inr, refl, sym, ap, subst, ◌∙◌, append_assoc}
use Rattle.std.proofs.KnownBytes.{Appends-trans}
use Rattle.std.proofs.lemmas.List.{append-nil}
use Rattle.std.specs.Io.BufRead.{take_through, drop_through, DropsThrough}
use Rattle.std.specs.Io.KnownBytes.{Appends}
use Rattle.try_text.specs.Dialogues.{Talk}
use Rattle.try_text.specs.Printed.{goes_on, Adds, IsBeforeEnd, Prints}
use Rattle.try_text.specs.Responds.{Responds}
use Rattle.try_text.specs.Talks.{prompt, AreLines, HasLine, HasTalked, IsSoFar, Talks, TurnAll, Turns}
use Rattle.try_text.specs.Words.{word_of}
use Rattle.try_text.specs.declared.words.Word.{Word}

-- the answer to a line, and what is told after it
pub prints_line : (line : List ℕ) (d e : Talk) (start answered after printed : List ℕ) (word : Word)
    (old new : Option (List ℕ)) → start ≡ [] → word ≡ word_of line
    → Responds (word_of line) line d e start answered
    → (more : List ℕ) × Adds word more × (after ≡ answered ++ more)
    → printed ≡ after → Appends old new printed → Prints line d e old new
prints_line line d e start answered after printed word old new empty is told added same appends = (
  printed,
  (
    answered,
    added.0,
    subst (λ (s : List ℕ). Responds (word_of line) line d e s answered) empty told,
    subst (λ (w : Word). Adds w added.0) is added.1,
    same ∙ added.2,
  ),
  appends,
)

-- one line more
lines_more : (lines : List (List ℕ)) (bytes rest : List ℕ) → AreLines lines bytes rest → rest ≢ []
    → AreLines (lines ++ take_through 10 rest ∷ []) bytes (drop_through 10 rest)
lines_more [] bytes rest are some = subst (λ (b : List ℕ). AreLines (take_through 10 rest ∷ []) b (drop_through 10 rest)) are (some, refl, refl)
lines_more (line ∷ lines) bytes rest are some = (are.0, are.1, lines_more lines (drop_through 10 bytes) rest are.2 some)

turns_more : (asked : Bool) (lines : List (List ℕ)) (line : List ℕ) (d e f : Talk) (text here : List ℕ) → TurnAll asked lines d e text
    → Turns asked true line e f here → TurnAll asked (lines ++ line ∷ []) d f (text ++ here)
turns_more asked [] line d e f text here all turn = (
  f,
  here,
  [],
  subst (λ (x : Talk). Turns asked true line x f here) all.0 turn,
  (refl, refl),
  ap (λ (t : List ℕ). t ++ here) all.1 ∙ sym (append-nil here),
)
turns_more asked (first ∷ lines) line d e f text here all turn = (
  all.0,
  all.1,
  all.2 ++ here,
  all.3,
  turns_more asked lines line all.0 e f all.2 here all.4 turn,
  ap (λ (t : List ℕ). t ++ here) all.5 ∙ append_assoc all.1 all.2 here,
)

-- a line that was asked for, read and answered
turned : (asked on : Bool) (line before : List ℕ) (d e : Talk) (a b c : Option (List ℕ)) → IsBeforeEnd line before
    → on ≡ goes_on (word_of before) → Appends a b (prompt asked) → Prints before d e b c
    → (here : List ℕ) × Turns asked on line d e here × Appends a c here
turned asked on line before d e a b c ends is first prints =
    (prompt asked ++ prints.0, (before, prints.0, ends, sym is, prints.1, refl), Appends-trans a b c (prompt asked) prints.0 first prints.2)

-- what was printed with one line more
talked_on : (asked : Bool) (bytes rest line before : List ℕ) (d e f : Talk) (left next a b c o : Option (List ℕ)) → HasTalked asked bytes d e left o a
    → left ≡ Some rest → rest ≢ [] → line ≡ take_through 10 rest → next ≡ Some (drop_through 10 rest)
    → IsBeforeEnd line before → goes_on (word_of before) ≡ true → Appends a b (prompt asked) → Prints before e f b c
    → HasTalked asked bytes d f next o c
talked_on asked bytes rest line before d e f left next a b c o talked is some line_is next_is ends on first prints =
    let turn = turned asked true line before e f a b c ends (sym on) first prints in
    let same : talked.0 ≡ rest = cc (sym talked.2 ∙ is) in
    let lines = talked.3.lines in (
      drop_through 10 rest,
      talked.1 ++ turn.0,
      next_is,
      record {
        lines = lines ++ take_through 10 rest ∷ [];
        are = lines_more lines bytes rest (subst (λ (r : List ℕ). AreLines lines bytes r) same talked.3.are) some;
        turns = turns_more asked lines (take_through 10 rest) d e f talked.1 turn.0 talked.3.turns
            (subst (λ (l : List ℕ). Turns asked true l e f turn.0) line_is turn.1);
      },
      Appends-trans o a c talked.1 turn.0 talked.4 turn.2,
    )

-- the dialogue ended with the input
ended_with_input : (asked : Bool) (bytes rest : List ℕ) (d e : Talk) (left a b o : Option (List ℕ)) → HasTalked asked bytes d e left o a
    → left ≡ Some rest → rest ≡ [] → Appends a b (prompt asked) → Talks asked bytes d e o b
ended_with_input asked bytes rest d e left a b o talked is none first =
    let same : talked.0 ≡ rest = cc (sym talked.2 ∙ is) in (
      talked.1 ++ prompt asked,
      record {
        rest = rest;
        last = e;
        said = talked.1;
        end = prompt asked;
        so_far = subst (λ (r : List ℕ). IsSoFar asked bytes r d e talked.1) same talked.3;
        ends = inl (none, refl, refl);
        whole = refl;
      },
      Appends-trans o a b talked.1 (prompt asked) talked.4 first,
    )

-- or with a line
ended_with_line : (asked : Bool) (bytes rest line before : List ℕ) (d e f : Talk) (left a b c o : Option (List ℕ)) → HasTalked asked bytes d e left o a
    → left ≡ Some rest → rest ≢ [] → line ≡ take_through 10 rest
    → IsBeforeEnd line before → goes_on (word_of before) ≡ false → Appends a b (prompt asked) → Prints before e f b c
    → Talks asked bytes d f o c
ended_with_line asked bytes rest line before d e f left a b c o talked is some line_is ends off first prints =
    let turn = turned asked false line before e f a b c ends (sym off) first prints in
    let same : talked.0 ≡ rest = cc (sym talked.2 ∙ is) in (
      talked.1 ++ turn.0,
      record {
        rest = rest;
        last = e;
        said = talked.1;
        end = turn.0;
        so_far = subst (λ (r : List ℕ). IsSoFar asked bytes r d e talked.1) same talked.3;
        ends = inr (some, subst (λ (l : List ℕ). Turns asked false l e f turn.0) line_is turn.1);
        whole = refl;
      },
      Appends-trans o a c talked.1 turn.0 talked.4 turn.2,
    )

-- what holds of known bytes
of_known : (P : List ℕ → Type 0) (left : Option (List ℕ)) (rest : List ℕ) → left ≡ Some rest → IfSome left P → P rest
of_known P left rest is holds = subst (λ (l : Option (List ℕ)). IfSome l P) is holds

has_none : (has : Bool) (rest : List ℕ) → has ≡ false → HasLine has rest → rest ≡ []
has_none has rest off holds = subst (λ (b : Bool). HasLine b rest) off holds

has_some : (has : Bool) (rest : List ℕ) → has ≡ true → HasLine has rest → rest ≢ []
has_some has rest on holds = subst (λ (b : Bool). HasLine b rest) on holds

-- the input ended, where a line was asked for
pub input_ended : (asked has : Bool) (start : Option (List ℕ)) (d e : Talk) (left a b o : Option (List ℕ))
    → IfSome start (λ bytes. HasTalked asked bytes d e left o a) → Appends a b (prompt asked) → IfSome left (HasLine has) → has ≡ false
    → IfSome start (λ bytes. Talks asked bytes d e o b)
input_ended asked has None d e left a b o talked first end off = talked
input_ended asked has (Some bytes) d e left a b o talked first end off =
    ended_with_input asked bytes talked.0 d e left a b o talked talked.2 (has_none has talked.0 off (of_known (HasLine has) left talked.0 talked.2 end)) first

-- a line ended the dialogue
pub line_ended : (asked has on : Bool) (start : Option (List ℕ)) (line before : List ℕ) (d e f : Talk) (left a b c o : Option (List ℕ))
    → IfSome start (λ bytes. HasTalked asked bytes d e left o a) → Appends a b (prompt asked) → IfSome left (HasLine has) → has ≡ true
    → IfSome left (λ xs. line ≡ take_through 10 xs) → IsBeforeEnd line before → on ≡ goes_on (word_of before) → on ≡ false → Prints before e f b c
    → IfSome start (λ bytes. Talks asked bytes d f o c)
line_ended asked has on None line before d e f left a b c o talked first end some read ends is off prints = talked
line_ended asked has on (Some bytes) line before d e f left a b c o talked first end some read ends is off prints =
    ended_with_line asked bytes talked.0 line before d e f left a b c o talked talked.2
    (has_some has talked.0 some (of_known (HasLine has) left talked.0 talked.2 end))
    (of_known (λ xs. line ≡ take_through 10 xs) left talked.0 talked.2 read) ends (sym is ∙ off) first prints

-- or the dialogue goes on
pub line_answered : (asked has on : Bool) (start : Option (List ℕ)) (line before : List ℕ) (d e f : Talk) (left next a b c o : Option (List ℕ))
    → IfSome start (λ bytes. HasTalked asked bytes d e left o a) → Appends a b (prompt asked) → IfSome left (HasLine has) → has ≡ true
    → IfSome left (λ xs. line ≡ take_through 10 xs) → DropsThrough left next 10 → IsBeforeEnd line before → on ≡ goes_on (word_of before) → on ≡ true
    → Prints before e f b c → IfSome start (λ bytes. HasTalked asked bytes d f next o c)
line_answered asked has on None line before d e f left next a b c o talked first end some read drops ends is goes prints = talked
line_answered asked has on (Some bytes) line before d e f left next a b c o talked first end some read drops ends is goes prints =
    talked_on asked bytes talked.0 line before d e f left next a b c o talked talked.2
    (has_some has talked.0 some (of_known (HasLine has) left talked.0 talked.2 end))
    (of_known (λ xs. line ≡ take_through 10 xs) left talked.0 talked.2 read)
    (of_known (λ xs. next ≡ Some (drop_through 10 xs)) left talked.0 talked.2 drops) ends (sym is ∙ goes) first prints
