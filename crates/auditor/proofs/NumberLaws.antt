-- An event's line with a number that no line can spell differs from each line with another number.
use Rattle.std.proofs.Common.{lit<, ◌≡◌, ℕ, ◌+◌, ◌<◌, ◌^◌, ◌%◌, ◌==◌, Bool, true, false, List, [], ◌∷◌, ◌++◌, length, map, Some}
use Rattle.std.proofs.Common.{refl, sym, ap, ◌∙◌, subst, arith, append_assoc, inl, inr, decimal}
use Rattle.std.specs.Prelude.{codes}
use Rattle.std.specs.List.{AllByRecursion}
use Rattle.std.proofs.lemmas.Bool.Decides.{eqb_tells}
use Rattle.std.proofs.lemmas.Fmt.{decimal_is_IsNumeral, decimal_is_IsNumeral_wide, decimal_by_steps_wide}
use Rattle.std.specs.Str.Parse.{digits_value}
use Rattle.kernel_rules.specs.Events.{told}
use Rattle.kernel_rules.specs.History.{answered}
use Rattle.kernel_rules.specs.declared.histories.events.Answered.{Answered}
use Rattle.kernel_rules.specs.State.{State}
use Rattle.kernel_rules.specs.Step.{answer}
use Rattle.text_words.specs.Lacks.{lacks}
use Rattle.text_words.proofs.LackLemmas.{lacks_one, lacks-append, decimal_lacks}
use Rattle.text_words.proofs.Split.{cond_false}
use Rattle.dump_text.specs.Dump.{lines_with}
use Rattle.dump_text.specs.Event.{answered_text}
use Rattle.dump_text.specs.Line.{line_text, IsLine}
use Rattle.dump_text.specs.declared.lines.Line.{Line}
use Rattle.dump_text.specs.declared.lines.Line.TheVariants as lines
use Rattle.auditor.specs.Verdict.{first_difference}
use Rattle.auditor.proofs.LineLaws.{first_same, first_other, flipped}

-- texts that begin with the same part of a line differ where the rest does
same_front : (m : ℕ) (front p q : List ℕ) → lacks 10 front ≡ true
    → first_difference m (front ++ p) (front ++ q) ≡ first_difference m p q
same_front m [] p q lack = refl
same_front m (x ∷ front) p q lack =
    let apart = cond_false (x == 10) (lacks 10 front) lack in
    first_same m x (front ++ p) (front ++ q) apart.0 ∙ same_front m front p q apart.1

-- words that are others differ in their line
words_apart : (m : ℕ) (a b p q : List ℕ) → lacks 32 a ≡ true → lacks 32 b ≡ true → lacks 10 a ≡ true → (a ≡ b → ⊥)
    → first_difference m (a ++ 32 ∷ p) (b ++ 32 ∷ q) ≡ Some m
words_apart m [] [] p q la lb ends other = absurd (other refl)
words_apart m [] (y ∷ b) p q la lb ends other =
    first_other m 32 y p (b ++ 32 ∷ q) (flipped 32 y (cond_false (y == 32) (lacks 32 b) lb).0)
words_apart m (x ∷ a) [] p q la lb ends other =
    first_other m x 32 (a ++ 32 ∷ p) q (cond_false (x == 32) (lacks 32 a) la).0
words_apart m (x ∷ a) (y ∷ b) p q la lb ends other =
    let line = cond_false (x == 10) (lacks 10 a) ends in
    elim (eqb_tells x y) as (λ _. first_difference m (x ∷ (a ++ 32 ∷ p)) (y ∷ (b ++ 32 ∷ q)) ≡ Some m) [
      | inl t ↦
          subst (λ (z : ℕ). first_difference m (x ∷ (a ++ 32 ∷ p)) (z ∷ (b ++ 32 ∷ q)) ≡ Some m) t.1
          (first_same m x (a ++ 32 ∷ p) (b ++ 32 ∷ q) line.0
          ∙ words_apart m a b p q (cond_false (x == 32) (lacks 32 a) la).1 (cond_false (y == 32) (lacks 32 b) lb).1 line.1
          (λ e. other (let same : x ≡ y = t.1 in cc)))
      | inr t ↦ first_other m x y (a ++ 32 ∷ p) (b ++ 32 ∷ q) t.0
    ]

-- the first number that no line can spell is one word too, and no other number's
wide_lacks : (n : ℕ) → n ≡ 2 ^ 64 → lacks 32 (decimal n) ≡ true
wide_lacks n is =
    decimal_by_steps_wide (λ m ds. lacks 32 ds ≡ true) (λ m lt. lacks_one 32 (48 + m) (λ e. omega arith))
    (λ m ds ge h. lacks-append 32 ds ((48 + m % 10) ∷ []) h (lacks_one 32 (48 + m % 10) (λ e. omega arith))) n (omega (arith, is))

wide_other : (n wide : ℕ) → n < 2 ^ 64 → wide ≡ 2 ^ 64 → decimal n ≡ decimal wide → ⊥
wide_other n wide small is same =
    let value : n ≡ wide =
    sym (decimal_is_IsNumeral n small).1 ∙ ap (digits_value 10) same ∙ (decimal_is_IsNumeral_wide wide (omega (arith, is))).1 in
    omega (arith, small, is, value)

-- a line of a first word, a thread and a number, and what follows it
abbrev numbered : List ℕ → ℕ → ℕ → List ℕ → List ℕ
numbered head thread number rest = head ++ (decimal thread ++ 32 ∷ (decimal number ++ 32 ∷ rest))

regrouped : (head a b c z : List ℕ) → (head ++ (a ++ 32 ∷ (b ++ 32 ∷ c))) ++ z ≡ head ++ (a ++ 32 ∷ (b ++ 32 ∷ (c ++ z)))
regrouped head a b c z =
    append_assoc head (a ++ 32 ∷ (b ++ 32 ∷ c)) z
    ∙ ap (λ (l : List ℕ). head ++ l) (append_assoc a (32 ∷ (b ++ 32 ∷ c)) z
    ∙ ap (λ (l : List ℕ). a ++ 32 ∷ l) (append_assoc b (32 ∷ c) z))

-- two such lines with the same thread, one of whose numbers no line can spell, differ
numbers_apart : (m thread n wide : ℕ) (head x y p q : List ℕ) → lacks 10 head ≡ true → thread < 2 ^ 64 → n < 2 ^ 64 → wide ≡ 2 ^ 64
    → first_difference m (numbered head thread n x ++ 10 ∷ p) (numbered head thread wide y ++ 10 ∷ q) ≡ Some m
numbers_apart m thread n wide head x y p q lack small less is =
    let front = decimal thread ++ 32 ∷ [] in
    let more = decimal n ++ 32 ∷ (x ++ 10 ∷ p) in
    let other = decimal wide ++ 32 ∷ (y ++ 10 ∷ q) in
    (λ i. first_difference m
    ((regrouped head (decimal thread) (decimal n) x (10 ∷ p) ∙ ap (λ (l : List ℕ). head ++ l) (sym (append_assoc (decimal thread) (32 ∷ []) more))) i)
    ((regrouped head (decimal thread) (decimal wide) y (10 ∷ q) ∙ ap (λ (l : List ℕ). head ++ l) (sym (append_assoc (decimal thread) (32 ∷ []) other))) i))
    ∙ same_front m head (front ++ more) (front ++ other) lack
    ∙ same_front m front more other
    (lacks-append 10 (decimal thread) (32 ∷ []) (decimal_lacks 10 thread (lit< tt) small) refl)
    ∙ words_apart m (decimal n) (decimal wide) (x ++ 10 ∷ p) (y ++ 10 ∷ q) (decimal_lacks 32 n (lit< tt) less)
    (wide_lacks wide is) (decimal_lacks 10 n (lit< tt) less) (wide_other n wide less is)

-- lines that begin an event
abbrev pub begins_event : Line → Bool
begins_event (lines.Event e) = true
begins_event (lines.Batch b) = true
begins_event l = false

number_in : Line → ℕ
number_in (lines.Event e) = e.number
number_in (lines.Batch b) = b.number
number_in l = 0

-- both begin with a line that begins an event, and these two are others, in their texts too
pub record OpenApart (xs ys : List Line) : Type 0 where
  pub one : Line
  pub other : Line
  pub more : List Line
  pub further : List Line
  pub xs_are : xs ≡ one ∷ more
  pub ys_are : ys ≡ other ∷ further
  pub opens : begins_event one ≡ true
  pub apart : one ≡ other → ⊥
  pub texts : (m : ℕ) (p q : List ℕ) → first_difference m (line_text one ++ 10 ∷ p) (line_text other ++ 10 ∷ q) ≡ Some m

-- so it is with an event that has a number and one that has none
pub opened : (s : State) (thread n wide : ℕ) (calls : List Answered) → AllByRecursion IsLine (lines_with thread n calls)
    → wide ≡ 2 ^ 64 → OpenApart (lines_with thread n calls) (lines_with thread wide (answered s thread (map (λ (a : Answered). a.call) calls)))
unfolding number_in
opened s thread n wide [] fit is =
    let less : n < 2 ^ 64 = fit.0.0.1.0.fits in
    record {
      one = lines.Batch (record { thread = thread; number = n; count = 0 });
      other = lines.Batch (record { thread = thread; number = wide; count = 0 });
      more = [];
      further = [];
      xs_are = refl;
      ys_are = refl;
      opens = refl;
      apart = λ e. (let same : n ≡ wide = ap number_in e in omega (arith, less, is, same));
      texts = λ m p q. numbers_apart m thread n wide (codes "batch ") (decimal 0) (decimal 0) p q refl fit.0.0.0.fits less is;
    }
opened s thread n wide (a ∷ []) fit is =
    let less : n < 2 ^ 64 = fit.0.number in
    record {
      one = lines.Event (record { thread = thread; number = n; answered = a });
      other = lines.Event (record { thread = thread; number = wide; answered = told a.call (answer s thread a.call) });
      more = [];
      further = [];
      xs_are = refl;
      ys_are = refl;
      opens = refl;
      apart = λ e. (let same : n ≡ wide = ap number_in e in omega (arith, less, is, same));
      texts = λ m p q. numbers_apart m thread n wide (codes "event ") (answered_text a) (answered_text (told a.call (answer s thread a.call))) p q refl
          fit.0.thread less is;
    }
opened s thread n wide (a ∷ b ∷ calls) fit is =
    let made = answered s thread (map (λ (x : Answered). x.call) (a ∷ b ∷ calls)) in
    let less : n < 2 ^ 64 = fit.0.0.1.0.fits in
    record {
      one = lines.Batch (record { thread = thread; number = n; count = length (a ∷ b ∷ calls) });
      other = lines.Batch (record { thread = thread; number = wide; count = length made });
      more = map lines.Call (a ∷ b ∷ calls);
      further = map lines.Call made;
      xs_are = refl;
      ys_are = refl;
      opens = refl;
      apart = λ e. (let same : n ≡ wide = ap number_in e in omega (arith, less, is, same));
      texts = λ m p q. numbers_apart m thread n wide (codes "batch ") (decimal (length (a ∷ b ∷ calls))) (decimal (length made)) p q refl
          fit.0.0.0.fits less is;
    }
