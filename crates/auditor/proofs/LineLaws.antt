-- The first line in which two dumps differ.
use Rattle.std.proofs.Common.{◌≡◌, ℕ, suc, ◌+◌, Bool, true, false, if◌then◌else◌, ◌==◌, List, [], ◌∷◌, ◌++◌, length, Option}
use Rattle.std.proofs.Common.{Some, None, refl, sym, ap, ◌∙◌, subst, arith, append_assoc, ◌⊎◌, inl, inr}
use Rattle.std.specs.List.{AllByRecursion}
use Rattle.std.proofs.lemmas.Bool.{eq-eqb}
use Rattle.std.proofs.lemmas.Bool.Decides.{eqb_tells}
use Rattle.base.specs.declared.ranges.Limits.{Limits}
use Rattle.checkpoints.specs.Checkpoint.{Checkpoint}
use Rattle.kernel_rules.specs.History.{IsLegalFrom}
use Rattle.kernel_rules.specs.Events.{Event}
use Rattle.text_words.specs.Lacks.{lacks}
use Rattle.text_words.proofs.Split.{cond_false}
use Rattle.call_text.specs.Text.{lines_text}
use Rattle.dump_text.specs.Dump.{lines_of, dump_text, IsDump}
use Rattle.dump_text.specs.Fits.{FitsWords}
use Rattle.dump_text.specs.Line.{line_text, IsLine, IsBootable}
use Rattle.dump_text.specs.Lists.{DumpLists}
use Rattle.dump_text.specs.Reads.{have_places}
use Rattle.dump_text.specs.Whole.{CanBegin, IsAnsweredRightly, start_with, whole_dump}
use Rattle.dump_text.specs.declared.tables.PlacedRead.{PlacedRead}
use Rattle.dump_text.specs.declared.lines.Line.{Line}
use Rattle.dump_text.proofs.LineLemmas.{dump_grammar}
use Rattle.dump_text.proofs.Batches.{lines_batches}
use Rattle.auditor.specs.Replay.{replayed, true_reads}
use Rattle.auditor.specs.Verdict.{true_dump, begins, first_difference, false_line, DifferAt, IsVerdict, TellsFalse}
use Rattle.auditor.specs.declared.verdicts.Verdict.TheVariants as is
use Rattle.auditor.proofs.ReadLaws.{right_after, true_placed}
use Rattle.auditor.proofs.ReplayLaws.{replayed_legal}
use Rattle.auditor.proofs.DifferenceLaws.{none_same}
use Rattle.auditor.proofs.VerdictLaws.{begins_can, no_line}

-- two texts that begin with these lines: the lines are the same and the rest is compared, or they are the difference
abbrev pub Compared : ℕ → List ℕ → List ℕ → List ℕ → List ℕ → Type 0
Compared m a b p q =
    ((a ≡ b) × (first_difference m (a ++ 10 ∷ p) (b ++ 10 ∷ q) ≡ first_difference (m + 1) p q))
    ⊎ ((a ≡ b → ⊥) × (first_difference m (a ++ 10 ∷ p) (b ++ 10 ∷ q) ≡ Some m))

pub first_same : (m x : ℕ) (xs ys : List ℕ) → (x == 10) ≡ false
    → first_difference m (x ∷ xs) (x ∷ ys) ≡ first_difference m xs ys
first_same m x xs ys apart =
    elim (eqb_tells x x) as (λ _. first_difference m (x ∷ xs) (x ∷ ys) ≡ first_difference m xs ys) [
      | inl t ↦ rw (t.0, apart) refl
      | inr t ↦ absurd (t.1 refl)
    ]

pub first_other : (m x y : ℕ) (xs ys : List ℕ) → (x == y) ≡ false
    → first_difference m (x ∷ xs) (y ∷ ys) ≡ Some m
first_other m x y xs ys apart = rw apart refl

one_more : (m x : ℕ) (a b p q : List ℕ) → (x == 10) ≡ false → Compared m a b p q
    → Compared m (x ∷ a) (x ∷ b) p q
one_more m x a b p q apart (inl same) =
    inl (ap (λ (l : List ℕ). x ∷ l) same.0, first_same m x (a ++ 10 ∷ p) (b ++ 10 ∷ q) apart ∙ same.1)
one_more m x a b p q apart (inr other) =
    inr ((λ e. other.0 cc), first_same m x (a ++ 10 ∷ p) (b ++ 10 ∷ q) apart ∙ other.1)

pub flipped : (x y : ℕ) → (y == x) ≡ false → (x == y) ≡ false
flipped x y apart =
    elim (eqb_tells x y) as (λ _. (x == y) ≡ false) [
      | inl t ↦ absurd (let h : true ≡ false = sym (eq-eqb y x (sym t.1)) ∙ apart in cc)
      | inr t ↦ t.0
    ]

pub compared : (m : ℕ) (a b p q : List ℕ) → lacks 10 a ≡ true → lacks 10 b ≡ true → Compared m a b p q
compared m [] [] p q la lb = inl (refl, refl)
compared m [] (y ∷ b) p q la lb =
    let apart = (cond_false (y == 10) (lacks 10 b) lb).0 in
    let other : (10 == y) ≡ false = flipped 10 y apart in
    inr ((λ e. cc), first_other m 10 y p (b ++ 10 ∷ q) other)
compared m (x ∷ a) [] p q la lb =
    let apart = (cond_false (x == 10) (lacks 10 a) la).0 in
    inr ((λ e. cc), first_other m x 10 (a ++ 10 ∷ p) q apart)
compared m (x ∷ a) (y ∷ b) p q la lb =
    let apart = cond_false (x == 10) (lacks 10 a) la in
    elim (eqb_tells x y) as (λ _. Compared m (x ∷ a) (y ∷ b) p q) [
      | inl t ↦
          subst (λ (z : ℕ). Compared m (x ∷ a) (z ∷ b) p q) t.1
          (one_more m x a b p q apart.0 (compared m a b p q apart.1 (cond_false (y == 10) (lacks 10 b) lb).1))
      | inr t ↦ inr ((λ e. t.1 cc), first_other m x y (a ++ 10 ∷ p) (b ++ 10 ∷ q) t.0)
    ]

pub text_more : (x : Line) (xs : List Line)
    → lines_text line_text (x ∷ xs) ≡ line_text x ++ 10 ∷ lines_text line_text xs
text_more x xs = append_assoc (line_text x) (10 ∷ []) (lines_text line_text xs)

-- a line that both texts begin with
after_same : (m : ℕ) (l : Line) (xs ys : List Line) → IsLine l
    → first_difference m (lines_text line_text (l ∷ xs)) (lines_text line_text (l ∷ ys))
    ≡ first_difference (m + 1) (lines_text line_text xs) (lines_text line_text ys)
after_same m l xs ys fit =
    let p = lines_text line_text xs in
    let q = lines_text line_text ys in
    let ends = dump_grammar.lacks_end l fit in
    (λ i. first_difference m (text_more l xs i) (text_more l ys i))
    ∙ elim (compared m (line_text l) (line_text l) p q ends ends)
    as (λ _. first_difference m (line_text l ++ 10 ∷ p) (line_text l ++ 10 ∷ q) ≡ first_difference (m + 1) p q) [
      | inl same ↦ same.1
      | inr other ↦ absurd (other.0 refl)
    ]

-- texts that begin with the same lines differ where the rest does
pub after_all : (m : ℕ) (ls xs ys : List Line) → AllByRecursion IsLine (ls ++ xs)
    → first_difference m (lines_text line_text (ls ++ xs)) (lines_text line_text (ls ++ ys))
    ≡ first_difference (m + length ls) (lines_text line_text xs) (lines_text line_text ys)
after_all m [] xs ys fit =
    let none : m ≡ m + 0 = omega arith in
    ap (λ (k : ℕ). first_difference k (lines_text line_text xs) (lines_text line_text ys)) none
after_all m (l ∷ ls) xs ys fit =
    after_same m l (ls ++ xs) (ls ++ ys) fit.0 ∙ after_all (m + 1) ls xs ys fit.1
    ∙ ap (λ (k : ℕ). first_difference k (lines_text line_text xs) (lines_text line_text ys)) (one_first m (length ls))
  where
    one_first : (m k : ℕ) → (m + 1) + k ≡ m + suc k
    one_first m k = omega arith

none_left : (m n : ℕ) (a p : List ℕ) → first_difference m [] (a ++ 10 ∷ p) ≡ Some n → n ≡ m + 0
none_left m n [] p h = let k : m ≡ n = cc in omega arith
none_left m n (z ∷ a) p h = let k : m ≡ n = cc in omega arith

none_right : (m n : ℕ) (a p : List ℕ) → first_difference m (a ++ 10 ∷ p) [] ≡ Some n → n ≡ m + 0
none_right m n [] p h = let k : m ≡ n = cc in omega arith
none_right m n (z ∷ a) p h = let k : m ≡ n = cc in omega arith

-- after a line that both have
pub after_line : (i : ℕ) (x y : Line) (xs ys : List Line) → x ≡ y → DifferAt i xs ys → DifferAt (suc i) (x ∷ xs) (y ∷ ys)
after_line i x y xs ys line rest = ((λ j. line j ∷ rest.0 j), rest.1)

-- the line in which the texts of two lists of lines differ first
differ : (m n : ℕ) (xs ys : List Line) → AllByRecursion IsLine xs → AllByRecursion IsLine ys
    → first_difference m (lines_text line_text xs) (lines_text line_text ys) ≡ Some n
    → (i : ℕ) × (n ≡ m + i) × DifferAt i xs ys
differ m n [] [] fx fy e = absurd cc
differ m n [] (y ∷ ys) fx fy e =
    let h : first_difference m [] (line_text y ++ 10 ∷ lines_text line_text ys) ≡ Some n =
    subst (λ (t : List ℕ). first_difference m [] t ≡ Some n) (text_more y ys) e in
    (0, none_left m n (line_text y) (lines_text line_text ys) h, (refl, (λ k. cc)))
differ m n (x ∷ xs) [] fx fy e =
    let h : first_difference m (line_text x ++ 10 ∷ lines_text line_text xs) [] ≡ Some n =
    subst (λ (t : List ℕ). first_difference m t [] ≡ Some n) (text_more x xs) e in
    (0, none_right m n (line_text x) (lines_text line_text xs) h, (refl, (λ k. cc)))
differ m n (x ∷ xs) (y ∷ ys) fx fy e =
    let h : first_difference m (line_text x ++ 10 ∷ lines_text line_text xs) (line_text y ++ 10 ∷ lines_text line_text ys) ≡ Some n =
    subst (λ (t : List ℕ). first_difference m (line_text x ++ 10 ∷ lines_text line_text xs) t ≡ Some n) (text_more y ys)
    (subst (λ (t : List ℕ). first_difference m t (lines_text line_text (y ∷ ys)) ≡ Some n) (text_more x xs) e) in
    elim (compared m (line_text x) (line_text y) (lines_text line_text xs) (lines_text line_text ys) (dump_grammar.lacks_end x fx.0) (dump_grammar.lacks_end y fy.0))
    as (λ _. (i : ℕ) × (n ≡ m + i) × DifferAt i (x ∷ xs) (y ∷ ys)) [
      | inl same ↦
          let rest = differ (m + 1) n xs ys fx.1 fy.1 (sym same.1 ∙ h) in
          let line : x ≡ y = dump_grammar.one x y fx.0 fy.0 same.0 in
          let place = rest.1 in
          (suc rest.0, omega (arith, place), after_line rest.0 x y xs ys line rest.2)
      | inr other ↦
          let place : m ≡ n = cc (sym other.1 ∙ h) in
          (0, omega (arith, place), (refl, (λ k. other.0 (let line : x ≡ y = cc in ap line_text line))))
    ]

-- that the dump of legal events, and of reads that the rules answer so, is a dump, where its values fit their words
abbrev pub LegalIsDump : Type 0
LegalIsDump = (limits : Limits) (c : Option Checkpoint) (events : List Event) (reads : List PlacedRead) → IsBootable limits
    → CanBegin limits c → IsLegalFrom (start_with limits c) events
    → AllByRecursion (IsAnsweredRightly (start_with limits c) events) reads → have_places c events reads ≡ true
    → FitsWords (whole_dump limits c events reads)
    → IsDump (dump_text (whole_dump limits c events reads)) (whole_dump limits c events reads)

-- the true dump of a dump is one, where its values fit their words
true_is_dump : (bytes : List ℕ) (d : DumpLists) → LegalIsDump → IsDump bytes d → begins d ≡ true → FitsWords (true_dump d)
    → IsDump (dump_text (true_dump d)) (true_dump d)
true_is_dump bytes d law is_dump can fits =
    let start = start_with d.limits d.checkpoint in
    law d.limits d.checkpoint (replayed start d.events) (true_reads start d.events d.reads)
    (is_dump.spelled.fit.1.0.1) (begins_can bytes d is_dump can)
    (replayed_legal start d.events (lines_batches d is_dump.spelled.fit)) (right_after start d.events 0 0 d.reads)
    (true_placed start d.checkpoint d.events d.reads is_dump.placed) fits

-- a dump that differs nowhere from the true one is that one
pub clean_told : (bytes : List ℕ) (d : DumpLists) → LegalIsDump → ((a b : DumpLists) → IsDump bytes a → IsDump bytes b → a ≡ b) → IsDump bytes d
    → (begins d ≡ true → FitsWords (true_dump d)) → false_line bytes d ≡ None → IsVerdict bytes is.Clean
clean_told bytes d law one is_dump fits e =
    let none = no_line (begins d) (first_difference 1 bytes (dump_text (true_dump d))) e in
    let same : bytes ≡ dump_text (true_dump d) = none_same 1 bytes (dump_text (true_dump d)) none.1 in
    let true_is : IsDump bytes (true_dump d) =
    subst (λ (t : List ℕ). IsDump t (true_dump d)) (sym same) (true_is_dump bytes d law is_dump none.0 (fits none.0)) in
    (d, is_dump, none.0, one d (true_dump d) is_dump true_is)

-- a false line after a beginning that can be is the first that isn't the true dump's
differs : (bytes : List ℕ) (d : DumpLists) (n : ℕ) → LegalIsDump → IsDump bytes d → begins d ≡ true
    → FitsWords (true_dump d) → first_difference 1 bytes (dump_text (true_dump d)) ≡ Some n
    → (i : ℕ) × (n ≡ i + 1) × DifferAt i (lines_of d) (lines_of (true_dump d))
differs bytes d n law is_dump can fits e =
    let true_is = true_is_dump bytes d law is_dump can fits in
    let h : first_difference 1 (lines_text line_text (lines_of d)) (lines_text line_text (lines_of (true_dump d))) ≡ Some n =
    subst (λ (t : List ℕ). first_difference 1 t (dump_text (true_dump d)) ≡ Some n) is_dump.spelled.bytes_are e in
    let found = differ 1 n (lines_of d) (lines_of (true_dump d)) is_dump.spelled.fit true_is.spelled.fit h in
    let place = found.1 in
    (found.0, omega arith, found.2)

-- a false line is the third, of a checkpoint that can't be restored, or the first that isn't the true dump's
pub false_told : (bytes : List ℕ) (d : DumpLists) (n : ℕ) → LegalIsDump → IsDump bytes d
    → (begins d ≡ true → FitsWords (true_dump d)) → false_line bytes d ≡ Some n → TellsFalse bytes (is.False n)
false_told bytes d n law is_dump fits e = (d, is_dump, at (begins d) refl e)
  where
    at : (b : Bool) → begins d ≡ b
        → (if b then first_difference 1 bytes (dump_text (true_dump d)) else Some 3) ≡ Some n
        → ((begins d ≡ false) × (n ≡ 3))
        ⊎ ((i : ℕ) × (n ≡ i + 1) × DifferAt i (lines_of d) (lines_of (true_dump d)))
    at true is f = inr (differs bytes d n law is_dump is (fits is) f)
    at false is f = inl (is, cc)
