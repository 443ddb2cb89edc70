-- Texts of lines, one after another.
use Rattle.std.proofs.Common.{◌≡◌, ℕ, ◌+◌, ◌<◌, ◌≤◌, List, [], ◌∷◌, ◌++◌, flat_map, take, drop, length, get_or, slice_get, codes, decimal, Option, Some, None, IfSome, Err, option_map, refl, ap, sym, ◌∙◌, subst, append_assoc}
use Rattle.std.proofs.lemmas.List.{append-nil, drop_all}
use Rattle.std.proofs.lemmas.Grind.{flat_map-append}
use Rattle.std.proofs.lemmas.Option.{none-some, same_Some, slice_get-get_or}
use Rattle.text_words.specs.Name.{name_text}
use Rattle.call_text.specs.declared.known_names.Named.{Named}
use Rattle.script_runner.proofs.NumberLaws.{take_next}
use Rattle.script_runner.proofs.TurnLaws.{drop_next}
use Rattle.script_rules.specs.Lines.{AnsweredLine}
use Rattle.script_rules.specs.Output.{answer_text, line_text, told_text, worker_text}
use Rattle.script_rules.specs.Run.{Run}
use Rattle.script_runner.specs.Shared.{left_text}
use Rattle.script_runner.specs.Turns.{AreOwn, IsOwn}
use Rattle.script_runner.specs.declared.answers.Left.{Left}

-- a line's text, as it is put together
pub told_is : (worker answer old a b c d e new : List ℕ) (number : ℕ) → a ≡ old ++ name_text worker → b ≡ a ++ 32 ∷ []
    → c ≡ b ++ decimal number → d ≡ c ++ codes ": " → e ≡ d ++ answer → new ≡ e ++ 10 ∷ [] → new ≡ old ++ line_text worker number answer
told_is worker answer old a b c d e new number a_is b_is c_is d_is e_is is =
    is ∙ ap (λ (l : List ℕ). l ++ 10 ∷ []) (e_is ∙ ap (λ (l : List ℕ). l ++ answer) (d_is ∙ ap (λ (l : List ℕ). l ++ codes ": ")
    (c_is ∙ ap (λ (l : List ℕ). l ++ decimal number) (b_is ∙ ap (λ (l : List ℕ). l ++ 32 ∷ []) a_is))))
    ∙ simp append_assoc

-- and that of a line which was told so
pub told_line_is : (told : Option AnsweredLine) (names : List Named) (worker old a b c d e new : List ℕ) (number : ℕ)
    → option_map (λ (t : AnsweredLine). t.number) told ≡ Some number → a ≡ old ++ name_text worker
    → b ≡ a ++ 32 ∷ [] → c ≡ b ++ decimal number → d ≡ c ++ codes ": " → IfSome told (λ t. e ≡ d ++ answer_text names t.answer)
    → new ≡ e ++ 10 ∷ [] → IfSome told (λ t. new ≡ old ++ told_text names worker t)
told_line_is None names worker old a b c d e new number numbered a_is b_is c_is d_is e_is is = tt
told_line_is (Some t) names worker old a b c d e new number numbered a_is b_is c_is d_is e_is is =
    told_is worker (answer_text names t.answer) old a b c d e new number a_is b_is c_is d_is e_is is
    ∙ ap (λ (n : ℕ). old ++ line_text worker n (answer_text names t.answer)) (sym (same_Some t.number number numbered))

-- the text of one thing more
texts_more : {A : Type 0} (text : A → List ℕ) (xs : List A) (k : ℕ) (x : A) (old now new : List ℕ) → slice_get xs k ≡ Some x
    → now ≡ old ++ flat_map text (take k xs) → new ≡ now ++ text x → new ≡ old ++ flat_map text (take (k + 1) xs)
texts_more text xs k x old now new there so_far is =
    is ∙ ap (λ (l : List ℕ). l ++ text x) so_far ∙ append_assoc old (flat_map text (take k xs)) (text x)
    ∙ ap (λ (l : List ℕ). old ++ l)
    (ap (λ (l : List ℕ). flat_map text (take k xs) ++ l) (sym (append-nil (text x)))
    ∙ sym (flat_map-append text (take k xs) (x ∷ [])) ∙ ap (flat_map text) (sym (take_next xs k x there)))

-- the line of a worker more, as it was told
pub own_line_more : (names : List Named) (worker : List ℕ) (told : List AnsweredLine) (k : ℕ) (old now new : List ℕ) → k < length told
    → now ≡ old ++ flat_map (told_text names worker) (take k told)
    → IfSome (slice_get told k) (λ t. new ≡ now ++ told_text names worker t)
    → new ≡ old ++ flat_map (told_text names worker) (take (k + 1) told)
own_line_more names worker told k old now new within so_far put = at (slice_get told k) refl put
  where
    none : AnsweredLine
    none = get_or told k (record { number = 0; answer = Err [] })

    at : (o : Option AnsweredLine) → slice_get told k ≡ o → IfSome o (λ t. new ≡ now ++ told_text names worker t)
        → new ≡ old ++ flat_map (told_text names worker) (take (k + 1) told)
    at None there put = absurd (none-some none (sym there ∙ slice_get-get_or told k (record { number = 0; answer = Err [] }) within))
    at (Some t) there put = texts_more (told_text names worker) told k t old now new there so_far put

-- and the lines of one worker more
pub own_lines_more : (names : List Named) (workers : List (List ℕ)) (k : ℕ) (worker : List ℕ) (left : List Left) (l : Left) (now new : List ℕ)
    → slice_get workers k ≡ Some worker → slice_get left k ≡ Some l
    → new ≡ now ++ flat_map (told_text names worker) l.answers.told
    → ((r : Run) → AreOwn workers left r → names ≡ r.names → now ≡ flat_map (worker_text r.names r.told) (take k workers))
    → (r : Run) → AreOwn workers left r → names ≡ r.names → new ≡ flat_map (worker_text r.names r.told) (take (k + 1) workers)
own_lines_more names workers k worker left l now new there at is so_far r are same =
    texts_more (worker_text r.names r.told) workers k worker [] now new there (so_far r are same)
    (is ∙ (λ i. now ++ flat_map (told_text (same i) worker) (mine.told i)))
  where
    mine : IsOwn worker l r
    mine = subst (λ (z : Option (List ℕ) × Option Left). IfSome z.0 (λ v. IfSome z.1 (λ m. IsOwn v m r)))
        (λ i. (there i, at i)) (are k)

-- the lines of what is left, and those of one worker less
pub lines_more : (names : List Named) (workers : List (List ℕ)) (k : ℕ) (worker : List ℕ) (left : List Left) (l : Left)
    (now new all : List ℕ) → slice_get workers k ≡ Some worker → slice_get left k ≡ Some l
    → new ≡ now ++ flat_map (told_text names worker) l.answers.told
    → now ++ left_text names (drop k workers) (drop k left) ≡ all
    → new ++ left_text names (drop (k + 1) workers) (drop (k + 1) left) ≡ all
lines_more names workers k worker left l now new all there at is so_far =
    ap (λ (t : List ℕ). t ++ rest) is ∙ append_assoc now (flat_map (told_text names worker) l.answers.told) rest
    ∙ ap (λ (t : List ℕ). now ++ t) (λ i. left_text names (sym (drop_next workers k worker there) i) (sym (drop_next left k l at) i)) ∙ so_far
  where
    rest : List ℕ
    rest = left_text names (drop (k + 1) workers) (drop (k + 1) left)

-- where no worker is left, those are all
pub lines_end : (names : List Named) (workers : List (List ℕ)) (k : ℕ) (left : List Left) (now all : List ℕ) → length workers ≤ k
    → now ++ left_text names (drop k workers) (drop k left) ≡ all → now ≡ all
lines_end names workers k left now all end so_far =
    sym (append-nil now)
    ∙ ap (λ (ws : List (List ℕ)). now ++ left_text names ws (drop k left)) (sym (drop_all k workers end)) ∙ so_far
