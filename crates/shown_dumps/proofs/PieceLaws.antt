-- One piece more.
use Rattle.std.proofs.Common.{◌≡◌, ℕ, ◌==◌, Bool, true, false, List, [], ◌∷◌, ◌++◌, if◌then◌else◌, ap, sym, ◌∙◌}
use Rattle.std.proofs.lemmas.List.{append_assoc, append-nil}
use Rattle.shown_dumps.specs.Pieces.{pieces_after, lines_of, words_of}
use Rattle.text_words.specs.Lacks.{lacks}

-- what is left to part, where the text has begun
step : (ends : Bool) (byte x : ℕ) (begun xs more : List ℕ) → (if ends then false else lacks byte xs) ≡ true
    → (lacks byte xs ≡ true → pieces_after byte (begun ++ x ∷ []) (xs ++ more) ≡ pieces_after byte ((begun ++ x ∷ []) ++ xs) more)
    → (if ends then begun ∷ pieces_after byte [] (xs ++ more) else pieces_after byte (begun ++ x ∷ []) (xs ++ more))
    ≡ pieces_after byte (begun ++ x ∷ xs) more
step true byte x begun xs more h rest = absurd (cc h)
step false byte x begun xs more h rest =
    rest h ∙ ap (λ l. pieces_after byte l more) (append_assoc begun (x ∷ []) xs)

-- a part without such a byte is no end
pub through : (byte : ℕ) (begun a more : List ℕ) → lacks byte a ≡ true
    → pieces_after byte begun (a ++ more) ≡ pieces_after byte (begun ++ a) more
through byte begun [] more h = ap (λ l. pieces_after byte l more) (sym (append-nil begun))
through byte begun (x ∷ xs) more h =
    step (x == byte) byte x begun xs more h (λ k. through byte (begun ++ x ∷ []) xs more k)

-- the first word of a line, and the last one
pub next_word : (rest word more : List ℕ) → rest ≡ word ++ 32 ∷ more → lacks 32 word ≡ true
    → words_of rest ≡ word ∷ words_of more
next_word rest word more is none =
    ap words_of is ∙ ap (λ l. pieces_after 32 [] l) (append_assoc word (32 ∷ more) (32 ∷ []))
    ∙ through 32 [] word (32 ∷ (more ++ 32 ∷ [])) none

pub last_word : (rest : List ℕ) → lacks 32 rest ≡ true → words_of rest ≡ rest ∷ []
last_word rest none = through 32 [] rest (32 ∷ []) none

-- the first line of a text, and the end
pub next_line : (rest line more : List ℕ) → rest ≡ line ++ 10 ∷ more → lacks 10 line ≡ true
    → lines_of rest ≡ line ∷ lines_of more
next_line rest line more is none = ap lines_of is ∙ through 10 [] line (10 ∷ more) none

pub last_line : (rest : List ℕ) → lacks 10 rest ≡ true → lines_of rest ≡ []
last_line rest none = ap lines_of (sym (append-nil rest)) ∙ through 10 [] rest [] none
