-- A text up to a byte, and after it.
use Rattle.std.proofs.Common.{◌≡◌, ℕ, ◌+◌, true, false, eqb, List, [], ◌∷◌, ◌++◌, refl, sym, ap, ◌∙◌}
use Rattle.std.proofs.lemmas.List.{append_assoc, append-nil}
use Rattle.text_words.specs.DataWord.{data_text}
use Rattle.text_words.specs.Lacks.{lacks}
use Rattle.text_words.proofs.Split.{cond_false}
use Rattle.call_text.specs.Lines.{line_from, plain_line}
use Rattle.call_text.specs.Scripts.{line_text, line_number, text_from, next_number, numbers_from}

-- a line that lacks quotes stays
pub unquoted : (line : List ℕ) → lacks 34 line ≡ true → line_from false [] line ≡ line
unquoted [] h = refl
unquoted (b ∷ line) h =
    let p = cond_false (eqb b 34) (lacks 34 line) h in rw p.0 (ap (λ l. b ∷ l) (unquoted line p.1))

-- what stands before a quote stays
pub before_quote : (before rest : List ℕ) → lacks 34 before ≡ true
    → line_from false [] (before ++ 34 ∷ rest) ≡ before ++ line_from true [] rest
before_quote [] rest h = refl
before_quote (b ∷ before) rest h =
    let p = cond_false (eqb b 34) (lacks 34 before) h in rw p.0 (ap (λ l. b ∷ l) (before_quote before rest p.1))

-- a text in quotes becomes data
pub within_quotes : (so_far text rest : List ℕ) → lacks 34 text ≡ true
    → line_from true so_far (text ++ 34 ∷ rest) ≡ data_text (so_far ++ text) ++ line_from false [] rest
within_quotes so_far [] rest h = ap (λ l. data_text l ++ line_from false [] rest) (sym (append-nil so_far))
within_quotes so_far (b ∷ text) rest h =
    let p = cond_false (eqb b 34) (lacks 34 text) h in
    rw p.0 (within_quotes (so_far ++ b ∷ []) text rest p.1
    ∙ ap (λ l. data_text l ++ line_from false [] rest) (append_assoc so_far (b ∷ []) text))

-- a quote that none closes stays
pub open_quote : (so_far text : List ℕ) → lacks 34 text ≡ true → line_from true so_far text ≡ 34 ∷ (so_far ++ text)
open_quote so_far [] h = ap (λ l. 34 ∷ l) (sym (append-nil so_far))
open_quote so_far (b ∷ text) h =
    let p = cond_false (eqb b 34) (lacks 34 text) h in
    rw p.0 (open_quote (so_far ++ b ∷ []) text p.1 ∙ ap (λ l. 34 ∷ l) (append_assoc so_far (b ∷ []) text))

-- a line up to its end, and the last one
pub text_after : (so_far line rest : List ℕ) → lacks 10 line ≡ true
    → text_from so_far (line ++ 10 ∷ rest) ≡ line_text (so_far ++ line) ++ text_from [] rest
text_after so_far [] rest h = ap (λ l. line_text l ++ text_from [] rest) (sym (append-nil so_far))
text_after so_far (b ∷ line) rest h =
    let p = cond_false (eqb b 10) (lacks 10 line) h in
    rw p.0 (text_after (so_far ++ b ∷ []) line rest p.1
    ∙ ap (λ l. line_text l ++ text_from [] rest) (append_assoc so_far (b ∷ []) line))

pub text_at_end : (so_far line : List ℕ) → lacks 10 line ≡ true → text_from so_far line ≡ line_text (so_far ++ line)
text_at_end so_far [] h = ap line_text (sym (append-nil so_far))
text_at_end so_far (b ∷ line) h =
    let p = cond_false (eqb b 10) (lacks 10 line) h in
    rw p.0 (text_at_end (so_far ++ b ∷ []) line p.1 ∙ ap line_text (append_assoc so_far (b ∷ []) line))

pub numbers_after : (n : ℕ) (so_far line rest : List ℕ) → lacks 10 line ≡ true
    → numbers_from n so_far (line ++ 10 ∷ rest) ≡ line_number n (so_far ++ line) ++ numbers_from (next_number n) [] rest
numbers_after n so_far [] rest h =
    ap (λ l. line_number n l ++ numbers_from (next_number n) [] rest) (sym (append-nil so_far))
numbers_after n so_far (b ∷ line) rest h =
    let p = cond_false (eqb b 10) (lacks 10 line) h in
    rw p.0 (numbers_after n (so_far ++ b ∷ []) line rest p.1
    ∙ ap (λ l. line_number n l ++ numbers_from (next_number n) [] rest) (append_assoc so_far (b ∷ []) line))

pub numbers_at_end : (n : ℕ) (so_far line : List ℕ) → lacks 10 line ≡ true
    → numbers_from n so_far line ≡ line_number n (so_far ++ line)
numbers_at_end n so_far [] h = ap (line_number n) (sym (append-nil so_far))
numbers_at_end n so_far (b ∷ line) h =
    let p = cond_false (eqb b 10) (lacks 10 line) h in
    rw p.0 (numbers_at_end n (so_far ++ b ∷ []) line p.1 ∙ ap (line_number n) (append_assoc so_far (b ∷ []) line))

-- a line with a text in quotes, with a quote that none closes, and without any
pub both_quotes : (rest before quoted text after : List ℕ) → rest ≡ before ++ 34 ∷ quoted → lacks 34 before ≡ true
    → quoted ≡ text ++ 34 ∷ after → lacks 34 text ≡ true → plain_line rest ≡ before ++ (data_text text ++ plain_line after)
both_quotes rest before quoted text after e h k j =
    ap plain_line e ∙ before_quote before quoted h ∙ ap (λ q. before ++ line_from true [] q) k
    ∙ ap (λ l. before ++ l) (within_quotes [] text after j)

pub one_quote : (rest before quoted : List ℕ) → rest ≡ before ++ 34 ∷ quoted → lacks 34 before ≡ true → lacks 34 quoted ≡ true
    → plain_line rest ≡ before ++ 34 ∷ quoted
one_quote rest before quoted e h k =
    ap plain_line e ∙ before_quote before quoted h ∙ ap (λ l. before ++ l) (open_quote [] quoted k)
