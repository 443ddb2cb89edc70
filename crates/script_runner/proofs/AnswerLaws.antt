-- What is kept of replies.
use Rattle.std.proofs.Common.{◌≡◌, ℕ, ◌+◌, ◌<◌, List, [], ◌∷◌, ◌++◌, map, take, get_or, length, slice_get, Some, Result, Ok, refl, ap, sym, ◌∙◌, subst, append_assoc, arith}
use Rattle.std.specs.List.{AllByRecursion, AllZip}
use Rattle.std.proofs.lemmas.List.{get_or_append_left, get_or_at, length-append, map-append}
use Rattle.std.proofs.lemmas.Slice.Zip.{all_zipped_more}
use Rattle.kernel_rules.specs.declared.replies.Reply.{Reply}
use Rattle.kernel_rules.specs.declared.replies.Reply.TheVariants as replies
use Rattle.script_rules.specs.Lines.{Seen, told, seen}
use Rattle.script_runner.specs.Answers.{answer_of, reply_of, told_in, seen_in, AllStay, IsReply, IsThere, Keeps}
use Rattle.script_runner.specs.Reads.{AddsReads, IsReadOf}
use Rattle.script_runner.specs.declared.reads.SeenRead.{SeenRead}
use Rattle.script_runner.specs.declared.answers.KeptAnswer.{KeptAnswer}
use Rattle.script_runner.specs.declared.answers.KeptAnswer.TheVariants as kept
use Rattle.script_runner.specs.declared.answers.AskedQuery.{AskedQuery}
use Rattle.script_runner.specs.declared.answers.ToldLine.{ToldLine}
use Rattle.script_runner.proofs.NumberLaws.{take_next}

last_is_there : {A : Type 0} (xs : List A) (x : A) (place : ℕ) → place < length xs → place < length (xs ++ x ∷ [])
last_is_there xs x place there = omega (arith, there, length-append xs (x ∷ []))

-- one more that is kept apart
bytes_more : (bytes : List (List ℕ)) (x : List ℕ) (whole : List Reply) → AllStay bytes whole (bytes ++ x ∷ []) whole
bytes_more bytes x whole kept.Done there = (tt, refl)
bytes_more bytes x whole (kept.Made value) there = (tt, refl)
bytes_more bytes x whole (kept.Entered point closure) there = (tt, refl)
bytes_more bytes x whole (kept.Quota quota used fixed immutable) there = (tt, refl)
bytes_more bytes x whole (kept.Pages pages) there = (tt, refl)
bytes_more bytes x whole (kept.Bytes place) there =
    (last_is_there bytes x place there, ap replies.Bytes (get_or_append_left bytes (x ∷ []) [] place there))
bytes_more bytes x whole (kept.Replied place) there = (there, refl)
bytes_more bytes x whole (kept.Refused refusal) there = (tt, refl)
bytes_more bytes x whole (kept.Unbound name) there = (tt, refl)

reply_more : (bytes : List (List ℕ)) (whole : List Reply) (x : Reply) → AllStay bytes whole bytes (whole ++ x ∷ [])
reply_more bytes whole x kept.Done there = (tt, refl)
reply_more bytes whole x (kept.Made value) there = (tt, refl)
reply_more bytes whole x (kept.Entered point closure) there = (tt, refl)
reply_more bytes whole x (kept.Quota quota used fixed immutable) there = (tt, refl)
reply_more bytes whole x (kept.Pages pages) there = (tt, refl)
reply_more bytes whole x (kept.Bytes place) there = (there, refl)
reply_more bytes whole x (kept.Replied place) there =
    (last_is_there whole x place there, get_or_append_left whole (x ∷ []) replies.Done place there)
reply_more bytes whole x (kept.Refused refusal) there = (tt, refl)
reply_more bytes whole x (kept.Unbound name) there = (tt, refl)

pub bytes_stay : (bytes after : List (List ℕ)) (x : List ℕ) (whole : List Reply) → after ≡ bytes ++ x ∷ [] → AllStay bytes whole after whole
bytes_stay bytes after x whole is = subst (λ (d : List (List ℕ)). AllStay bytes whole d whole) (sym is) (bytes_more bytes x whole)

pub reply_stays : (bytes : List (List ℕ)) (whole after : List Reply) (x : Reply) → after ≡ whole ++ x ∷ [] → AllStay bytes whole bytes after
reply_stays bytes whole after x is = subst (AllStay bytes whole bytes) (sym is) (reply_more bytes whole x)

at_end : {A : Type 0} (xs : List A) (x d : A) → (length xs < length (xs ++ x ∷ [])) × (get_or (xs ++ x ∷ []) (length xs) d ≡ x)
at_end xs x d = (omega (arith, length-append xs (x ∷ [])), get_or_at xs x [] d (length xs) refl)

-- what is kept last
pub bytes_kept : (bytes after : List (List ℕ)) (x : List ℕ) (whole : List Reply) (place : ℕ) → place ≡ length bytes
    → after ≡ bytes ++ x ∷ [] → Keeps after whole (replies.Bytes x) (kept.Bytes place)
bytes_kept bytes after x whole place at is =
    let last = at_end bytes x [] in
    subst (λ (z : List (List ℕ) × ℕ). Keeps z.0 whole (replies.Bytes x) (kept.Bytes z.1)) (λ i. (sym is i, sym at i))
    (last.0, ap (λ (b : List ℕ). Ok (replies.Bytes b)) last.1, ap replies.Bytes last.1)

pub reply_kept : (bytes : List (List ℕ)) (whole after : List Reply) (x : Reply) (place : ℕ) → place ≡ length whole
    → after ≡ whole ++ x ∷ [] → Keeps bytes after x (kept.Replied place)
reply_kept bytes whole after x place at is =
    let last = at_end whole x replies.Done in
    subst (λ (z : List Reply × ℕ). Keeps bytes z.0 x (kept.Replied z.1)) (λ i. (sym is i, sym at i)) (last.0, ap Ok last.1, last.1)

answer_stays : (bytes more : List (List ℕ)) (whole all : List Reply) (answer : KeptAnswer)
    → reply_of more all answer ≡ reply_of bytes whole answer → answer_of more all answer ≡ answer_of bytes whole answer
answer_stays bytes more whole all kept.Done e = refl
answer_stays bytes more whole all (kept.Made value) e = refl
answer_stays bytes more whole all (kept.Entered point closure) e = refl
answer_stays bytes more whole all (kept.Quota quota used fixed immutable) e = refl
answer_stays bytes more whole all (kept.Pages pages) e = refl
answer_stays bytes more whole all (kept.Bytes place) e = ap Ok e
answer_stays bytes more whole all (kept.Replied place) e = ap Ok e
answer_stays bytes more whole all (kept.Refused refusal) e = refl
answer_stays bytes more whole all (kept.Unbound name) e = refl

pub all_last : {A : Type 0} (P : A → Type 0) (xs : List A) (x : A) → AllByRecursion P xs → P x → AllByRecursion P (xs ++ x ∷ [])
all_last P [] x h last = (last, tt)
all_last P (y ∷ ys) x h last = (h.0, all_last P ys x h.1 last)

module _ (bytes more : List (List ℕ)) (whole all : List Reply) (stay : AllStay bytes whole more all) where
  pub lines_there : (lines : List ToldLine) → AllByRecursion (λ (l : ToldLine). IsThere (length bytes) (length whole) l.answer) lines
      → AllByRecursion (λ (l : ToldLine). IsThere (length more) (length all) l.answer) lines
  lines_there [] there = tt
  lines_there (l ∷ ls) there = ((stay l.answer there.0).0, lines_there ls there.1)

  pub asked_there : (asked : List AskedQuery) → AllByRecursion (λ (q : AskedQuery). IsThere (length bytes) (length whole) q.answer) asked
      → AllByRecursion (λ (q : AskedQuery). IsThere (length more) (length all) q.answer) asked
  asked_there [] there = tt
  asked_there (q ∷ qs) there = ((stay q.answer there.0).0, asked_there qs there.1)

  lines_stay : (lines : List ToldLine) → AllByRecursion (λ (l : ToldLine). IsThere (length bytes) (length whole) l.answer) lines
      → map (told_in more all) lines ≡ map (told_in bytes whole) lines
  lines_stay [] there = refl
  lines_stay (l ∷ ls) there =
      λ i. told l.number (answer_stays bytes more whole all l.answer (stay l.answer there.0).1 i) ∷ lines_stay ls there.1 i

  pub asked_stay : (asked : List AskedQuery) → AllByRecursion (λ (q : AskedQuery). IsThere (length bytes) (length whole) q.answer) asked
      → map (seen_in more all) asked ≡ map (seen_in bytes whole) asked
  asked_stay [] there = refl
  asked_stay (q ∷ qs) there = λ i. seen q.length q.query ((stay q.answer there.0).1 i) ∷ asked_stay qs there.1 i

  -- with one line more, and one query more
  pub lines_there_more : (lines after : List ToldLine) (line : ToldLine)
      → AllByRecursion (λ (l : ToldLine). IsThere (length bytes) (length whole) l.answer) lines → after ≡ lines ++ line ∷ []
      → IsThere (length more) (length all) line.answer
      → AllByRecursion (λ (l : ToldLine). IsThere (length more) (length all) l.answer) after
  lines_there_more lines after line there is here =
      subst (AllByRecursion (λ (l : ToldLine). IsThere (length more) (length all) l.answer)) (sym is)
      (all_last (λ (l : ToldLine). IsThere (length more) (length all) l.answer) lines line (lines_there lines there) here)

  pub asked_there_more : (asked after : List AskedQuery) (q : AskedQuery)
      → AllByRecursion (λ (a : AskedQuery). IsThere (length bytes) (length whole) a.answer) asked → after ≡ asked ++ q ∷ []
      → IsThere (length more) (length all) q.answer
      → AllByRecursion (λ (a : AskedQuery). IsThere (length more) (length all) a.answer) after
  asked_there_more asked after q there is here =
      subst (AllByRecursion (λ (a : AskedQuery). IsThere (length more) (length all) a.answer)) (sym is)
      (all_last (λ (a : AskedQuery). IsThere (length more) (length all) a.answer) asked q (asked_there asked there) here)

  -- one line more was told this
  pub told_more : (lines after : List ToldLine) (line : ToldLine) (r : Result Reply (List ℕ))
      → AllByRecursion (λ (l : ToldLine). IsThere (length bytes) (length whole) l.answer) lines → after ≡ lines ++ line ∷ []
      → answer_of more all line.answer ≡ r
      → map (told_in more all) after ≡ map (told_in bytes whole) lines ++ told line.number r ∷ []
  told_more lines after line r there is same =
      ap (map (told_in more all)) is ∙ map-append (told_in more all) lines (line ∷ [])
      ∙ (λ i. lines_stay lines there i ++ told line.number (same i) ∷ [])

  -- and one query more was answered so
  pub asked_more : (asked after : List AskedQuery) (q : AskedQuery) (r : Reply)
      → AllByRecursion (λ (q : AskedQuery). IsThere (length bytes) (length whole) q.answer) asked → after ≡ asked ++ q ∷ []
      → reply_of more all q.answer ≡ r
      → map (seen_in more all) after ≡ map (seen_in bytes whole) asked ++ seen q.length q.query r ∷ []
  asked_more asked after q r there is same =
      ap (map (seen_in more all)) is ∙ map-append (seen_in more all) asked (q ∷ [])
      ∙ (λ i. asked_stay asked there i ++ seen q.length q.query (same i) ∷ [])

-- one query more is added
pub reads_more : (thread : ℕ) (bytes : List (List ℕ)) (whole : List Reply) (asked : List AskedQuery) (k : ℕ) (q : AskedQuery) (read : SeenRead)
    (old now new : List SeenRead) → slice_get asked k ≡ Some q → AddsReads thread (map (seen_in bytes whole) (take k asked)) old now
    → IsReadOf thread (seen_in bytes whole q) read → new ≡ now ++ read ∷ []
    → AddsReads thread (map (seen_in bytes whole) (take (k + 1) asked)) old new
reads_more thread bytes whole asked k q read old now new there (added, are, is) here pushed = (
  added ++ read ∷ [],
  subst (λ (ss : List Seen). AllZip (IsReadOf thread) ss (added ++ read ∷ []))
      (sym (ap (map (seen_in bytes whole)) (take_next asked k q there) ∙ map-append (seen_in bytes whole) (take k asked) (q ∷ [])))
      (all_zipped_more (IsReadOf thread) (map (seen_in bytes whole) (take k asked)) added (seen_in bytes whole q) read are here),
  pushed ∙ ap (λ (rs : List SeenRead). rs ++ read ∷ []) is ∙ append_assoc old added (read ∷ []),
)

-- an answer that gives a reply is one
is_reply : (bytes : List (List ℕ)) (whole : List Reply) (answer : KeptAnswer) (r : Reply) → answer_of bytes whole answer ≡ Ok r → IsReply answer
is_reply bytes whole kept.Done r is = tt
is_reply bytes whole (kept.Made value) r is = tt
is_reply bytes whole (kept.Entered point closure) r is = tt
is_reply bytes whole (kept.Quota quota used fixed immutable) r is = tt
is_reply bytes whole (kept.Pages pages) r is = tt
is_reply bytes whole (kept.Bytes place) r is = tt
is_reply bytes whole (kept.Replied place) r is = tt
is_reply bytes whole (kept.Refused refusal) r is = tt
is_reply bytes whole (kept.Unbound name) r is = absurd (cc is)

-- so one query more was answered by one
pub replies_more : (bytes : List (List ℕ)) (whole : List Reply) (asked after : List AskedQuery) (q : AskedQuery) (r : Reply)
    → AllByRecursion (λ (a : AskedQuery). IsReply a.answer) asked → after ≡ asked ++ q ∷ [] → answer_of bytes whole q.answer ≡ Ok r
    → AllByRecursion (λ (a : AskedQuery). IsReply a.answer) after
replies_more bytes whole asked after q r all is answered =
    subst (AllByRecursion (λ (a : AskedQuery). IsReply a.answer)) (sym is)
    (all_last (λ (a : AskedQuery). IsReply a.answer) asked q all (is_reply bytes whole q.answer r answered))
