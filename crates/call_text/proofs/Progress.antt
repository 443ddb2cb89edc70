-- How far a script has been read.
use Rattle.std.proofs.Common.{◌≡◌, ℕ, ◌+◌, ◌≤◌, Bool, eqb, true, false, Err, List, [], ◌∷◌, ◌++◌, length, refl, ap, ◌∙◌, sym, arith, subst, length-append}
use Rattle.std.proofs.lemmas.Bool.{eqb-true}
use Rattle.std.proofs.lemmas.List.{append-nil}
use Rattle.text_words.specs.Lacks.{lacks}
use Rattle.call_text.specs.declared.phases.Line.{Line}
use Rattle.call_text.specs.Line.{Written, Break, Said, written_text, FitsWritten}
use Rattle.call_text.specs.Script.{next, ends, start, lines_of, known_names, ArePhasesNumbered, Earlier, IsScript}
use Rattle.call_text.specs.Names.{Admits}
use Rattle.call_text.proofs.LineLemmas.{script_grammar}
use Rattle.call_text.proofs.ScriptLemmas.{lines_of-line, lines_of-phase, numbers_line, numbers_phase, room_for}
use Rattle.call_text.proofs.TextLemmas.{Came, came_more, stop_no_end, stop_line, stop_state}
use Rattle.call_text.specs.declared.batches.Open.{Open}
use Rattle.call_text.specs.declared.errors.ScriptError.{ScriptError}
use Rattle.call_text.specs.declared.errors.ScriptError.TheVariants as errors
use Rattle.call_text.specs.Reading.{TellsFault, ReadsScript}
use Rattle.call_text.specs.Text.{StopsAt}

-- the phases, and the lines of the last one, with one more line
abbrev pub added : ℕ → Written → List (List Line) → List Line → List (List Line) × List Line
added number Break phases lines = (phases ++ lines ∷ [], [])
added number (Said binds worker more call) phases lines =
    (phases, lines ++ record { number = number; binds = binds; worker = worker; more = more; call = call } ∷ [])

-- where the script that is read stands
abbrev pub stand : ℕ → List (List ℕ) → List Open → Earlier
stand count names batches = record { lines = count; bound = names; open_batches = batches }

pub record Progress (bytes : List ℕ) (names : List (List ℕ)) (batches : List Open) (phases : List (List Line)) (lines : List Line) (count : ℕ) (rest : List ℕ) : Type 0 where
  pub came : Came written_text FitsWritten next start bytes (lines_of (phases ++ lines ∷ [])) (stand count names batches) rest
  pub numbers : ArePhasesNumbered 1 (phases ++ lines ∷ [])
  pub counted : count ≡ length (lines_of (phases ++ lines ∷ []))
  pub few : count ≤ 65536

-- nothing was read
pub progress_start : (bytes : List ℕ) (names : List (List ℕ)) (batches : List Open) (phases : List (List Line)) (lines : List Line) → batches ≡ [] → phases ≡ [] → lines ≡ [] → names ≡ known_names → Progress bytes names batches phases lines 0 bytes
progress_start bytes names batches phases lines b p l known =
    rw (b, p, l, known) (record { came = record { fit = tt; ran = refl; parts = refl }; numbers = (tt, tt); counted = refl; few = omega arith })

step : (bytes : List ℕ) (names later : List (List ℕ)) (batches afters : List Open) (phases more : List (List Line)) (lines lasts : List Line) (count : ℕ) (rest l after : List ℕ) (v : Written)
    → Progress bytes names batches phases lines count rest → rest ≡ l ++ 10 ∷ after → FitsWritten v → l ≡ written_text v → Admits count v names later batches afters true
    → lines_of (more ++ lasts ∷ []) ≡ lines_of (phases ++ lines ∷ []) ++ v ∷ [] → ArePhasesNumbered 1 (more ++ lasts ∷ []) → Progress bytes later afters more lasts (count + 1) after
step bytes names later batches afters phases more lines lasts count rest l after v at h fits is admits all numbers =
    let now : Earlier = stand count names batches in
    let next_state : Earlier = stand (count + 1) later afters in
    let came = came_more written_text FitsWritten next start bytes (lines_of (phases ++ lines ∷ [])) now rest l after v next_state at.came h fits is admits in
    let n = at.counted in
    record {
      came = subst (λ (vs : List Written). Came written_text FitsWritten next start bytes vs next_state after) (sym all) came;
      numbers = numbers;
      counted = rw all (omega (arith, length-append (lines_of (phases ++ lines ∷ [])) (v ∷ [])));
      few = let lt = room_for count v names later batches afters admits in omega arith;
    }

-- one more line was read
pub progress_more : (bytes : List ℕ) (names later : List (List ℕ)) (batches afters : List Open) (phases more : List (List Line)) (lines lasts : List Line) (count : ℕ) (rest l after : List ℕ) (v : Written)
    → Progress bytes names batches phases lines count rest → rest ≡ l ++ 10 ∷ after → FitsWritten v → l ≡ written_text v → Admits count v names later batches afters true
    → (more, lasts) ≡ added (count + 1) v phases lines → Progress bytes later afters more lasts (count + 1) after
progress_more bytes names later batches afters phases more lines lasts count rest l after Break at h fits is admits e =
    let p : more ≡ phases ++ lines ∷ [] = ap (λ x. x.0) e in
    let q : lasts ≡ [] = ap (λ x. x.1) e in
    step bytes names later batches afters phases more lines lasts count rest l after Break at h fits is admits
    (rw (p, q) (lines_of-phase phases lines)) (rw (p, q) (numbers_phase 1 phases lines at.numbers))
progress_more bytes names later batches afters phases more lines lasts count rest l after (Said binds worker goes_on call) at h fits is admits e =
    let one : Line = record { number = count + 1; binds = binds; worker = worker; more = goes_on; call = call } in
    let p : more ≡ phases = ap (λ x. x.0) e in
    let q : lasts ≡ lines ++ one ∷ [] = ap (λ x. x.1) e in
    let n = at.counted in
    step bytes names later batches afters phases more lines lasts count rest l after (Said binds worker goes_on call) at h fits is admits
    (rw (p, q) (lines_of-line phases lines one)) (rw (p, q) (numbers_line 1 phases lines one at.numbers (omega arith)))

-- the line that the reader tells is the first faulty one
told : (bytes : List ℕ) (state : Earlier) (rest : List ℕ) (stop : ℕ) (e : ScriptError) → StopsAt written_text FitsWritten next ends start bytes stop state rest → TellsFault rest state.open_batches stop e → ReadsScript bytes (Err e)
told bytes state rest stop errors.Memory at fault = tt
told bytes state rest stop (errors.Line n) at fault = record {
  stop = stop;
  state = state;
  rest = rest;
  stops = at;
  left = fault.0;
  leaves = fault.1;
  told = fault.2;
}

-- the last line lacks its end
pub fault_at_end : (bytes : List ℕ) (names : List (List ℕ)) (batches : List Open) (phases : List (List Line)) (lines : List Line) (count : ℕ) (rest : List ℕ) (e : ScriptError)
    → Progress bytes names batches phases lines count rest → lacks 10 rest ≡ true → (rest ≡ [] → ⊥) → TellsFault rest batches (count + 1) e → ReadsScript bytes (Err e)
fault_at_end bytes names batches phases lines count rest e at lack some fault =
    told bytes (stand count names batches) rest (count + 1) e
    (stop_no_end written_text FitsWritten next ends start bytes (lines_of (phases ++ lines ∷ [])) _ rest (count + 1) at.came (ap (λ n. n + 1) at.counted) lack (λ e. absurd (some e))) fault

-- a line that is none
pub fault_unread : (bytes : List ℕ) (names : List (List ℕ)) (batches : List Open) (phases : List (List Line)) (lines : List Line) (count : ℕ) (rest l after : List ℕ) (e : ScriptError)
    → Progress bytes names batches phases lines count rest → rest ≡ l ++ 10 ∷ after → lacks 10 l ≡ true → ((v : Written) → FitsWritten v → l ≡ written_text v → ⊥) → TellsFault rest batches (count + 1) e → ReadsScript bytes (Err e)
fault_unread bytes names batches phases lines count rest l after e at h lack none fault =
    told bytes (stand count names batches) rest (count + 1) e
    (stop_line written_text FitsWritten next ends start bytes (lines_of (phases ++ lines ∷ [])) _ rest (count + 1) l after script_grammar at.came (ap (λ n. n + 1) at.counted) h lack (λ v f s k. none v f k)) fault

-- a line that may not stand there
pub fault_refused : (bytes : List ℕ) (names later : List (List ℕ)) (batches afters : List Open) (phases : List (List Line)) (lines : List Line) (count : ℕ) (rest l after : List ℕ) (v : Written) (e : ScriptError)
    → Progress bytes names batches phases lines count rest → rest ≡ l ++ 10 ∷ after → lacks 10 l ≡ true → FitsWritten v → l ≡ written_text v → Admits count v names later batches afters false → TellsFault rest afters (count + 1) e → ReadsScript bytes (Err e)
fault_refused bytes names later batches afters phases lines count rest l after v e at h lack fits is admits fault =
    told bytes (stand count names batches) rest (count + 1) e
    (stop_state written_text FitsWritten next ends start bytes (lines_of (phases ++ lines ∷ [])) _ rest (count + 1) l after v script_grammar at.came (ap (λ n. n + 1) at.counted) h lack fits is admits.0)
    (subst (λ (os : List Open). TellsFault rest os (count + 1) e) admits.1 fault)

-- an end where a batch is open
pub fault_open : (bytes : List ℕ) (names : List (List ℕ)) (batches : List Open) (phases : List (List Line)) (lines : List Line) (count : ℕ) (rest : List ℕ) (e : ScriptError)
    → Progress bytes names batches phases lines count rest → rest ≡ [] → ends (stand count [] batches) ≡ false → TellsFault rest batches (count + 1) e → ReadsScript bytes (Err e)
fault_open bytes names batches phases lines count rest e at none some fault =
    told bytes (stand count names batches) rest (count + 1) e
    (stop_no_end written_text FitsWritten next ends start bytes (lines_of (phases ++ lines ∷ [])) _ rest (count + 1) at.came (ap (λ n. n + 1) at.counted) (subst (λ (x : List ℕ). lacks 10 x ≡ true) (sym none) refl) (λ k. some)) fault

some_phase : (phases : List (List Line)) (lines : List Line) → 1 ≤ length (phases ++ lines ∷ [])
some_phase phases lines = omega (arith, length-append phases (lines ∷ []))

-- all was read
pub progress_end : (bytes : List ℕ) (names : List (List ℕ)) (batches : List Open) (phases : List (List Line)) (lines : List Line) (count : ℕ) (rest : List ℕ)
    → Progress bytes names batches phases lines count rest → rest ≡ [] → ends (stand count [] batches) ≡ true → IsScript bytes (phases ++ lines ∷ [])
progress_end bytes names batches phases lines count rest at none ended = record {
  some = some_phase phases lines;
  numbers = at.numbers;
  spelled = record {
    fit = at.came.fit;
    state = stand count names batches;
    ran = at.came.ran;
    ended = ended;
    bytes_are = at.came.parts ∙ rw (none, append-nil _) refl;
  };
}

pub admitted : (lines : ℕ) (l : Written) (old new : List (List ℕ)) (batches afters : List Open) (given answer : Bool) → given ≡ answer → Admits lines l old new batches afters given → Admits lines l old new batches afters answer
admitted lines l old new batches afters given answer e h = subst (λ b. Admits lines l old new batches afters b) e h

pub not_empty : (xs : List ℕ) (b : Bool) → b ≡ false → b ≡ eqb (length xs) 0 → xs ≡ [] → ⊥
not_empty xs b is h e = let k : eqb (length xs) 0 ≡ true = ap (λ (ys : List ℕ). eqb (length ys) 0) e in cc

pub all_read : (xs : List ℕ) (b : Bool) → b ≡ true → b ≡ eqb (length xs) 0 → xs ≡ []
all_read [] b is h = refl
all_read (x ∷ xs) b is h = let k : length (x ∷ xs) ≡ 0 = eqb-true (length (x ∷ xs)) 0 (sym h ∙ is) in absurd (omega arith)
