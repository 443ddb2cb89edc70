-- Which worker has which thread, and why a thread is given no seat.
use Rattle.std.proofs.Common.{◌≡◌, ℕ, Bool, true, false, cond, List, [], ◌∷◌, ◌++◌, map, Option, Some, None, Result, Ok, Err, refl, ap, sym}
use Rattle.std.specs.Str.{bytes_eq}
use Rattle.std.proofs.lemmas.List.{map-append}
use Rattle.std.proofs.lemmas.Option.{none-some}
use Rattle.base.specs.declared.refusals.Refusal.{Refusal}
use Rattle.script_rules.specs.Run.{thread_of, with_seat}
use Rattle.script_runner.specs.Turns.{seated_after, thread_after}

-- a seat at the end is found by its worker, where it had none
thread_last : (w worker : List ℕ) (thread : ℕ) (seats : List (List ℕ × ℕ)) → bytes_eq w worker ≡ true → thread_of worker seats ≡ None
    → thread_of worker (seats ++ (w, thread) ∷ []) ≡ Some thread
thread_last w worker thread [] same none = ap (λ (b : Bool). cond b (Some thread) None) same
thread_last w worker thread (s ∷ seats) same none = at (bytes_eq s.0 worker) none (thread_last w worker thread seats same)
  where
    at : (b : Bool) → cond b (Some s.1) (thread_of worker seats) ≡ None
        → (thread_of worker seats ≡ None → thread_of worker (seats ++ (w, thread) ∷ []) ≡ Some thread)
        → cond b (Some s.1) (thread_of worker (seats ++ (w, thread) ∷ [])) ≡ Some thread
    at true is later = absurd (none-some s.1 (sym is))
    at false is later = later is

-- and by no other
thread_other : (w worker : List ℕ) (thread : ℕ) (seats : List (List ℕ × ℕ)) → bytes_eq w worker ≡ false
    → thread_of worker (seats ++ (w, thread) ∷ []) ≡ thread_of worker seats
thread_other w worker thread [] other = ap (λ (b : Bool). cond b (Some thread) None) other
thread_other w worker thread (s ∷ seats) other =
    ap (λ (o : Option ℕ). cond (bytes_eq s.0 worker) (Some s.1) o) (thread_other w worker thread seats other)

-- a worker's thread, after it asked for a seat
pub seat_own : (w : List ℕ) (seats : List (List ℕ × ℕ)) (had : Option ℕ) (seat : Result ℕ (Option Refusal)) → bytes_eq w w ≡ true
    → thread_of w seats ≡ had → thread_of w (with_seat seats w had seat) ≡ thread_after had seat
seat_own w seats (Some thread) seat same is = is
seat_own w seats None (Ok thread) same is = thread_last w w thread seats same is
seat_own w seats None (Err refusal) same is = is

-- and after another did
pub seat_other : (w worker : List ℕ) (seats : List (List ℕ × ℕ)) (had : Option ℕ) (seat : Result ℕ (Option Refusal))
    → bytes_eq w worker ≡ false → thread_of worker (with_seat seats w had seat) ≡ thread_of worker seats
seat_other w worker seats (Some thread) seat other = refl
seat_other w worker seats None (Ok thread) other = thread_other w worker thread seats other
seat_other w worker seats None (Err refusal) other = refl

-- the threads with seats then
pub seats_then : (w : List ℕ) (seats : List (List ℕ × ℕ)) (had : Option ℕ) (seat : Result ℕ (Option Refusal))
    → seated_after (map (λ (s : List ℕ × ℕ). s.1) seats) had seat ≡ map (λ (s : List ℕ × ℕ). s.1) (with_seat seats w had seat)
seats_then w seats (Some thread) seat = refl
seats_then w seats None (Ok thread) = sym (map-append (λ (s : List ℕ × ℕ). s.1) seats ((w, thread) ∷ []))
seats_then w seats None (Err refusal) = refl
