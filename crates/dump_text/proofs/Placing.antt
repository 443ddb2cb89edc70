-- Reads in the order of their places.
use Rattle.std.proofs.Common.{◌≡◌, ℕ, ◌+◌, ◌<◌, ◌≤◌, ◌==◌, ◌&&◌, nat_le, Bool, true, false, if◌then◌else◌, List, [], ◌∷◌, ◌++◌, length, map, drop, get_or, refl, ap, ◌∙◌, sym, subst, arith}
use Rattle.std.proofs.Common.{Option, Some, None}
use Rattle.std.specs.List.{flat_map, AllByRecursion}
use Rattle.std.proofs.lemmas.Bool.{and_parts, leb-true, le-leb, eqb-true, eqb-false}
use Rattle.std.proofs.lemmas.List.{drop_more, drop_all}
use Rattle.checkpoints.specs.Checkpoint.{Checkpoint}
use Rattle.kernel_rules.specs.Events.{Event}
use Rattle.dump_text.specs.declared.lines.Line.{Line}
use Rattle.dump_text.specs.declared.tables.PlacedRead.{PlacedRead}
use Rattle.dump_text.specs.Dump.{event_lines, told_lines, history_lines}
use Rattle.dump_text.specs.Reads.{reads_at, reads_past, in_turn, are_placed, have_places}

one_part : (place : ℕ) (r : PlacedRead) (rs : List PlacedRead) (b : Bool) → reads_at place rs ++ reads_past place rs ≡ rs
    → (if b then r ∷ reads_at place rs else []) ++ (if b then reads_past place rs else r ∷ rs) ≡ r ∷ rs
one_part place r rs true rest = ap (λ (l : List PlacedRead). r ∷ l) rest
one_part place r rs false rest = refl

-- all reads of a list are those at a place and those after them
pub reads_parts : (place : ℕ) (rs : List PlacedRead) → reads_at place rs ++ reads_past place rs ≡ rs
reads_parts place [] = refl
reads_parts place (r ∷ rs) = one_part place r rs (r.place == place) (reads_parts place rs)

one_at : (place : ℕ) (r : PlacedRead) (rs : List PlacedRead) (b : Bool) → (r.place == place) ≡ b
    → AllByRecursion (λ (x : PlacedRead). x.place ≡ place) (reads_at place rs)
    → AllByRecursion (λ (x : PlacedRead). x.place ≡ place) (if b then r ∷ reads_at place rs else [])
one_at place r rs true is rest = (eqb-true r.place place is, rest)
one_at place r rs false is rest = tt

-- the reads at a place have it
pub all_at : (place : ℕ) (rs : List PlacedRead) → AllByRecursion (λ (r : PlacedRead). r.place ≡ place) (reads_at place rs)
all_at place [] = tt
all_at place (r ∷ rs) = one_at place r rs (r.place == place) refl (all_at place rs)

-- the parts of reads in order
pub record Placed (first last : ℕ) (r : PlacedRead) (rs : List PlacedRead) : Type 0 where
  pub low : first ≤ r.place
  pub high : r.place ≤ last
  pub rest : are_placed r.place last rs ≡ true

pub placed_parts : (first last : ℕ) (r : PlacedRead) (rs : List PlacedRead) → are_placed first last (r ∷ rs) ≡ true → Placed first last r rs
placed_parts first last r rs h =
    let p = and_parts (nat_le first r.place) (nat_le r.place last && are_placed r.place last rs) h in
    let q = and_parts (nat_le r.place last) (are_placed r.place last rs) p.1 in
    record { low = leb-true first r.place p.0; high = leb-true r.place last q.0; rest = q.1 }

pub placed_from : (first last : ℕ) (r : PlacedRead) (rs : List PlacedRead) → first ≤ r.place → r.place ≤ last → are_placed r.place last rs ≡ true → are_placed first last (r ∷ rs) ≡ true
placed_from first last r rs low high rest = rw (le-leb first r.place low, le-leb r.place last high) rest

one_past : (place last : ℕ) (r : PlacedRead) (rs : List PlacedRead) (b : Bool) → (r.place == place) ≡ b → Placed place last r rs
    → (are_placed place last rs ≡ true → are_placed (place + 1) last (reads_past place rs) ≡ true)
    → are_placed (place + 1) last (if b then reads_past place rs else r ∷ rs) ≡ true
one_past place last r rs true is parts rest =
    rest (subst (λ (n : ℕ). are_placed n last rs ≡ true) (eqb-true r.place place is) parts.rest)
one_past place last r rs false is parts rest =
    let low = parts.low in
    let other = eqb-false r.place place is in
    placed_from (place + 1) last r rs (omega (arith, low, other)) parts.high parts.rest

-- from a later place on, where no read stands at the first
pub past_placed : (place last : ℕ) (rs : List PlacedRead) → are_placed place last rs ≡ true → are_placed (place + 1) last (reads_past place rs) ≡ true
past_placed place last [] h = refl
past_placed place last (r ∷ rs) h =
    one_past place last r rs (r.place == place) refl (placed_parts place last r rs h) (past_placed place last rs)

-- all reads stand at the last place
pub none_past : (place : ℕ) (rs : List PlacedRead) → are_placed place place rs ≡ true → reads_past place rs ≡ []
none_past place rs h = of (reads_past place rs) (past_placed place place rs h)
  where
    of : (l : List PlacedRead) → are_placed (place + 1) place l ≡ true → l ≡ []
    of [] h = refl
    of (r ∷ l) h =
        let p = placed_parts (place + 1) place r l h in
        let low = p.low in
        let high = p.high in
        absurd (omega (arith, low, high))

-- where no reads are, there are no lines but those of events
pub told_none : (place : ℕ) (es : List Event) → told_lines place es [] ≡ flat_map event_lines es
told_none place [] = refl
told_none place (e ∷ es) = ap (λ (l : List Line). event_lines e ++ l) (told_none (place + 1) es)

pub history_told : (es : List Event) (rs : List PlacedRead) → history_lines es rs ≡ told_lines 0 es rs
history_told es [] = sym (told_none 0 es)
history_told es (r ∷ rs) = refl

-- reads that have their places stand in order
pub placed_all : (c : Option Checkpoint) (es : List Event) (rs : List PlacedRead) → have_places c es rs ≡ true → are_placed 0 (length es) rs ≡ true
placed_all None es [] h = refl
placed_all None es (r ∷ rs) h = absurd (let e : false ≡ true = h in cc)
placed_all (Some c) es rs h = h

-- format 1 has none
pub first_unread : (es : List Event) (rs : List PlacedRead) → have_places None es rs ≡ true → rs ≡ []
first_unread es [] h = refl
first_unread es (r ∷ rs) h = absurd (let e : false ≡ true = h in cc)

-- the next event after the reads at its place
pub next_turn : {X : Type 0} (of : Event → List X) (tell : PlacedRead → X) (place : ℕ) (events : List Event) (e : Event) (rest : List PlacedRead)
    → place < length events → e ≡ get_or events place e
    → in_turn of tell place (drop place events) rest
    ≡ map tell (reads_at place rest) ++ (of e ++ in_turn of tell (place + 1) (drop (place + 1) events) (reads_past place rest))
next_turn of tell place events e rest less is =
    ap (λ (l : List Event). in_turn of tell place l rest)
    (drop_more events place e less ∙ ap (λ (x : Event). x ∷ drop (place + 1) events) (sym is))

-- the reads after the last event
pub last_turn : {X : Type 0} (of : Event → List X) (tell : PlacedRead → X) (place : ℕ) (events : List Event) (rest : List PlacedRead)
    → length events ≤ place → in_turn of tell place (drop place events) rest ≡ map tell (reads_at place rest)
last_turn of tell place events rest le = ap (λ (l : List Event). in_turn of tell place l rest) (drop_all place events le)
