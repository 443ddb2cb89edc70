-- The reads that a dump tells of a run are the rules', and stand at their places.
use Rattle.std.proofs.Common.{◌≡◌, ℕ, ◌+◌, ◌-◌, ◌≤◌, ◌==◌, ◌&&◌, ◌||◌, not, nat_le, Bool, true, false, if◌then◌else◌}
use Rattle.std.proofs.Common.{List, [], ◌∷◌, ◌++◌, length, take, drop, Option, Some, None, refl, sym, ap, ◌∙◌, subst, arith}
use Rattle.std.specs.List.{AllByRecursion}
use Rattle.std.specs.Str.{bytes_eq}
use Rattle.std.proofs.lemmas.Bool.{and_parts, and_from, eqb-true, eq-eqb, le-leb, leb-true}
use Rattle.std.proofs.lemmas.List.{drop-take, length-drop, take-append-drop, take-take}
use Rattle.base.specs.declared.ranges.Limits.{Limits}
use Rattle.call_text.specs.Reply.{reply_text}
use Rattle.checkpoints.specs.Checkpoint.{Checkpoint}
use Rattle.checkpoints.specs.Starts.{start_of, IsCheckpointOf}
use Rattle.dump_text.specs.Reads.{are_placed, have_places}
use Rattle.dump_text.specs.Whole.{raw_reply, threads_rise, AreRead, IsAnsweredRightly}
use Rattle.dump_text.specs.declared.read_replies.ReadReply.{ReadReply}
use Rattle.dump_text.specs.declared.tables.PlacedRead.{PlacedRead}
use Rattle.kernel_rules.proofs.LaterLaws.{state_from-append}
use Rattle.kernel_rules.specs.Events.{Event}
use Rattle.kernel_rules.specs.History.{state_from, state_of}
use Rattle.kernel_rules.specs.Runs.{booted}
use Rattle.kernel_rules.specs.State.{State}
use Rattle.kernel_rules.specs.Step.{query_answer}
use Rattle.kernel_rules.specs.declared.replies.Reply.{Reply}
use Rattle.script_runner.specs.Reads.{may_follow, right_reply, told_after, told_as, told_reads}
use Rattle.script_runner.specs.declared.reads.SeenRead.{SeenRead}

-- k of a list, and m of those after them, are k + m of it
take_on : {X : Type 0} (k m : ℕ) (xs : List X) → take k xs ++ take m (drop k xs) ≡ take (k + m) xs
take_on k m xs =
    (λ i. sym (take-take k (k + m) xs (omega arith)) i ++ sym (drop-take k m xs) i)
    ∙ take-append-drop k (take (k + m) xs)

-- the state at a place after a checkpoint's is that of all events before it
pub state_at : (limits : Limits) (events : List Event) (k l : ℕ) (c : Checkpoint) → IsCheckpointOf limits (take k events) c
    → k ≤ l → state_from (start_of limits c).state (take (l - k) (drop k events)) ≡ state_of limits (take l events)
state_at limits events k l c made from =
    let whole : k + (l - k) ≡ l = omega arith in
    ap (λ s. state_from s (take (l - k) (drop k events))) made.state
    ∙ sym (state_from-append (booted limits) (take k events) (take (l - k) (drop k events)))
    ∙ ap (state_from (booted limits)) (take_on k (l - k) events ∙ ap (λ (n : ℕ). take n events) whole)

-- what it says that a read may come
pub record Follows (all place thread : ℕ) (r : SeenRead) : Type 0 where
  pub from : place ≤ r.length
  pub within : r.length ≤ all
  pub rising : (not (r.length == place) || nat_le thread r.thread) ≡ true

pub follows : (all place thread : ℕ) (r : SeenRead) → may_follow all place thread r ≡ true → Follows all place thread r
follows all place thread r h =
    let one = and_parts (nat_le place r.length) (nat_le r.length all && (not (r.length == place) || nat_le thread r.thread)) h in
    let two = and_parts (nat_le r.length all) (not (r.length == place) || nat_le thread r.thread) one.1 in
    record {
      from = leb-true place r.length one.0;
      within = leb-true r.length all two.0;
      rising = two.1;
    }

-- what is told of one read has the rules' reply
right_here : (limits : Limits) (events : List Event) (k : ℕ) (c : Checkpoint) → IsCheckpointOf limits (take k events) c
    → (r : SeenRead) → k ≤ r.length → (rest : List PlacedRead)
    → AllByRecursion (IsAnsweredRightly (start_of limits c) (drop k events)) rest
    → AllByRecursion (IsAnsweredRightly (start_of limits c) (drop k events)) (told_as k r (right_reply limits events r) ++ rest)
right_here limits events k c made r from rest right = of (bytes_eq (reply_text [] answer) r.text.items)
  where
    answer : Reply
    answer = query_answer (state_of limits (take r.length events)) r.thread r.query

    of : (b : Bool) → AllByRecursion (IsAnsweredRightly (start_of limits c) (drop k events))
        (told_as k r (if b then Some (raw_reply answer) else None) ++ rest)
    of true = (ap (λ (s : State). raw_reply (query_answer s r.thread r.query)) (sym (state_at limits events k r.length c made from)), right)
    of false = right

-- and so is what is told of reads
told_right : (limits : Limits) (events : List Event) (k : ℕ) (c : Checkpoint) → IsCheckpointOf limits (take k events) c
    → (place thread : ℕ) (rs : List SeenRead) → k ≤ place
    → AllByRecursion (IsAnsweredRightly (start_of limits c) (drop k events)) (told_after limits k events place thread rs)
told_right limits events k c made place thread [] from = tt
told_right limits events k c made place thread (r ∷ rs) from =
    of (may_follow (length events) place thread r) refl
    (told_right limits events k c made place thread rs from)
    (λ (h : k ≤ r.length). right_here limits events k c made r h (told_after limits k events r.length r.thread rs)
    (told_right limits events k c made r.length r.thread rs h))
  where
    of : (b : Bool) → may_follow (length events) place thread r ≡ b
        → AllByRecursion (IsAnsweredRightly (start_of limits c) (drop k events)) (told_after limits k events place thread rs)
        → (k ≤ r.length → AllByRecursion (IsAnsweredRightly (start_of limits c) (drop k events))
        (told_as k r (right_reply limits events r) ++ told_after limits k events r.length r.thread rs))
        → AllByRecursion (IsAnsweredRightly (start_of limits c) (drop k events))
        (if b then told_as k r (right_reply limits events r) ++ told_after limits k events r.length r.thread rs
        else told_after limits k events place thread rs)
    of true is past here = let f = follows (length events) place thread r is in here (omega (arith, f.from, from))
    of false is past here = past

-- one read more stands at its place
placed_here : (k all first : ℕ) (r : SeenRead) (o : Option ReadReply) (rest : List PlacedRead) → first ≤ r.length - k
    → r.length ≤ all → ((f : ℕ) → f ≤ r.length - k → are_placed f (all - k) rest ≡ true)
    → are_placed first (all - k) (told_as k r o ++ rest) ≡ true
placed_here k all first r None rest from within later = later first from
placed_here k all first r (Some reply) rest from within later =
    and_from (nat_le first (r.length - k)) _ (le-leb first (r.length - k) from)
    (and_from (nat_le (r.length - k) (all - k)) _ (le-leb (r.length - k) (all - k) (omega arith)) (later (r.length - k) (omega arith)))

-- the reads that are told stand in the order of their places, none past the last event
told_placed : (limits : Limits) (events : List Event) (k place thread : ℕ) (rs : List SeenRead) (first : ℕ) → first ≤ place - k
    → are_placed first (length events - k) (told_after limits k events place thread rs) ≡ true
told_placed limits events k place thread [] first from = refl
told_placed limits events k place thread (r ∷ rs) first from =
    of (may_follow (length events) place thread r) refl
    (told_placed limits events k place thread rs first from)
    (told_placed limits events k r.length r.thread rs)
  where
    of : (b : Bool) → may_follow (length events) place thread r ≡ b
        → are_placed first (length events - k) (told_after limits k events place thread rs) ≡ true
        → ((f : ℕ) → f ≤ r.length - k → are_placed f (length events - k) (told_after limits k events r.length r.thread rs) ≡ true)
        → are_placed first (length events - k)
        (if b then told_as k r (right_reply limits events r) ++ told_after limits k events r.length r.thread rs
        else told_after limits k events place thread rs) ≡ true
    of true is past later =
        let f = follows (length events) place thread r is in
        placed_here k (length events) first r (right_reply limits events r) (told_after limits k events r.length r.thread rs)
        (omega (arith, f.from, from)) f.within later
    of false is past later = past

-- a thread that is no less than another at the same place stays so at a place less, where that is the same
no_less : (k p t place thread : ℕ) (r : SeenRead) → k ≤ p → p ≤ place → (p ≡ place → t ≤ thread) → place ≤ r.length
    → (not (r.length == place) || nat_le thread r.thread) ≡ true
    → (not (r.length - k == p - k) || nat_le t r.thread) ≡ true
no_less k p t place thread r above below less from rising = of (r.length - k == p - k) refl
  where
    of : (b : Bool) → (r.length - k == p - k) ≡ b → (not b || nat_le t r.thread) ≡ true
    of false is = refl
    of true is =
        let one : r.length - k ≡ p - k = eqb-true (r.length - k) (p - k) is in
        let same : p ≡ place = omega (arith, one, above, below, from) in
        let at : (r.length == place) ≡ true = eq-eqb r.length place (omega (arith, one, above, below, from)) in
        let on : nat_le thread r.thread ≡ true = ap (λ b. not b || nat_le thread r.thread) (sym at) ∙ rising in
        le-leb t r.thread (omega (arith, less same, leb-true thread r.thread on))

rising_here : (k p t : ℕ) (r : SeenRead) (o : Option ReadReply) (rest : List PlacedRead)
    → (not (r.length - k == p - k) || nat_le t r.thread) ≡ true → threads_rise (p - k) t rest ≡ true
    → threads_rise (r.length - k) r.thread rest ≡ true → threads_rise (p - k) t (told_as k r o ++ rest) ≡ true
rising_here k p t r None rest here past later = past
rising_here k p t r (Some reply) rest here past later =
    and_from (not (r.length - k == p - k) || nat_le t r.thread) _ here later

still_less : (k p t : ℕ) (r : SeenRead) → p ≡ r.length → (not (r.length - k == p - k) || nat_le t r.thread) ≡ true → t ≤ r.thread
still_less k p t r e here =
    let at : (r.length - k == p - k) ≡ true = eq-eqb (r.length - k) (p - k) (omega (arith, e)) in
    leb-true t r.thread (ap (λ b. not b || nat_le t r.thread) (sym at) ∙ here)

-- their threads rise at each place
told_rising : (limits : Limits) (events : List Event) (k p t place thread : ℕ) (rs : List SeenRead) → k ≤ p → p ≤ place
    → (p ≡ place → t ≤ thread) → threads_rise (p - k) t (told_after limits k events place thread rs) ≡ true
told_rising limits events k p t place thread [] above below less = refl
told_rising limits events k p t place thread (r ∷ rs) above below less =
    of (may_follow (length events) place thread r) refl
    (told_rising limits events k p t place thread rs above below less)
    (λ (h : p ≤ r.length) (l : p ≡ r.length → t ≤ r.thread). told_rising limits events k p t r.length r.thread rs above h l)
    (λ (h : k ≤ r.length). told_rising limits events k r.length r.thread r.length r.thread rs h (omega arith) (λ _. omega arith))
  where
    of : (b : Bool) → may_follow (length events) place thread r ≡ b
        → threads_rise (p - k) t (told_after limits k events place thread rs) ≡ true
        → (p ≤ r.length → (p ≡ r.length → t ≤ r.thread) → threads_rise (p - k) t (told_after limits k events r.length r.thread rs) ≡ true)
        → (k ≤ r.length → threads_rise (r.length - k) r.thread (told_after limits k events r.length r.thread rs) ≡ true)
        → threads_rise (p - k) t
        (if b then told_as k r (right_reply limits events r) ++ told_after limits k events r.length r.thread rs
        else told_after limits k events place thread rs) ≡ true
    of true is past skipped later =
        let f = follows (length events) place thread r is in
        let here = no_less k p t place thread r above below less f.from f.rising in
        let still : p ≡ r.length → t ≤ r.thread = λ e. still_less k p t r e here in
        rising_here k p t r (right_reply limits events r) (told_after limits k events r.length r.thread rs) here
        (skipped (omega (arith, below, f.from)) still) (later (omega (arith, above, below, f.from)))
    of false is past skipped later = past

-- from the checkpoint of the first events on the reads that are told are the rules'
pub told_are : (limits : Limits) (events : List Event) (k : ℕ) (c : Checkpoint) (reads : List SeenRead)
    → IsCheckpointOf limits (take k events) c → AreRead (start_of limits c) (drop k events) (told_reads limits k events reads)
told_are limits events k c reads made =
    let none : k - k ≡ 0 = omega arith in
    record {
      answers = told_right limits events k c made k 0 reads (omega arith);
      rising = subst (λ (n : ℕ). threads_rise n 0 (told_reads limits k events reads) ≡ true) none
          (told_rising limits events k k 0 k 0 reads (omega arith) (omega arith) (λ _. omega arith));
    }

-- and stand at their places among the others
pub told_places : (limits : Limits) (events : List Event) (k : ℕ) (c : Checkpoint) (reads : List SeenRead)
    → have_places (Some c) (drop k events) (told_reads limits k events reads) ≡ true
told_places limits events k c reads =
    ap (λ (n : ℕ). are_placed 0 n (told_reads limits k events reads)) (length-drop k events)
    ∙ told_placed limits events k k 0 reads 0 (omega arith)
