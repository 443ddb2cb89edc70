-- Batches, call by call.
use Rattle.std.proofs.Common.{◌≡◌, ℕ, zero, suc, ◌+◌, ◌<◌, ◌≤◌, length, map, take, get_or, List, [], ◌∷◌, ◌++◌, refl, sym, ap, ◌∙◌, add-one, length-append, take_all, arith, subst}
use Rattle.std.proofs.Math.Seq.{take-suc}
use Rattle.kernel_rules.specs.State.{State}
use Rattle.kernel_rules.specs.Step.{answer, next}
use Rattle.kernel_rules.specs.Runs.{state_after, replies_to}
use Rattle.kernel_rules.specs.declared.calls.Call.{Call}
use Rattle.kernel_rules.specs.declared.replies.Reply.{Reply}
use Rattle.kernel_rules.specs.Events.{answers, by, told}
use Rattle.kernel_rules.specs.declared.histories.events.Answered.{Answered}
use Rattle.kernel_rules.specs.History.{answered}

-- a batch that is answered has the calls that it had
pub answered_calls : (s : State) (t : ℕ) (cs : List Call) → map (λ a. a.call) (answered s t cs) ≡ cs
answered_calls s t [] = refl
answered_calls s t (c ∷ cs) = ap (λ l. c ∷ l) (answered_calls (next s t c) t cs)

-- and the replies of a run of them
pub answered_replies : (s : State) (t : ℕ) (cs : List Call) → map (λ a. a.reply) (answered s t cs) ≡ replies_to s (by t cs)
answered_replies s t [] = refl
answered_replies s t (c ∷ cs) = ap (λ l. answer s t c ∷ l) (answered_replies (next s t c) t cs)

pub answered_length : (s : State) (t : ℕ) (cs : List Call) → length (answered s t cs) ≡ length cs
answered_length s t [] = refl
answered_length s t (c ∷ cs) = ap suc (answered_length (next s t c) t cs)

-- calls with the replies of their run are a batch that is answered
pub answered_answers : (s : State) (t : ℕ) (cs : List Call) → answers cs (replies_to s (by t cs)) ≡ answered s t cs
answered_answers s t [] = refl
answered_answers s t (c ∷ cs) = ap (λ l. told c (answer s t c) ∷ l) (answered_answers (next s t c) t cs)

-- a run of two lists is a run of one after a run of the other
pub state_after-append : (s : State) (xs ys : List (ℕ × Call)) → state_after s (xs ++ ys) ≡ state_after (state_after s xs) ys
state_after-append s [] ys = refl
state_after-append s (x ∷ xs) ys = state_after-append (next s x.0 x.1) xs ys

pub state_after-snoc : (s : State) (xs : List (ℕ × Call)) (c : ℕ × Call)
    → state_after s (xs ++ c ∷ []) ≡ next (state_after s xs) c.0 c.1
state_after-snoc s xs c = state_after-append s xs (c ∷ [])

pub replies_to-snoc : (s : State) (xs : List (ℕ × Call)) (c : ℕ × Call)
    → replies_to s (xs ++ c ∷ []) ≡ replies_to s xs ++ answer (state_after s xs) c.0 c.1 ∷ []
replies_to-snoc s [] c = refl
replies_to-snoc s (x ∷ xs) c = ap (λ rs. answer s x.0 x.1 ∷ rs) (replies_to-snoc (next s x.0 x.1) xs c)

pub by-snoc : (t : ℕ) (cs : List Call) (c : Call) → by t (cs ++ c ∷ []) ≡ by t cs ++ (t, c) ∷ []
by-snoc t [] c = refl
by-snoc t (x ∷ xs) c = ap (λ l. (t, x) ∷ l) (by-snoc t xs c)

-- one call more is answered in the state that the others lead to
pub answered-snoc : (s : State) (t : ℕ) (cs : List Call) (c : Call)
    → answered s t (cs ++ c ∷ []) ≡ answered s t cs ++ told c (answer (state_after s (by t cs)) t c) ∷ []
answered-snoc s t [] c = refl
answered-snoc s t (x ∷ xs) c = ap (λ l. told x (answer s t x) ∷ l) (answered-snoc (next s t x) t xs c)

-- i calls of a thread were made from a state, with these replies, and room for those to the rest
pub record IsMadeSoFar (old now : State) (t : ℕ) (calls : List Call) (i : ℕ) (replies : List Reply) (capacity : ℕ) : Type 0 where
  pub state : now ≡ state_after old (by t (take i calls))
  pub told : replies ≡ replies_to old (by t (take i calls))
  pub count : length replies ≡ i
  pub room : length calls ≤ capacity

-- one call more
pub made_more : (old now then : State) (t : ℕ) (calls : List Call) (i : ℕ) (replies : List Reply) (room : ℕ) (c : Call) (r : Reply)
    → IsMadeSoFar old now t calls i replies room → i < length calls → c ≡ get_or calls i c
    → r ≡ answer now t c → then ≡ next now t c
    → IsMadeSoFar old then t calls (i + 1) (replies ++ r ∷ []) room
made_more old now then t calls i replies room c r h less at reply state =
    let taken : take (i + 1) calls ≡ take i calls ++ c ∷ [] =
    rw (add-one i) (take-suc calls i c less ∙ ap (λ x. take i calls ++ x ∷ []) (sym at)) in
    let more : by t (take (i + 1) calls) ≡ by t (take i calls) ++ (t, c) ∷ [] =
    ap (by t) taken ∙ by-snoc t (take i calls) c in
    record {
      state = state ∙ ap (λ s. next s t c) h.state ∙ sym (state_after-snoc old (by t (take i calls)) (t, c))
          ∙ ap (state_after old) (sym more);
      told = (λ k. h.told k ++ (reply ∙ ap (λ s. answer s t c) h.state) k ∷ [])
          ∙ sym (replies_to-snoc old (by t (take i calls)) (t, c)) ∙ ap (replies_to old) (sym more);
      count = length-append replies (r ∷ []) ∙ ap (λ n. n + 1) h.count;
      room = h.room;
    }

pub answers_length : (cs : List Call) (rs : List Reply) → length cs ≡ length rs → length (answers cs rs) ≡ length cs
answers_length [] rs same = refl
answers_length (c ∷ cs) [] same = absurd (omega (arith, same))
answers_length (c ∷ cs) (r ∷ rs) same = ap suc (answers_length cs rs (omega (arith, same)))

-- as many replies as calls stand all in them
pub answers_replies : (cs : List Call) (rs : List Reply) → length cs ≡ length rs → map (λ a. a.reply) (answers cs rs) ≡ rs
answers_replies [] [] same = refl
answers_replies [] (r ∷ rs) same = absurd (omega (arith, same))
answers_replies (c ∷ cs) [] same = absurd (omega (arith, same))
answers_replies (c ∷ cs) (r ∷ rs) same = ap (λ l. r ∷ l) (answers_replies cs rs (omega (arith, same)))

answers_at : (cs : List Call) (rs : List Reply) (i : ℕ) (c : Call) (r : Reply) → length cs ≡ length rs → i < length cs
    → get_or (answers cs rs) i (told c r) ≡ told (get_or cs i c) (get_or rs i r)
answers_at [] rs i c r same less = absurd (omega (arith, less))
answers_at (x ∷ cs) [] i c r same less = absurd (omega (arith, same))
answers_at (x ∷ cs) (y ∷ rs) zero c r same less = refl
answers_at (x ∷ cs) (y ∷ rs) (suc i) c r same less = answers_at cs rs i c r (omega (arith, same)) (omega (arith, less))

-- one call more
pub answers_more : (cs : List Call) (rs : List Reply) (i : ℕ) (c : Call) (r : Reply) → length cs ≡ length rs → i < length cs
    → c ≡ get_or cs i c → r ≡ get_or rs i r → take i (answers cs rs) ++ told c r ∷ [] ≡ take (i + 1) (answers cs rs)
answers_more cs rs i c r same less at_c at_r =
    let all : i < length (answers cs rs) = subst (λ n. i < n) (sym (answers_length cs rs same)) less in
    let here : get_or (answers cs rs) i (told c r) ≡ told c r =
    answers_at cs rs i c r same less ∙ (λ k. told (sym at_c k) (sym at_r k)) in
    rw (add-one i) (sym (take-suc (answers cs rs) i (told c r) all ∙ ap (λ (a : Answered). take i (answers cs rs) ++ a ∷ []) here))

-- all calls
pub answers_all : (cs : List Call) (rs : List Reply) (i : ℕ) → length cs ≡ length rs → length cs ≤ i
    → take i (answers cs rs) ≡ answers cs rs
answers_all cs rs i same past = take_all i (answers cs rs) (omega (arith, answers_length cs rs same, past))
