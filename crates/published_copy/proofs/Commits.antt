-- What a commit publishes.
use Rattle.std.proofs.Common.{◌≡◌, ◌+◌, ℕ, map, List, [], ◌∷◌, ◌++◌, length, fold, refl, sym, ap, ◌∙◌, subst, arith, length-append}
use Rattle.logbook.specs.Pages.{Book as Log}
use Rattle.base.specs.declared.ranges.Limits.{Limits}
use Rattle.kernel_rules.specs.Runs.{booted, state_after, replies_to}
use Rattle.kernel_rules.specs.History.{IsLegal, state_of}
use Rattle.kernel_rules.specs.Events.{Event, by, calls_in, replies_in}
use Rattle.kernel_rules.proofs.HistoryLaws.{legal_none, legal-snoc, state_of-snoc}
use Rattle.kernel_rules.proofs.BatchLaws.{answered_replies}
use Rattle.published_copy.specs.declared.copies.Copied.{Copied}
use Rattle.published_copy.specs.declared.ops.Op.{Op}
use Rattle.published_copy.specs.declared.entries.Entry.{Entry}
use Rattle.published_copy.specs.declared.entries.Entry.TheVariants.{Made}
use Rattle.published_copy.specs.Entries.{made}
use Rattle.published_copy.specs.Absorbed.{shown_of, absorbed, list_of, listed}
use Rattle.syscall_core.specs.Kernel.{kernel_state}
use Rattle.published_copy.specs.Boots.{Boot}
use Rattle.published_copy.specs.Shares.{CopiesView, EndsWithReplies, IsAwaited, IsNext, IsShown, Names, Succeeds, copies_with, tag_of}

abbrev log_from : ℕ × (ℕ × ℕ) → Log
log_from t = record { number = t.0; log_name = t.1.0; cells_name = t.1.1 }

-- a copy is in the state of its list
pub shown_state : (boot : Boot) (x : Copied) (list : List Event) → IsShown boot x list → kernel_state x.kernel ≡ state_of boot.limits list
shown_state boot x list was = was.good.kernel_is ∙ (λ i. state_of (was.limits_are i) (was.list_is i))

-- a copy that took in the next event is of the list with it
pub shows_next : (boot : Boot) (x y : Copied) (list : List Event) (op : Op)
    → IsShown boot x list → IsNext boot list op → shown_of y ≡ absorbed (shown_of x) op → IsShown boot y (listed op)
shows_next boot x y list op was nx is =
    let limits = boot.limits in
    let e : Event = nx.event in
    let limits_are : y.limits ≡ limits = ap (λ s. s.limits) is ∙ was.limits_are in
    let listed_is : list_of y.sealed y.seen.log ≡ listed op = ap (λ s. s.list) is in
    let list_is : list_of y.sealed y.seen.log ≡ list ++ e ∷ [] = listed_is ∙ nx.list_is in
    let kernel : kernel_state y.kernel ≡ state_of limits (list ++ e ∷ []) =
    ap (λ s. s.state) is
    ∙ ((λ i. state_after (shown_state boot x list was i) (by (nx.thread_is i) (nx.calls_are i)))
    ∙ sym (state_of-snoc limits list e)) in
    let legal : IsLegal limits (list ++ e ∷ []) =
    legal-snoc limits list e
    (subst (λ (z : Limits × List Event). IsLegal z.0 z.1) (λ i. (was.limits_are i, was.list_is i)) was.good.legal) nx.may in
    let size : length (list ++ e ∷ []) ≡ length list + 1 = omega (arith, length-append list (e ∷ [])) in
    record {
      good = record {
        len_is = ap (λ s. s.length) is ∙ (nx.length_is ∙ (sym size ∙ ap length (sym list_is)));
        legal = subst (λ (z : Limits × List Event). IsLegal z.0 z.1) (λ i. (sym limits_are i, sym list_is i)) legal;
        kernel_is = kernel ∙ (λ i. state_of (sym limits_are i) (sym list_is i));
      };
      log_is = (λ i. log_from ((is i).number, ((is i).log_name, (is i).cells_name))) ∙ nx.log_is;
      limits_are = limits_are;
      list_is = listed_is;
    }

-- and it has that event's replies
pub replies_next : (boot : Boot) (x y : Copied) (list : List Event) (op : Op)
    → IsShown boot x list → IsNext boot list op → shown_of y ≡ absorbed (shown_of x) op → EndsWithReplies (listed op) (y.reply ∷ y.further)
replies_next boot x y list op was nx is = record {
  before = list;
  event = nx.event;
  list_is = nx.list_is;
  replies_are =
      ap (map (λ a. a.reply)) nx.may.replies
      ∙ answered_replies (state_of boot.limits list) nx.event.thread (calls_in nx.event)
      ∙ sym (ap (λ s. s.replies) is ∙ (λ i. replies_to (shown_state boot x list was i) (by (nx.thread_is i) (nx.calls_are i))));
}

-- what is shown once the awaited operation was taken in, and its replies
pub shows_awaited : (boot : Boot) (v : CopiesView) (x y : Copied) (pending : List Op) (list : List Event)
    → copies_with (list_of x.sealed x.seen.log) pending x.reply x.further ≡ v
    → IsShown boot x (list_of x.sealed x.seen.log) → IsAwaited boot v list
    → shown_of y ≡ fold absorbed (shown_of x) pending → IsShown boot y list × EndsWithReplies list (y.reply ∷ y.further)
shows_awaited boot v x y pending list view was now is =
    let awaited : IsAwaited boot (copies_with (list_of x.sealed x.seen.log) pending x.reply x.further) list =
    subst (λ (c : CopiesView). IsAwaited boot c list) (sym view) now in
    let took : shown_of y ≡ absorbed (shown_of x) awaited.op = is ∙ ap (fold absorbed (shown_of x)) awaited.pending_is in
    subst (λ (l : List Event). IsShown boot y l × EndsWithReplies l (y.reply ∷ y.further)) awaited.list_is (
      shows_next boot x y (list_of x.sealed x.seen.log) awaited.op was awaited.next took,
      replies_next boot x y (list_of x.sealed x.seen.log) awaited.op was awaited.next took,
    )

-- a copy shows its own list
pub shows_own : (boot : Boot) (x : Copied) (list : List Event)
    → IsShown boot x list → IsShown boot x (list_of x.sealed x.seen.log)
shows_own boot x list is = record {
  good = is.good;
  log_is = is.log_is;
  limits_are = is.limits_are;
  list_is = refl;
}

-- whatever copy is shown next, it is of the boot of the one before
pub succeeds : (boot : Boot) (x y : Copied) (list now : List Event)
    → IsShown boot x list → IsShown boot y now → Succeeds x y
succeeds boot x y list now was is =
    (is.good, is.log_is ∙ sym was.log_is, is.limits_are ∙ sym was.limits_are)

-- an operation that was queued is awaited once the log has made its event
pub awaits : (boot : Boot) (copies : CopiesView) (list : List Event) (op : Op) (log settled : List Entry)
    → copies.list ≡ list → copies.pending ≡ op ∷ [] → IsNext boot list op → op.seen.log ≡ log → settled ≡ log ++ Made ∷ []
    → IsAwaited boot copies (made settled)
awaits boot copies list op log settled lists is nx saw settles = record {
  op = op;
  pending_is = is;
  next = subst (λ (l : List Event). IsNext boot l op) (sym lists) nx;
  list_is = ap (λ (l : List Entry). made (l ++ Made ∷ [])) saw ∙ ap made (sym settles);
}

-- a copy that shows the same is of the same list
pub shows_same : (boot : Boot) (x y : Copied) (journal : List Event)
    → IsShown boot x journal → shown_of y ≡ shown_of x → IsShown boot y journal
shows_same boot x y journal was is =
    let lim : y.limits ≡ x.limits = ap (λ s. s.limits) is in
    let list : list_of y.sealed y.seen.log ≡ list_of x.sealed x.seen.log = ap (λ s. s.list) is in
    record {
      good = record {
        len_is = ap (λ s. s.length) is ∙ (was.good.len_is ∙ ap length (sym list));
        legal = subst (λ (z : Limits × List Event). IsLegal z.0 z.1) (λ i. (sym lim i, sym list i)) was.good.legal;
        kernel_is = ap (λ s. s.state) is ∙ (was.good.kernel_is ∙ (λ i. state_of (sym lim i) (sym list i)));
      };
      log_is = (λ i. log_from ((is i).number, ((is i).log_name, (is i).cells_name))) ∙ was.log_is;
      limits_are = lim ∙ was.limits_are;
      list_is = list ∙ was.list_is;
    }

-- what a copy shows is legal
pub shown_legal : (boot : Boot) (x : Copied) (journal : List Event)
    → IsShown boot x journal → IsLegal boot.limits journal
shown_legal boot x journal was =
    subst (λ (z : Limits × List Event). IsLegal z.0 z.1) (λ i. (was.limits_are i, was.list_is i)) was.good.legal

-- a copy of a newly booted kernel is of no event
pub starts : (boot : Boot) (x : Copied) → x.seen.book ≡ boot.log → x.limits ≡ boot.limits
    → kernel_state x.kernel ≡ booted x.limits → x.length ≡ 0
    → list_of x.sealed x.seen.log ≡ [] → IsShown boot x []
starts boot x log limits kernel len none = record {
  good = record {
    len_is = len ∙ ap length (sym none);
    legal = legal_none x.limits _ none;
    kernel_is = kernel ∙ ap (state_of x.limits) (sym none);
  };
  log_is = log;
  limits_are = limits;
  list_is = none;
}
