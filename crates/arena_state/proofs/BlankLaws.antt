-- Slots that hold nothing yet.
use Rattle.std.proofs.Common.{◌≡◌, ℕ, zero, suc, ◌+◌, ◌*◌, ◌<◌, List, [], length, replicate, Option, None, refl, sym, ◌∙◌, ap, arith, sum_by}
use Rattle.std.proofs.lemmas.List.{length-replicate, get_or-replicate}
use Rattle.std.proofs.lemmas.List.Sums.{sum_by-cons}
use Rattle.label_intern.specs.declared.held.Held.{Held}
use Rattle.label_intern.specs.Held.{held_at, owned, owners_in}
use Rattle.kernel_rules.specs.State.{State}
use Rattle.kernel_rules.specs.declared.objects.Mapping.{Mapping}
use Rattle.arena_memory.specs.Segments.{all_pages, bytes_in, pages_of}
use Rattle.arena_memory.specs.Queues.{packets_in}
use Rattle.arena_memory.specs.Mappings.{places_at}
use Rattle.arena_state.specs.declared.records.Record.{Record}
use Rattle.arena_state.specs.declared.holdings.Holdings.{Holdings}
use Rattle.arena_state.specs.Restored.{IsFilled}
use Rattle.arena_state.proofs.BootLaws.{empty_first}

sum_none : {X : Type 0} (f : X → ℕ) (x : X) (n : ℕ) → f x ≡ 0 → sum_by f (replicate n x) ≡ 0
sum_none f x zero none = refl
sum_none f x (suc n) none = omega (arith, sum_by-cons f x (replicate n x), none, sum_none f x n none)

pub blank_filled : (s : State) (n : ℕ) (slots : List ℕ) (h : Holdings) (x : Record) → s.limits.pages ≡ n
    → h.records.items ≡ replicate n x → h.labels ≡ replicate (3 * n + 3) None → h.segments ≡ replicate n []
    → h.queues ≡ replicate n [] → h.spaces ≡ replicate n (replicate 16 None) → IsFilled s slots [] h
blank_filled s n slots h x pages records labels segments queues spaces = record {
  hold = tt;
  claimed = λ i. ap (λ (ls : List (Option Held)). owners_in (held_at ls i)) labels ∙ ap owners_in (empty_first (3 * n + 3) i);
  blank = λ slot lt off.
      let within : slot < n = omega (arith, lt, pages) in
      (λ i. record {
        bytes = (ap (λ (xs : List (List ℕ)). bytes_in xs slot) segments ∙ get_or-replicate n slot [] [] within) i;
        slots = (ap (λ (xs : List (List (Option Mapping))). places_at xs slot) spaces ∙ get_or-replicate n slot (replicate 16 None) [] within) i;
        packets = (ap (λ (xs : List (List (List ℕ))). packets_in xs slot) queues ∙ get_or-replicate n slot [] [] within) i;
      });
  pages = ap all_pages segments ∙ sum_none pages_of [] n refl;
  owners = omega (arith, ap owned labels, sum_none owners_in None (3 * n + 3) refl);
  labels = ap (λ (ls : List (Option Held)). length ls) labels ∙ length-replicate {A = Option Held} (3 * n + 3) None ∙ ap (λ m. 3 * m + 3) (sym pages);
  records = ap (λ (rs : List Record). length rs) records ∙ length-replicate n x ∙ sym pages;
  segments = ap (λ (xs : List (List ℕ)). length xs) segments ∙ length-replicate {A = List ℕ} n [] ∙ sym pages;
  queues = ap (λ (xs : List (List (List ℕ))). length xs) queues ∙ length-replicate {A = List (List ℕ)} n [] ∙ sym pages;
  spaces = ap (λ (xs : List (List (Option Mapping))). length xs) spaces ∙ length-replicate {A = List (Option Mapping)} n (replicate 16 None) ∙ sym pages;
}
