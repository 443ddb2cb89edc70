-- What slots hold at a boot: nothing.
use Rattle.std.proofs.Common.{◌≡◌, ℕ, ◌*◌, ◌<◌, Bool, true, false, cond, List, [], ◌∷◌, length, get_or, set, replicate, Option, None, refl, sym, ◌∙◌, ap, arith, inl, inr, length-set}
use Rattle.std.proofs.lemmas.Bool.{cases_lt}
use Rattle.std.proofs.lemmas.List.{length-replicate, get_or-replicate, get_or_past}
use Rattle.base.specs.Live.{has}
use Rattle.kernel_rules.specs.WellFormed.{is_whole_body}
use Rattle.kernel_rules.specs.Runs.{booted, root_object, boot_thread, device_object}
use Rattle.kernel_rules.specs.declared.objects.Body.TheVariants as is
use Rattle.kernel_rules.specs.declared.objects.Mapping.{Mapping}
use Rattle.arena_state.specs.declared.records.Record.{Record}
use Rattle.arena_state.specs.declared.pieces.Pieces.{Pieces}
use Rattle.arena_state.specs.Filled.{filled_state}
use Rattle.arena_state.specs.Assembled.{pieces_state, record_in, blank}
use Rattle.arena_state.specs.Stocked.{slot_of, content_at, whole_state, kept_pages, pages_at, IsStocked}
use Rattle.arena_memory.specs.Segments.{bytes_in}
use Rattle.arena_memory.specs.Queues.{packets_in}
use Rattle.arena_memory.specs.Mappings.{places_at}
use Rattle.arena_state.proofs.HeldLaws.{read_set}

nothing_in : {X : Type 0} (n i : ℕ) → get_or (replicate {A = List X} n []) i [] ≡ []
nothing_in {X} n i = elim (cases_lt i n) [
  | inl within ↦ get_or-replicate n i [] [] within
  | inr past ↦ get_or_past (replicate n []) i [] (omega (arith, past, length-replicate {A = List X} n []))
]

module _ (p : Pieces) (s2 s3 : ℕ) (x1 x2 x3 : Record) (two : s2 < p.limits.pages) (three : s3 < p.limits.pages)
    (records : p.holdings.records.items ≡ set (set (replicate p.limits.pages x1) s2 x2) s3 x3)
    (first : kept_pages x1.body ≡ 0) (second : kept_pages x2.body ≡ 0) (third : kept_pages x3.body ≡ 0)
    (segments : p.holdings.segments ≡ replicate p.limits.pages []) (queues : p.holdings.queues ≡ replicate p.limits.pages [])
    (spaces : p.holdings.spaces ≡ replicate p.limits.pages (replicate 16 None)) where
  abbrev n : ℕ
  n = p.limits.pages

  at_first : (y : ℕ) → kept_pages (record_in (replicate n x1) y).body ≡ 0
  at_first y = elim (cases_lt y n) [
    | inl within ↦ ap (λ (r : Record). kept_pages r.body) (get_or-replicate n y x1 blank within) ∙ first
    | inr past ↦ ap (λ (r : Record). kept_pages r.body)
        (get_or_past (replicate n x1) y blank (omega (arith, past, length-replicate n x1)))
  ]

  at_second : (y : ℕ) → kept_pages (record_in (set (replicate n x1) s2 x2) y).body ≡ 0
  at_second y =
      read_set kept_pages (replicate n x1) s2 x2 (omega (arith, two, length-replicate n x1)) (second ∙ sym (at_first s2)) y ∙ at_first y

  at_third : (y : ℕ) → kept_pages (record_in p.holdings.records.items y).body ≡ 0
  at_third y =
      ap (λ (rs : List Record). kept_pages (record_in rs y).body) records
      ∙ read_set kept_pages (set (replicate n x1) s2 x2) s3 x3
      (omega (arith, three, length-set (replicate n x1) s2 x2, length-replicate n x1)) (third ∙ sym (at_second s3)) y
      ∙ at_second y

  no_pages : (y : ℕ) → pages_at p y ≡ 0
  no_pages y = ap {B = ℕ} (λ (m : ℕ). cond (has p.places.slots y) m 0) (at_third y) ∙ same (has p.places.slots y)
    where
      same : (b : Bool) → cond {A = ℕ} b 0 0 ≡ 0
      same true = refl
      same false = refl

  no_bytes : (y : ℕ) → bytes_in p.holdings.segments y ≡ []
  no_bytes y = ap (λ (xs : List (List ℕ)). bytes_in xs y) segments ∙ nothing_in n y

  no_packets : (y : ℕ) → packets_in p.holdings.queues y ≡ []
  no_packets y = ap (λ (xs : List (List (List ℕ))). packets_in xs y) queues ∙ nothing_in n y

  no_mappings : (y : ℕ) → y < n → places_at p.holdings.spaces y ≡ replicate 16 None
  no_mappings y lt = ap (λ (xs : List (List (Option Mapping))). places_at xs y) spaces ∙ get_or-replicate n y (replicate 16 None) [] lt

  pub booted_stocked : IsStocked p
  booted_stocked = record {
    segments = ap (λ (xs : List (List ℕ)). length xs) segments ∙ length-replicate n [];
    queues = ap (λ (xs : List (List (List ℕ))). length xs) queues ∙ length-replicate n [];
    spaces = ap (λ (xs : List (List (Option Mapping))). length xs) spaces ∙ length-replicate n (replicate 16 None);
    paged = λ y. ap (λ (xs : List ℕ). length xs) (no_bytes y) ∙ sym (ap {B = ℕ} (λ (m : ℕ). 256 * m) (no_pages y));
    sixteen = λ y lt. ap (λ (xs : List (Option Mapping)). length xs) (no_mappings y lt);
    unmapped = λ y lt none. no_mappings y lt;
    queued = λ y. ap (λ (xs : List (List ℕ)). is_whole_body (is.Device xs)) (no_packets y);
  }

  pub booted_whole : pieces_state p ≡ booted p.limits → whole_state p ≡ booted p.limits
  booted_whole is' =
      ap (filled_state (content_at p)) is'
      ∙ (λ i. record (booted p.limits) {
        objects = (1, root_object p.limits) ∷ (2, boot_thread)
            ∷ (3, record (device_object p.limits) { body = is.Device (no_packets (slot_of p 3) i) }) ∷ [];
      })
