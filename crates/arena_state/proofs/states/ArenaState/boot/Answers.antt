use Rattle.std.proofs.Common.{◌≡◌, ◌<◌, ℕ, ◌+◌, ◌*◌, None, Option, refl, ap, ◌∙◌, List, [], ◌∷◌, ◌++◌, length, replicate, arith, rules, set, length-set}
use Rattle.std.specs.Vec.{with_item}
use Rattle.std.proofs.lemmas.List.{length-replicate}
use Rattle.containers.specs.Tree.{add_lists}
use Rattle.label_intern.specs.declared.held.Held.{Held}
use Rattle.label_intern.specs.Held.{held_at, owners_in}
use Rattle.arena_state.specs.declared.pieces.Pieces.{Pieces}
use Rattle.arena_state.specs.declared.records.Kept.TheVariants as keeps
use Rattle.arena_state.specs.Assembled.{fresh_record}
use Rattle.arena_state.proofs.BootLaws.{booted_sound, booted_state, empty_first}
use Rattle.arena_state.proofs.WholeBootLaws.{booted_stocked, booted_whole}
use Rattle.arena_state.specs.declared.records.Record.{Record}
use Rattle.arena_state.specs.Stocked.{kept_pages}
use Rattle.arena_state.proofs.states.ArenaState.boot.Goals as goal

two_in : {T : Type 0} (n root : ℕ) (cells : List (Option T)) (x : Option T) (s : ℕ) → cells ≡ set (replicate n None) root x
    → s < length cells → s < n
two_in {T} n root cells x s is lt =
    let long : length cells ≡ n = ap (λ (xs : List (Option T)). length xs) is ∙ length-set (replicate n None) root x ∙ length-replicate n None in
    omega (arith, lt, long)

three_in : {T : Type 0} (n root : ℕ) (cells : List (Option T)) (x : Option T) (s t : ℕ) (next : List (Option T)) (y : Option T)
    → cells ≡ set (replicate n None) root x → next ≡ set cells s y → t < length next → t < n
three_in {T} n root cells x s t next y is then lt =
    let long : length next ≡ length cells = ap (λ (xs : List (Option T)). length xs) then ∙ length-set cells s y in
    two_in n root cells x t is (omega (arith, lt, long))

pub invariant_of-result : goal.invariant_of-result
invariant_of-result c =
    let l = c.args.limits.now in
    let f = c.first_labels-first in
    let root = c.in_ok-places.ensures in
    let s2 = c.create-thread.result.0 in
    let s3 = c.create-device.result.0 in
    let x1 = c.fresh_record-root.result in
    let x2 = c.fresh_record-boot_thread.result in
    let x3 = c.fresh_record-boot_device.result in
    let p : Pieces = record {
      limits = l;
      places = c.create-device.new.self;
      holdings = record {
        records = with_item (with_item c.in_ok-records.records s2 x2) s3 x3;
        labels = f.new.labels;
        segments = c.in_ok-segments.segments;
        queues = c.in_ok-queues.queues;
        spaces = c.in_ok-spaces.spaces;
      };
      next_id = l.next_id;
      next_category = l.next_category;
    } in
    let items : c.in_ok-records.records.items ≡ replicate l.pages x1 = search rules in
    let with_thread : c.create-thread.new.self.lists ≡ (1, 2 ∷ []) ∷ (2, []) ∷ []
    = c.create-thread.ensures.lists
    ∙ (λ i. add_lists (root.lists i) (c.root.ensures i) (c.new.ensures i) ++ (c.new.ensures i, []) ∷ []) in
    let with_device : c.create-device.new.self.lists ≡ (1, 2 ∷ 3 ∷ []) ∷ (2, []) ∷ (3, []) ∷ []
    = c.create-device.ensures.lists
    ∙ (λ i. add_lists (with_thread i) (c.root-2.ensures i) (c.new-2.ensures i) ++ (c.new-2.ensures i, []) ∷ []) in
    let size : length c.in_ok-labels.labels ≡ 3 * l.pages + 3
    = ap (λ (ls : List (Option Held)). length ls) c.in_ok-labels.ensures ∙ length-replicate {A = Option Held} (3 * l.pages + 3) None in
    record {
      sound = booted_sound p f.result.root.0 f.result.thread.0 f.result.clearance.0 f.result.verify.0 f.result.device.0 root.slot s2 s3
          c.requires refl refl with_device
          (c.create-device.ensures.slots ∙ ap (λ (xs : List ℕ). xs ++ s3 ∷ []) (c.create-thread.ensures.slots ∙ ap (λ (xs : List ℕ). xs ++ s2 ∷ []) root.slots))
          c.len-count.ensures.well_formed
          (ap (λ cells. length cells) c.create-device.ensures.cells ∙ length-set c.create-thread.new.self.cells s3 _
          ∙ ap (λ cells. length cells) c.create-thread.ensures.cells ∙ length-set c.in_ok-places.places.cells s2 _
          ∙ ap (λ cells. length cells) root.cells ∙ length-set (replicate l.pages None) root.slot _ ∙ length-replicate l.pages None)
          x1 x2 x3
          (c.fresh_record-root.ensures ∙ (λ i. fresh_record f.result.root.0 l.pages (keeps.Container (c.none.ensures i) 4)))
          (c.fresh_record-boot_thread.ensures ∙ (λ i. fresh_record f.result.thread.0 1 (keeps.Thread (c.kept_thread-kept.ensures i))))
          c.fresh_record-boot_device.ensures (λ i. set (set (items i) s2 x2) s3 x3) (f.ensures.takes.pool ∙ size)
          (λ i. let none : owners_in (held_at c.in_ok-labels.labels i) ≡ 0
          = ap (λ (ls : List (Option Held)). owners_in (held_at ls i)) c.in_ok-labels.ensures ∙ ap owners_in (empty_first (3 * l.pages + 3) i) in
          omega (arith, f.ensures.takes.owners i, none))
          f.ensures.root f.ensures.thread f.ensures.clearance f.ensures.verify f.ensures.device;
      stocked = booted_stocked p s2 s3 x1 x2 x3 (two_in l.pages root.slot c.in_ok-places.places.cells _ s2 root.cells c.create-thread.ensures.within)
          (three_in l.pages root.slot c.in_ok-places.places.cells _ s2 s3 c.create-thread.new.self.cells _ root.cells c.create-thread.ensures.cells c.create-device.ensures.within)
          (λ i. set (set (items i) s2 x2) s3 x3)
          (ap (λ (r : Record). kept_pages r.body) c.fresh_record-root.ensures)
          (ap (λ (r : Record). kept_pages r.body) c.fresh_record-boot_thread.ensures)
          (ap (λ (r : Record). kept_pages r.body) c.fresh_record-boot_device.ensures)
          c.in_ok-segments.ensures c.in_ok-queues.ensures c.in_ok-spaces.ensures;
    }

pub returns : goal.returns
returns c =
    let l = c.args.limits.now in
    let f = c.first_labels-first in
    let root = c.in_ok-places.ensures in
    let s2 = c.create-thread.result.0 in
    let s3 = c.create-device.result.0 in
    let x1 = c.fresh_record-root.result in
    let x2 = c.fresh_record-boot_thread.result in
    let x3 = c.fresh_record-boot_device.result in
    let p : Pieces = record {
      limits = l;
      places = c.create-device.new.self;
      holdings = record {
        records = with_item (with_item c.in_ok-records.records s2 x2) s3 x3;
        labels = f.new.labels;
        segments = c.in_ok-segments.segments;
        queues = c.in_ok-queues.queues;
        spaces = c.in_ok-spaces.spaces;
      };
      next_id = l.next_id;
      next_category = l.next_category;
    } in
    let items : c.in_ok-records.records.items ≡ replicate l.pages x1 = search rules in
    let with_thread : c.create-thread.new.self.lists ≡ (1, 2 ∷ []) ∷ (2, []) ∷ []
    = c.create-thread.ensures.lists
    ∙ (λ i. add_lists (root.lists i) (c.root.ensures i) (c.new.ensures i) ++ (c.new.ensures i, []) ∷ []) in
    let with_device : c.create-device.new.self.lists ≡ (1, 2 ∷ 3 ∷ []) ∷ (2, []) ∷ (3, []) ∷ []
    = c.create-device.ensures.lists
    ∙ (λ i. add_lists (with_thread i) (c.root-2.ensures i) (c.new-2.ensures i) ++ (c.new-2.ensures i, []) ∷ []) in
    let size : length c.in_ok-labels.labels ≡ 3 * l.pages + 3
    = ap (λ (ls : List (Option Held)). length ls) c.in_ok-labels.ensures ∙ length-replicate {A = Option Held} (3 * l.pages + 3) None in
    booted_whole p s2 s3 x1 x2 x3 (two_in l.pages root.slot c.in_ok-places.places.cells _ s2 root.cells c.create-thread.ensures.within)
    (three_in l.pages root.slot c.in_ok-places.places.cells _ s2 s3 c.create-thread.new.self.cells _ root.cells c.create-thread.ensures.cells c.create-device.ensures.within)
    (λ i. set (set (items i) s2 x2) s3 x3)
    (ap (λ (r : Record). kept_pages r.body) c.fresh_record-root.ensures)
    (ap (λ (r : Record). kept_pages r.body) c.fresh_record-boot_thread.ensures)
    (ap (λ (r : Record). kept_pages r.body) c.fresh_record-boot_device.ensures)
    c.in_ok-segments.ensures c.in_ok-queues.ensures c.in_ok-spaces.ensures
    (booted_state p f.result.root.0 f.result.thread.0 f.result.clearance.0 f.result.verify.0 f.result.device.0 root.slot s2 s3
    c.requires refl refl with_device
    (c.create-device.ensures.slots ∙ ap (λ (xs : List ℕ). xs ++ s3 ∷ []) (c.create-thread.ensures.slots ∙ ap (λ (xs : List ℕ). xs ++ s2 ∷ []) root.slots))
    c.len-count.ensures.well_formed
    (ap (λ cells. length cells) c.create-device.ensures.cells ∙ length-set c.create-thread.new.self.cells s3 _
    ∙ ap (λ cells. length cells) c.create-thread.ensures.cells ∙ length-set c.in_ok-places.places.cells s2 _
    ∙ ap (λ cells. length cells) root.cells ∙ length-set (replicate l.pages None) root.slot _ ∙ length-replicate l.pages None)
    x1 x2 x3
    (c.fresh_record-root.ensures ∙ (λ i. fresh_record f.result.root.0 l.pages (keeps.Container (c.none.ensures i) 4)))
    (c.fresh_record-boot_thread.ensures ∙ (λ i. fresh_record f.result.thread.0 1 (keeps.Thread (c.kept_thread-kept.ensures i))))
    c.fresh_record-boot_device.ensures (λ i. set (set (items i) s2 x2) s3 x3) (f.ensures.takes.pool ∙ size)
    (λ i. let none : owners_in (held_at c.in_ok-labels.labels i) ≡ 0
    = ap (λ (ls : List (Option Held)). owners_in (held_at ls i)) c.in_ok-labels.ensures ∙ ap owners_in (empty_first (3 * l.pages + 3) i) in
    omega (arith, f.ensures.takes.owners i, none))
    f.ensures.root f.ensures.thread f.ensures.clearance f.ensures.verify f.ensures.device)
