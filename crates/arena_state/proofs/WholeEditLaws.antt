-- Changes of one record, with what slots hold.
use Rattle.std.proofs.Common.{◌≡◌, ◌<◌, ℕ, List, Option, refl, ◌∙◌, ap, arith, get_or, set, length, length-set}
use Rattle.std.proofs.lemmas.List.{get_or_read}
use Rattle.containers.specs.Tree.{HasSlot}
use Rattle.label_lattice.specs.Label.{LabelValue}
use Rattle.label_intern.specs.declared.held.Held.{Held}
use Rattle.kernel_rules.specs.Changes.{changed, spaced, cleared, entered, rethread, relist}
use Rattle.kernel_rules.specs.declared.calls.Entry.{Entry}
use Rattle.kernel_rules.specs.declared.objects.Gate.{Gate}
use Rattle.kernel_rules.specs.declared.objects.Object.{Object}
use Rattle.kernel_rules.specs.declared.objects.Thread.{Thread}
use Rattle.kernel_rules.specs.declared.objects.Body as body
use Rattle.kernel_rules.specs.declared.objects.Body.TheVariants as is
use Rattle.kernel_rules.proofs.KeptLaws.{KeepsPlace}
use Rattle.arena_state.specs.declared.records.Record.{Record}
use Rattle.arena_state.specs.declared.records.Kept as kept
use Rattle.arena_state.specs.declared.records.Kept.TheVariants as keeps
use Rattle.arena_state.specs.declared.pieces.Pieces.{Pieces}
use Rattle.arena_state.specs.Filled.{Content, filled_body}
use Rattle.arena_state.specs.Assembled.{record_in, assembled, blank, claims, body_use, reuse, with_use, with_quota, respaced, recleared}
use Rattle.arena_state.specs.Stocked.{whole_state, kept_pages, keeps_space, IsStocked}
use Rattle.arena_state.specs.Sound.{IsSound}
use Rattle.arena_state.proofs.SoundLaws.{with_record, slot_within}
use Rattle.arena_state.proofs.EditLaws.{read_is, edited_state}
use Rattle.arena_state.proofs.RebindLaws.{with_both}
use Rattle.arena_state.proofs.HeldLaws.{IsApart, IsHeld, held_stocked, held_state, held_both, read_set}

-- changes of threads leave what slots hold
thread_apart : (f : Thread → Thread) (c : Content) (b : body.Body) → filled_body c (rethread f b) ≡ rethread f (filled_body c b)
thread_apart f c (is.Container avoid list) = refl
thread_apart f c (is.Segment bytes) = refl
thread_apart f c (is.AddressSpace slots) = refl
thread_apart f c (is.Thread t) = refl
thread_apart f c (is.Gate g) = refl
thread_apart f c (is.Device packets) = refl

pub spaced_apart : (e : Entry) → IsApart (spaced e)
spaced_apart e c x = (λ i. record x { body = thread_apart (λ t. record t { space = e }) c x.body i })

pub cleared_apart : (l : LabelValue) → IsApart (cleared l)
cleared_apart l c x = (λ i. record x { body = thread_apart (λ t. record t { clearance = l }) c x.body i })

pub entered_apart : (l q v : LabelValue) (g : Gate) → IsApart (entered l q v g)
entered_apart l q v g c x = (λ i. record x {
  label = l;
  body = thread_apart (λ t. record {
    clearance = q;
    verify = v;
    space = g.space;
    entry_point = g.entry_point;
    closure = g.closure;
  }) c x.body i;
})

list_apart : (f : List ℕ → List ℕ) (c : Content) (b : body.Body) → filled_body c (relist f b) ≡ relist f (filled_body c b)
list_apart f c (is.Container avoid list) = refl
list_apart f c (is.Segment bytes) = refl
list_apart f c (is.AddressSpace slots) = refl
list_apart f c (is.Thread t) = refl
list_apart f c (is.Gate g) = refl
list_apart f c (is.Device packets) = refl

-- and so do changes of lists
pub relisting_apart : (f : List ℕ → List ℕ) → IsApart (λ x. record x { body = relist f x.body })
relisting_apart f c x = (λ i. record x { body = list_apart f c x.body i })

-- kept uses, address spaces and clearances of threads are not what slots hold
pub reuse_pages : (n : ℕ) (b : kept.Kept) → kept_pages (reuse n b) ≡ kept_pages b
reuse_pages n (keeps.Container avoid used) = refl
reuse_pages n (keeps.Segment pages) = refl
reuse_pages n keeps.AddressSpace = refl
reuse_pages n (keeps.Thread t) = refl
reuse_pages n (keeps.Gate g) = refl
reuse_pages n keeps.Device = refl

pub reuse_space : (n : ℕ) (b : kept.Kept) → keeps_space (reuse n b) ≡ keeps_space b
reuse_space n (keeps.Container avoid used) = refl
reuse_space n (keeps.Segment pages) = refl
reuse_space n keeps.AddressSpace = refl
reuse_space n (keeps.Thread t) = refl
reuse_space n (keeps.Gate g) = refl
reuse_space n keeps.Device = refl

pub respaced_pages : (e : Entry) (b : kept.Kept) → kept_pages (respaced e b) ≡ kept_pages b
respaced_pages e (keeps.Container avoid used) = refl
respaced_pages e (keeps.Segment pages) = refl
respaced_pages e keeps.AddressSpace = refl
respaced_pages e (keeps.Thread t) = refl
respaced_pages e (keeps.Gate g) = refl
respaced_pages e keeps.Device = refl

pub respaced_space : (e : Entry) (b : kept.Kept) → keeps_space (respaced e b) ≡ keeps_space b
respaced_space e (keeps.Container avoid used) = refl
respaced_space e (keeps.Segment pages) = refl
respaced_space e keeps.AddressSpace = refl
respaced_space e (keeps.Thread t) = refl
respaced_space e (keeps.Gate g) = refl
respaced_space e keeps.Device = refl

pub recleared_pages : (n : ℕ) (b : kept.Kept) → kept_pages (recleared n b) ≡ kept_pages b
recleared_pages n (keeps.Container avoid used) = refl
recleared_pages n (keeps.Segment pages) = refl
recleared_pages n keeps.AddressSpace = refl
recleared_pages n (keeps.Thread t) = refl
recleared_pages n (keeps.Gate g) = refl
recleared_pages n keeps.Device = refl

pub recleared_space : (n : ℕ) (b : kept.Kept) → keeps_space (recleared n b) ≡ keeps_space b
recleared_space n (keeps.Container avoid used) = refl
recleared_space n (keeps.Segment pages) = refl
recleared_space n keeps.AddressSpace = refl
recleared_space n (keeps.Thread t) = refl
recleared_space n (keeps.Gate g) = refl
recleared_space n keeps.Device = refl

module _ (p : Pieces) (s : IsSound p) (id slot : ℕ) (h : HasSlot p.places id slot) where
  abbrev was : kept.Kept
  was = (record_in p.holdings.records.items slot).body

  -- another record whose slot holds as much
  pub rebound_held : (r : Record) (ls : List (Option Held)) → kept_pages r.body ≡ kept_pages was → keeps_space r.body ≡ keeps_space was
      → IsHeld p (with_both p slot r ls)
  rebound_held r ls pages space = held_both p slot r ls (slot_within p s id slot h) pages space

  module _ (k : IsStocked p) (g : Record → Record) (f : Object → Object)
      (shape : (r : Record) (l : List ℕ) → assembled p.holdings.labels (g r) l ≡ f (assembled p.holdings.labels r l))
      (keeps : (x : Object) → KeepsPlace x (f x)) (claim : (i : ℕ) (r : Record) → claims i (g r) ≡ claims i r)
      (used : (r : Record) → body_use (g r).body ≡ body_use r.body) (pages : (r : Record) → kept_pages (g r).body ≡ kept_pages r.body)
      (space : (r : Record) → keeps_space (g r).body ≡ keeps_space r.body) (apart : IsApart f) where
    edited_held : (q : Record) → q ≡ get_or p.holdings.records.items slot q → IsHeld p (with_record p slot (g q))
    edited_held q is' = rebound_held (g q) p.holdings.labels
        (pages q ∙ ap (λ (r : Record). kept_pages r.body) (read_is p s id slot h q is'))
        (space q ∙ ap (λ (r : Record). keeps_space r.body) (read_is p s id slot h q is'))

    pub edited_stocked : (q : Record) → q ≡ get_or p.holdings.records.items slot q → IsStocked (with_record p slot (g q))
    edited_stocked q is' = held_stocked p (with_record p slot (g q)) (edited_held q is') k

    pub edited_whole : (q : Record) → q ≡ get_or p.holdings.records.items slot q
        → whole_state (with_record p slot (g q)) ≡ changed (whole_state p) id f
    edited_whole q is' = held_state p (with_record p slot (g q)) (edited_held q is') s id f apart
        (edited_state p s id slot h g f shape keeps claim used q is')

-- what is read off the bodies of records of which one got another quota, and one another use
pub moved_read : {X : Type 0} (f : kept.Kept → X) → ((n : ℕ) (b : kept.Kept) → f (reuse n b) ≡ f b) → (items : List Record) (o d : ℕ)
    → o < length items → d < length items → (w r x y z : Record) → w ≡ record_in items o → (q : ℕ) → r ≡ with_quota q w
    → x ≡ get_or (set items o r) d x → (n : ℕ) → y ≡ with_use n x → (m : ℕ) → z ≡ with_use m y
    → (i : ℕ) → f (record_in (set (set items o r) d z) i).body ≡ f (record_in items i).body
moved_read f law items o d o_in d_in w r x y z w_is q r_is x_is n y_is m z_is i =
    let long : length (set items o r) ≡ length items = length-set items o r in
    let d_in' : d < length (set items o r) = omega arith in
    let read : x ≡ record_in (set items o r) d = get_or_read (set items o r) d x d_in' x_is blank in
    read_set f (set items o r) d z d_in'
    (ap (λ (v : Record). f v.body) z_is ∙ law m y.body ∙ ap (λ (v : Record). f v.body) y_is ∙ law n x.body
    ∙ ap (λ (v : Record). f v.body) read) i
    ∙ read_set f items o r o_in (ap (λ (v : Record). f v.body) r_is ∙ ap (λ (v : Record). f v.body) w_is) i
