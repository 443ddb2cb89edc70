-- A thread that entered a gate.
use Rattle.std.proofs.Common.{◌≡◌, ◌<◌, ◌+◌, ℕ, List, Option, refl, sym, ◌∙◌, ap, subst, arith}
use Rattle.label_lattice.specs.Label.{LabelValue, IsStored}
use Rattle.containers.specs.Tree.{HasSlot}
use Rattle.label_intern.specs.declared.held.Held.{Held}
use Rattle.label_intern.specs.Held.{label_of}
use Rattle.label_intern.specs.Owners.{one_at, Takes, Lets}
use Rattle.kernel_rules.specs.Changes.{changed, entered, labelled, put, rethread}
use Rattle.kernel_rules.specs.State.{of_object}
use Rattle.kernel_rules.specs.declared.objects.Object.{Object}
use Rattle.kernel_rules.specs.declared.objects.Body as body
use Rattle.kernel_rules.specs.declared.objects.Body.TheVariants as is
use Rattle.kernel_rules.proofs.KeptLaws.{KeepsPlace}
use Rattle.kernel_rules.proofs.StoredLaws.{stored_test}
use Rattle.kernel_rules.proofs.ThreadLaws.{entered_keeps, entered_well_formed}
use Rattle.arena_state.specs.declared.records.Record.{Record}
use Rattle.arena_state.specs.declared.records.KeptThread.{KeptThread}
use Rattle.arena_state.specs.declared.records.Kept as kept
use Rattle.arena_state.specs.declared.records.Kept.TheVariants as keeps
use Rattle.arena_state.specs.declared.pieces.Pieces.{Pieces}
use Rattle.arena_state.specs.Assembled.{pieces_state, record_in, assembled, body_of, claims, body_claims, body_use, with_thread}
use Rattle.arena_state.specs.Sound.{IsSound}
use Rattle.arena_state.proofs.RecordLaws.{mine, further, last}
use Rattle.arena_state.proofs.RowLaws.{row_place}
use Rattle.arena_state.proofs.SoundLaws.{object_here}
use Rattle.arena_state.proofs.RebindLaws.{with_both, owned_here, rebound_sound, rebound_state}
use Rattle.kernel_rules.specs.declared.objects.Gate.{Gate}
use Rattle.arena_state.proofs.ClearLaws.{NoThread}

abbrev handed : LabelValue → LabelValue → Gate → body.Body → body.Body
handed c v g b = rethread (λ t. record {
  clearance = c;
  verify = v;
  space = g.space;
  entry_point = g.entry_point;
  closure = g.closure;
}) b

-- what is no thread is of another label alone
unthreaded : (labels : List (Option Held)) (c v : LabelValue) (g : Gate) (b : kept.Kept) (l : List ℕ) → NoThread b
    → handed c v g (body_of labels b l) ≡ body_of labels b l
unthreaded labels c v g (keeps.Container avoid used) l none = refl
unthreaded labels c v g (keeps.Segment pages) l none = refl
unthreaded labels c v g keeps.AddressSpace l none = refl
unthreaded labels c v g (keeps.Gate h) l none = refl
unthreaded labels c v g keeps.Device l none = refl
unthreaded labels c v g (keeps.Thread t) l none = absurd (none t refl)

pub entered_other : (p : Pieces) (s : IsSound p) (id slot : ℕ) (h : HasSlot p.places id slot) (l c v : LabelValue) (g : Gate)
    → NoThread (record_in p.holdings.records.items slot).body
    → changed (pieces_state p) id (labelled l) ≡ changed (pieces_state p) id (entered l c v g)
entered_other p s id slot h l c v g none =
    let list = (row_place p.places.lists p.places.slots h.place).list in
    let was = record_in p.holdings.records.items slot in
    let found = object_here p s id slot h in
    let same : labelled l (assembled p.holdings.labels was list) ≡ entered l c v g (assembled p.holdings.labels was list)
    = (λ i. record (labelled l (assembled p.holdings.labels was list)) { body = sym (unthreaded p.holdings.labels c v g was.body list none) i }) in
    ap (of_object (pieces_state p) (λ x. put (pieces_state p) id (labelled l x))) found
    ∙ ap (put (pieces_state p) id) same
    ∙ sym (ap (of_object (pieces_state p) (λ x. put (pieces_state p) id (entered l c v g x))) found)

module _ (p : Pieces) (s : IsSound p) (id slot : ℕ) (h : HasSlot p.places id slot) (a b d : ℕ) (l c v : LabelValue) (g : Gate)
    (l_stored : IsStored l) (c_stored : IsStored c) (v_stored : IsStored v) (mid ls : List (Option Held))
    (takes : Takes p.holdings.labels mid (λ i. one_at i a + (one_at i b + one_at i d)))
    (l_is : label_of mid a ≡ l) (c_is : label_of mid b ≡ c) (v_is : label_of mid d ≡ v)
    (t : KeptThread) (t_is : (record_in p.holdings.records.items slot).body ≡ keeps.Thread t)
    (lets : Lets mid ls (λ i. one_at i (record_in p.holdings.records.items slot).label.0 + (one_at i t.clearance.0 + one_at i t.verify.0))) where
  abbrev was : Record
  was = record_in p.holdings.records.items slot

  abbrev list : List ℕ
  list = (row_place p.places.lists p.places.slots h.place).list

  abbrev new : KeptThread
  new = record { clearance = record { 0 = b }; verify = record { 0 = d }; space = g.space; entry_point = g.entry_point; closure = g.closure }

  abbrev news : ℕ → ℕ
  news i = one_at i a + (one_at i b + one_at i d)

  abbrev olds : ℕ → ℕ
  olds i = one_at i was.label.0 + (one_at i t.clearance.0 + one_at i t.verify.0)

  balance : (i : ℕ) → claims i (with_thread a new was) + olds i ≡ claims i was + news i
  balance i = let named : body_claims i was.body ≡ one_at i t.clearance.0 + one_at i t.verify.0 = ap (body_claims i) t_is in omega arith

  shown : (i : ℕ) → 0 < news i → label_of ls i ≡ label_of mid i
  shown i some = lets.labels i (owned_here p s id slot h (with_thread a new was) mid ls news olds takes lets balance i some)

  object : assembled ls (with_thread a new was) list ≡ entered l c v g (assembled p.holdings.labels was list)
  object =
      let own : label_of ls a ≡ l = shown a (mine a (one_at a b + one_at a d)) ∙ l_is in
      let high : label_of ls b ≡ c = shown b (further (one_at b a) (one_at b b + one_at b d) (mine b (one_at b d))) ∙ c_is in
      let seen : label_of ls d ≡ v = shown d (further (one_at d a) (one_at d b + one_at d d) (last d (one_at d b))) ∙ v_is in
      let bodies : body_of ls (keeps.Thread new) list ≡ handed c v g (body_of p.holdings.labels was.body list)
      = (λ i. is.Thread (record {
        clearance = high i;
        verify = seen i;
        space = g.space;
        entry_point = g.entry_point;
        closure = g.closure;
      }))
      ∙ sym (ap (λ (k : kept.Kept). handed c v g (body_of p.holdings.labels k list)) t_is) in
      (λ i. record (assembled p.holdings.labels was list) { label = own i; body = bodies i })

  used : body_use (with_thread a new was).body ≡ body_use was.body
  used = sym (ap body_use t_is)

  keeps_all : (x : Object) → KeepsPlace x (entered l c v g x)
  keeps_all = entered_keeps l c v g (stored_test l l_stored) (stored_test c c_stored) (stored_test v v_stored)

  pub entered_sound : (x : Record) → x ≡ was → IsSound (with_both p slot (with_thread a new x) ls)
  entered_sound x is' = subst (λ (y : Record). IsSound (with_both p slot (with_thread a new y) ls)) (sym is')
      (rebound_sound p s id slot h (with_thread a new was) mid ls news olds takes lets balance (entered l c v g) object keeps_all used
      (entered_well_formed (pieces_state p) id l c v g l_stored c_stored v_stored s.formed))

  pub entered_state : (x : Record) → x ≡ was → pieces_state (with_both p slot (with_thread a new x) ls) ≡ changed (pieces_state p) id (entered l c v g)
  entered_state x is' = subst (λ (y : Record). pieces_state (with_both p slot (with_thread a new y) ls) ≡ changed (pieces_state p) id (entered l c v g)) (sym is')
      (rebound_state p s id slot h (with_thread a new was) mid ls news olds takes lets balance (entered l c v g) object keeps_all used
      (entered_well_formed (pieces_state p) id l c v g l_stored c_stored v_stored s.formed))
