-- Rows that are kept through a change.
use Rattle.std.proofs.Common.{◌≡◌, ◌≢◌, ◌≤◌, ℕ, true, arith, Option, Some, None, refl, subst, ap, ◌∙◌}
use Rattle.std.specs.Option.{option_map}
use Rattle.std.proofs.lemmas.Bool.{and_parts, leb-true}
use Rattle.base.specs.Limits.{in_range}
use Rattle.base.specs.declared.kinds.Kind.TheVariants as kinds
use Rattle.base.specs.declared.ranges.Limits.{Limits}
use Rattle.label_lattice.specs.Label.{LabelValue}
use Rattle.containers.specs.Tree.{Tree, HasSlot}
use Rattle.kernel_rules.specs.Changes.{changed, fresh_object, put, cleared, listing, owning}
use Rattle.kernel_rules.specs.State.{State, is_kind_at, object_at, of_object, thread_of}
use Rattle.kernel_rules.specs.Step.{made_of, owned, with_value}
use Rattle.kernel_rules.specs.Translate.{own_space, translate}
use Rattle.kernel_rules.specs.WellFormed.{is_well_formed}
use Rattle.kernel_rules.specs.declared.objects.Body.{Body}
use Rattle.kernel_rules.specs.declared.objects.Object.{Object}
use Rattle.kernel_laws.specs.Alike.{LooksAlike}
use Rattle.kernel_laws.proofs.Bodies.{alike_cleared}
use Rattle.kernel_laws.proofs.Made.{made_own}
use Rattle.kernel_laws.proofs.Plain.{plain_lem}
use Rattle.kernel_laws.proofs.Put.{alike_lem, at_any, at_other, space_read}
use Rattle.kernel_laws.proofs.Touched.{rows_value}
use Rattle.arena_memory.specs.Rows.{BySlot, slot_count}
use Rattle.arena_state.specs.Shown.{AreKept, KeepsSlots, SameAt, Tells}
use Rattle.arena_state.specs.States.{state_of, find_cost}
use Rattle.arena_state.proofs.LookLaws.{few_find}
use Rattle.syscall_core.specs.declared.kept_state.KeptState.{KeptState}
use Rattle.arena_state.specs.declared.states.ArenaState.{ArenaState}
use Rattle.arena_state.proofs.ShownLaws.{rows_stay, one_remade}

-- a pool has at most 1,024 pages
pub few_pages : (l : Limits) → in_range l ≡ true → l.pages ≤ 1024
few_pages l h =
    leb-true l.pages 1024
    (and_parts _ _
    (and_parts _ _ (and_parts _ _ (and_parts _ _ (and_parts _ _ (and_parts _ _ h).0).0).0).0).0).1

-- an object is found by twelve probes
pub few_probes : (k : KeptState) → slot_count k.rows ≤ 1024 → find_cost k.state ≤ 12
few_probes k few =
    let le : (state_of k.state).limits.pages ≤ 1024 = omega (arith, few, k.kept.size) in
    few_find k.state le

-- no change touches the limits
pub changed_limits : (s : State) (o : ℕ) (f : Object → Object) → (changed s o f).limits ≡ s.limits
changed_limits s o f =
    elim (object_at s o) as (λ v. (of_object s (λ x. put s o (f x)) v).limits ≡ s.limits) [ None ↦ refl | Some x ↦ refl ]

pub valued_limits : (s : State) (v : Option LabelValue) (o : ℕ) (f : LabelValue → Object → Object)
    → (with_value s v (λ l. changed s o (f l))).limits ≡ s.limits
valued_limits s None o f = refl
valued_limits s (Some l) o f = changed_limits s o (f l)

pub owned_limits : (s : State) (t : ℕ) (l c : Option LabelValue) → (owned s t l c).limits ≡ s.limits
owned_limits s t None c = refl
owned_limits s t (Some l) None = refl
owned_limits s t (Some l) (Some c) = changed_limits s t (owning l c)

pub made_limits : (s : State) (d : ℕ) (l : Option LabelValue) (q : ℕ) (b : Body) → (made_of s d l q b).limits ≡ s.limits
made_limits s d None q b = refl
made_limits s d (Some l) q b = changed_limits s d (listing s.next_id)

-- nor the address space of another thread
pub changed_space : (s : State) (o : ℕ) (f : Object → Object) (q : ℕ) → q ≢ o → own_space (changed s o f) q ≡ own_space s q
changed_space s o f q off =
    elim (object_at s o)
    as (λ v. object_at s o ≡ v → own_space (of_object s (λ x. put s o (f x)) v) q ≡ own_space s q) [
      | None ↦ λ found. refl
      | Some x ↦ λ found. at_other space_read s o q x (f x) found off
    ] refl

pub valued_space : (s : State) (v : Option LabelValue) (o : ℕ) (f : LabelValue → Object → Object) (q : ℕ) → q ≢ o
    → own_space (with_value s v (λ l. changed s o (f l))) q ≡ own_space s q
valued_space s None o f q off = refl
valued_space s (Some l) o f q off = changed_space s o (f l) q off

pub owned_space : (s : State) (t : ℕ) (l c : Option LabelValue) (q : ℕ) → q ≢ t → own_space (owned s t l c) q ≡ own_space s q
owned_space s t None c q off = refl
owned_space s t (Some l) None q off = refl
owned_space s t (Some l) (Some c) q off = changed_space s t (owning l c) q off

pub made_space : (s : State) (d : ℕ) (l : Option LabelValue) (quota : ℕ) (b : Body) → is_well_formed s ≡ true
    → is_kind_at s kinds.Container d ≡ true → (q : ℕ) → q ≢ s.next_id → own_space (made_of s d l quota b) q ≡ own_space s q
made_space s d None quota b wf kind q off = refl
made_space s d (Some l) quota b wf kind q off = made_own s d (fresh_object l quota b) q wf kind off

-- nor that of the thread itself, where the thread it is keeps its own
pub same_space : (s : State) (o : ℕ) (f : Object → Object)
    → ((x : Object) → option_map (λ r. r.space) (thread_of (f x).body) ≡ option_map (λ r. r.space) (thread_of x.body))
    → (q : ℕ) → own_space (changed s o f) q ≡ own_space s q
same_space s o f same q =
    elim (object_at s o)
    as (λ v. object_at s o ≡ v → own_space (of_object s (λ x. put s o (f x)) v) q ≡ own_space s q) [
      | None ↦ λ found. refl
      | Some x ↦ λ found. at_any space_read s o q x (f x) found (same x)
    ] refl

-- each object keeps its slot, and looks to translation as it did
pub alike_rows_stay : (a b : ArenaState) (rows : BySlot) (o : ℕ) (f : Object → Object) → AreKept a rows
    → b.pieces.places ≡ a.pieces.places → state_of b ≡ changed (state_of a) o f → ((x : Object) → LooksAlike x (f x))
    → AreKept b rows
alike_rows_stay a b rows o f k places is alike =
    rows_stay a b rows k places (ap (λ (s : State). s.limits) is ∙ changed_limits (state_of a) o f)
    (λ t. ap (λ (s : State). own_space s t) is ∙ same_space (state_of a) o f (λ x. (alike x).space) t)
    (λ t i. ap (λ (s : State). translate s t i) is ∙ alike_lem (state_of a) o f (λ x there. alike x) t i)

-- a clearance touches no row
pub clear_rows_stay : (a b : ArenaState) (rows : BySlot) (o : ℕ) (v : Option LabelValue) → AreKept a rows
    → b.pieces.places ≡ a.pieces.places → state_of b ≡ with_value (state_of a) v (λ c. changed (state_of a) o (cleared c))
    → AreKept b rows
clear_rows_stay a b rows o v k places is =
    rows_stay a b rows k places (ap (λ (s : State). s.limits) is ∙ valued_limits (state_of a) v o cleared)
    (λ t. ap (λ (s : State). own_space s t) is ∙ space v t)
    (λ t i. ap (λ (s : State). translate s t i) is
    ∙ rows_value (state_of a) t i v (λ c. changed (state_of a) o (cleared c)) (λ c. (plain_lem (state_of a) o t i).clearance c))
  where
    space : (v : Option LabelValue) (t : ℕ)
        → own_space (with_value (state_of a) v (λ c. changed (state_of a) o (cleared c))) t ≡ own_space (state_of a) t
    space None t = refl
    space (Some c) t = same_space (state_of a) o (cleared c) (λ x. (alike_cleared c x).space) t

-- objects have the slots that they had
pub same_slots : (a b : ArenaState) (t : ℕ) → b.pieces.places ≡ a.pieces.places → KeepsSlots a b t
same_slots a b t places id slot off h = subst (λ (x : Tree (Unit {0})). HasSlot x id slot) places h

-- the row of t was remade after a change to state n, which touches no other
module _ (a b : ArenaState) (old new : BySlot) (t : ℕ) (k : AreKept a old) (n : State) (is : state_of b ≡ n) where
  pub row_remade : KeepsSlots a b t → n.limits ≡ (state_of a).limits
      → ((q : ℕ) → q ≢ t → own_space n q ≡ own_space (state_of a) q)
      → ((q i : ℕ) → q ≢ t → translate n q i ≡ translate (state_of a) q i) → slot_count new ≡ slot_count old
      → ((slot : ℕ) → HasSlot b.pieces.places t slot → Tells (state_of b) t new slot)
      → ((slot : ℕ) → (HasSlot b.pieces.places t slot → ⊥) → SameAt old new slot) → AreKept b new
  row_remade slots limits own same size told others =
      one_remade a b old new t k slots (ap (λ (s : State). s.limits) is ∙ limits)
      (λ q off. ap (λ (s : State). own_space s q) is ∙ own q off)
      (λ q i off. ap (λ (s : State). translate s q i) is ∙ same q i off) size told others
