-- Lines that may stand as they do are those of a dump.
use Rattle.std.proofs.Common.{lit≤, ◌≡◌, ℕ, zero, suc, ◌≤◌, ◌+◌, ◌/◌, ◌-◌, ◌⊎◌, inl, inr, Bool, true, false, cond, eqb, nat_le, ◌==◌, ◌&&◌, ◌||◌, List, [], ◌∷◌, ◌++◌, map, length, Option, Some, None, refl, ap, ◌∙◌, sym, subst, arith, append_assoc, eq-eqb}
use Rattle.std.specs.List.{flat_map, AllByRecursion}
use Rattle.std.proofs.lemmas.Bool.{eqb-true, ne_eqb, leb-true, cases_Bool, and_parts}
use Rattle.call_text.specs.Text.{run}
use Rattle.base.specs.declared.ranges.Limits.{Limits}
use Rattle.checkpoints.specs.Checkpoint.{Checkpoint}
use Rattle.checkpoints.specs.declared.checkpoints.RawBody.TheVariants as bodies
use Rattle.checkpoints.specs.declared.slot_lists.FilledSlot.{FilledSlot}
use Rattle.kernel_rules.specs.Events.{Event}
use Rattle.kernel_rules.specs.declared.histories.events.Answered.{Answered}
use Rattle.dump_text.specs.declared.heads.Head.{Head}
use Rattle.dump_text.specs.declared.heads.Head.TheVariants as heads
use Rattle.dump_text.specs.declared.line_words.Batch.{Batch}
use Rattle.dump_text.specs.declared.lines.Format.{Format}
use Rattle.dump_text.specs.declared.lines.Format.TheVariants as formats
use Rattle.dump_text.specs.declared.lines.Line.{Line}
use Rattle.dump_text.specs.declared.lines.Line.TheVariants as lines
use Rattle.dump_text.specs.declared.places.Pending.{Pending}
use Rattle.dump_text.specs.declared.places.Pending.TheVariants as pendings
use Rattle.dump_text.specs.declared.places.Place.{Place}
use Rattle.dump_text.specs.declared.state_lines.Counters.{Counters}
use Rattle.dump_text.specs.declared.state_lines.Row.{Row}
use Rattle.dump_text.specs.declared.state_lines.Part.{Part}
use Rattle.dump_text.specs.declared.state_lines.Part.TheVariants as parts
use Rattle.dump_text.specs.declared.state_lines.StateLine.TheVariants as states
use Rattle.dump_text.specs.Lists.{DumpLists, TableLists}
use Rattle.dump_text.specs.Head.{IsFull, IsHead}
use Rattle.dump_text.specs.StateLine.{IsPart}
use Rattle.dump_text.specs.Line.{IsLine}
use Rattle.dump_text.specs.Reads.{read_line, reads_at, reads_past, are_placed, have_places}
use Rattle.dump_text.specs.declared.reads.Read.{Read}
use Rattle.dump_text.specs.declared.tables.PlacedRead.{PlacedRead}
use Rattle.dump_text.specs.CheckpointLines.{entry_line, row_line, slot_line, packet_line, part_line, next_line, object_lines, recorded}
use Rattle.dump_text.specs.Dump.{event_lines, event_of, told_lines, history_lines, lines_of, comes, after_event, after, owed, calls_owed, takes, is_due, opened_by, pending_after_part, pending_after, rows_owed, start, next, ends, after_version as first_after}
use Rattle.dump_text.proofs.EventLines.{several}
use Rattle.dump_text.proofs.Joined.{joined, rows_again, pages_again}
use Rattle.dump_text.proofs.Placing.{placed_parts, placed_from, history_told}
use Rattle.dump_text.proofs.Told.{flat}

-- lines of one kind, and others after them
record Each {X : Type 0} (make : X → Line) (P : List Line → Type 0) (vs : List Line) : Type 0 where
  items : List X
  rest : List Line
  is : vs ≡ map make items ++ rest
  more : P rest

-- the lines of things of several lines, and others after them
record Units {X : Type 0} (of : X → List Line) (P : List Line → Type 0) (vs : List Line) : Type 0 where
  items : List X
  rest : List Line
  is : vs ≡ flat_map of items ++ rest
  more : P rest

-- so many lines of bytes, and others after them
record Rows (n : ℕ) (P : List Line → Type 0) (vs : List Line) : Type 0 where
  items : List (List ℕ)
  rest : List Line
  is : vs ≡ map row_line items ++ rest
  count : length items ≡ n
  full : AllByRecursion IsFull items
  more : P rest

-- so many calls, and others after them
record Calls (n : ℕ) (P : List Line → Type 0) (vs : List Line) : Type 0 where
  items : List Answered
  rest : List Line
  is : vs ≡ map lines.Call items ++ rest
  count : length items ≡ n
  more : P rest

-- the last line, and others after it
record Last (P : List Line → Type 0) (vs : List Line) : Type 0 where
  rest : List Line
  is : vs ≡ lines.End ∷ rest
  more : P rest

-- the lines of an event, or that of a read
abbrev told_unit : Event ⊎ Read → List Line
told_unit (inl e) = event_lines e
told_unit (inr r) = lines.Read r ∷ []

-- the lines of the kind of which n kinds come later, and lines after them
abbrev Layer : ℕ → (List Line → Type 0) → List Line → Type 0
Layer zero P vs = Last P vs
Layer (suc zero) P vs = Each lines.Order P vs
Layer (suc (suc zero)) P vs = Each lines.Label P vs
Layer (suc (suc (suc zero))) P vs = Each lines.Map P vs
Layer (suc (suc (suc (suc zero)))) P vs = Each lines.Use P vs
Layer (suc (suc (suc (suc (suc zero))))) P vs = Each lines.Live P vs
Layer (suc (suc (suc (suc (suc (suc zero)))))) P vs = Units event_lines P vs
Layer (suc (suc (suc (suc (suc (suc (suc zero))))))) P vs = Units told_unit P vs
Layer (suc (suc (suc (suc (suc (suc (suc (suc zero)))))))) P vs = Each next_line P vs
Layer (suc (suc (suc (suc (suc (suc (suc (suc (suc n))))))))) P vs = Units object_lines P vs

-- lines of the last n kinds, to the end
abbrev From : ℕ → List Line → Type 0
From zero vs = vs ≡ []
From (suc n) vs = Layer n (From n) vs

-- no line of a kind
skip : (n : ℕ) (vs : List Line) → 1 ≤ n → From n vs → From (suc n) vs
skip zero vs le p = absurd (omega (arith, le))
skip (suc zero) vs le p = record { items = []; rest = vs; is = refl; more = p }
skip (suc (suc zero)) vs le p = record { items = []; rest = vs; is = refl; more = p }
skip (suc (suc (suc zero))) vs le p = record { items = []; rest = vs; is = refl; more = p }
skip (suc (suc (suc (suc zero)))) vs le p = record { items = []; rest = vs; is = refl; more = p }
skip (suc (suc (suc (suc (suc zero))))) vs le p = record { items = []; rest = vs; is = refl; more = p }
skip (suc (suc (suc (suc (suc (suc zero)))))) vs le p = record { items = []; rest = vs; is = refl; more = p }
skip (suc (suc (suc (suc (suc (suc (suc zero))))))) vs le p = record { items = []; rest = vs; is = refl; more = p }
skip (suc (suc (suc (suc (suc (suc (suc (suc zero)))))))) vs le p = record { items = []; rest = vs; is = refl; more = p }
skip (suc (suc (suc (suc (suc (suc (suc (suc (suc n))))))))) vs le p = record { items = []; rest = vs; is = refl; more = p }

lower : (d a : ℕ) (vs : List Line) → 1 ≤ a → From a vs → From (d + a) vs
lower zero a vs le p = subst (λ (n : ℕ). From n vs) (let e : a ≡ 0 + a = omega arith in e) p
lower (suc d) a vs le p = subst (λ (n : ℕ). From n vs) (let e : suc (d + a) ≡ suc d + a = omega arith in e) (skip (d + a) vs (omega (arith, le)) (lower d a vs le p))

-- lines of the last kinds are lines of more kinds
down : (a b : ℕ) (vs : List Line) → 1 ≤ a → a ≤ b → From a vs → From b vs
down a b vs some le p = subst (λ (n : ℕ). From n vs) (let e : b - a + a ≡ b = omega (arith, le) in e) (lower (b - a) a vs some p)

each_more : {X : Type 0} (make : X → Line) (P : List Line → Type 0) (x : X) (vs : List Line) → Each make P vs → Each make P (make x ∷ vs)
each_more make P x vs t = record { items = x ∷ t.items; rest = t.rest; is = ap (λ (l : List Line). make x ∷ l) t.is; more = t.more }

unit_more : {X : Type 0} (of : X → List Line) (P : List Line → Type 0) (x : X) (vs ws : List Line) → vs ≡ of x ++ ws → Units of P ws → Units of P vs
unit_more {X} of P x vs ws e t = record {
  items = x ∷ t.items;
  rest = t.rest;
  is = e ∙ ap (λ (l : List Line). of x ++ l) t.is ∙ sym (append_assoc (of x) (flat_map of t.items) t.rest);
  more = t.more;
}

-- lines inside of an object or an event, and then others
abbrev Inside : Pending → (List Line → Type 0) → List Line → Type 0
Inside pendings.Nothing P vs = P vs
Inside pendings.Entries P vs = Each entry_line P vs
Inside (pendings.Rows n) P vs = Rows n P vs
Inside pendings.Slots P vs = Each slot_line P vs
Inside pendings.Packets P vs = Each packet_line P vs
Inside (pendings.Calls n) P vs = Calls n P vs

-- the lines after a place, to the end
abbrev After : Place → List Line → Type 0
After p vs = Inside p.pending (From (14 - p.first)) vs

-- none of them inside
outside : (o : Pending) (P : List Line → Type 0) (vs : List Line) → owed o ≡ 0 → P vs → Inside o P vs
outside pendings.Nothing P vs none p = p
outside pendings.Entries P vs none p = record { items = []; rest = vs; is = refl; more = p }
outside (pendings.Rows n) P vs none p = record { items = []; rest = vs; is = refl; count = sym none; full = tt; more = p }
outside pendings.Slots P vs none p = record { items = []; rest = vs; is = refl; more = p }
outside pendings.Packets P vs none p = record { items = []; rest = vs; is = refl; more = p }
outside (pendings.Calls n) P vs none p = record { items = []; rest = vs; is = refl; count = sym none; more = p }

-- one more part
entry_more : (o : Pending) (id : ℕ) (P Q : List Line → Type 0) (vs : List Line) → ((ws : List Line) → P ws → Q ws) → takes o (parts.Entry id) ≡ true → Inside o P vs → Inside o Q (entry_line id ∷ vs)
entry_more pendings.Entries id P Q vs f due t = record { items = id ∷ t.items; rest = t.rest; is = ap (λ (l : List Line). entry_line id ∷ l) t.is; more = f t.rest t.more }
entry_more o id P Q vs f due t = absurd (let h : false ≡ true = due in cc)

slot_more : (o : Pending) (s : FilledSlot) (P Q : List Line → Type 0) (vs : List Line) → ((ws : List Line) → P ws → Q ws) → takes o (parts.Slot s) ≡ true → Inside o P vs → Inside o Q (slot_line s ∷ vs)
slot_more pendings.Slots s P Q vs f due t = record { items = s ∷ t.items; rest = t.rest; is = ap (λ (l : List Line). slot_line s ∷ l) t.is; more = f t.rest t.more }
slot_more o s P Q vs f due t = absurd (let h : false ≡ true = due in cc)

packet_more : (o : Pending) (d : List ℕ) (P Q : List Line → Type 0) (vs : List Line) → ((ws : List Line) → P ws → Q ws) → takes o (parts.Packet d) ≡ true → Inside o P vs → Inside o Q (packet_line d ∷ vs)
packet_more pendings.Packets d P Q vs f due t = record { items = d ∷ t.items; rest = t.rest; is = ap (λ (l : List Line). packet_line d ∷ l) t.is; more = f t.rest t.more }
packet_more o d P Q vs f due t = absurd (let h : false ≡ true = due in cc)

row_more : (o : Pending) (r : Row) (P Q : List Line → Type 0) (vs : List Line) → ((ws : List Line) → P ws → Q ws) → takes o (parts.Row r) ≡ true → IsFull r.bytes → Inside (pendings.Rows (rows_owed o - 1)) P vs → Inside o Q (row_line r.bytes ∷ vs)
row_more (pendings.Rows n) r P Q vs f due is t =
    let count = t.count in
    let some : 1 ≤ n = leb-true 1 n due in
    record {
      items = r.bytes ∷ t.items;
      rest = t.rest;
      is = ap (λ (l : List Line). row_line r.bytes ∷ l) t.is;
      count = omega (arith, count, some);
      full = (is, t.full);
      more = f t.rest t.more;
    }
row_more o r P Q vs f due is t = absurd (let h : false ≡ true = due in cc)

part_more : (o : Pending) (part : Part) (P Q : List Line → Type 0) (vs : List Line) → ((ws : List Line) → P ws → Q ws) → takes o part ≡ true → IsPart part → Inside (pending_after_part o part) P vs → Inside o Q (part_line part ∷ vs)
part_more o (parts.Entry id) P Q vs f due is t = entry_more o id P Q vs f due t
part_more o (parts.Row r) P Q vs f due is t = row_more o r P Q vs f due is.1 t
part_more o (parts.Slot s) P Q vs f due is t = slot_more o s P Q vs f due t
part_more o (parts.Packet d) P Q vs f due is t = packet_more o d P Q vs f due t

-- one more call
call_more : (o : Pending) (a : Answered) (P Q : List Line → Type 0) (vs : List Line) → ((ws : List Line) → P ws → Q ws) → nat_le 1 (calls_owed o) ≡ true → Inside (pendings.Calls (calls_owed o - 1)) P vs → Inside o Q (lines.Call a ∷ vs)
call_more (pendings.Calls n) a P Q vs f due t =
    let count = t.count in
    let some : 1 ≤ n = leb-true 1 n due in
    record {
      items = a ∷ t.items;
      rest = t.rest;
      is = ap (λ (l : List Line). lines.Call a ∷ l) t.is;
      count = omega (arith, count, some);
      more = f t.rest t.more;
    }
call_more o a P Q vs f due t = absurd (let h : false ≡ true = due in cc)

-- the line of an object, before those of its parts
object_more : (id : ℕ) (head : Head) (P : List Line → Type 0) (vs : List Line) → IsHead head → Inside (opened_by head) (Units object_lines P) vs → Units object_lines P (lines.State (states.Object (record { id = id; head = head })) ∷ vs)
object_more id (heads.Container h) P vs is t =
    unit_more object_lines P (recorded id h.common (bodies.Container h.attributes h.avoid t.items)) _ t.rest
    (ap (λ (l : List Line). lines.State (states.Object (record { id = id; head = heads.Container h })) ∷ l) t.is) t.more
object_more id (heads.Segment h) P vs is t =
    let pages : length (joined t.items) / 256 ≡ h.pages = pages_again t.items h.pages t.full t.count in
    let rows = rows_again t.items t.full in
    unit_more object_lines P (recorded id h.common (bodies.Segment h.attributes (joined t.items))) _ t.rest
    (λ i. lines.State (states.Object (record {
      id = id;
      head = heads.Segment (record { common = h.common; attributes = h.attributes; pages = sym pages i });
    })) ∷ (t.is ∙ ap (λ (rs : List (List ℕ)). map row_line rs ++ t.rest) (sym rows)) i) t.more
object_more id (heads.AddressSpace h) P vs is t =
    unit_more object_lines P (recorded id h.common (bodies.AddressSpace h.attributes t.items)) _ t.rest
    (ap (λ (l : List Line). lines.State (states.Object (record { id = id; head = heads.AddressSpace h })) ∷ l) t.is) t.more
object_more id (heads.Thread h) P vs is t =
    unit_more object_lines P (recorded id h.common (bodies.Thread h.thread)) _ vs refl t
object_more id (heads.Gate h) P vs is t =
    unit_more object_lines P (recorded id h.common (bodies.Gate h.attributes h.gate)) _ vs refl t
object_more id (heads.Device h) P vs is t =
    unit_more object_lines P (recorded id h.common (bodies.Device h.metadata t.items)) _ t.rest
    (ap (λ (l : List Line). lines.State (states.Object (record { id = id; head = heads.Device h })) ∷ l) t.is) t.more

-- the head of a batch, before its calls
batch_more : {X : Type 0} (of : X → List Line) (make : Event → X) (b : Batch) (P : List Line → Type 0) (vs : List Line) → ((e : Event) → of (make e) ≡ event_lines e) → 2 ≤ b.count → Calls b.count (Units of P) vs → Units of P (lines.Batch b ∷ vs)
batch_more of make b P vs same many t =
    let count = t.count in
    let long : 2 ≤ length t.items = omega (arith, many, count) in
    let e : Event = record { thread = b.thread; number = b.number; calls = t.items } in
    unit_more of P (make e) _ t.rest
    ((λ i. lines.Batch (record { thread = b.thread; number = b.number; count = sym count i }) ∷ t.is i)
    ∙ ap (λ (l : List Line). l ++ t.rest) (several b.thread b.number t.items long ∙ sym (same e))) t.more

if_some : {X : Type 0} (b : Bool) (x y : X) → cond b (Some x) None ≡ Some y → (b ≡ true) × (x ≡ y)
if_some true x y e = (refl, cc)
if_some false x y e = cc

-- what let a line come, and what it leaves
pub record Comes (p later : Place) (l : Line) : Type 0 where
  pub due : is_due p.pending l ≡ true
  pub may : comes p.first l ≡ true
  pub is : record { first = after p.first l; pending = pending_after p.pending l } ≡ later

pub next_is : (p later : Place) (l : Line) → next p l ≡ Some later → Comes p later l
unfolding next
next_is p later l e =
    let x : Place = record { first = after p.first l; pending = pending_after p.pending l } in
    let h = if_some (is_due p.pending l && comes p.first l) x later e in
    let both = and_parts (is_due p.pending l) (comes p.first l) h.0 in
    record { due = both.0; may = both.1; is = h.1 }

-- where a line of a later kind may come
within : (first rank : ℕ) → (nat_le 4 first && nat_le first rank) ≡ true → (4 ≤ first) × (first ≤ rank)
within first rank e =
    let both = and_parts (nat_le 4 first) (nat_le first rank) e in
    (leb-true 4 first both.0, leb-true first rank both.1)

limits_low : (first : ℕ) (few : Bool) → (first == 1 && few || first == 2) ≡ true → first ≤ 2
limits_low first few e = elim (cases_Bool (eqb first 1)) [
  | inl one ↦ omega (arith, eqb-true first 1 one)
  | inr other ↦
      let h : eqb first 2 ≡ true = subst (λ (b : Bool). (b && few || first == 2) ≡ true) other e in
      omega (arith, eqb-true first 2 h)
]

-- lines of the last a kinds after a place inside of which nothing is owed
closed : (p : Place) (a : ℕ) (vs : List Line) → owed p.pending ≡ 0 → 1 ≤ a → p.first + a ≤ 14 → From a vs → After p vs
closed p a vs none some le t = outside p.pending (From (14 - p.first)) vs none (down a (14 - p.first) vs some (omega (arith, le)) t)

is_none : (n : ℕ) → (n == 0) ≡ true → n ≡ 0
is_none n e = eqb-true n 0 e

-- where events may come after one
after_low : (first : ℕ) → 4 ≤ after_event first
after_low first = of (nat_le first 6)
  where
    of : (b : Bool) → 4 ≤ cond b 6 7
    of true = lit≤ tt
    of false = lit≤ tt

after_high : (first : ℕ) → first ≤ 7 → (first ≤ after_event first) × (after_event first ≤ 7)
after_high first le = of (nat_le first 6) refl
  where
    of : (b : Bool) → nat_le first 6 ≡ b → (first ≤ cond b 6 7) × (cond b 6 7 ≤ 7)
    of true is = (leb-true first 6 is, lit≤ tt)
    of false is = (le, lit≤ tt)

-- an event: reads may come after it where they could come before it
event_among : (p : Place) (b : Bool) (l : Line) (vs : List Line) → nat_le p.first 6 ≡ b → p.first ≤ 7 → owed p.pending ≡ 0 → From (14 - cond b 6 7) vs → (From 8 vs → From 8 (l ∷ vs)) → (From 7 vs → From 7 (l ∷ vs)) → After p (l ∷ vs)
event_among p true l vs is le none t among alone = closed p 8 _ none (lit≤ tt) (omega (arith, leb-true p.first 6 is)) (among t)
event_among p false l vs is le none t among alone = closed p 7 _ none (lit≤ tt) (omega (arith, le)) (alone t)

batch_among : (p : Place) (b : Bool) (x : Batch) (vs : List Line) → nat_le p.first 6 ≡ b → p.first ≤ 7 → owed p.pending ≡ 0 → 2 ≤ x.count → Calls x.count (From (14 - cond b 6 7)) vs → After p (lines.Batch x ∷ vs)
batch_among p true x vs is le none many t = closed p 8 _ none (lit≤ tt) (omega (arith, leb-true p.first 6 is)) (batch_more told_unit inl x (From 7) vs (λ e. refl) many t)
batch_among p false x vs is le none many t = closed p 7 _ none (lit≤ tt) (omega (arith, le)) (batch_more event_lines (λ e. e) x (From 6) vs (λ e. refl) many t)

-- one more line
one_more : (p later : Place) (l : Line) (vs : List Line) → IsLine l → Comes p later l → (4 ≤ later.first → After later vs) → 4 ≤ p.first → After p (l ∷ vs)
one_more p later (lines.Version f) vs fit n rest low = absurd (omega (arith, low, eqb-true p.first 0 n.may))
one_more p later (lines.Limits x) vs fit n rest low = absurd (omega (arith, low, limits_low p.first (nat_le x.pages 512) n.may))
one_more p later (lines.State (states.Counters c)) vs fit n rest low = absurd (omega (arith, low, eqb-true p.first 3 n.may))
one_more p later (lines.State (states.Object o)) vs fit n rest low =
    let w = within p.first 4 n.may in
    let t = subst (λ (x : Place). 4 ≤ x.first → After x vs) (sym n.is) rest (lit≤ tt) in
    closed p 10 _ (is_none (owed p.pending) n.due) (lit≤ tt) (omega (arith, w.1)) (object_more o.id o.head (From 9) vs fit.head t)
one_more p later (lines.State (states.Part x)) vs fit n rest low =
    let w = within p.first 4 n.may in
    let t = subst (λ (x : Place). 4 ≤ x.first → After x vs) (sym n.is) rest (lit≤ tt) in
    part_more p.pending x (From 10) (From (14 - p.first)) vs (λ ws. down 10 (14 - p.first) ws (lit≤ tt) (omega (arith, w.1))) n.due fit t
one_more p later (lines.State (states.Next x)) vs fit n rest low =
    let w = within p.first 5 n.may in
    let t = subst (λ (x : Place). 4 ≤ x.first → After x vs) (sym n.is) rest (lit≤ tt) in
    closed p 9 _ (is_none (owed p.pending) n.due) (lit≤ tt) (omega (arith, w.1)) (each_more next_line (From 8) x vs t)
one_more p later (lines.Read r) vs fit n rest low =
    let w = within p.first 6 n.may in
    let t = subst (λ (x : Place). 4 ≤ x.first → After x vs) (sym n.is) rest (lit≤ tt) in
    closed p 8 _ (is_none (owed p.pending) n.due) (lit≤ tt) (omega (arith, w.1)) (unit_more told_unit (From 7) (inr r) _ vs refl t)
one_more p later (lines.Event x) vs fit n rest low =
    let w = within p.first 7 n.may in
    event_among p (nat_le p.first 6) (lines.Event x) vs refl w.1 (is_none (owed p.pending) n.due)
    (subst (λ (y : Place). 4 ≤ y.first → After y vs) (sym n.is) rest (after_low p.first))
    (λ t. unit_more told_unit (From 7) (inl (event_of x)) _ vs refl t) (λ t. unit_more event_lines (From 6) (event_of x) _ vs refl t)
one_more p later (lines.Batch b) vs fit n rest low =
    let w = within p.first 7 n.may in
    batch_among p (nat_le p.first 6) b vs refl w.1 (is_none (owed p.pending) n.due) fit.1.0
    (subst (λ (y : Place). 4 ≤ y.first → After y vs) (sym n.is) rest (after_low p.first))
one_more p later (lines.Call a) vs fit n rest low =
    let w = within p.first 7 n.may in
    let t = subst (λ (x : Place). 4 ≤ x.first → After x vs) (sym n.is) rest (after_low p.first) in
    let high = after_high p.first w.1 in
    call_more p.pending a (From (14 - after_event p.first)) (From (14 - p.first)) vs (λ ws. down (14 - after_event p.first) (14 - p.first) ws (omega (arith, high.1)) (omega (arith, high.0))) n.due t
one_more p later (lines.Live x) vs fit n rest low =
    let w = within p.first 8 n.may in
    let t = subst (λ (x : Place). 4 ≤ x.first → After x vs) (sym n.is) rest (lit≤ tt) in
    closed p 6 _ (is_none (owed p.pending) n.due) (lit≤ tt) (omega (arith, w.1)) (each_more lines.Live (From 5) x vs t)
one_more p later (lines.Use x) vs fit n rest low =
    let w = within p.first 9 n.may in
    let t = subst (λ (x : Place). 4 ≤ x.first → After x vs) (sym n.is) rest (lit≤ tt) in
    closed p 5 _ (is_none (owed p.pending) n.due) (lit≤ tt) (omega (arith, w.1)) (each_more lines.Use (From 4) x vs t)
one_more p later (lines.Map x) vs fit n rest low =
    let w = within p.first 10 n.may in
    let t = subst (λ (x : Place). 4 ≤ x.first → After x vs) (sym n.is) rest (lit≤ tt) in
    closed p 4 _ (is_none (owed p.pending) n.due) (lit≤ tt) (omega (arith, w.1)) (each_more lines.Map (From 3) x vs t)
one_more p later (lines.Label x) vs fit n rest low =
    let w = within p.first 11 n.may in
    let t = subst (λ (x : Place). 4 ≤ x.first → After x vs) (sym n.is) rest (lit≤ tt) in
    closed p 3 _ (is_none (owed p.pending) n.due) (lit≤ tt) (omega (arith, w.1)) (each_more lines.Label (From 2) x vs t)
one_more p later (lines.Order x) vs fit n rest low =
    let w = within p.first 12 n.may in
    let t = subst (λ (x : Place). 4 ≤ x.first → After x vs) (sym n.is) rest (lit≤ tt) in
    closed p 2 _ (is_none (owed p.pending) n.due) (lit≤ tt) (omega (arith, w.1)) (each_more lines.Order (From 1) x vs t)
one_more p later lines.End vs fit n rest low =
    let w = within p.first 13 n.may in
    let t = subst (λ (x : Place). 4 ≤ x.first → After x vs) (sym n.is) rest (lit≤ tt) in
    closed p 1 _ (is_none (owed p.pending) n.due) (lit≤ tt) (omega (arith, w.1)) (record { rest = vs; is = refl; more = t })

-- no line more
no_more : (p : Place) → ends p ≡ true → After p []
no_more p e =
    let both = and_parts (p.first == 14) (owed p.pending == 0) e in
    let done : p.first ≡ 14 = eqb-true p.first 14 both.0 in
    outside p.pending (From (14 - p.first)) [] (is_none (owed p.pending) both.1) (subst (λ (n : ℕ). From (14 - n) []) (sym done) refl)

-- lines that lead to the end
steps_on : (p q : Place) (l : Line) (vs : List Line) (o : Option Place) → IsLine l → 4 ≤ p.first → next p l ≡ o → run next o vs ≡ Some q
    → ((later : Place) → 4 ≤ later.first → run next (Some later) vs ≡ Some q → After later vs) → After p (l ∷ vs)
steps_on p q l vs None fit low e ran rest = absurd (let h : ◌≡◌ {A = Option Place} None (Some q) = ran in cc)
steps_on p q l vs (Some later) fit low e ran rest = one_more p later l vs fit (next_is p later l e) (λ high. rest later high ran) low

relined : (vs : List Line) (p q : Place) → AllByRecursion IsLine vs → 4 ≤ p.first → run next (Some p) vs ≡ Some q → ends q ≡ true → After p vs
relined [] p q fit low ran end = no_more p (let same : p ≡ q = cc in subst (λ (x : Place). ends x ≡ true) (sym same) end)
relined (l ∷ vs) p q fit low ran end = steps_on p q l vs (next p l) fit.0 low refl ran (λ later high more. relined vs later q fit.1 high more end)

-- tables to the end
abbrev tables_to_end : TableLists → List Line
tables_to_end t = map lines.Live t.live ++ (map lines.Use t.uses ++ (map lines.Map t.maps ++ (map lines.Label t.labels ++ (map lines.Order t.orders ++ lines.End ∷ []))))

-- events and tables to the end
record Body (vs : List Line) : Type 0 where
  events : List Event
  tables : TableLists
  is : vs ≡ flat_map event_lines events ++ tables_to_end tables

body_of : (vs : List Line) → From 7 vs → Body vs
body_of vs e =
    let l = e.more in
    let u = l.more in
    let m = u.more in
    let b = m.more in
    let o = b.more in
    let z = o.more in
    record {
      events = e.items;
      tables = record { live = l.items; uses = u.items; maps = m.items; labels = b.items; orders = o.items };
      is = e.is ∙ ap (λ (x : List Line). flat_map event_lines e.items ++ x)
          (l.is ∙ ap (λ (x : List Line). map lines.Live l.items ++ x)
          (u.is ∙ ap (λ (x : List Line). map lines.Use u.items ++ x)
          (m.is ∙ ap (λ (x : List Line). map lines.Map m.items ++ x)
          (b.is ∙ ap (λ (x : List Line). map lines.Label b.items ++ x)
          (o.is ∙ ap (λ (x : List Line). map lines.Order o.items ++ x)
          (z.is ∙ ap (λ (x : List Line). lines.End ∷ x) z.more))))));
    }

-- the events among them, and the reads, so many events standing before
abbrev events_of : List (Event ⊎ Read) → List Event
events_of [] = []
events_of (inl e ∷ us) = e ∷ events_of us
events_of (inr r ∷ us) = events_of us

abbrev reads_of : ℕ → List (Event ⊎ Read) → List PlacedRead
reads_of place [] = []
reads_of place (inl e ∷ us) = reads_of (place + 1) us
reads_of place (inr r ∷ us) = record { place = place; read = r } ∷ reads_of place us

-- reads that stand from a place on
later_placed : (first from last : ℕ) (rs : List PlacedRead) → first ≤ from → are_placed from last rs ≡ true → are_placed first last rs ≡ true
later_placed first from last [] le h = refl
later_placed first from last (r ∷ rs) le h =
    let p = placed_parts from last r rs h in
    let low = p.low in
    placed_from first last r rs (omega (arith, le, low)) p.high p.rest

reads_placed : (place : ℕ) (us : List (Event ⊎ Read)) → are_placed place (place + length (events_of us)) (reads_of place us) ≡ true
reads_placed place [] = refl
reads_placed place (inl e ∷ us) =
    later_placed place (place + 1) (place + length (e ∷ events_of us)) (reads_of (place + 1) us) (omega arith)
    (subst (λ (n : ℕ). are_placed (place + 1) n (reads_of (place + 1) us) ≡ true) (let z : place + 1 + length (events_of us) ≡ place + length (e ∷ events_of us) = omega arith in z) (reads_placed (place + 1) us))
reads_placed place (inr r ∷ us) =
    placed_from place (place + length (events_of us)) (record { place = place; read = r }) (reads_of place us) (omega arith) (omega arith) (reads_placed place us)

-- reads from the next place on: none stands here
none_here : (place last : ℕ) (rs : List PlacedRead) → are_placed (place + 1) last rs ≡ true → (reads_at place rs ≡ []) × (reads_past place rs ≡ rs)
none_here place last [] h = (refl, refl)
none_here place last (r ∷ rs) h =
    let low = (placed_parts (place + 1) last r rs h).low in
    let other : (r.place == place) ≡ false = ne_eqb r.place place (λ e. omega (arith, low, e)) in
    (rw other refl, rw other refl)

-- one more read at its place
told_read : (place : ℕ) (es : List Event) (r : Read) (rs : List PlacedRead) → told_lines place es (record { place = place; read = r } ∷ rs) ≡ lines.Read r ∷ told_lines place es rs
told_read place [] r rs = rw (eq-eqb place place refl) refl
told_read place (e ∷ es) r rs = rw (eq-eqb place place refl) refl

-- events and reads in turn have the lines of these events with these reads among them
units_told : (place : ℕ) (us : List (Event ⊎ Read)) → flat_map told_unit us ≡ told_lines place (events_of us) (reads_of place us)
units_told place [] = refl
units_told place (inl e ∷ us) =
    let none = none_here place (place + 1 + length (events_of us)) (reads_of (place + 1) us) (reads_placed (place + 1) us) in
    ap (λ (l : List Line). event_lines e ++ l) (units_told (place + 1) us)
    ∙ (λ i. map read_line (sym none.0 i) ++ (event_lines e ++ told_lines (place + 1) (events_of us) (sym none.1 i)))
units_told place (inr r ∷ us) =
    ap (λ (l : List Line). lines.Read r ∷ l) (units_told place us) ∙ sym (told_read place (events_of us) r (reads_of place us))

-- events alone, as units
alone : List Event → List (Event ⊎ Read)
alone es = map inl es

alone_lines : (es : List Event) → flat_map told_unit (alone es) ≡ flat_map event_lines es
unfolding alone
alone_lines [] = refl
alone_lines (e ∷ es) = ap (λ (l : List Line). event_lines e ++ l) (alone_lines es)

units_append : (us vs : List (Event ⊎ Read)) → flat_map told_unit (us ++ vs) ≡ flat_map told_unit us ++ flat_map told_unit vs
units_append [] vs = refl
units_append (u ∷ us) vs =
    ap (λ (l : List Line). told_unit u ++ l) (units_append us vs) ∙ sym (append_assoc (told_unit u) (flat_map told_unit us) (flat_map told_unit vs))

-- a dump, whose lines these are, and whose reads have their places
pub record Spelled (vs : List Line) : Type 0 where
  pub dump : DumpLists
  pub is : vs ≡ lines_of dump
  pub placed : have_places dump.checkpoint dump.events dump.reads ≡ true

-- after the limits of format 1
first_format : (l : Limits) (vs : List Line) → From 7 vs → Spelled (lines.Version formats.One ∷ lines.Limits l ∷ vs)
first_format l vs t =
    let b = body_of vs t in
    record {
      dump = record { limits = l; checkpoint = None; events = b.events; reads = []; tables = b.tables };
      is = ap (λ (x : List Line). lines.Version formats.One ∷ lines.Limits l ∷ x)
          (b.is ∙ sym (flat [] (flat_map event_lines b.events) (map lines.Live b.tables.live) (map lines.Use b.tables.uses) (map lines.Map b.tables.maps) (map lines.Label b.tables.labels) (map lines.Order b.tables.orders) (lines.End ∷ [])));
      placed = refl;
    }

-- events and reads in turn, and tables, to the end
record History (vs : List Line) : Type 0 where
  events : List Event
  reads : List PlacedRead
  tables : TableLists
  is : vs ≡ history_lines events reads ++ tables_to_end tables
  placed : are_placed 0 (length events) reads ≡ true

history_of : (vs : List Line) → From 8 vs → History vs
history_of vs t =
    let b = body_of t.rest t.more in
    let us = t.items ++ alone b.events in
    record {
      events = events_of us;
      reads = reads_of 0 us;
      tables = b.tables;
      is = t.is ∙ ap (λ (x : List Line). flat_map told_unit t.items ++ x) b.is
          ∙ sym (append_assoc (flat_map told_unit t.items) (flat_map event_lines b.events) (tables_to_end b.tables))
          ∙ ap (λ (x : List Line). x ++ tables_to_end b.tables)
          (ap (λ (x : List Line). flat_map told_unit t.items ++ x) (sym (alone_lines b.events)) ∙ sym (units_append t.items (alone b.events))
          ∙ units_told 0 us ∙ sym (history_told (events_of us) (reads_of 0 us)));
      placed = subst (λ (n : ℕ). are_placed 0 n (reads_of 0 us) ≡ true) (let z : 0 + length (events_of us) ≡ length (events_of us) = omega arith in z) (reads_placed 0 us);
    }

-- after the counters of format 2
second_format : (l : Limits) (c : Counters) (vs : List Line) → From 10 vs → Spelled (lines.Version formats.Two ∷ lines.Limits l ∷ lines.State (states.Counters c) ∷ vs)
second_format l c vs t =
    let n = t.more in
    let b = history_of n.rest n.more in
    let objects = flat_map object_lines t.items in
    let numbers = map next_line n.items in
    let begin : Checkpoint = record { next_id = c.next_id; next_category = c.next_category; objects = t.items; next = n.items } in
    record {
      dump = record { limits = l; checkpoint = Some begin; events = b.events; reads = b.reads; tables = b.tables };
      is = ap (λ (x : List Line). lines.Version formats.Two ∷ lines.Limits l ∷ lines.State (states.Counters c) ∷ x)
          (t.is ∙ ap (λ (x : List Line). objects ++ x) (n.is ∙ ap (λ (x : List Line). numbers ++ x) b.is)
          ∙ sym (append_assoc objects numbers _)
          ∙ sym (flat (objects ++ numbers) (history_lines b.events b.reads) (map lines.Live b.tables.live) (map lines.Use b.tables.uses) (map lines.Map b.tables.maps) (map lines.Label b.tables.labels) (map lines.Order b.tables.orders) (lines.End ∷ [])));
      placed = b.placed;
    }

-- a line that may not come leads nowhere
stays : (p q : Place) (l : Line) (vs : List Line) (o : Option Place) → next p l ≡ o → comes p.first l ≡ false → run next o vs ≡ Some q → ⊥
stays p q l vs None e bars ran = let h : ◌≡◌ {A = Option Place} None (Some q) = ran in cc
stays p q l vs (Some later) e bars ran = let h : false ≡ true = sym bars ∙ (next_is p later l e).may in cc

abbrev at : ℕ → Place
at first = record { first = first; pending = pendings.Nothing }

after_counters : (l : Limits) (v : Line) (vs : List Line) (q : Place) → AllByRecursion IsLine vs → run next (next (at 3) v) vs ≡ Some q → ends q ≡ true → Spelled (lines.Version formats.Two ∷ lines.Limits l ∷ v ∷ vs)
unfolding next
after_counters l (lines.State (states.Counters c)) vs q fit ran end = second_format l c vs (relined vs (at 4) q fit (lit≤ tt) ran end)
after_counters l (lines.State (states.Object o)) vs q fit ran end = absurd (stays (at 3) q (lines.State (states.Object o)) vs _ refl refl ran)
after_counters l (lines.State (states.Part o)) vs q fit ran end = absurd (stays (at 3) q (lines.State (states.Part o)) vs _ refl refl ran)
after_counters l (lines.State (states.Next o)) vs q fit ran end = absurd (stays (at 3) q (lines.State (states.Next o)) vs _ refl refl ran)
after_counters l v vs q fit ran end = absurd (stays (at 3) q v vs _ refl refl ran)

after_second : (l : Limits) (vs : List Line) (q : Place) → AllByRecursion IsLine vs → run next (Some (at 3)) vs ≡ Some q → ends q ≡ true → Spelled (lines.Version formats.Two ∷ lines.Limits l ∷ vs)
after_second l [] q fit ran end = absurd (let same : at 3 ≡ q = cc in let h : false ≡ true = ap ends same ∙ end in cc)
after_second l (v ∷ vs) q fit ran end = after_counters l v vs q fit.1 ran end

-- after the version
limits_one : (v : Line) (vs : List Line) (q : Place) (o : Option Place) → AllByRecursion IsLine vs → next (at 1) v ≡ o → run next o vs ≡ Some q → ends q ≡ true → Spelled (lines.Version formats.One ∷ v ∷ vs)
limits_one v vs q None fit e ran end = absurd (let h : ◌≡◌ {A = Option Place} None (Some q) = ran in cc)
limits_one v vs q (Some later) fit e ran end = of v (next_is (at 1) later v e)
  where
    of : (v : Line) → Comes (at 1) later v → Spelled (lines.Version formats.One ∷ v ∷ vs)
    of (lines.Limits l) n = first_format l vs (relined vs (at 7) q fit (lit≤ tt) (subst (λ (x : Place). run next (Some x) vs ≡ Some q) (sym n.is) ran) end)
    of (lines.State (states.Counters c)) n = absurd (let h : false ≡ true = n.may in cc)
    of (lines.State (states.Object c)) n = absurd (let h : false ≡ true = n.may in cc)
    of (lines.State (states.Part c)) n = absurd (let h : false ≡ true = n.may in cc)
    of (lines.State (states.Next c)) n = absurd (let h : false ≡ true = n.may in cc)
    of v n = absurd (let h : false ≡ true = n.may in cc)

limits_two : (v : Line) (vs : List Line) (q : Place) (o : Option Place) → AllByRecursion IsLine vs → next (at 2) v ≡ o → run next o vs ≡ Some q → ends q ≡ true → Spelled (lines.Version formats.Two ∷ v ∷ vs)
limits_two v vs q None fit e ran end = absurd (let h : ◌≡◌ {A = Option Place} None (Some q) = ran in cc)
limits_two v vs q (Some later) fit e ran end = of v (next_is (at 2) later v e)
  where
    of : (v : Line) → Comes (at 2) later v → Spelled (lines.Version formats.Two ∷ v ∷ vs)
    of (lines.Limits l) n = after_second l vs q fit (subst (λ (x : Place). run next (Some x) vs ≡ Some q) (sym n.is) ran) end
    of (lines.State (states.Counters c)) n = absurd (let h : false ≡ true = n.may in cc)
    of (lines.State (states.Object c)) n = absurd (let h : false ≡ true = n.may in cc)
    of (lines.State (states.Part c)) n = absurd (let h : false ≡ true = n.may in cc)
    of (lines.State (states.Next c)) n = absurd (let h : false ≡ true = n.may in cc)
    of v n = absurd (let h : false ≡ true = n.may in cc)

after_version : (f : Format) (vs : List Line) (q : Place) → AllByRecursion IsLine vs → run next (Some (at (first_after f))) vs ≡ Some q → ends q ≡ true → Spelled (lines.Version f ∷ vs)
after_version formats.One [] q fit ran end = absurd (let same : at 1 ≡ q = cc in let h : false ≡ true = ap ends same ∙ end in cc)
after_version formats.Two [] q fit ran end = absurd (let same : at 2 ≡ q = cc in let h : false ≡ true = ap ends same ∙ end in cc)
after_version formats.One (v ∷ vs) q fit ran end = limits_one v vs q (next (at 1) v) fit.1 refl ran end
after_version formats.Two (v ∷ vs) q fit ran end = limits_two v vs q (next (at 2) v) fit.1 refl ran end

first_line : (v : Line) (vs : List Line) (q : Place) (o : Option Place) → AllByRecursion IsLine vs → next start v ≡ o → run next o vs ≡ Some q → ends q ≡ true → Spelled (v ∷ vs)
first_line v vs q None fit e ran end = absurd (let h : ◌≡◌ {A = Option Place} None (Some q) = ran in cc)
first_line v vs q (Some later) fit e ran end = of v (next_is start later v e)
  where
    of : (v : Line) → Comes start later v → Spelled (v ∷ vs)
    of (lines.Version f) n = after_version f vs q fit (subst (λ (x : Place). run next (Some x) vs ≡ Some q) (sym n.is) ran) end
    of (lines.State (states.Counters c)) n = absurd (let h : false ≡ true = n.may in cc)
    of (lines.State (states.Object c)) n = absurd (let h : false ≡ true = n.may in cc)
    of (lines.State (states.Part c)) n = absurd (let h : false ≡ true = n.may in cc)
    of (lines.State (states.Next c)) n = absurd (let h : false ≡ true = n.may in cc)
    of v n = absurd (let h : false ≡ true = n.may in cc)

-- lines that lead from the beginning to the end are those of a dump
pub all_spelled : (vs : List Line) (q : Place) → AllByRecursion IsLine vs → run next (Some start) vs ≡ Some q → ends q ≡ true → Spelled vs
all_spelled [] q fit ran end = absurd (let same : start ≡ q = cc in let h : false ≡ true = ap ends same ∙ end in cc)
all_spelled (v ∷ vs) q fit ran end = first_line v vs q (next start v) fit.1 refl ran end
