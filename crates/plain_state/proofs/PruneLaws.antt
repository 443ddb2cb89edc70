-- Records that are dropped, one after another, each of an id that no list has.
use Rattle.std.proofs.Common.{◌≡◌, ℕ, ◌≤◌, ◌<◌, ◌==◌, ◌&&◌, ◌||◌, Bool, true, false, cond, not}
use Rattle.std.proofs.Common.{List, [], ◌∷◌, Option, Some, None, is_some, length, refl, sym, ◌∙◌, ap, subst, arith}
use Rattle.std.proofs.Common.{inl, inr, nat_lt}
use Rattle.std.specs.List.{list_all}
use Rattle.std.specs.Ordering.{nat_cmp}
use Rattle.std.specs.Map.{lookup, set_value}
use Rattle.std.specs.BTreeMap.{is_at}
use Rattle.std.proofs.lemmas.Bool.{and_parts, and_from, both_ways, eqb-true, ltb-true}
use Rattle.base.specs.Live.{has, reached, is_live}
use Rattle.base.proofs.LiveLaw.{or_left, or_right}
use Rattle.kernel_rules.specs.State.{State, object_at, of_object, listed, lists_of}
use Rattle.kernel_rules.specs.Changes.{put, changed, relist, delisting, without}
use Rattle.kernel_rules.specs.Step.{restricted}
use Rattle.kernel_rules.specs.WellFormed.{is_well_formed, ids_rise}
use Rattle.kernel_rules.specs.declared.objects.Body as body
use Rattle.kernel_rules.specs.declared.objects.Body.TheVariants as is
use Rattle.kernel_rules.specs.declared.objects.Object.{Object}
use Rattle.kernel_rules.proofs.DeadLaws.{is_listed_from, reached_further, gone, restricted_gone}
use Rattle.kernel_rules.proofs.KeptLaws.{some_put, rise-put}
use Rattle.kernel_rules.proofs.LookupLaws.{all_at}
use Rattle.kernel_rules.proofs.RecordLaws.{restricted_live, same_id}
use Rattle.kernel_rules.proofs.WellFormedLaws.{soundness_of}
use Rattle.plain_state.specs.Settled.{In, is_listed, is_settled, Pruned}
use Rattle.plain_state.proofs.DescentLaws.{Descends, live_by_descent}
use Rattle.plain_state.proofs.QuotaLive.{descends, settled}

neither : (a b : Bool) → (a || b) ≡ false → (a ≡ false) × (b ≡ false)
neither true b h = absurd (both_ways true h refl)
neither false b h = (refl, h)

-- what no list has, and is not the root, is not live
unlisted_dead : (es : List (ℕ × Object)) (o : ℕ) → (o == 1) ≡ false → is_listed es o ≡ false
    → is_live (lists_of es) o ≡ false
unfolding is_live
unlisted_dead es o other none =
    reached_further (length (lists_of es)) es o
    ∙ (λ i. other i || from_none (reached (length (lists_of es)) (lists_of es)) es none i)
  where
    from_none : (ids : List ℕ) (ds : List (ℕ × Object)) → is_listed ds o ≡ false → is_listed_from ids o ds ≡ false
    from_none ids [] h = refl
    from_none ids (d ∷ ds) h =
        let parts = neither (has (listed d.1.body) o) (is_listed ds o) h in
        (λ i. (parts.0 i && has ids d.0) || from_none ids ds parts.1 i)

-- what holds of all records holds of those left
all_gone : (p : ℕ × Object → Bool) (k : ℕ) (es : List (ℕ × Object)) → list_all p es ≡ true → list_all p (gone k es) ≡ true
all_gone p k [] h = refl
all_gone p k (e ∷ es) h =
    let parts = and_parts (p e) (list_all p es) h in
    elim (is_at (nat_cmp k) e.0) as (λ v. list_all p (cond v es (e ∷ gone k es)) ≡ true) [
      | true ↦ parts.1
      | false ↦ and_from (p e) (list_all p (gone k es)) parts.0 (all_gone p k es parts.1)
    ]

rise_gone : (k : ℕ) (es : List (ℕ × Object)) → ids_rise es ≡ true → ids_rise (gone k es) ≡ true
rise_gone k [] h = refl
rise_gone k (e ∷ es) h =
    let parts = and_parts (list_all (λ f. nat_lt e.0 f.0) es) (ids_rise es) h in
    elim (is_at (nat_cmp k) e.0) as (λ v. ids_rise (cond v es (e ∷ gone k es)) ≡ true) [
      | true ↦ parts.1
      | false ↦ and_from (list_all (λ f. nat_lt e.0 f.0) (gone k es)) (ids_rise (gone k es))
          (all_gone (λ f. nat_lt e.0 f.0) k es parts.0) (rise_gone k es parts.1)
    ]

part_gone : (k : ℕ) (es : List (ℕ × Object)) (f : ℕ × Object) → In f (gone k es) → In f es
part_gone k [] f i = i
part_gone k (e ∷ es) f i =
    elim (is_at (nat_cmp k) e.0) as (λ v. In f (cond v es (e ∷ gone k es)) → In f (e ∷ es)) [
      | true ↦ λ j. inr j
      | false ↦ λ j. elim j [
        | inl same ↦ inl same
        | inr more ↦ inr (part_gone k es f more)
      ]
    ] i

at_most : (k : ℕ) (es : List (ℕ × Object)) → length (gone k es) ≤ length es
at_most k [] = omega arith
at_most k (e ∷ es) =
    let rest = at_most k es in
    elim (is_at (nat_cmp k) e.0) as (λ v. length (cond v es (e ∷ gone k es)) ≤ length (e ∷ es)) [
      | true ↦ omega arith
      | false ↦ omega arith
    ]

-- one record fewer is left
pub one_fewer : (k : ℕ) (es : List (ℕ × Object)) (x : Object) → lookup (is_at (nat_cmp k)) es ≡ Some x
    → length (gone k es) < length es
one_fewer k [] x found = absurd (cc)
one_fewer k (e ∷ es) x found =
    elim (is_at (nat_cmp k) e.0) as (λ v. cond v (Some e.1) (lookup (is_at (nat_cmp k)) es) ≡ Some x
    → length (cond v es (e ∷ gone k es)) < length (e ∷ es)) [
      | true ↦ λ f. omega arith
      | false ↦ λ f.
          let rest = one_fewer k es x f in
          omega arith
    ] found

-- an id that no list has, and is not the root's, is dropped
pub pruned_gone : (s : State) (k : ℕ) → (k == 1) ≡ false → is_listed s.objects k ≡ false
    → Pruned s (record s { objects = gone k s.objects })
pruned_gone s k other none = record {
  live = restricted_gone s k (unlisted_dead s.objects k other none);
  part = part_gone k s.objects;
  fewer = at_most k s.objects;
  rise = rise_gone k s.objects;
}

pub pruned_same : (s : State) → Pruned s s
pruned_same s = record { live = refl; part = λ e i. i; fewer = omega arith; rise = λ h. h }

pub pruned_then : (a b c : State) → Pruned a b → Pruned b c → Pruned a c
pruned_then a b c p q =
    let first = p.fewer in
    let second = q.fewer in
    record {
      live = q.live ∙ p.live;
      part = λ e i. p.part e (q.part e i);
      fewer = omega arith;
      rise = λ h. q.rise (p.rise h);
    }

-- an id that is gone is not recorded
gone_absent : (k : ℕ) (es : List (ℕ × Object)) → ids_rise es ≡ true → lookup (is_at (nat_cmp k)) (gone k es) ≡ None
gone_absent k [] rise = refl
gone_absent k (e ∷ es) rise =
    let parts = and_parts (list_all (λ f. nat_lt e.0 f.0) es) (ids_rise es) rise in
    elim (is_at (nat_cmp k) e.0) as (λ v. is_at (nat_cmp k) e.0 ≡ v
    → lookup (is_at (nat_cmp k)) (cond v es (e ∷ gone k es)) ≡ None) [
      | true ↦ λ at. none (lookup (is_at (nat_cmp k)) es) refl (same_id k e.0 at) parts.0
      | false ↦ λ at. subst (λ v. cond v (Some e.1) (lookup (is_at (nat_cmp k)) (gone k es)) ≡ None) (sym at)
          (gone_absent k es parts.1)
    ] refl
  where
    none : (v : Option Object) → lookup (is_at (nat_cmp k)) es ≡ v → k ≡ e.0
        → list_all (λ f. nat_lt e.0 f.0) es ≡ true → v ≡ None
    none None found same h = refl
    none (Some x) found same h =
        let less : e.0 < k = ltb-true e.0 k (all_at (λ q y. nat_lt e.0 q) es k x h found) in
        absurd (omega arith)

absent_gone : (k q : ℕ) (es : List (ℕ × Object)) → is_some (lookup (is_at (nat_cmp q)) es) ≡ false
    → is_some (lookup (is_at (nat_cmp q)) (gone k es)) ≡ false
absent_gone k q [] h = refl
absent_gone k q (e ∷ es) h =
    elim (is_at (nat_cmp q) e.0) as (λ v. is_at (nat_cmp q) e.0 ≡ v
    → is_some (cond v (Some e.1) (lookup (is_at (nat_cmp q)) es)) ≡ false
    → is_some (lookup (is_at (nat_cmp q)) (gone k (e ∷ es))) ≡ false) [
      | true ↦ λ at f. absurd (both_ways true f refl)
      | false ↦ λ at f. elim (is_at (nat_cmp k) e.0)
          as (λ v. is_some (lookup (is_at (nat_cmp q)) (cond v es (e ∷ gone k es))) ≡ false) [
            | true ↦ f
            | false ↦ subst (λ w. is_some (cond w (Some e.1) (lookup (is_at (nat_cmp q)) (gone k es))) ≡ false)
                (sym at) (absent_gone k q es f)
          ]
    ] refl h

-- what stood in a list stands in one of those left, or stood in that of the record that is gone
still_listed : (k q : ℕ) (es : List (ℕ × Object)) (x : Object) → lookup (is_at (nat_cmp k)) es ≡ Some x
    → is_listed es q ≡ true → (is_listed (gone k es) q || has (listed x.body) q) ≡ true
still_listed k q [] x found h = absurd (cc)
still_listed k q (e ∷ es) x found h =
    elim (is_at (nat_cmp k) e.0) as (λ v. cond v (Some e.1) (lookup (is_at (nat_cmp k)) es) ≡ Some x
    → (is_listed (cond v es (e ∷ gone k es)) q || has (listed x.body) q) ≡ true) [
      | true ↦ λ f.
          let same : e.1 ≡ x = cc in
          subst (λ (z : Object). (is_listed es q || has (listed z.body) q) ≡ true) same
          (turned (has (listed e.1.body) q) (is_listed es q) h)
      | false ↦ λ f. further (has (listed e.1.body) q) (is_listed es q) (is_listed (gone k es) q)
          (has (listed x.body) q) h (still_listed k q es x f)
    ] found
  where
    turned : (a b : Bool) → (a || b) ≡ true → (b || a) ≡ true
    turned true b h = or_right b true refl
    turned false b h = or_left b false h

    further : (a b c d : Bool) → (a || b) ≡ true → (b ≡ true → (c || d) ≡ true) → (a || c || d) ≡ true
    further true b c d h f = refl
    further false b c d h f = f h

-- what was settled is so still, or stood in the list of the record that is gone
pub still_settled : (k q : ℕ) (es : List (ℕ × Object)) (x : Object) → lookup (is_at (nat_cmp k)) es ≡ Some x
    → is_settled es q ≡ true → (is_settled (gone k es) q || has (listed x.body) q) ≡ true
still_settled k q es x found h =
    parts (q == 1) (is_some (lookup (is_at (nat_cmp q)) es)) (is_listed es q)
    (is_some (lookup (is_at (nat_cmp q)) (gone k es))) (is_listed (gone k es) q) (has (listed x.body) q) h
    (absent_gone k q es) (still_listed k q es x found)
  where
    third : (a b d : Bool) → (b || d) ≡ true → (a || b || d) ≡ true
    third true b d h = refl
    third false b d h = h

    parts : (r s l s' l' d : Bool) → (r || not s || l) ≡ true → (s ≡ false → s' ≡ false)
        → (l ≡ true → (l' || d) ≡ true) → (r || not s' || l' || d) ≡ true
    parts true s l s' l' d h f g = refl
    parts false false l s' l' d h f g = subst (λ v. (false || not v || l' || d) ≡ true) (sym (f refl)) refl
    parts false true l s' l' d h f g = third (not s') l' d (g h)

-- an id that is gone is settled
pub settled_gone : (k : ℕ) (es : List (ℕ × Object)) → ids_rise es ≡ true → is_settled (gone k es) k ≡ true
settled_gone k es rise =
    subst (λ v. ((k == 1) || not (is_some v) || is_listed (gone k es) k) ≡ true) (sym (gone_absent k es rise))
    (first (k == 1) (is_listed (gone k es) k))
  where
    first : (r l : Bool) → (r || true || l) ≡ true
    first true l = refl
    first false l = refl

-- after the record of k, which was x, is gone: what is not settled then stands in the list of x
pub record Begun (k : ℕ) (x : Object) (s new : State) : Type 0 where
  pub pruned : Pruned s new
  pub rise : ids_rise new.objects ≡ true
  pub fewer : length new.objects < length s.objects
  pub own : is_settled new.objects k ≡ true
  pub left : (q : ℕ) → is_settled s.objects q ≡ true → (is_settled new.objects q || has (listed x.body) q) ≡ true

pub begun_is : (s new : State) (k : ℕ) (x : Object) → (k == 1) ≡ false → is_listed s.objects k ≡ false
    → ids_rise s.objects ≡ true → object_at s k ≡ Some x → new ≡ record s { objects = gone k s.objects }
    → Begun k x s new
begun_is s new k x other none rise found is =
    subst (λ (t : State). Begun k x s t) (sym is) (record {
      pruned = pruned_gone s k other none;
      rise = rise_gone k s.objects rise;
      fewer = one_fewer k s.objects x found;
      own = settled_gone k s.objects rise;
      left = λ q h. still_settled k q s.objects x found h;
    })

gone_none : (k : ℕ) (es : List (ℕ × Object)) → lookup (is_at (nat_cmp k)) es ≡ None → gone k es ≡ es
gone_none k [] h = refl
gone_none k (e ∷ es) h =
    elim (is_at (nat_cmp k) e.0) as (λ v. cond v (Some e.1) (lookup (is_at (nat_cmp k)) es) ≡ None
    → cond v es (e ∷ gone k es) ≡ e ∷ es) [
      | true ↦ λ f. absurd (cc)
      | false ↦ λ f. ap (λ l. e ∷ l) (gone_none k es f)
    ] h

-- an id that is not recorded is dropped, and nothing is changed
pub record Absent (k : ℕ) (s new : State) : Type 0 where
  pub pruned : Pruned s new
  pub own : is_settled new.objects k ≡ true
  pub stay : (q : ℕ) → is_settled s.objects q ≡ true → is_settled new.objects q ≡ true

pub absent_is : (s new : State) (k : ℕ) → ids_rise s.objects ≡ true → object_at s k ≡ None
    → new ≡ record s { objects = gone k s.objects } → Absent k s new
absent_is s new k rise found is =
    let same : s ≡ new = (λ i. record s { objects = sym (gone_none k s.objects found) i }) ∙ sym is in
    record {
      pruned = subst (λ (t : State). Pruned s t) same (pruned_same s);
      own = subst (λ (t : State). is_settled t.objects k ≡ true) (sym is) (settled_gone k s.objects rise);
      stay = λ q h. subst (λ (t : State). is_settled t.objects q ≡ true) same h;
    }

-- what is left to settle, after one more of a list
pub one_settled : (a b : List (ℕ × Object)) (c q : ℕ) (ids : List ℕ) → (is_settled a q ≡ true → is_settled b q ≡ true)
    → is_settled b c ≡ true → (is_settled a q || has (c ∷ ids) q) ≡ true → (is_settled b q || has ids q) ≡ true
one_settled a b c q ids stay own h =
    cases (is_settled a q) (q == c) refl refl h
  where
    cases : (v w : Bool) → is_settled a q ≡ v → (q == c) ≡ w → (v || (w || has ids q)) ≡ true
        → (is_settled b q || has ids q) ≡ true
    cases true w is at h = or_left (is_settled b q) (has ids q) (stay is)
    cases false true is at h =
        or_left (is_settled b q) (has ids q)
        (subst (λ k. is_settled b k ≡ true) (sym (eqb-true q c at)) own)
    cases false false is at h = or_right (is_settled b q) (has ids q) h

-- a record of a written map was one before, of the same quota, and listed no less
in_delisted : (d o : ℕ) (es : List (ℕ × Object)) (y : Object) (e : ℕ × Object)
    → lookup (is_at (nat_cmp d)) es ≡ Some y → In e (set_value (is_at (nat_cmp d)) es (delisting o y))
    → (z : Object) × In (e.0, z) es × (z.quota ≡ e.1.quota)
    × ((q : ℕ) → has (listed e.1.body) q ≡ true → has (listed z.body) q ≡ true)
in_delisted d o [] y e found i = absurd i
in_delisted d o (x ∷ es) y e found i =
    elim (is_at (nat_cmp d) x.0) as (λ v. cond v (Some x.1) (lookup (is_at (nat_cmp d)) es) ≡ Some y
    → In e (cond v ((x.0, delisting o y) ∷ es) (x ∷ set_value (is_at (nat_cmp d)) es (delisting o y)))
    → (z : Object) × In (e.0, z) (x ∷ es) × (z.quota ≡ e.1.quota)
    × ((q : ℕ) → has (listed e.1.body) q ≡ true → has (listed z.body) q ≡ true)) [
      | true ↦ λ f j. elim j [
        | inl same ↦
            let is_y : x.1 ≡ y = cc in (
              x.1,
              inl (ap (λ (k : ℕ). (k, x.1)) (ap (λ (z : ℕ × Object). z.0) same)),
              ap (λ (z : Object). z.quota) is_y ∙ ap (λ (z : ℕ × Object). z.1.quota) (sym same),
              λ q h. subst (λ (z : Object). has (listed z.body) q ≡ true) (sym is_y)
                  (listed_before o q y.body (subst (λ (z : ℕ × Object). has (listed z.1.body) q ≡ true) same h)),
            )
        | inr more ↦ (e.1, inr more, refl, λ q h. h)
      ]
      | false ↦ λ f j. elim j [
        | inl same ↦ (e.1, inl same, refl, λ q h. h)
        | inr more ↦
            let rest = in_delisted d o es y e f more in
            (rest.0, inr rest.1, rest.2, rest.3)
      ]
    ] found i
  where
    wider : (a p q : Bool) → (p ≡ true → q ≡ true) → (a || p) ≡ true → (a || q) ≡ true
    wider true p q w h = refl
    wider false p q w h = w h

    has_before : (o b : ℕ) (ids : List ℕ) → has (without o ids) b ≡ true → has ids b ≡ true
    has_before o b [] h = h
    has_before o b (i ∷ ids) h =
        elim (not (o == i)) as (λ v. has (cond v (i ∷ without o ids) (without o ids)) b ≡ true
        → has (i ∷ ids) b ≡ true) [
          | true ↦ λ l. wider (b == i) (has (without o ids) b) (has ids b) (has_before o b ids) l
          | false ↦ λ l. or_right (b == i) (has ids b) (has_before o b ids l)
        ] h

    listed_before : (o q : ℕ) (b : body.Body) → has (listed (relist (without o) b)) q ≡ true → has (listed b) q ≡ true
    listed_before o q (is.Container avoid list) h = has_before o q list h
    listed_before o q (is.Segment bytes) h = h
    listed_before o q (is.AddressSpace slots) h = h
    listed_before o q (is.Thread t) h = h
    listed_before o q (is.Gate g) h = h
    listed_before o q (is.Device packets) h = h

descends_delisted : (d o : ℕ) (es : List (ℕ × Object)) (y : Object) → lookup (is_at (nat_cmp d)) es ≡ Some y
    → Descends es → Descends (set_value (is_at (nat_cmp d)) es (delisting o y))
descends_delisted d o es y found down e f i j h =
    let a = in_delisted d o es y e found i in
    let b = in_delisted d o es y f found j in
    let less : b.0.quota < a.0.quota = down (e.0, a.0) (f.0, b.0) a.1 b.1 (a.3 f.0 h) in
    let first : a.0.quota ≡ e.1.quota = a.2 in
    let second : b.0.quota ≡ f.1.quota = b.2 in
    omega arith

-- another id than the one that is taken out is in its lists still
listed_delisted : (d o q : ℕ) (es : List (ℕ × Object)) (y : Object) → (q == o) ≡ false
    → lookup (is_at (nat_cmp d)) es ≡ Some y → is_listed es q ≡ true
    → is_listed (set_value (is_at (nat_cmp d)) es (delisting o y)) q ≡ true
listed_delisted d o q [] y other found h = absurd (cc)
listed_delisted d o q (x ∷ es) y other found h =
    elim (is_at (nat_cmp d) x.0) as (λ v. cond v (Some x.1) (lookup (is_at (nat_cmp d)) es) ≡ Some y
    → is_listed (cond v ((x.0, delisting o y) ∷ es) (x ∷ set_value (is_at (nat_cmp d)) es (delisting o y))) q ≡ true) [
      | true ↦ λ f.
          let is_y : x.1 ≡ y = cc in
          first (has (listed x.1.body) q) (has (listed (delisting o y).body) q) (is_listed es q)
          (λ l. listed_still y.body (subst (λ (z : Object). has (listed z.body) q ≡ true) is_y l)) h
      | false ↦ λ f.
          second (has (listed x.1.body) q) (is_listed es q)
          (is_listed (set_value (is_at (nat_cmp d)) es (delisting o y)) q) (listed_delisted d o q es y other f) h
    ] found
  where
    first : (a b c : Bool) → (a ≡ true → b ≡ true) → (a || c) ≡ true → (b || c) ≡ true
    first true b c f h = or_left b c (f refl)
    first false b c f h = or_right b c h

    second : (a b c : Bool) → (b ≡ true → c ≡ true) → (a || b) ≡ true → (a || c) ≡ true
    second true b c f h = refl
    second false b c f h = f h

    has_still : (ids : List ℕ) → has ids q ≡ true → has (without o ids) q ≡ true
    has_still [] h = h
    has_still (i ∷ ids) h =
        elim (o == i) as (λ v. (o == i) ≡ v → has (cond (not v) (i ∷ without o ids) (without o ids)) q ≡ true) [
          | true ↦ λ at.
              has_still ids
              (subst (λ v. (v || has ids q) ≡ true) (subst (λ k. (q == k) ≡ false) (eqb-true o i at) other) h)
          | false ↦ λ at. second (q == i) (has ids q) (has (without o ids) q) (has_still ids) h
        ] refl

    listed_still : (b : body.Body) → has (listed b) q ≡ true → has (listed (relist (without o) b)) q ≡ true
    listed_still (is.Container avoid list) h = has_still list h
    listed_still (is.Segment bytes) h = h
    listed_still (is.AddressSpace slots) h = h
    listed_still (is.Thread t) h = h
    listed_still (is.Gate g) h = h
    listed_still (is.Device packets) h = h

settled_delisted : (s : State) (d o q : ℕ) (y : Object) → (q == o) ≡ false → object_at s d ≡ Some y
    → is_settled s.objects q ≡ true → is_settled (put s d (delisting o y)).objects q ≡ true
settled_delisted s d o q y other found h =
    subst (λ v. ((q == 1) || not v || is_listed (put s d (delisting o y)).objects q) ≡ true)
    (sym (some_put s d q y (delisting o y) found))
    (wider (q == 1) (not (is_some (object_at s q))) (is_listed s.objects q)
    (is_listed (put s d (delisting o y)).objects q) (listed_delisted d o q s.objects y other found) h)
  where
    wider : (r n a b : Bool) → (a ≡ true → b ≡ true) → (r || n || a) ≡ true → (r || n || b) ≡ true
    wider true n a b f h = refl
    wider false true a b f h = refl
    wider false false a b f h = f h

-- what is left where o is taken out of d's list: records whose ids rise and whose quotas descend, of which all but o are settled
pub record Delisted (o : ℕ) (s : State) : Type 0 where
  pub rise : ids_rise s.objects ≡ true
  pub down : Descends s.objects
  pub others : (q : ℕ) → (q == o) ≡ false → is_settled s.objects q ≡ true

pub delisted_is : (s : State) (d o : ℕ) → is_well_formed s ≡ true → Delisted o (changed s d (delisting o))
delisted_is s d o h = at_object (object_at s d) refl
  where
    at_object : (v : Option Object) → object_at s d ≡ v → Delisted o (of_object s (λ x. put s d (delisting o x)) v)
    at_object None found =
        let sound = soundness_of s h in
        record { rise = sound.rise; down = descends s sound.kept sound.rise; others = λ q other. settled s sound.kept q }
    at_object (Some y) found =
        let sound = soundness_of s h in
        record {
          rise = rise-put d s.objects (delisting o y) ∙ sound.rise;
          down = descends_delisted d o s.objects y found (descends s sound.kept sound.rise);
          others = λ q other. settled_delisted s d o q y other found (settled s sound.kept q);
        }

-- once o is settled too, all records left are live
pub all_live : (old new : State) (o : ℕ) → Delisted o old → Pruned old new → is_settled new.objects o ≡ true
    → ((q : ℕ) → is_settled old.objects q ≡ true → is_settled new.objects q ≡ true) → new ≡ restricted old
all_live old new o h pruned own stay =
    sym (restricted_live new (live_by_descent new.objects
    (λ e f i j l. h.down e f (pruned.part e i) (pruned.part f j) l)
    (λ q. either q (q == o) refl)))
    ∙ pruned.live
  where
    either : (q : ℕ) (v : Bool) → (q == o) ≡ v → is_settled new.objects q ≡ true
    either q true at = subst (λ k. is_settled new.objects k ≡ true) (sym (eqb-true q o at)) own
    either q false at = stay q (h.others q at)
