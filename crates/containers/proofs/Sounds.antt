-- A link that goes and a slot that goes leave the rest sound.
use Rattle.std.proofs.Common.{◌≡◌, ◌≢◌, ℕ, ◌+◌, ◌<◌, ◌≤◌, inl, inr, List, [], get_or, sym, ◌∙◌, subst, arith, lit<}
use Rattle.std.proofs.lemmas.Bool.{cases_eq}
use Rattle.containers.specs.Lists.{Lists, StandsAt}
use Rattle.containers.specs.Cells.{Stands, IsFreed, IsLast, IsOneOf, IsDropped, IsLink, IsRecorded, IsSound}
use Rattle.containers.proofs.Moves.{one_zero, IsChanged, one_head, was_in, last_changed, freed_changed, freed_at1}

-- a link or a slot went, and its cell is spare or among the dying
pub record IsGone (size root : ℕ) (old new : List Lists) (cell to : ℕ) : Type 0 where
  pub changed : IsChanged size old new cell to
  pub out : size ≤ to
  pub sound : IsSound size root new
  pub recorded_was : (o : ℕ) → IsRecorded size root new o → IsRecorded size root old o

module _ (size root : ℕ) (old new : List Lists) (cell to : ℕ) (sound : IsSound size root old) (ch : IsChanged size old new cell to) where
  pub recorded_back : (o : ℕ) → IsRecorded size root new o → IsRecorded size root old o
  recorded_back o r = record { within = r.within; reached = elim r.reached [ inl e ↦ inl e | inr b ↦ inr (b.0, ch.was1 o b.0 r.within b.1) ] }

  pub root_free_then : (c : ℕ) → Stands new 1 root c → ⊥
  root_free_then c s = sound.root_free c (ch.was1 root c sound.root_in s)

  -- a slot with a link that stays
  pub recorded_by : (o c : ℕ) → o < size → c ≢ cell → Stands old 1 o c → IsRecorded size root new o
  recorded_by o c lt ne s = record { within = lt; reached = inr (c, ch.kept1 o c ne s) }

-- a freed cell leaves the dying alone in their links
pub freed_lone : (size root : ℕ) (old new : List Lists) (cell : ℕ) → IsSound size root old → IsFreed size old new cell → (o c b : ℕ) → Stands new 0 (size + 1) c → Stands new 1 o c → Stands new 1 o b → b ≡ c
freed_lone size root old new cell sound l o c b dying one two =
    let ch = freed_changed size old new cell sound.paired l in
    let dying' = was_in size old new cell size ch (size + 1) c (λ (e : size + 1 ≡ size). omega arith) dying in
    let of = ch.paired.object_of (size + 1) c (λ (e : size + 1 ≡ size). omega arith) dying in
    let same : o ≡ of.0 = one_head new 1 o of.0 c (ch.paired.well 1 (lit< tt)) one of.2 in
    let lt : o < size = omega (arith, of.1) in
    sound.lone o c b dying' (ch.was1 o c lt one) (ch.was1 o b lt two)

module _ (size root : ℕ) (old new : List Lists) (d object cell : ℕ) (sound : IsSound size root old) (link : IsLink size old d object cell) where
  d_apart : d ≢ size
  d_apart e = omega (arith, link.holder)

  named : (o : ℕ) → Stands old 1 o cell → o ≡ object
  named o s = one_head old 1 o object cell (sound.paired.well 1 (lit< tt)) s link.names

  module _ (l : IsLast size old new object cell) where
    last_ch : IsChanged size old new cell (size + 1)
    last_ch = last_changed size old new object cell sound.paired d d_apart link.held l

    all_kept1 : (o x : ℕ) → Stands old 1 o x → Stands new 1 o x
    all_kept1 o x s = record { place = s.place; stands = subst (λ (k : Lists). StandsAt (get_or k.lists o []) s.place x) (sym (l.first.beside 1 one_zero)) s.stands }

    pub last_recorded : (o : ℕ) → IsRecorded size root old o → IsRecorded size root new o
    last_recorded o r = record { within = r.within; reached = elim r.reached [ inl e ↦ inl e | inr b ↦ inr (b.0, all_kept1 o b.0 b.1) ] }

    pub last_gone : IsGone size root old new cell (size + 1)
    last_gone = record {
      changed = last_ch;
      out = omega arith;
      recorded_was = recorded_back size root old new cell (size + 1) sound last_ch;
      sound = record {
        paired = last_ch.paired;
        root_in = sound.root_in;
        root_free = root_free_then size root old new cell (size + 1) sound last_ch;
        holders = λ h c lt s. last_recorded h (sound.holders h c lt (was_in size old new cell (size + 1) last_ch h c (λ (e : h ≡ size + 1). omega arith) s));
        lone = λ o c b dying one two.
            let one' = stands_back o c one in
            let two' = stands_back o b two in
            elim (cases_eq c cell) [
              | inl e ↦
                  let at : o ≡ object = named o (subst (λ (i : ℕ). Stands old 1 o i) e one') in
                  l.alone b (subst (λ (i : ℕ). Stands old 1 i b) at two') ∙ sym e
              | inr ne ↦ sound.lone o c b (last_ch.was0 (size + 1) c ne dying) one' two'
            ];
      };
    }
      where
        stands_back : (o x : ℕ) → Stands new 1 o x → Stands old 1 o x
        stands_back o x s = record { place = s.place; stands = subst (λ (k : Lists). StandsAt (get_or k.lists o []) s.place x) (l.first.beside 1 one_zero) s.stands }

  module _ (l : IsOneOf size old new object cell) where
    one_ch : IsChanged size old new cell size
    one_ch = freed_changed size old new cell sound.paired l.freed

    pub one_recorded : (o : ℕ) → IsRecorded size root old o → IsRecorded size root new o
    one_recorded o r = elim r.reached [
      | inl e ↦ record { within = r.within; reached = inl e }
      | inr b ↦ elim (cases_eq b.0 cell) [
        | inl e ↦
            let at : o ≡ object = named o (subst (λ (i : ℕ). Stands old 1 o i) e b.1) in
            recorded_by size root old new cell size sound one_ch o l.another r.within l.apart (subst (λ (i : ℕ). Stands old 1 i l.another) (sym at) l.stands)
        | inr ne ↦ recorded_by size root old new cell size sound one_ch o b.0 r.within ne b.1
      ]
    ]

    pub one_gone : IsGone size root old new cell size
    one_gone = record {
      changed = one_ch;
      out = omega arith;
      recorded_was = recorded_back size root old new cell size sound one_ch;
      sound = record {
        paired = one_ch.paired;
        root_in = sound.root_in;
        root_free = root_free_then size root old new cell size sound one_ch;
        holders = λ h c lt s. one_recorded h (sound.holders h c lt (was_in size old new cell size one_ch h c (λ (e : h ≡ size). omega arith) s));
        lone = freed_lone size root old new cell sound l.freed;
      };
    }

  pub dropped_gone : IsDropped size old new object cell → (to : ℕ) × IsGone size root old new cell to
  dropped_gone (inl l) = (size + 1, last_gone l)
  dropped_gone (inr l) = (size, one_gone l)

  pub dropped_recorded : IsDropped size old new object cell → (o : ℕ) → IsRecorded size root old o → IsRecorded size root new o
  dropped_recorded (inl l) o r = last_recorded l o r
  dropped_recorded (inr l) o r = one_recorded l o r

-- the last link to a slot that lists nothing is freed
module _ (size root : ℕ) (old new : List Lists) (object last : ℕ) (sound : IsSound size root old) (within : object < size) (dying : Stands old 0 (size + 1) last) (names : Stands old 1 object last) (empty : (c : ℕ) → Stands old 0 object c → ⊥) (l : IsFreed size old new last) where
  reap_ch : IsChanged size old new last size
  reap_ch = freed_changed size old new last sound.paired l

  pub reaped_kept : (o : ℕ) → o ≢ object → IsRecorded size root old o → IsRecorded size root new o
  reaped_kept o ne r = elim r.reached [
    | inl e ↦ record { within = r.within; reached = inl e }
    | inr b ↦ elim (cases_eq b.0 last) [
      | inl e ↦ absurd (ne (one_head old 1 o object last (sound.paired.well 1 (lit< tt)) (subst (λ (i : ℕ). Stands old 1 o i) e b.1) names))
      | inr apart ↦ recorded_by size root old new last size sound reap_ch o b.0 r.within apart b.1
    ]
  ]

  pub reaped_not : IsRecorded size root new object → ⊥
  reaped_not r = elim r.reached [
    | inl e ↦ sound.root_free last (subst (λ (i : ℕ). Stands old 1 i last) e names)
    | inr b ↦
        let same : b.0 ≡ last = sound.lone object last b.0 dying names (reap_ch.was1 object b.0 within b.1) in
        let at : object ≡ size = freed_at1 size old new last sound.paired l object (subst (λ (i : ℕ). Stands new 1 object i) same b.1) in
        absurd (omega arith)
  ]

  pub reaped_gone : IsGone size root old new last size
  reaped_gone = record {
    changed = reap_ch;
    out = omega arith;
    recorded_was = recorded_back size root old new last size sound reap_ch;
    sound = record {
      paired = reap_ch.paired;
      root_in = sound.root_in;
      root_free = root_free_then size root old new last size sound reap_ch;
      holders = λ h c lt s.
          let was = was_in size old new last size reap_ch h c (λ (e : h ≡ size). omega arith) s in
          reaped_kept h (λ (e : h ≡ object). empty c (subst (λ (i : ℕ). Stands old 0 i c) e was)) (sound.holders h c lt was);
      lone = freed_lone size root old new last sound l;
    };
  }
