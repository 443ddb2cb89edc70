-- What each step of the sweep keeps, and what holds at its end.
use Rattle.std.proofs.Common.{◌≡◌, ◌≢◌, ℕ, zero, suc, ◌+◌, ◌<◌, ◌⊎◌, inl, inr, List, [], ◌∷◌, ◌++◌, length, refl, sym, ap, ◌∙◌, subst, arith, lit<, length-append}
use Rattle.std.specs.Prelude.{Contains}
use Rattle.std.proofs.lemmas.Bool.{cases_eq, cases_lt}
use Rattle.std.proofs.lemmas.List.{get_or_append_left, get_or_push}
use Rattle.std.proofs.lemmas.List.Elements.{Contains-push, Contains-push_cases, Contains-append_left, Contains-get_or}
use Rattle.containers.specs.Lists.{Lists, StandsAt}
use Rattle.containers.specs.Cells.{Stands, IsFreed, IsDropped, IsLink, Lists', IsRecorded, IsDying, IsSound}
use Rattle.containers.specs.Sweep.{IsOnce, IsPath, IsReached, IsSweeping, IsSwept, IsTree, IsSimple}
use Rattle.containers.proofs.Moves.{one_head, changed_at, was_in}
use Rattle.containers.proofs.Sounds.{IsGone, dropped_gone, dropped_recorded, reaped_gone, reaped_kept, reaped_not}

pub once_push : {X : Type 0} (xs : List X) (x : X) → IsOnce xs → (Contains xs x → ⊥) → IsOnce (xs ++ x ∷ [])
once_push xs x once not i j d lt within e = elim (cases_lt j (length xs)) [
  | inl old ↦ once i j d lt old (sym (get_or_append_left xs (x ∷ []) d i (omega arith)) ∙ e ∙ get_or_append_left xs (x ∷ []) d j old)
  | inr last ↦
      let here : length xs ≡ j = omega (arith, within, length-append xs (x ∷ [])) in
      let is = sym (get_or_append_left xs (x ∷ []) d i (omega arith)) ∙ e ∙ get_or_push xs x d j here in
      let inside : i < length xs = omega arith in
      not (subst (λ y. Contains xs y) is (Contains-get_or xs i d inside))
]

pub once_nil : {X : Type 0} → IsOnce {X = X} []
once_nil i j d lt within e = absurd (omega arith)

pub contains_nil : {X : Type 0} (x : X) → Contains [] x → ⊥
contains_nil x c = omega (arith, c.1)

link_as : (size : ℕ) (r : List Lists) (d o a b : ℕ) → d ≡ a → o ≡ b → Lists' size r d o → Lists' size r a b
link_as size r d o a b e f l = subst (λ (i : ℕ). Lists' size r a i) f (subst (λ (i : ℕ). Lists' size r i o) e l)

module _ (size root : ℕ) (start old new : List Lists) (links : List (ℕ × ℕ)) (objects : List ℕ) (s : IsSweeping size root start old links objects) where
  started : (d o c : ℕ) → IsLink size old d o c → IsLink size start d o c
  started d o c l = record { holder = l.holder; object = l.object; held = s.was_held d c l.holder l.held; names = s.was_named o c l.object l.names }

  recorded_start : (o : ℕ) → IsRecorded size root old o → IsRecorded size root start o
  recorded_start o r = record { within = r.within; reached = elim r.reached [ inl e ↦ inl e | inr b ↦ inr (b.0, s.was_named o b.0 r.within b.1) ] }

  module _ (cell to : ℕ) (gone : IsGone size root old new cell to) where
    pub link_was : (d o c : ℕ) → IsLink size new d o c → IsLink size old d o c
    link_was d o c l = record {
      holder = l.holder;
      object = l.object;
      held = was_in size old new cell to gone.changed d c (λ (e : d ≡ to). omega (arith, l.holder, gone.out)) l.held;
      names = gone.changed.was1 o c l.object l.names;
    }

    pub link_kept : (d o c : ℕ) → c ≢ cell → IsLink size old d o c → IsLink size new d o c
    link_kept d o c ne l = record { holder = l.holder; object = l.object; held = gone.changed.kept0 d c ne l.held; names = gone.changed.kept1 o c ne l.names }

    then_named : (o c : ℕ) → o < size → Stands new 1 o c → Stands start 1 o c
    then_named o c lt st = s.was_named o c lt (gone.changed.was1 o c lt st)

    then_held : (d c : ℕ) → d < size → Stands new 0 d c → Stands start 0 d c
    then_held d c lt st = s.was_held d c lt (was_in size old new cell to gone.changed d c (λ (e : d ≡ to). omega (arith, gone.out)) st)

  -- one entry of a dying slot goes
  module _ (simple : IsSimple size start) (d object cell : ℕ) (dying : IsDying size old d) (link : IsLink size old d object cell) (dropped : IsDropped size old new object cell) where
    found : (to : ℕ) × IsGone size root old new cell to
    found = dropped_gone size root old new d object cell s.sound link dropped

    g : IsGone size root old new cell found.0
    g = found.1

    -- a cell among the dying is another
    dying_apart : (c : ℕ) → Stands old 0 (size + 1) c → c ≢ cell
    dying_apart c st e =
        let same : size + 1 ≡ d = one_head old 0 (size + 1) d cell (s.sound.paired.well 0 (lit< tt)) (subst (λ (i : ℕ). Stands old 0 (size + 1) i) e st) link.held in
        omega (arith, link.holder)

    dying_kept : (o : ℕ) → IsDying size old o → IsDying size new o
    dying_kept o y =
        let ne = dying_apart y.cell y.dying in
        record { cell = y.cell; dying = g.changed.kept0 (size + 1) y.cell ne y.dying; names = g.changed.kept1 o y.cell ne y.names }

    no_more : Lists' size new d object → ⊥
    no_more l =
        let before = link_was cell found.0 g d object l.cell l.link in
        let same : l.cell ≡ cell = simple d object l.cell cell (started d object l.cell before) (started d object cell link) in
        let at : d ≡ found.0 = changed_at size old new cell found.0 g.changed d (subst (λ (i : ℕ). Stands new 0 d i) same l.link.held) in
        omega (arith, g.out, link.holder)

    pub swept_link : IsSweeping size root start new (links ++ (d, object) ∷ []) objects
    swept_link = record {
      sound = g.sound;
      total = g.changed.total ∙ s.total;
      unchanged = λ h r not.
          let apart : h ≢ d = λ (e : h ≡ d). not (subst (λ (i : ℕ). IsDying size new i) (sym e) (dying_kept d dying)) in
          let not_held : Stands old 0 h cell → ⊥ = λ (st : Stands old 0 h cell). apart (one_head old 0 h d cell (s.sound.paired.well 0 (lit< tt)) st link.held) in
          g.changed.same0 h (λ (e : h ≡ found.0). omega (arith, g.out, r.within)) not_held
          ∙ s.unchanged h (g.recorded_was h r) (λ y. not (dying_kept h y));
      was_named = then_named cell found.0 g;
      was_held = then_held cell found.0 g;
      links_was = λ a b c. elim (Contains-push_cases links (d, object) (a, b) c) [
        | inl before ↦ s.links_was a b before
        | inr e ↦ link_as size start d object a b (ap (λ (p : ℕ × ℕ). p.0) e) (ap (λ (p : ℕ × ℕ). p.1) e) (record { cell = cell; link = started d object cell link })
      ];
      links_gone = λ a b c l. elim (Contains-push_cases links (d, object) (a, b) c) [
        | inl before ↦ s.links_gone a b before (record { cell = l.cell; link = link_was cell found.0 g a b l.cell l.link })
        | inr e ↦ no_more (link_as size new a b d object (sym (ap (λ (p : ℕ × ℕ). p.0) e)) (sym (ap (λ (p : ℕ × ℕ). p.1) e)) l)
      ];
      links_all = λ a b l. elim (s.links_all a b l) [
        | inl before ↦ elim (cases_eq before.cell cell) [
          | inl e ↦
              let here : a ≡ d = one_head old 0 a d cell (s.sound.paired.well 0 (lit< tt)) (subst (λ (i : ℕ). Stands old 0 a i) e before.link.held) link.held in
              let there : b ≡ object = one_head old 1 b object cell (s.sound.paired.well 1 (lit< tt)) (subst (λ (i : ℕ). Stands old 1 b i) e before.link.names) link.names in
              inr (subst (λ (i : ℕ). Contains (links ++ (d, object) ∷ []) (i, b)) (sym here) (subst (λ (i : ℕ). Contains (links ++ (d, object) ∷ []) (d, i)) (sym there) (Contains-push links (d, object))))
          | inr ne ↦ inl (record { cell = before.cell; link = link_kept cell found.0 g a b before.cell ne before.link })
        ]
        | inr went ↦ inr (Contains-append_left links ((d, object) ∷ []) (a, b) went)
      ];
      links_once = once_push links (d, object) s.links_once (λ c. s.links_gone d object c (record { cell = cell; link = link }));
      objects_was = s.objects_was;
      objects_gone = λ o c r. s.objects_gone o c (g.recorded_was o r);
      objects_all = λ o r. elim (s.objects_all o r) [
        | inl before ↦ inl (dropped_recorded size root old new d object cell s.sound link dropped o before)
        | inr went ↦ inr went
      ];
      objects_once = s.objects_once;
    }

  -- a dying slot that lists nothing goes
  module _ (object last : ℕ) (within : object < size) (dying : Stands old 0 (size + 1) last) (names : Stands old 1 object last) (empty : (c : ℕ) → Stands old 0 object c → ⊥) (freed : IsFreed size old new last) where
    r : IsGone size root old new last size
    r = reaped_gone size root old new object last s.sound within dying names empty freed

    was_recorded : IsRecorded size root old object
    was_recorded = record { within = within; reached = inr (last, names) }

    not_last : (d o c : ℕ) → IsLink size old d o c → c ≢ last
    not_last d o c l e =
        let same : d ≡ size + 1 = one_head old 0 d (size + 1) last (s.sound.paired.well 0 (lit< tt)) (subst (λ (i : ℕ). Stands old 0 d i) e l.held) dying in
        omega (arith, l.holder)

    pub swept_object : IsSweeping size root start new links (objects ++ object ∷ [])
    swept_object = record {
      sound = r.sound;
      total = r.changed.total ∙ s.total;
      unchanged = λ h rec not.
          let apart : h ≢ object = λ (e : h ≡ object). reaped_not size root old new object last s.sound within dying names empty freed (subst (λ (i : ℕ). IsRecorded size root new i) e rec) in
          let not_held : Stands old 0 h last → ⊥ = λ (st : Stands old 0 h last). (let same : h ≡ size + 1 = one_head old 0 h (size + 1) last (s.sound.paired.well 0 (lit< tt)) st dying in omega (arith, rec.within)) in
          let not_dying : IsDying size old h → ⊥ = λ (y : IsDying size old h). elim (cases_eq y.cell last) [
            | inl e ↦ apart (one_head old 1 h object last (s.sound.paired.well 1 (lit< tt)) (subst (λ (i : ℕ). Stands old 1 h i) e y.names) names)
            | inr ne ↦ not (record { cell = y.cell; dying = r.changed.kept0 (size + 1) y.cell ne y.dying; names = r.changed.kept1 h y.cell ne y.names })
          ] in
          r.changed.same0 h (λ (e : h ≡ size). omega (arith, rec.within)) not_held
          ∙ s.unchanged h (r.recorded_was h rec) not_dying;
      was_named = then_named last size r;
      was_held = then_held last size r;
      links_was = s.links_was;
      links_gone = λ a b c l. s.links_gone a b c (record { cell = l.cell; link = link_was last size r a b l.cell l.link });
      links_all = λ a b l. elim (s.links_all a b l) [
        | inl before ↦ inl (record { cell = before.cell; link = link_kept last size r a b before.cell (not_last a b before.cell before.link) before.link })
        | inr went ↦ inr went
      ];
      links_once = s.links_once;
      objects_was = λ o c. elim (Contains-push_cases objects object o c) [
        | inl before ↦ s.objects_was o before
        | inr e ↦ recorded_start o (subst (λ (i : ℕ). IsRecorded size root old i) e was_recorded)
      ];
      objects_gone = λ o c rec. elim (Contains-push_cases objects object o c) [
        | inl before ↦ s.objects_gone o before (r.recorded_was o rec)
        | inr e ↦ reaped_not size root old new object last s.sound within dying names empty freed (subst (λ (i : ℕ). IsRecorded size root new i) (sym e) rec)
      ];
      objects_all = λ o rec. elim (s.objects_all o rec) [
        | inl before ↦ elim (cases_eq o object) [
          | inl e ↦ inr (subst (λ (i : ℕ). Contains (objects ++ object ∷ []) i) (sym e) (Contains-push objects object))
          | inr ne ↦ inl (reaped_kept size root old new object last s.sound within dying names empty freed o ne before)
        ]
        | inr went ↦ inr (Contains-append_left objects (object ∷ []) o went)
      ];
      objects_once = once_push objects object s.objects_once (λ c. s.objects_gone object c was_recorded);
    }

-- before the first step
pub sweeping_start : (size root : ℕ) (start : List Lists) → IsSound size root start → IsSweeping size root start start [] []
sweeping_start size root start sound = record {
  sound = sound;
  total = refl;
  unchanged = λ d r not. refl;
  was_named = λ o c lt st. st;
  was_held = λ d c lt st. st;
  links_was = λ d o c. absurd (contains_nil (d, o) c);
  links_gone = λ d o c l. contains_nil (d, o) c;
  links_all = λ d o l. inl l;
  links_once = once_nil;
  objects_was = λ o c. absurd (contains_nil o c);
  objects_gone = λ o c r. contains_nil o c;
  objects_all = λ o r. inl r;
  objects_once = once_nil;
}

-- what holds of the root, and goes from a slot to what it lists, holds of each that a path leads to
pub reached_within : (lists : ℕ → ℕ → Type 0) (P : ℕ → Type 0) → ((d o : ℕ) → P d → lists d o → P o) → (a : ℕ) (path : List ℕ) (b : ℕ) → P a → IsPath lists a path b → P b
reached_within lists P goes a [] b p e = subst P e p
reached_within lists P goes a (x ∷ xs) b p s = reached_within lists P goes x xs b (goes a x p s.0) s.1

path_more : (lists : ℕ → ℕ → Type 0) (a : ℕ) (path : List ℕ) (d o : ℕ) → IsPath lists a path d → lists d o → IsPath lists a (path ++ o ∷ []) o
path_more lists a [] d o e c = (subst (λ (i : ℕ). lists i o) (sym e) c, refl)
path_more lists a (x ∷ xs) d o s c = (s.0, path_more lists x xs d o s.1 c)

pub reached_more : (lists : ℕ → ℕ → Type 0) (root d o : ℕ) → IsReached lists root d → lists d o → IsReached lists root o
reached_more lists root d o live c = (live.0 ++ o ∷ [], path_more lists root live.0 d o live.1 c)

-- each is reached, where each but the root is listed by another, which is before it by rank
module _ (root : ℕ) (lists : ℕ → ℕ → Type 0) (alive : ℕ → Type 0) (rank : ℕ → ℕ) (tree : (d o x : ℕ) → lists d o → lists o x → rank d < rank o) (held : (o : ℕ) → alive o → (o ≡ root) ⊎ ((d : ℕ) × alive d × lists d o)) where
  holder_reached : (n d x : ℕ) → rank d < n → alive d → lists d x → IsReached lists root d
  holder_reached zero d x lt a c = absurd (omega arith)
  holder_reached (suc n) d x lt a c = elim (held d a) [
    | inl is ↦ ([], sym is)
    | inr by ↦ reached_more lists root by.0 d (holder_reached n by.0 d (omega (arith, tree by.0 d x by.2 c)) by.1 by.2) by.2
  ]

  pub all_reached : (o : ℕ) → alive o → IsReached lists root o
  all_reached o a = elim (held o a) [
    | inl is ↦ ([], sym is)
    | inr by ↦ reached_more lists root by.0 o (holder_reached (rank by.0 + 1) by.0 o (omega arith) by.1 by.2) by.2
  ]

module _ (size root : ℕ) (start now : List Lists) (links : List (ℕ × ℕ)) (objects : List ℕ) (s : IsSweeping size root start now links objects) (sound : IsSound size root start) (done : (c : ℕ) → Stands now 0 (size + 1) c → ⊥) (rank : ℕ → ℕ) (tree : IsTree size start rank) where
  none : (o : ℕ) → IsDying size now o → ⊥
  none o y = done y.cell y.dying

  pub swept_at_end : IsSwept size root start now links objects
  swept_at_end = record {
    sweeping = s;
    none_dying = none;
    live = all_reached root (Lists' size start) (λ o. IsRecorded size root now o) rank tree (λ o r. elim r.reached [
      | inl e ↦ inl e
      | inr b ↦
          let by = s.sound.paired.holder_of o b.0 (λ (e : o ≡ size). omega (arith, r.within)) b.1 in
          elim (cases_eq by.0 (size + 1)) [
            | inl e ↦ absurd (done b.0 (subst (λ (i : ℕ). Stands now 0 i b.0) e by.3))
            | inr ne ↦
                let lt : by.0 < size = omega (arith, by.1, by.2) in
                inr (by.0, s.sound.holders by.0 b.0 lt by.3, record { cell = b.0; link = record { holder = lt; object = r.within; held = s.was_held by.0 b.0 lt by.3; names = s.was_named o b.0 r.within b.1 } })
          ]
    ]);
    all_live = λ o live. reached_within (Lists' size start) (λ i. IsRecorded size root now i) (λ d x r l.
        let same = s.unchanged d r (none d) in
        let held : Stands now 0 d l.cell = record { place = l.link.held.place; stands = subst (λ (xs : List ℕ). StandsAt xs l.link.held.place l.cell) (sym same) l.link.held.stands } in
        let of = s.sound.paired.object_of d l.cell (λ (e : d ≡ size). omega (arith, l.link.holder)) held in
        record { within = l.link.object; reached = inr (l.cell, subst (λ (i : ℕ). Stands now 1 i l.cell) (names_one l.cell of.0 x (s.was_named of.0 l.cell of.1 of.2) l.link.names) of.2) }) root live.0 o (record { within = s.sound.root_in; reached = inl refl }) live.1;
  }
    where
      names_one : (c a b : ℕ) → Stands start 1 a c → Stands start 1 b c → a ≡ b
      names_one c a b x y = one_head start 1 a b c (sound.paired.well 1 (lit< tt)) x y
