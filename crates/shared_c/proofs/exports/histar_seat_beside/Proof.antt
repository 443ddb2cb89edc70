-- `histar_seat_beside` lends the other seat, makes the seat, has the other back, and writes the seat where C said.
use Rattle.std.proofs.Common.{◌≡◌, ℕ, List, [], ◌∷◌, ◌++◌, refl, sym, ap, ◌∙◌, subst}
use mir.Val.{Val, vunit, vptr}
use base.Fraction.{full_share}
use base.Logic.{SProp, ent, sep, id⊢}
use base.Fml.{ftrue}
use borrow.Table.OneValue.{part_in}
use prog.Wp.{WpFn}
use types.Logic.{sem}
use contract.Monad.{fact}
use contract.Running.{tables}
use denote.Exit.{yes}
use denote.Laws.{Is, shows}
use denote.Memory.{part_at}
use denote.RattleType.{RattleType, owns}
use denote.Steps.{nothing, heard, peeks}
use denote.Triple.Call.{calls_at}
use denote.Triple.Clauses.{lasts}
use denote.Triple.Spec.{triple_of}
use denote.Triple.Walked.{says, Stays, walk_of, stay_dropped, Goes-dropped, ends_at}
use denote.Triple.Table.{framed}
use Rattle.std.proofs.raw_atomic.Walks.{proved_at}
use Rattle.core.proofs.alloc.Calls.{Al, handle_tells}
use Rattle.std.specs.contracts.alloc.Global as heap
use Rattle.std.proofs.alloc.Global.TheLaws as heap_laws
use Rattle.std.specs.contracts.impls.GlobalAllocator.TheImpl.{ghosts, dict}
use mir.Syntax.{named}
use base.Fml.{flft, flent}
use types.Kit.{‵, raw, ◌⊛◌, some, later, ◌$◌, ◌∵◌, !, qed, done, move, keep, drop, use1, use2, use3, split, join, fsplit, feq_i, pick, await, suffices, rewrite, group, frame, show}
use types.Run.{enter, addr, of_opd, unit_lit, no_more, and_then, returns, assigns, init, stop}
use types.ByLocal.{alloc_all, pass_all, free_all, look_at, get, through, sets, lands_as}
use types.Tokens.{lft_new, lft_end}
use types.SemTy.{Body}
use denote.Builtin.{RawPtr}
use denote.Lend.{lends_ref, ref_back}
use denote.Memory.{mem}
use denote.Ref.{MutRef}
use denote.RawPtr.{Ptr, ptr_val, in_a_block, lies_at, room_at, rawptr_Tells}
use denote.Signature.{types_at, plain}
use Rattle.shared_c.specs.Served.{IsSeatBeside, seat_in}
use Rattle.shared_c.specs.contracts.held.HeldSeat.{the_row as R}
use Rattle.shared_c.specs.contracts.held.HeldSeat.{the_row as S}
use Rattle.shared_c.proofs.held.HeldSeat.TheLaws.{the_row_laws as L}
use Rattle.shared_c.specs.contracts.held.beside as g
use Rattle.shared_c.proofs.held.beside.Met.{met}
use Rattle.shared_c.specs.contracts.exports.histar_seat_beside as f
use Rattle.shared_c.proofs.exports.histar_seat_beside.Statement.{statement}
use Rattle.shared_c.proofs.exports.histar_seat_beside.Code as code

abbrev Z : RattleType
Z = heap.the_row

abbrev al : Al
al = record { row = Z; laws = heap_laws.the_row_laws; g = ghosts; d = dict; drops = dict }

abbrev stayed : Stays f.ended.signature.params f.ended.kept
stayed = (stay_dropped _ yes, (stay_dropped _ yes, (stay_dropped _ yes, tt)))

pub histar_seat_beside_spec : {M : Type 1} → statement M
histar_seat_beside_spec 𝓤 𝓛 𝓜 𝓡 wired =
    let c = f.clauses 𝓛 𝓜.mem 𝓡.returns in let W = walk_of 𝓛 f.ended stayed c in let 𝓣 = tables 𝓤 𝓛.H 𝓜 𝓡 𝓡.env in
    proved_at 𝓛 f.ended stayed c 𝓜 𝓡 (Goes-dropped 𝓛 0 (plain (λ _. RawPtr)) yes (λ κs x w. refl), (Goes-dropped 𝓛 0 (plain (λ _. Z)) yes (λ κs x w. refl), (Goes-dropped 𝓛 0 (plain (λ _. RawPtr)) yes (λ κs x w. refl), tt)))
    f.Key.name code.function (code.unfolded 𝓤 𝓛.H 𝓜 𝓡 wired) (λ z are.
    let q : Ptr = z.0.3.0 in let a = z.0.3.1.0 in let p : Ptr = z.0.3.1.1.0 in let k : R.Denot = z.1 in
    let Right : R.Denot → S.Denot → Type 0 = λ new seat. (new ≡ k) × IsSeatBeside (seat_in k.seat) (seat_in seat.seat) in
    let Post : Val → SProp 𝓤 = W.post z in let Run : List Val → SProp 𝓤 = λ us. WpFn 𝓤 𝓛.H 𝓣.C 𝓣.Λ code.function us Post in
    qed 𝓛 ((‵ ftrue ⊛ ‵ (owns (types_at f.signature.params tt) z.0.3 z.0.4)) ∷ (‵ (lies_at R full_share q k) ⊛ ‵ (room_at S p)) ∷ []) ∵
    split ! $ drop ! $ fsplit ! $ drop ! $ fsplit ! $ move ! (2 ∷ []) $ split ! $ keep ! (2 ∷ 0 ∷ 1 ∷ []) $ handle_tells al ! a z.0.4.1.0 (λ hv eh fa. move ! (1 ∷ []) $
    in_a_block ! q (λ π. lies_at R full_share π k) (id⊢ 𝓤 _) (λ b o e. move ! (2 ∷ []) $
    in_a_block ! p (λ π. room_at S π) (id⊢ 𝓤 _) (λ d s e'. move ! (1 ∷ 0 ∷ 2 ∷ []) $
    let eq : z.0.4.0 ≡ vptr b o ∷ [] = rawptr_Tells q _ are.0 ∙ ap (λ (π : Ptr). ptr_val π ∷ []) e in
    let ep : z.0.4.1.1.0 ≡ vptr d s ∷ [] = rawptr_Tells p _ are.1.1.0 ∙ ap (λ (π : Ptr). ptr_val π ∷ []) e' in
    let us : List Val = vptr b o ∷ hv ∷ vptr d s ∷ [] in
    suffices ! (Run us) (subst (λ (ws : List Val). ent 𝓤 (Run us) (Run ws)) (sym (λ i. eq i ++ (eh i ++ (ep i ++ [])))) (id⊢ 𝓤 (Run us))) $
    enter ! 𝓣.C 𝓣.Λ code.function us Post $ alloc_all ! (λ l. pass_all ! refl ((tt, tt), (fa, ((tt, tt), tt))) $
    -- [the other; the room; the handle; the locals]
    sets ! (addr ! (through ! refl (stop !))) refl (tt, tt) $
    lft_new ! tt (λ α. move ! (1 ∷ []) $
    use1 𝓛 (later (some (λ (δ : ℕ). ‵ ((MutRef (named 0) (α ∷ []) R).own_val (record { ref_ptr = (b, o); ghost_name = δ; now = k }) (vptr b o ∷ [])) ⊛ ‵ (flent (α ∷ []) (Body (mem R) b o δ)))))
    (lends_ref 𝓛 R (named 0) (α ∷ []) k b o) $ await ! tt $ pick ! (λ δ. split ! $
    -- [the other's loan; what its lender keeps; the token of α; the room; the handle; the locals]
    let G = triple_of 𝓛 g.signature (g.spec 𝓛 𝓜.mem 𝓡.returns) in
    let y : G.Ghost = (((α ∷ [], tt), (full_share, tt), tt, (record { ref_ptr = (b, o); ghost_name = δ; now = k }, (a, tt)), (vptr b o ∷ [], (hv ∷ [], tt))), tt) in
    move ! (0 ∷ 4 ∷ []) $ nothing ! $ move ! (2 ∷ 0 ∷ []) $ join ! $ move ! (1 ∷ 0 ∷ []) $ join ! $
    nothing ! $ move ! (3 ∷ 0 ∷ []) $ join ! $ join ! $
    nothing ! $ move ! (1 ∷ 0 ∷ []) $ use2 𝓛 (raw (G.pre y)) (id⊢ 𝓤 _) $
    calls_at ! (framed 𝓤 𝓛.H 𝓜 (tables 𝓤 𝓛.H 𝓜 𝓡 𝓡.env)) G (met 𝓤 𝓛 𝓜 𝓡 (code.calls-shared_c::held::beside 𝓡.env wired)) y (and_then ! (get ! refl) (and_then ! (get ! refl) (no_more !))) (λ v.
    use1 𝓛 (later (some (λ (r : S.Denot). ((‵ (flft (α ∷ []) full_share) ⊛ ‵ ftrue) ⊛ ‵ (S.own_val r (v ∷ []))) ⊛
    some (λ (ws : R.Denot × (Unit {0} × Unit {0})). ‵ (lasts g.ended y.0.0 y.0.3 ws) ⊛ raw (fact 𝓤 (Right ws.0 r)))))) (id⊢ 𝓤 _) $
    await ! tt $ pick ! (λ r. split ! $ split ! $ split ! $ lft_end ! tt $ move ! (2 ∷ []) $
    peeks ! S (Is S) (shows 𝓛 S) r (v ∷ []) (λ is. let typed = ((L.lawful 𝓛).typed r (v ∷ []) is).0 in lands_as ! refl refl typed $
    -- [the seat; α is over; nothing; what is told; what the lender keeps; the room; the locals]
    move ! (3 ∷ []) $ pick ! (λ ws. let new = ws.0 in split ! $ move ! (1 ∷ []) $ heard ! _ (λ told.
    -- [the last values; the seat; α is over; nothing; what the lender keeps; the room]
    fsplit ! $ fsplit ! $ move ! (4 ∷ 6 ∷ 0 ∷ []) $ use3 𝓛 (later (‵ ((mem R).own_at new b o))) (ref_back 𝓛 R (α ∷ []) δ new b o) $ await ! tt $
    -- [the other; a borrow; nothing; the seat; nothing; the room]
    move ! (5 ∷ 3 ∷ 0 ∷ []) $
    assigns ! (of_opd ! (get ! refl)) (through ! refl (stop !)) (init ! 0 refl typed) $
    use2 𝓛 (‵ (part_at S full_share r d s)) (part_in 𝓛 S refl full_share r d s v) $
    rewrite ! 0 (λ (π : Ptr). ‵ (lies_at S full_share π r)) (sym e') refl $
    rewrite ! 1 (λ (π : Ptr). ‵ (lies_at R full_share π new)) (sym e) refl $
    rewrite ! 1 (λ (h : R.Denot). ‵ (lies_at R full_share q h)) told.0 refl $
    sets ! (of_opd ! (unit_lit !)) refl (tt, tt) $ returns ! (look_at ! 0 refl) $ free_all ! refl $ keep ! (1 ∷ 0 ∷ []) $
    suffices ! _ (ends_at 𝓛 f.ended stayed c z vunit tt (tt, (tt, (tt, tt))) (tt, (tt, (tt, tt)))) $
    feq_i ! _ (vunit ∷ []) _ refl $ nothing ! $ nothing ! $ join ! $ nothing ! $ join ! $ nothing ! $ join ! $ nothing ! $ group ! 3 $ frame ! $
    show ! (λ (h : S.Denot). sep 𝓤 (sem 𝓛 (lies_at R full_share q k)) (sep 𝓤 (sem 𝓛 (lies_at S full_share p h)) (fact 𝓤 (IsSeatBeside (seat_in k.seat) (seat_in h.seat))))) r $
    frame ! $ says ! told.1 $ done !))))))))))))
