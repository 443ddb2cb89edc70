-- `histar_seat_first` makes the value, and writes it where C said.
use Rattle.std.proofs.Common.{◌≡◌, ℕ, List, [], ◌∷◌, ◌++◌, refl, sym, ap, ◌∙◌, subst, w8, w32, w64}
use mir.Val.{Val, vunit, vint, vptr}
use base.Fraction.{full_share}
use base.Logic.{SProp, ent, sep, id⊢}
use base.Fml.{ftrue}
use borrow.Table.OneValue.{part_in}
use prog.Wp.{WpFn}
use types.Logic.{sem}
use types.Kit.{‵, raw, ◌⊛◌, some, later, ◌$◌, ◌∵◌, !, qed, done, move, keep, drop, use1, use2, split, join, fsplit, feq_i, pick, await, suffices, rewrite, group, frame, show}
use types.Run.{enter, of_opd, unit_lit, no_more, and_then, returns, assigns, init, stop}
use types.ByLocal.{alloc_all, pass_all, free_all, look_at, get, through, sets, lands_as}
use contract.Monad.{fact}
use contract.Running.{tables}
use denote.Builtin.{RawPtr, u8, u32, u64}
use denote.Exit.{yes}
use denote.Laws.{Is, shows}
use denote.Memory.{part_at}
use denote.Plain.{uint_Makes, uint_Tells}
use denote.RattleType.{RattleType, owns}
use denote.RawPtr.{Ptr, ptr_val, in_a_block, lies_at, room_at, rawptr_Tells}
use denote.Signature.{types_at, plain}
use denote.Steps.{nothing, owned, heard, peeks}
use denote.Triple.Call.{calls_at}
use denote.Triple.Clauses.{Lasts, lasts}
use denote.Triple.Spec.{triple_of}
use denote.Triple.Walked.{says, Stays, walk_of, stay_dropped, Goes-dropped, ends_at}
use denote.Triple.Table.{framed}
use Rattle.std.proofs.raw_atomic.Walks.{proved_at}
use Rattle.shared_c.specs.Served.{has_log, IsFirstSeat, limits_of, seat_in}
use Rattle.core.proofs.alloc.Calls.{Al, handle_tells}
use Rattle.std.specs.contracts.alloc.Global as heap
use Rattle.std.proofs.alloc.Global.TheLaws as heap_laws
use Rattle.std.specs.contracts.impls.GlobalAllocator.TheImpl.{ghosts, dict}
use Rattle.shared_c.specs.contracts.held.HeldSeat.{the_row as R}
use Rattle.shared_c.proofs.held.HeldSeat.TheLaws.{the_row_laws as L}
use Rattle.shared_c.specs.contracts.held.first as g
use Rattle.shared_c.proofs.held.first.Met.{met}
use Rattle.shared_c.specs.contracts.exports.histar_seat_first as f
use Rattle.shared_c.proofs.exports.histar_seat_first.Statement.{statement}
use Rattle.shared_c.proofs.exports.histar_seat_first.Code as code

abbrev Z : RattleType
Z = heap.the_row

abbrev al : Al
al = record { row = Z; laws = heap_laws.the_row_laws; g = ghosts; d = dict; drops = dict }

abbrev stayed : Stays f.ended.signature.params f.ended.kept
stayed = (stay_dropped _ yes, (stay_dropped _ yes, (stay_dropped _ yes, (stay_dropped _ yes, (stay_dropped _ yes, (stay_dropped _ yes, (stay_dropped _ yes, (stay_dropped _ yes, tt))))))))

pub histar_seat_first_spec : {M : Type 1} → statement M
histar_seat_first_spec 𝓤 𝓛 𝓜 𝓡 wired =
    let c = f.clauses 𝓛 𝓜.mem 𝓡.returns in let W = walk_of 𝓛 f.ended stayed c in let 𝓣 = tables 𝓤 𝓛.H 𝓜 𝓡 𝓡.env in
    proved_at 𝓛 f.ended stayed c 𝓜 𝓡 (Goes-dropped 𝓛 0 (plain (λ _. Z)) yes (λ κs x w. refl), (Goes-dropped 𝓛 0 (plain (λ _. u32)) yes (λ κs x w. refl), (Goes-dropped 𝓛 0 (plain (λ _. u8)) yes (λ κs x w. refl), (Goes-dropped 𝓛 0 (plain (λ _. u64)) yes (λ κs x w. refl), (Goes-dropped 𝓛 0 (plain (λ _. u64)) yes (λ κs x w. refl), (Goes-dropped 𝓛 0 (plain (λ _. u64)) yes (λ κs x w. refl), (Goes-dropped 𝓛 0 (plain (λ _. u8)) yes (λ κs x w. refl), (Goes-dropped 𝓛 0 (plain (λ _. RawPtr)) yes (λ κs x w. refl), tt))))))))
    f.Key.name code.function (code.unfolded 𝓤 𝓛.H 𝓜 𝓡 wired) (λ z are.
    let a = z.0.3.0 in let pages : ℕ = z.0.3.1.0 in let device : ℕ = z.0.3.1.1.0 in let id : ℕ = z.0.3.1.1.1.0 in let category : ℕ = z.0.3.1.1.1.1.0 in let calls : ℕ = z.0.3.1.1.1.1.1.0 in let logs : ℕ = z.0.3.1.1.1.1.1.1.0 in let p : Ptr = z.0.3.1.1.1.1.1.1.1.0 in let Right : R.Denot → Type 0 = λ held. IsFirstSeat (limits_of pages device id category) (has_log logs) (seat_in held.seat) in let Post : Val → SProp 𝓤 = W.post z in let Run : List Val → SProp 𝓤 = λ us. WpFn 𝓤 𝓛.H 𝓣.C 𝓣.Λ code.function us Post in
    qed 𝓛 ((‵ ftrue ⊛ ‵ (owns (types_at f.signature.params tt) z.0.3 z.0.4)) ∷ ‵ (room_at R p) ∷ []) ∵
    split ! $ drop ! $ fsplit ! $ keep ! (0 ∷ 2 ∷ []) $ handle_tells al ! a z.0.4.0 (λ hv eh fa. move ! (1 ∷ []) $
    in_a_block ! p (λ π. room_at R π) (id⊢ 𝓤 _) (λ b o e.
    let ew : z.0.4.1.1.1.1.1.1.1.0 ≡ vptr b o ∷ [] = rawptr_Tells p _ are.1.1.1.1.1.1.1.0 ∙ ap (λ (π : Ptr). ptr_val π ∷ []) e in
    let us : List Val = hv ∷ vint w32 pages ∷ vint w8 device ∷ vint w64 id ∷ vint w64 category ∷ vint w64 calls ∷ vint w8 logs ∷ vptr b o ∷ [] in
    suffices ! (Run us) (subst (λ (ws : List Val). ent 𝓤 (Run us) (Run ws)) (sym (λ i. eh i ++ (uint_Tells w32 pages _ are.1.0 i ++ (uint_Tells w8 device _ are.1.1.0 i ++ (uint_Tells w64 id _ are.1.1.1.0 i ++ (uint_Tells w64 category _ are.1.1.1.1.0 i ++ (uint_Tells w64 calls _ are.1.1.1.1.1.0 i ++ (uint_Tells w8 logs _ are.1.1.1.1.1.1.0 i ++ (ew i ++ []))))))))) (id⊢ 𝓤 (Run us))) $
    enter ! 𝓣.C 𝓣.Λ code.function us Post $ alloc_all ! (λ l. pass_all ! refl (fa, ((tt, record { fits = are.1.0.1 }), ((tt, record { fits = are.1.1.0.1 }), ((tt, record { fits = are.1.1.1.0.1 }), ((tt, record { fits = are.1.1.1.1.0.1 }), ((tt, record { fits = are.1.1.1.1.1.0.1 }), ((tt, record { fits = are.1.1.1.1.1.1.0.1 }), ((tt, tt), tt)))))))) $
    -- [the room; the handle; the locals]
    let G = triple_of 𝓛 g.signature (g.spec 𝓛 𝓜.mem 𝓡.returns) in
    let y : G.Ghost = ((tt, tt, tt, (a, (pages, (device, (id, (category, (calls, (logs, tt))))))), (hv ∷ [], (vint w32 pages ∷ [], (vint w8 device ∷ [], (vint w64 id ∷ [], (vint w64 category ∷ [], (vint w64 calls ∷ [], (vint w8 logs ∷ [], tt)))))))), tt) in
    move ! (1 ∷ []) $ nothing ! $ owned ! u8 _ (uint_Makes 𝓛 w8) logs _ (refl, are.1.1.1.1.1.1.0.1) $ join ! $ owned ! u64 _ (uint_Makes 𝓛 w64) calls _ (refl, are.1.1.1.1.1.0.1) $ join ! $ owned ! u64 _ (uint_Makes 𝓛 w64) category _ (refl, are.1.1.1.1.0.1) $ join ! $ owned ! u64 _ (uint_Makes 𝓛 w64) id _ (refl, are.1.1.1.0.1) $ join ! $
    owned ! u8 _ (uint_Makes 𝓛 w8) device _ (refl, are.1.1.0.1) $ join ! $ owned ! u32 _ (uint_Makes 𝓛 w32) pages _ (refl, are.1.0.1) $ join ! $ move ! (1 ∷ 0 ∷ []) $ join ! $ nothing ! $ join ! $
    nothing ! $ move ! (1 ∷ 0 ∷ []) $ use2 𝓛 (raw (G.pre y)) (id⊢ 𝓤 _) $
    calls_at ! (framed 𝓤 𝓛.H 𝓜 (tables 𝓤 𝓛.H 𝓜 𝓡 𝓡.env)) G (met 𝓤 𝓛 𝓜 𝓡 (code.calls-shared_c::held::first 𝓡.env wired)) y (and_then ! (get ! refl) (and_then ! (get ! refl) (and_then ! (get ! refl) (and_then ! (get ! refl) (and_then ! (get ! refl) (and_then ! (get ! refl) (and_then ! (get ! refl) (no_more !)))))))) (λ v.
    use1 𝓛 (later (some (λ (r : R.Denot). (‵ ftrue ⊛ ‵ (R.own_val r (v ∷ []))) ⊛ some (λ (ls : Lasts g.ended tt (a, (pages, (device, (id, (category, (calls, (logs, tt)))))))). ‵ (lasts g.ended tt (a, (pages, (device, (id, (category, (calls, (logs, tt))))))) ls) ⊛ raw (fact 𝓤 (Right r)))))) (id⊢ 𝓤 _) $
    await ! tt $ pick ! (λ r. split ! $ split ! $ drop ! $
    peeks ! R (Is R) (shows 𝓛 R) r (v ∷ []) (λ is. let typed = ((L.lawful 𝓛).typed r (v ∷ []) is).0 in lands_as ! refl refl typed $
    move ! (1 ∷ []) $ pick ! (λ ls. split ! $ drop ! $ heard ! _ (λ is_x. move ! (1 ∷ []) $
    assigns ! (of_opd ! (get ! refl)) (through ! refl (stop !)) (init ! 0 refl typed) $
    use2 𝓛 (‵ (part_at R full_share r b o)) (part_in 𝓛 R refl full_share r b o v) $
    rewrite ! 0 (λ (π : Ptr). ‵ (lies_at R full_share π r)) (sym e) refl $
    sets ! (of_opd ! (unit_lit !)) refl (tt, tt) $ returns ! (look_at ! 0 refl) $ free_all ! refl $ keep ! (0 ∷ []) $
    suffices ! _ (ends_at 𝓛 f.ended stayed c z vunit tt (tt, (tt, (tt, (tt, (tt, (tt, (tt, (tt, tt)))))))) (tt, (tt, (tt, (tt, (tt, (tt, (tt, (tt, tt))))))))) $
    feq_i ! _ (vunit ∷ []) _ refl $ nothing ! $ nothing ! $ join ! $ nothing ! $ join ! $ nothing ! $ join ! $ nothing ! $ join ! $ nothing ! $ join ! $ nothing ! $ join ! $ nothing ! $ join ! $ nothing ! $ join ! $ nothing ! $ group ! 3 $ frame ! $
    show ! (λ (k : R.Denot). sep 𝓤 (sem 𝓛 (lies_at R full_share p k)) (fact 𝓤 (Right k))) r $ says ! is_x $ done !)))))))))
