-- `histar_boot_at` makes the value of the text that it is lent, and writes it where C said.
use Rattle.std.proofs.Common.{◌≡◌, List, [], ◌∷◌, ◌++◌, refl, sym, ap, ◌∙◌, subst}
use mir.Syntax.{named}
use mir.Val.{Val, vunit, vptr}
use base.Fraction.{full_share}
use base.Logic.{SProp, ent, sep, id⊢}
use base.Fml.{ftrue, flft}
use borrow.Table.OneValue.{part_in}
use prog.Wp.{WpFn}
use types.Logic.{sem}
use types.Kit.{‵, raw, ◌⊛◌, some, later, ◌$◌, ◌∵◌, !, qed, done, move, keep, drop, use1, use2, split, join, fsplit, feq_i, pick, await, suffices, rewrite, group, frame, show}
use types.Run.{enter, of_opd, unit_lit, no_more, and_then, returns, assigns, init, stop}
use types.ByLocal.{alloc_all, pass_all, free_all, look_at, get, through, sets, lands_as}
use contract.Monad.{fact}
use contract.Running.{tables}
use denote.Builtin.{RawPtr, SliceRefOf, u8}
use denote.Exit.{yes}
use denote.Laws.{Is, shows}
use denote.Memory.{part_at}
use denote.RattleType.{RattleType, owns}
use denote.RawPtr.{Ptr, ptr_val, in_a_block, lies_at, room_at, rawptr_Tells}
use denote.Signature.{types_at, plain}
use denote.Slice.{ShrSlice, shr_slice_vals, shr_slice_Tells}
use denote.Steps.{nothing, heard, peeks}
use denote.Triple.Call.{calls_at}
use denote.Triple.Clauses.{Lasts, lasts}
use denote.Triple.Spec.{triple_of}
use denote.Triple.Walked.{says, Stays, walk_of, stay_dropped, Goes-dropped, ends_at}
use denote.Triple.Table.{framed}
use Rattle.std.proofs.raw_atomic.Walks.{proved_at}
use Rattle.histar_c.specs.Opened.{IsOpened}
use Rattle.histar_c.specs.Served.{held_kernel}
use Rattle.core.proofs.alloc.Calls.{Al, handle_tells}
use Rattle.std.specs.contracts.alloc.Global as heap
use Rattle.std.proofs.alloc.Global.TheLaws as heap_laws
use Rattle.std.specs.contracts.impls.GlobalAllocator.TheImpl.{ghosts, dict}
use Rattle.histar_c.specs.contracts.held.Held.{the_row as R}
use Rattle.histar_c.proofs.held.Held.TheLaws.{the_row_laws as L}
use Rattle.histar_c.specs.contracts.opening.opened as g
use Rattle.histar_c.proofs.opening.opened.Met.{met}
use Rattle.histar_c.specs.contracts.exports.histar_boot_at as f
use Rattle.histar_c.proofs.exports.histar_boot_at.Statement.{statement}
use Rattle.histar_c.proofs.exports.histar_boot_at.Code as code

abbrev Z : RattleType
Z = heap.the_row

abbrev al : Al
al = record { row = Z; laws = heap_laws.the_row_laws; g = ghosts; d = dict; drops = dict }

abbrev stayed : Stays f.ended.signature.params f.ended.kept
stayed = (stay_dropped _ yes, (stay_dropped _ yes, (stay_dropped _ yes, tt)))

pub histar_boot_at_spec : {M : Type 1} → statement M
histar_boot_at_spec 𝓤 𝓛 𝓜 𝓡 wired =
    let c = f.clauses 𝓛 𝓜.mem 𝓡.returns in let W = walk_of 𝓛 f.ended stayed c in let 𝓣 = tables 𝓤 𝓛.H 𝓜 𝓡 𝓡.env in
    proved_at 𝓛 f.ended stayed c 𝓜 𝓡 (Goes-dropped 𝓛 1 (plain (λ _. Z)) yes (λ κs x w. refl), (Goes-dropped 𝓛 1 (SliceRefOf (0 ∷ []) tt (plain (λ _. u8)) (λ _. tt)) yes (λ κs x w. refl), (Goes-dropped 𝓛 1 (plain (λ _. RawPtr)) yes (λ κs x w. refl), tt)))
    f.Key.name code.function (code.unfolded 𝓤 𝓛.H 𝓜 𝓡 wired) (λ z are.
    let κs = z.0.0 in let κ = κs.0 in let q = z.0.1.0 in let a = z.0.3.0 in let text = z.0.3.1.0 in let p : Ptr = z.0.3.1.1.0 in let Right : R.Denot → Type 0 = λ held. IsOpened text.now (held_kernel held) in let Post : Val → SProp 𝓤 = W.post z in let Run : List Val → SProp 𝓤 = λ us. WpFn 𝓤 𝓛.H 𝓣.C 𝓣.Λ code.function us Post in
    qed 𝓛 (((‵ (flft κ q) ⊛ ‵ ftrue) ⊛ ‵ (owns (types_at f.signature.params κs) z.0.3 z.0.4)) ∷ ‵ (room_at R p) ∷ []) ∵
    -- [the token; what is passed; the room]
    split ! $ split ! $ keep ! (2 ∷ 0 ∷ 3 ∷ []) $ fsplit ! $ move ! (1 ∷ []) $ fsplit ! $ keep ! (2 ∷ 0 ∷ 3 ∷ 4 ∷ []) $ handle_tells al ! a z.0.4.0 (λ hv eh fa. move ! (3 ∷ []) $
    in_a_block ! p (λ π. room_at R π) (id⊢ 𝓤 _) (λ b o e.
    let et : z.0.4.1.0 ≡ shr_slice_vals text = shr_slice_Tells (named 0) κ u8 text _ are.1.0 in
    let ew : z.0.4.1.1.0 ≡ vptr b o ∷ [] = rawptr_Tells p _ are.1.1.0 ∙ ap (λ (π : Ptr). ptr_val π ∷ []) e in
    let us : List Val = hv ∷ (shr_slice_vals text ++ (vptr b o ∷ [])) in
    suffices ! (Run us) (subst (λ (ws : List Val). ent 𝓤 (Run us) (Run ws)) (sym (λ i. eh i ++ (et i ++ (ew i ++ [])))) (id⊢ 𝓤 (Run us))) $
    enter ! 𝓣.C 𝓣.Λ code.function us Post $ alloc_all ! (λ l. pass_all ! refl (fa, ((tt, (tt, (record { fits = are.1.0.0.1.0 }, tt))), ((tt, tt), tt))) $
    -- [the room; the handle; the text; the token; the locals]
    let G = triple_of 𝓛 g.signature (g.spec 𝓛 𝓜.mem 𝓡.returns) in
    let y : G.Ghost = (((κ, tt), (q, tt), tt, (a, (text, tt)), (hv ∷ [], (shr_slice_vals text, tt))), tt) in
    move ! (2 ∷ []) $ rewrite ! 0 (λ (vs : List Val). ‵ ((ShrSlice (named 0) κ u8).own_val text vs)) et refl $
    nothing ! $ move ! (1 ∷ 0 ∷ []) $ join ! $ move ! (2 ∷ 0 ∷ []) $ join ! $ nothing ! $ move ! (3 ∷ 0 ∷ []) $ join ! $ join ! $
    nothing ! $ move ! (1 ∷ 0 ∷ []) $ use2 𝓛 (raw (G.pre y)) (id⊢ 𝓤 _) $
    calls_at ! (framed 𝓤 𝓛.H 𝓜 (tables 𝓤 𝓛.H 𝓜 𝓡 𝓡.env)) G (met 𝓤 𝓛 𝓜 𝓡 (code.calls-histar_c::opening::opened 𝓡.env wired)) y (and_then ! (get ! refl) (and_then ! (get ! refl) (no_more !))) (λ v.
    use1 𝓛 (later (some (λ (r : R.Denot). ((‵ (flft κ q) ⊛ ‵ ftrue) ⊛ ‵ (R.own_val r (v ∷ []))) ⊛ some (λ (ls : Lasts g.ended (κ, tt) (a, (text, tt))). ‵ (lasts g.ended (κ, tt) (a, (text, tt)) ls) ⊛ raw (fact 𝓤 (Right r)))))) (id⊢ 𝓤 _) $
    -- [what is made; the token; what it was told; the room; the locals]
    await ! tt $ pick ! (λ r. split ! $ split ! $ move ! (1 ∷ []) $
    peeks ! R (Is R) (shows 𝓛 R) r (v ∷ []) (λ is. let typed = ((L.lawful 𝓛).typed r (v ∷ []) is).0 in lands_as ! refl refl typed $
    move ! (2 ∷ []) $ pick ! (λ ls. split ! $ drop ! $ heard ! _ (λ is_x. move ! (2 ∷ []) $
    assigns ! (of_opd ! (get ! refl)) (through ! refl (stop !)) (init ! 0 refl typed) $
    use2 𝓛 (‵ (part_at R full_share r b o)) (part_in 𝓛 R refl full_share r b o v) $
    rewrite ! 0 (λ (π : Ptr). ‵ (lies_at R full_share π r)) (sym e) refl $
    sets ! (of_opd ! (unit_lit !)) refl (tt, tt) $ returns ! (look_at ! 0 refl) $ free_all ! refl $ keep ! (0 ∷ 1 ∷ []) $
    suffices ! _ (ends_at 𝓛 f.ended stayed c z vunit tt (tt, (tt, (tt, tt))) (tt, (tt, (tt, tt)))) $
    feq_i ! _ (vunit ∷ []) _ refl $ nothing ! $ nothing ! $ join ! $ nothing ! $ join ! $ nothing ! $ join ! $ move ! (3 ∷ []) $ group ! 3 $ frame ! $
    show ! (λ (k : R.Denot). sep 𝓤 (sem 𝓛 (lies_at R full_share p k)) (fact 𝓤 (Right k))) r $ says ! is_x $ done !)))))))))
