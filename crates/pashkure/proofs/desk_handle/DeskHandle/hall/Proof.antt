-- `hall` lends what the handle owns, and the handle follows it.
use Rattle.std.proofs.Common.{◌≡◌, ℕ, List, [], ◌∷◌, refl, sym}
use seplogic.Ra.Ura.{Ura}
use base.Fraction.{full_share}
use mir.Raw.{raw as bare}
use mir.Syntax.{named}
use mir.Val.{Val, vptr}
use base.Logic.{SProp, ent, sep, id⊢}
use base.Fml.{GName, Fml, ftrue, fsep, flft}
use prog.Memory.{Memory}
use prog.Routine.{Routine}
use prog.Wp.{Env, WpFn, Tables}
use types.Logic.{Logic, sem}
use contract.Monad.{Fun, fact}
use contract.Running.{tables, tables_of}
use sound.WpLaws.{WpFn-mono}
use types.Kit.{‵, raw, ◌⊛◌, some, later, at_ret, ◌$◌, ◌∵◌, !, qed, move, keep, drop, use1, split, split3, join, pick, rewrite, fsplit, fsplit3, fjoin, fpack, suffices, frame, group, await, done}
use types.Part.{whole, sub, look_in}
use types.Run.{stop, fld, addr, load, of_opd, first, blocks, exec, returns, enter}
use types.ByLocal.{alloc_all, pass_all, free_all, look_at, get, through, sets, sets_last, env}
use denote.RattleType.{owns}
use denote.Exit.{no}
use denote.Memory.{lone, part_at, part_of, mem, cell_at}
use denote.RawPtr.{block_ptr}
use denote.Ref.{MutRef, mut_vals, mut_Tells}
use denote.Signature.{plain, mut_ref_to}
use denote.Steps.{nothing, heard, opens}
use denote.Follow.{follows, Part, lends_Part}
use denote.Triple.Spec.{triple_of}
use denote.Triple.Table.{entered}
use denote.Triple.Walked.{says, Stays, stay_dropped, walk_of, ends_at, walked, walk_Meets, Goes-spent_ref}
use Rattle.std.proofs.VecSteps.Shapes.{after}
use Rattle.pashkure.specs.Hall.{HallState}
use Rattle.pashkure.specs.contracts.hall.Hall.{the_row as R}
use Rattle.pashkure.specs.DeskLending.{with_state}
use Rattle.pashkure.specs.Owning.{chunk}
use Rattle.pashkure.specs.DeskOwning.{desk_word}
use Rattle.pashkure.proofs.DeskValues.{word, opened, open_out, open_in}
use Rattle.pashkure.specs.contracts.desk_handle.DeskHandle.{the_row as B}
use Rattle.pashkure.specs.contracts.desk_handle.DeskHandle.hall as F
use Rattle.pashkure.specs.contracts.desk_handle.DeskHandle.hall.Key.{name as #self}
use Rattle.pashkure.proofs.desk_handle.DeskHandle.hall.Statement as stated
use Rattle.pashkure.proofs.desk_handle.DeskHandle.hall.Code as code

abbrev stayed : Stays (F.ended).signature.params (F.ended).kept
stayed = (stay_dropped (mut_ref_to (0 ∷ []) tt (plain (λ _. B))) no, tt)

module _ {M : Type 1} {𝓤 : Ura M} (𝓛 : Logic 𝓤) (at_mem : Memory → SProp 𝓤) (run : Routine → Fun 𝓤) (𝓣 : Tables 𝓤 𝓛.H) where
  open 𝓛 use {H, A}

  module _ (h : B.Denot) (is : h.state ≡ desk_word) (b o b' o' : ℕ) (e : h.at ≡ block_ptr b' o') where
    -- all of the handle but its desk
    abbrev Rest : Fml
    Rest = fsep (chunk (bare (lone R.mir)) (block_ptr b' o')) (cell_at full_share B.mir (word b' o' ∷ []) b o)

    -- an open handle is its block and its state
    same : (m : HallState) → opened b' o' m ≡ with_state h m
    same m i = record { at = sym e i; state = sym is i; held = m }

    back : (m : HallState) → ent 𝓤 (sep 𝓤 (sem 𝓛 ((mem R).own_at m b' o')) (sem 𝓛 Rest)) (sem 𝓛 ((mem B).own_at (with_state h m) b o))
    unfolding part_of
    back m =
        qed 𝓛 (‵ (part_at R full_share m b' o') ∷ ‵ Rest ∷ []) ∵ move ! (1 ∷ []) $ fsplit ! $ move ! (2 ∷ 0 ∷ []) $
        open_in ! b' o' m $ rewrite ! 0 (λ (x : B.Denot). ‵ (B.own_val x (word b' o' ∷ []))) (same m) refl $ move ! (1 ∷ 0 ∷ []) $ fjoin ! $
        fpack ! (List Val) (λ us. fsep (cell_at full_share B.mir us b o) (B.own_val (with_state h m) us)) (word b' o' ∷ []) $ done !

  abbrev at : (walk_of 𝓛 F.ended stayed (F.clauses 𝓛 at_mem run)).Ghost → (walk_of 𝓛 F.ended stayed (F.clauses 𝓛 at_mem run)).Ghost
  at y = ((y.0.0, y.0.1, y.0.2, y.0.3, (mut_vals y.0.3.0, tt)), y.1)

  walk : (y : (walk_of 𝓛 F.ended stayed (F.clauses 𝓛 at_mem run)).Ghost)
      → ent 𝓤 ((walk_of 𝓛 F.ended stayed (F.clauses 𝓛 at_mem run)).pre (at y)) (WpFn 𝓤 H 𝓣.C 𝓣.Λ code.function (mut_vals y.0.3.0) ((walk_of 𝓛 F.ended stayed (F.clauses 𝓛 at_mem run)).post (at y)))
  walk y =
      let κs = y.0.0 in let qs = y.0.1 in let self = y.0.3.0 in let Post = (walk_of 𝓛 F.ended stayed (F.clauses 𝓛 at_mem run)).post (at y) in
      let κ = κs.0 in let q = qs.0 in let h = self.now in let b = self.ref_ptr.0 in let o = self.ref_ptr.1 in let γ = self.ghost_name in
      let c = B.coded.code h in
      qed 𝓛 (((‵ (flft κ q) ⊛ ‵ ftrue) ⊛ ‵ (owns (MutRef (named 0) κ B ∷ []) (self, tt) (vptr b o ∷ [], tt))) ∷ raw (fact 𝓤 (h.state ≡ desk_word)) ∷ []) ∵
      move ! (1 ∷ []) $ heard ! (h.state ≡ desk_word) (λ is.
      enter ! 𝓣.C 𝓣.Λ code.function (vptr b o ∷ []) _ $ alloc_all ! (λ ls. pass_all ! refl ((tt, tt), tt) $ let En : Env 𝓤 H = env code.function.locals ls in
      split ! $ split ! $ move ! (2 ∷ []) $ fsplit ! $ fsplit3 ! $ drop ! $ move ! (0 ∷ 1 ∷ 3 ∷ []) $
      opens ! tt B {h = h} b o (λ vs. move ! (1 ∷ []) $ open_out ! h vs is (λ b' o' e ws. rewrite ! 2 (λ (us : List Val). ‵ (cell_at full_share B.mir us b o)) ws refl $
      -- [the desk; its token; the handle's cell; the open borrow; obs; auth; true; ..]
      first ! $ blocks ! $ sets ! (of_opd ! (load ! (through ! refl (fld ! refl (stop !))) (look_in ! 2 (sub ! 0 refl (whole !))))) refl (tt, tt) $ sets ! (of_opd ! (get ! refl)) refl (tt, tt) $
      sets_last ! (addr ! (through ! refl (stop !))) refl (tt, tt) $ exec ! 𝓣.C 𝓣.Λ En (after 1 (code.function).body) (at_ret En Post) $ sets ! (of_opd ! (get ! refl)) refl (tt, tt) $
      move ! (1 ∷ 2 ∷ []) $ fjoin ! $ move ! (2 ∷ 3 ∷ 4 ∷ 1 ∷ 0 ∷ []) $ group ! 5 $
      use1 𝓛 (later (some (λ (γ' : GName). raw (Part 𝓛 B R (with_state h) (named 0) κ q b o b' o' γ (sem 𝓛 (Rest h is b o b' o' e)) (back h is b o b' o' e) h.held γ'))))
      (lends_Part 𝓛 B R (with_state h) (named 0) κ q b o b' o' γ (sem 𝓛 (Rest h is b o b' o' e)) (back h is b o b' o' e) c c h.held) $ await ! tt $ pick ! (λ γ'.
      use1 𝓛 (‵ ((MutRef (named 0) κ R).own_val (record { ref_ptr = (b', o'); ghost_name = γ'; now = h.held }) (vptr b' o' ∷ [])) ⊛ ‵ (flft κ q) ⊛ ‵ (follows B R γ γ' (with_state h))) (id⊢ 𝓤 _) $
      returns ! (look_at ! 0 refl) $ free_all ! refl $ keep ! (0 ∷ []) $ split3 ! $
      suffices ! _ (ends_at 𝓛 F.ended stayed (F.clauses 𝓛 at_mem run) (at y) (vptr b' o') (record { ref_ptr = (b', o'); ghost_name = γ'; now = h.held }) (tt, tt) (tt, tt)) $
      nothing ! $ nothing ! $ fjoin ! $ join ! $ nothing ! $ move ! (2 ∷ 0 ∷ []) $ join ! $ join ! $ frame ! $ says ! refl $ done !)))))

pub hall_spec : {M : Type 1} → stated.statement M
unfolding tables_of
hall_spec 𝓤 𝓛 𝓜 𝓡 wired =
    let 𝓣 : Tables 𝓤 𝓛.H = tables_of 𝓤 𝓛.H 𝓜 (tables 𝓤 𝓛.H 𝓜 𝓡 𝓡.env) in
    entered 𝓤 𝓛.H (triple_of 𝓛 F.signature (F.spec 𝓛 𝓜.mem 𝓡.returns)) 𝓣.C 𝓣.Λ #self code.function (code.unfolded 𝓤 𝓛.H 𝓜 𝓡 wired)
    (walk_Meets 𝓛 F.ended stayed (Goes-spent_ref 𝓛 1 (0 ∷ []) tt (plain (λ _. B)), tt) (F.clauses 𝓛 𝓜.mem 𝓡.returns) (WpFn 𝓤 𝓛.H 𝓣.C 𝓣.Λ code.function) (WpFn-mono 𝓤 𝓛.H 𝓛.laws 𝓣 code.function)
    (walked 𝓛 F.ended stayed (F.clauses 𝓛 𝓜.mem 𝓡.returns) (WpFn 𝓤 𝓛.H 𝓣.C 𝓣.Λ code.function) (λ κs. (mut_vals, tt)) (λ κs. (mut_Tells (named 0) κs.0 B, tt))
    (λ κs qs bounds a g are. walk 𝓛 𝓜.mem 𝓡.returns 𝓣 ((κs, qs, bounds, a, (mut_vals a.0, tt)), g))))
