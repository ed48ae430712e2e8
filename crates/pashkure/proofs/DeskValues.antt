-- The machine values of a handle. Assumes `Logic`.
--     word b o, none        an open handle at a block, and a closed one
--     open_out, open_in     an open handle by value is [the desk in memory; the right to free it]
--     closed_in             a closed one is made of nothing
--     open_lit              the constant that an open handle has
use Rattle.std.proofs.Common.{◌≡◌, ℕ, List, [], ◌∷◌, ◌++◌, refl, ap, ◌∙◌, lit<, nat_eq}
use seplogic.Ra.Ura.{Ura}
use base.Fraction.{full_share}
use base.Logic.{never, fst∗, via, guard_i}
use mir.Raw.{raw as bare}
use mir.Syntax.{w64, int_big}
use mir.Val.{Val, vptr, vint, vnull, vstruct, vcons, vnil, of_list, Fits}
use prog.Wp.{Env}
use types.Logic.{Logic, sem}
use types.Kit.{Item, Goal, Seq, Step, step, ‵, ◌$◌, drop, fsplit, fjoin, fpick, fpack, rewrite, feq_i, feq_l}
use types.Run.{Opd}
use denote.RattleType.{Valss}
use denote.Builtin.{RawPtr, u64}
use denote.Memory.{lone, part_at}
use denote.Plain.{uint_Makes}
use denote.RawPtr.{Ptr, block_ptr, null_ptr, ptr_val, in_a_block}
use denote.Steps.{nothing, owned}
use denote.Struct.Struct.{within}
use denote.Struct.Owning.{shape}
use Rattle.pashkure.specs.Hall.{HallState}
use Rattle.pashkure.specs.contracts.hall.Hall.{the_row as R}
use Rattle.pashkure.specs.Owning.{chunk}
use Rattle.pashkure.specs.DeskOwning.{boxed, desk_word, owned_if}
use Rattle.pashkure.specs.contracts.desk_handle.DeskHandle.{the_row as H, the_type}

abbrev pub word : ℕ → ℕ → Val
word b o = vstruct (vcons (vptr b o) (vcons (vint w64 desk_word) vnil))

abbrev pub none : Val
none = vstruct (vcons vnull (vcons (vint w64 0) vnil))

abbrev pub opened : ℕ → ℕ → HallState → H.Denot
opened b o m = record { at = block_ptr b o; state = desk_word; held = m }

abbrev pub closed : HallState → H.Denot
closed m = record { at = null_ptr; state = 0; held = m }

module _ {M : Type 1} {𝓤 : Ura M} {𝓛 : Logic 𝓤} {K : Type 0} {Γ : List (Item 𝓤)} {G : Goal 𝓤 𝓛.H} where
  pub open_out : K → (h : H.Denot) (vs : List Val) → h.state ≡ desk_word
      → ((b o : ℕ) → h.at ≡ block_ptr b o → vs ≡ word b o ∷ [] → Seq K 𝓛 (‵ (part_at R full_share h.held b o) ∷ ‵ (chunk (bare (lone R.mir)) (block_ptr b o)) ∷ Γ) G)
      → Seq K 𝓛 (‵ (H.own_val h vs) ∷ Γ) G
  open_out t h vs is k =
      fsplit t $ fpick t (λ vss. fsplit t $ feq_l t (λ ev. fsplit t $ feq_l t (λ ep. fsplit t $ fsplit t $ feq_l t (λ eb. drop t $ drop t $
      rewrite t 0 (λ (n : ℕ). ‵ (owned_if (nat_eq n desk_word) h.at h.held)) is refl $
      in_a_block t h.at (λ p. boxed p h.held) (fst∗ 𝓤 (never 𝓤) (sem 𝓛 (chunk (bare (lone R.mir)) null_ptr))) (λ b o e. fsplit t $ k b o e
      (ev ∙ (λ i. vstruct (of_list ((ep ∙ ap (λ (p : Ptr). ptr_val p ∷ []) e) i ++ ((eb ∙ ap (λ (n : ℕ). vint w64 n ∷ []) is) i ++ []))) ∷ [])))))))

  pub open_in : K → (b o : ℕ) (m : HallState)
      → Step K 𝓛 (‵ (H.own_val (opened b o m) (word b o ∷ [])) ∷ Γ) G (‵ (part_at R full_share m b o) ∷ ‵ (chunk (bare (lone R.mir)) (block_ptr b o)) ∷ Γ) G
  open_in t b o m = step (λ s.
      fjoin t $ nothing t $ owned t u64 _ (uint_Makes 𝓛 w64) desk_word (vint w64 desk_word ∷ []) (refl, lit< tt) $ fjoin t $ feq_i t (List Val) (vptr b o ∷ []) (vptr b o ∷ []) refl $ fjoin t $ feq_i t (List Val) (word b o ∷ []) (word b o ∷ []) refl $ fjoin t $
      fpack t (Valss (RawPtr ∷ u64 ∷ [])) (within (shape the_type) (block_ptr b o, (desk_word, tt)) (word b o ∷ [])) (vptr b o ∷ [], (vint w64 desk_word ∷ [], tt)) $ fjoin t $ s)

  pub closed_in : K → (m : HallState) → Step K 𝓛 (‵ (H.own_val (closed m) (none ∷ [])) ∷ Γ) G Γ G
  closed_in t m = step (λ s.
      nothing t $ nothing t $ owned t u64 _ (uint_Makes 𝓛 w64) 0 (vint w64 0 ∷ []) (refl, lit< tt) $ fjoin t $ feq_i t (List Val) (vnull ∷ []) (vnull ∷ []) refl $ fjoin t $ feq_i t (List Val) (none ∷ []) (none ∷ []) refl $ fjoin t $
      fpack t (Valss (RawPtr ∷ u64 ∷ [])) (within (shape the_type) (null_ptr, (0, tt)) (none ∷ [])) (vnull ∷ [], (vint w64 0 ∷ [], tt)) $ fjoin t $ s)

module _ {M : Type 1} {𝓤 : Ura M} {𝓛 : Logic 𝓤} {K : Type 0} {Γ : List (Item 𝓤)} where
  pub open_lit : {E : Env 𝓤 𝓛.H} → Opd K 𝓛 Γ E (int_big w64 desk_word) (vint w64 desk_word)
  open_lit = record { go = λ Kt h. via 𝓤 (Kt (vint w64 desk_word)) h (guard_i 𝓤 (Fits w64 desk_word) (Kt (vint w64 desk_word)) (record { fits = lit< tt })) }
